-- The test of the record is that of the event.
use Rattle.std.proofs.Common.{sym, ap, ◌∙◌}
use Rattle.alw_cells.specs.Logs.{Reading}
use Rattle.alw_cells.specs.Plain.{is_plain}
use Rattle.alw_cells.specs.Records.{given_in}
use Rattle.alw_cells.proofs.PlainRead.{plain_read}
use Rattle.alw_cells.proofs.cursors.Cursor.is_plain.Goals as goal

pub returns-then-self : goal.returns-then-self
returns-then-self c =
    c.is_plain_at.ensures
    ∙ (sym (plain_read c.self.inside.node.0 c.self.inside.given.now)
    ∙ (sym (ap (λ b. is_plain (given_in c.self.inside.node.0 b c.self.inside.given.now)) c.if-self.true)
    ∙ ap (λ (r : Reading). is_plain r.given) c.self.view_is))
