use Rattle.std.proofs.Common.{length, sym, ap, ◌∙◌}
use Rattle.alw_cells.specs.Logs.{Reading}
use Rattle.alw_cells.proofs.Unpacking.{length_read}
use Rattle.alw_cells.proofs.cursors.Cursor.left.Goals as goal

pub returns : goal.returns
returns c = sym (length_read c.self.inside.node.0 c.self.inside.left c.self.inside.rest.now) ∙ ap (λ (r : Reading). length r.left) c.self.view_is
