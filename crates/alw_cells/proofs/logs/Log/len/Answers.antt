use Rattle.std.proofs.Common.{length, sym, ap, ◌∙◌}
use Rattle.alw_cells.specs.Logs.{Written}
use Rattle.alw_cells.proofs.Unpacking.{length_read}
use Rattle.alw_cells.proofs.logs.Log.len.Goals as goal

pub returns : goal.returns
returns c = sym (length_read c.self.inside.node.0 c.self.inside.events c.self.inside.bytes.items) ∙ ap (λ (w : Written). length w.entries) c.self.view_is
