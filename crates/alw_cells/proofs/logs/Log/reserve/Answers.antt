use Rattle.std.proofs.Common.{length, ap, arith}
use Rattle.alw_cells.specs.Logs.{Written}
use Rattle.alw_cells.proofs.Unpacking.{length_read}
use Rattle.alw_cells.proofs.logs.Log.reserve.Goals as goal

pub returns-clause-few : goal.returns-clause-few
returns-clause-few c =
    let whole = length_read c.self.inside.node.0 c.self.inside.events c.self.inside.bytes.items in
    omega (arith, whole, ap (λ (w : Written). length w.entries) c.self.view_is, c.if-self.false, c.self.invariant.few)
