use Rattle.std.proofs.Common.{ap}
use Rattle.alw_ruled.proofs.Moves.{gets}
use Rattle.alw_ruled.proofs.links.Link.receive.Goals as goal

pub pop_as-requires-clause-rule : goal.pop_as-requires-clause-rule
pop_as-requires-clause-rule g c = (gets _ _ (ap (λ v. v.popped) c.pass.invariant.1), λ held views h at. tt)
