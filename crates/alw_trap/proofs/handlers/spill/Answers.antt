-- One pointer after the other joins.
use Rattle.std.proofs.Common.{refl}
use Rattle.alw_trap.proofs.Spills.{begins, has_set, goes_on, ends}
use Rattle.alw_trap.proofs.handlers.spill.Goals as goal

pub loop-node-init : goal.loop-node-init
loop-node-init c = begins _ _ _ _ _ c.add.ensures

pub add-requires-in-Some-clause-room : goal.add-requires-in-Some-clause-room
add-requires-in-Some-clause-room c = has_set _ _ _ _ _ c.loop-node.invariant

pub loop-node-preserved : goal.loop-node-preserved
loop-node-preserved c = goes_on _ _ _ _ _ _ _ _ c.loop-node.invariant c.in-Some.ensures.lowest c.add-in-Some.ensures c.without-rest.ensures

pub returns : goal.returns
returns c = ends _ _ _ _ _ c.loop-node.invariant (c.in_default.ensures.none.0 refl)
