-- Each member is sent to in its turn.
use Rattle.std.proofs.Common.{refl}
use Rattle.alw_num.proofs.Sets.{count_falls}
use Rattle.dir_full.proofs.Invalidations.{goes_on, has_place, ends}
use Rattle.dir_full.proofs.sets.invalidate.Goals as goal

pub loop-node-init : goal.loop-node-init
loop-node-init c = record { whole = refl; room = c.requires }

pub push-requires : goal.push-requires
push-requires c = has_place _ _ _ _ _ _ c.loop-node.invariant (c.in-Some.ensures.lowest)

pub loop-node-smaller : goal.loop-node-smaller
loop-node-smaller c = count_falls _ _ _ (c.in-Some.ensures.lowest) c.without-rest.ensures

pub loop-node-preserved : goal.loop-node-preserved
loop-node-preserved c = goes_on _ _ _ _ (record { a = 0; b = 0; c = 0; d = 0 }) _ _ _ _ c.loop-node.invariant (c.in-Some.ensures.lowest) c.push.ensures c.without-rest.ensures

pub returns : goal.returns
returns c = ends _ _ _ _ _ c.loop-node.invariant c.in_default.ensures.no_members
