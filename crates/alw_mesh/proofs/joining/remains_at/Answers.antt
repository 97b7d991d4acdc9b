-- One node more.
use Rattle.std.proofs.Common.{refl, sym, ap, ◌∙◌, arith}
use Rattle.std.proofs.lemmas.List.{take_all}
use Rattle.alw_node.specs.Nodes.{Whole}
use Rattle.std.proofs.Common.{List}
use Rattle.alw_tally.specs.Remaining.{remains_of}
use Rattle.alw_mesh.specs.Joins.{states_of}
use Rattle.alw_mesh.proofs.Remains.{all_more}
use Rattle.alw_mesh.proofs.joining.remains_at.Goals as goal

pub loop-node-init : goal.loop-node-init
loop-node-init c = record { all = refl; live = omega arith; trapped = omega arith; packets = omega arith }

pub overflow_add-all : goal.overflow_add-all
overflow_add-all c = omega (arith, c.loop-node.invariant.live, c.remains_in-one.ensures.live, c.loop-node-test.true, c.requires)

pub overflow_add-all-in-loop-node : goal.overflow_add-all-in-loop-node
overflow_add-all-in-loop-node c = omega (arith, c.loop-node.invariant.trapped, c.remains_in-one.ensures.trapped, c.loop-node-test.true, c.requires)

pub overflow_add-all-in-loop-node-2 : goal.overflow_add-all-in-loop-node-2
overflow_add-all-in-loop-node-2 c = omega (arith, c.loop-node.invariant.packets, c.remains_in-one.ensures.packets, c.loop-node-test.true, c.requires)

pub loop-node-preserved : goal.loop-node-preserved
loop-node-preserved c = record {
  all = all_more c.args.nodes.now c.loop-node.node-index c.node-item.result c.loop-node.all c.remains_in-one.result c.loop-node-test.true (sym c.node-item.is) c.loop-node.invariant.all c.remains_in-one.ensures.remains;
  live = omega (arith, c.loop-node.invariant.live, c.remains_in-one.ensures.live);
  trapped = omega (arith, c.loop-node.invariant.trapped, c.remains_in-one.ensures.trapped);
  packets = omega (arith, c.loop-node.invariant.packets, c.remains_in-one.ensures.packets);
}

pub returns : goal.returns
returns c = c.loop-node.invariant.all ∙ ap (λ (nodes : List Whole). remains_of (states_of nodes)) (take_all c.loop-node.node-index c.args.nodes.now (omega (arith, c.loop-node-test.false)))
