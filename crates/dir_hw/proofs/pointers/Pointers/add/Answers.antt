-- A node that was absent is one more.
use Rattle.std.proofs.Common.{◌≡◌, ap, arith}
use Rattle.alw_num.specs.NodeSets.{nodes_of, has_node, count_nodes}
use Rattle.alw_num.specs.Weights.{digit}
use Rattle.alw_num.proofs.Sets.{count-add}
use Rattle.alw_num.proofs.Words.{count_at_most}
use Rattle.dir_hw.proofs.pointers.Pointers.add.Goals as goal

pub overflow_add-self : goal.overflow_add-self
overflow_add-self c = let few = count_at_most c.self.inside.nodes in omega (arith, few, c.self.invariant)

pub invariant_of-self : goal.invariant_of-self
invariant_of-self c =
    let more = count-add (nodes_of c.self.inside.nodes) c.args.node.0 in
    let gone : digit (has_node (nodes_of c.self.inside.nodes) c.args.node.0) ≡ 0 = ap digit (rw (← c.self.view_is) at c.requires.absent) in
    omega (arith, ap count_nodes c.add.ensures, more, gone, c.self.invariant)
