-- One start more.
use Rattle.std.proofs.Common.{ℕ, List, [], ◌∷◌, ◌++◌, ap, sym, ◌∙◌, arith}
use Rattle.std.proofs.lemmas.List.FromFn.{map-range_with_len_more}
use Rattle.alw_num.specs.declared.addresses.NodeNo.{NodeNo}
use Rattle.alw_gen.specs.Workloads.{start_of_node}
use Rattle.alw_gen.proofs.Programs.{pushed}
use Rattle.alw_gen.proofs.workloads.starts_of.Goals as goal

pub loop-node-preserved : goal.loop-node-preserved
loop-node-preserved c = record {
  members = c.in_ok-push.ensures.ok ∙ (ap (λ (ms : List (NodeNo × ℕ × ℕ)). ms ++ start_of_node c.args.size c.loop-node.node ∷ []) c.loop-node.invariant.members ∙ sym (map-range_with_len_more (start_of_node c.args.size) 0 c.loop-node.node c.loop-node.node (omega arith)));
  count = omega (arith, pushed _ _ _ c.in_ok-push.ensures.ok, c.loop-node.invariant.count);
}
