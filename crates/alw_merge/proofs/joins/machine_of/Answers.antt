-- What workers leave is what the merge of their logs leaves and tells.
use Rattle.alw_merge.proofs.Left.{legal_of, nodes_of, counted_of, state_of, turns_of_walked, prints_of_walked, holds_of_walked, counts_of_walked}
use Rattle.alw_merge.proofs.joins.machine_of.Goals as goal

pub overflow_sub-counts : goal.overflow_sub-counts
overflow_sub-counts c =
    holds_of_walked c.requires c.parts-allowed.ensures.allowed c.limit-read.ensures.allowed c.holds_of.result c.holds_of.ensures

pub joined-requires : goal.joined-requires
joined-requires c =
    let worked = c.requires in
    record {
      legal = legal_of worked;
      nodes_are = nodes_of worked;
      counted = counted_of worked;
      state_is = state_of worked;
      turns_are = turns_of_walked worked;
      prints_are = prints_of_walked worked;
      counts_are = counts_of_walked worked c.parts-allowed.ensures.allowed c.limit-read.ensures.allowed c.holds_of.result c.holds_of.ensures;
    }
