-- Each field is the node's.
use Rattle.alw_laws.specs.Views.{node_in}
use Rattle.alw_laws.proofs.parts.Part.of.Goals as goal

pub invariant_of-result : goal.invariant_of-result
unfolding node_in
invariant_of-result c = record {
  copy_is = c.copy_of.ensures;
  transaction_is = c.transaction_of.ensures;
  up_is = c.up_of.ensures.up;
  down_is = c.down_of.ensures.down;
  few_up = c.up_of.ensures.few;
  few_down = c.down_of.ensures.few;
}
