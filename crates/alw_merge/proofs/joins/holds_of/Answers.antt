-- One node more.
use Rattle.std.proofs.Common.{arith, ◌∙◌}
use Rattle.alw_merge.proofs.Joining.{holds_more}
use Rattle.alw_merge.proofs.joins.holds_of.Goals as goal

pub loop-n-preserved : goal.loop-n-preserved
loop-n-preserved c = record {
  all = holds_more c.args.nodes.now c.loop-n.n c.loop-n.holds c.from-holds.result c.at_ref.result.now c.at_ref.ensures (omega (arith, c.loop-n-test.true, c.len-n-end.ensures)) c.loop-n.invariant.all
      (c.from-holds.ensures ∙ c.holds.ensures);
  few = omega (arith, c.loop-n.invariant.few, c.from-holds.ensures, c.holds.type_inv);
}
