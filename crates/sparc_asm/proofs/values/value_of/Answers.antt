use Rattle.std.proofs.Common.{◌∙◌, arith}
use Rattle.sparc_asm.specs.Names.{value_in}
use Rattle.sparc_asm.proofs.Sums.{more_sum, no_sum}
use Rattle.sparc_asm.proofs.values.value_of.Goals as goal

pub returns-in-None : goal.returns-in-None
returns-in-None c = no_sum (value_in c.args.names.now) c.args.here c.args.expression.now c.loop-i.i c.at_ref-signed.result.now c.loop-i.sum c.at_ref-signed.ensures c.in-None.ensures c.loop-i.invariant.value

pub loop-i-preserved : goal.loop-i-preserved
loop-i-preserved c = record {
  value = c.loop-i.invariant.value ∙ more_sum (value_in c.args.names.now) c.args.here c.args.expression.now c.loop-i.i c.at_ref-signed.result.now c.in-Some.value c.loop-i.sum c.with_value-sum.result c.at_ref-signed.ensures c.in-Some.ensures c.with_value-sum.ensures.sum;
  plus = omega (arith, c.with_value-sum.ensures.plus);
  minus = omega (arith, c.with_value-sum.ensures.minus);
}
