-- One turn more.
use Rattle.std.proofs.Common.{◌++◌, ◌∷◌, [], sym, ◌∙◌, arith}
use Rattle.alw_num.proofs.Lists.{range_more}
use Rattle.alw_outcomes.specs.Keys.{trap_key}
use Rattle.alw_outcomes.proofs.Sorting.{numbers_more, keyed_more}
use Rattle.alw_outcomes.proofs.endings.keyed_traps.Goals as goal

pub loop-i-preserved : goal.loop-i-preserved
loop-i-preserved c = record {
  numbers =
      numbers_more c.loop-i.keyed.items c.push.new.self.items _ c.in_ok-push.ensures.items ∙ (λ i. c.loop-i.invariant.numbers i ++ c.loop-i.i ∷ [])
      ∙ sym (range_more 0 c.loop-i.i c.loop-i.i (omega arith));
  keys = keyed_more (trap_key c.args.trapped.now) c.loop-i.keyed.items c.push.new.self.items _ c.loop-i.invariant.keys c.in_ok-key.ensures c.in_ok-push.ensures.items;
}
