-- What an old slot has is put in again.
use Rattle.std.proofs.Common.{Option, None, List, ap, sym, ◌∙◌}
use Rattle.std.specs.List.{slice_get}
use Rattle.std.proofs.lemmas.Option.{slice_get-get_or}
use Rattle.alw_outcomes.specs.declared.remembered.Known.{Known}
use Rattle.alw_outcomes.proofs.Remembering.{keeps_more}
use Rattle.alw_outcomes.proofs.remembered.Remembered.grow.Goals as goal

pub loop-slot-preserved : goal.loop-slot-preserved
loop-slot-preserved c =
    keeps_more c.args.self.now.slots.items c.loop-slot.wider.items c.put_again.new.slots.items c.loop-slot.slot-index _
    (ap (λ (l : List (Option Known)). slice_get l c.loop-slot.slot-index) (sym c.deref-slot-items.ensures.value) ∙ slice_get-get_or c.deref-slot-items.result.now c.loop-slot.slot-index None
    c.loop-slot-test.true)
    c.loop-slot.invariant c.put_again.ensures
