use Rattle.std.proofs.Common.{ℕ, ◌+◌, sym, subst, arith}
use Rattle.alw_least.specs.Leasts.{IsLeastBelow}
use Rattle.alw_least.proofs.Dating.{least_next}
use Rattle.alw_least.proofs.leasts.least_of.Goals as goal

pub loop-place-preserved : goal.loop-place-preserved
loop-place-preserved c = subst (λ (least : ℕ). IsLeastBelow c.args.numbers.now (c.loop-place.place + 1) least) (sym c.min-least.ensures)
    (least_next c.args.numbers.now c.loop-place.place c.loop-place.least (omega arith) c.loop-place.invariant)
