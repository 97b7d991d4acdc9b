use Rattle.std.proofs.Common.{◌≡◌, ℕ, Option, refl, sym, subst, arith}
use Rattle.alw_least.specs.Days.{IsFirstStanding}
use Rattle.alw_least.proofs.Standing.{none_filled, stands_first, filled_some}
use Rattle.alw_least.proofs.days.Days.first.Goals as goal

pub returns-in_err-day : goal.returns-in_err-day
returns-in_err-day c = rw (← c.self.view_is) (subst (λ (r : Option ℕ). IsFirstStanding c.self.inside.places r) (sym c.from_residual.ensures)
    (none_filled c.self.inside.places c.self.inside.filled c.self.invariant (c.in_err-day.ensures.none.0 refl)))

pub returns-in_err-place : goal.returns-in_err-place
returns-in_err-place c = absurd (filled_some c.self.inside.places c.self.inside.filled c.in_ok-day.day.0 c.from.result (omega arith) c.self.invariant c.in_ok-day.ensures.lowest (c.in_err-place.ensures.none.0 refl))

pub returns : goal.returns
returns c = rw (← c.self.view_is) (stands_first c.self.inside.places c.self.inside.filled c.in_ok-day.day.0 c.from.result c.in_ok-place.place.0 (omega arith) c.self.invariant c.in_ok-day.ensures.lowest c.in_ok-place.ensures.lowest)
