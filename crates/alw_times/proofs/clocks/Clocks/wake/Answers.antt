-- No wake is above the bound.
use Rattle.std.proofs.Common.{rules, ◌≡◌, subst}
use Rattle.alw_times.specs.Within.{AreWithin}
use Rattle.alw_times.proofs.clocks.Clocks.wake.Goals as goal

pub returns-in-Deliver-clause-within : goal.returns-in-Deliver-clause-within
returns-in-Deliver-clause-within c = λ most late all.
    let same : c.args.self.now.wakes ≡ c.self.inside.wakes.items = search rules in
    c.wake_slots-draws.ensures.within most late (subst (AreWithin most) same all)
