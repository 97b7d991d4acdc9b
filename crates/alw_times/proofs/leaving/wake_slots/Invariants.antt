-- The slots so far are woken.
use Rattle.std.proofs.Common.{◌≡◌, ◌*◌, ◌+◌, ◌≤◌, ◌^◌, ℕ}
use Rattle.alw_num.specs.Maps.{passes}
use Rattle.alw_times.specs.Times.{is_busy, woken_below}
use Rattle.alw_times.specs.Within.{AreWithin}
use Rattle.alw_times.proofs.leaving.wake_slots.Given as goal

abbrev pub invariant-loop-slot : goal.invariant-loop-slot
invariant-loop-slot l =
    (record { state = l.left.state; wakes = l.wakes.items } ≡ woken_below l.costs (passes is_busy l.happened.taken) l.happened.woken (l.node.0 * l.image.contexts) l.finish l.slot
    (record { state = l.fn.draws.state; wakes = l.fn.wakes.items }))
    × ((most : ℕ) → l.finish + 2 ^ 16 ≤ most → AreWithin most l.fn.wakes.items → AreWithin most l.wakes.items)
