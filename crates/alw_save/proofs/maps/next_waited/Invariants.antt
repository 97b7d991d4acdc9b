-- The lowest line of the slots so far.
use Rattle.std.proofs.Common.{◌≡◌}
use Rattle.std.specs.Option.{option_map}
use Rattle.alw_ctx.specs.Residents.{number_of}
use Rattle.alw_save.specs.Waiting.{lowest_of, waited_at}
use Rattle.alw_save.proofs.maps.next_waited.Given as goal

abbrev pub invariant-loop-slot : goal.invariant-loop-slot
invariant-loop-slot l = option_map number_of l.next ≡ lowest_of (waited_at l.machine l.fn.n.0) l.from l.slot
