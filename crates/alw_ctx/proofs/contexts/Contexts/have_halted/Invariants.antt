-- All slots so far have halted.
use Rattle.std.proofs.Common.{◌≡◌, true, take}
use Rattle.std.specs.List.{list_all}
use Rattle.alw_ctx.specs.Residents.{slots_of}
use Rattle.alw_ctx.proofs.Choices.{halted_in}
use Rattle.alw_ctx.proofs.contexts.Contexts.have_halted.Given as goal

abbrev pub invariant-loop-slot : goal.invariant-loop-slot
invariant-loop-slot l = list_all halted_in (take l.slot (slots_of l.self-inside.count l.self-inside.places)) ≡ true
