-- What becomes of a hold: its slot's next instruction is a turn that needs the held line.
use Rattle.std.specs.Prelude.{◌≡◌, ℕ, Some, None, IsSome}
use Rattle.alw_image.specs.declared.parts.Parts.{Parts}
use Rattle.alw_model.specs.declared.steps.Did.{Did}
use Rattle.alw_model.specs.declared.steps.Did.TheVariants.{Turn, Missed}
use Rattle.alw_model.specs.Contexts.{slot_at}
use Rattle.alw_model.specs.NodeStates.{NodeState}
use Rattle.alw_model.specs.Runs.{Moment}
use Rattle.alw_model.specs.MachineInvariant.{next_mode}

-- by what an event did at its node: a turn of a slot with a hold is of an instruction that needs the held line, and a slot that misses had no hold
abbrev pub uses_by : Parts → NodeState → Did → Type 0
uses_by parts before (Turn slot outcome) = (line : ℕ) → (slot_at before.slots slot).hold ≡ Some line → IsSome (next_mode parts (slot_at before.slots slot) line)
uses_by parts before (Missed slot) = (slot_at before.slots slot).hold ≡ None
uses_by parts before _ = Unit {0}

-- the same of an event
abbrev pub UsesHold : Parts → Moment → Type 0
UsesHold parts moment = uses_by parts moment.before moment.stepped.did
