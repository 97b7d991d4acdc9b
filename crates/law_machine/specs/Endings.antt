-- Contexts that have come to an end, machines that can go on, and journals that evict in time.
use Rattle.std.specs.Prelude.{◌≡◌, Bool, true, false, List, [], ◌∷◌, IsTrue}
use Rattle.std.specs.List.{list_any}
use Rattle.alw_msg.specs.declared.contexts.Status.{Status}
use Rattle.alw_msg.specs.declared.contexts.Status.TheVariants.{Halted, Trapped}
use Rattle.alw_msg.specs.declared.events.Entry.{Entry}
use Rattle.alw_msg.specs.Events.{is_evict}
use Rattle.alw_image.specs.declared.parts.Parts.{Parts}
use Rattle.alw_image.specs.Parameters.{Parameters}
use Rattle.alw_model.specs.Machine.{MachineState, machine_start, has_halted, step, is_enabled, main_events}

-- a context has halted or is trapped: it takes no more turns
abbrev pub has_ended : Status → Bool
has_ended Halted = true
has_ended (Trapped pc tt) = true
has_ended _ = false

-- a main event is enabled, the limit aside
abbrev pub may_go_on : Parts → Parameters → MachineState → Bool
may_go_on parts parameters machine = list_any (is_enabled parts parameters machine) (main_events parts)

-- each entry meets a fact of itself and of the machine before it
abbrev pub AtEach : (MachineState → Entry → Type 0) → Parts → Parameters → MachineState → List Entry → Type 0
AtEach Fact parts parameters machine [] = Unit {0}
AtEach Fact parts parameters machine (entry ∷ rest) = Fact machine entry × AtEach Fact parts parameters (step parts parameters machine entry.event) rest

-- no entry is an eviction once every context has halted
abbrev pub EvictsInTime : Parts → Parameters → List Entry → Type 0
EvictsInTime parts parameters journal = AtEach (λ machine entry. IsTrue (has_halted machine) → is_evict entry.event ≡ false) parts parameters (machine_start parts) journal
