-- The text of a checkpoint: the lines of a trace up to its last entry, and the state behind them.
use Rattle.std.specs.Prelude.{◌≡◌, ℕ, Result, Ok, Err, List, ◌++◌, codes}
use Rattle.alw_msg.specs.declared.events.Entry.{Entry}
use Rattle.alw_image.specs.declared.parts.Parts.{Parts}
use Rattle.alw_image.specs.Parameters.{Parameters}
use Rattle.alw_model.specs.Machine.{MachineState, state}
use Rattle.law_order.specs.Orders.{kept_by}
use Rattle.alw_trace.specs.declared.values.Trace.{Trace}
use Rattle.alw_trace.specs.Fronts.{front_text}
use Rattle.alw_save.specs.declared.faults.CutErr.{CutErr}
use Rattle.alw_save.specs.States.{state_text}
use Rattle.alw_save.specs.Cuts.{TraceIsSound, IsNoCut}

unfoldable pub save_title : List ℕ
save_title = codes "ALEWIFE SAVE 1\n"

-- what stands behind the last entry
abbrev pub state_part : Parts → MachineState → List ℕ
state_part parts machine = state_text parts machine ++ codes "end\n"

unfoldable pub checkpoint_text : Parts → Parameters → List Entry → List ℕ
checkpoint_text parts parameters journal = save_title ++ (front_text parts parameters journal ++ state_part parts (state parts parameters journal))

-- what `save` answers: the checkpoint of the entries that the cut keeps, or why the trace isn't cut
abbrev pub Saves : Trace → ℕ → Result (List ℕ) CutErr → Type 0
Saves trace at (Ok text) = TraceIsSound trace × (text ≡ checkpoint_text trace.image trace.params (kept_by at trace.journal))
Saves trace at (Err fault) = IsNoCut trace fault
