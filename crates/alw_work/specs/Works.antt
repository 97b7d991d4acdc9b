-- What workers leave of a machine: which nodes are spent, and what that is held to where a context traps.
use Rattle.std.specs.Prelude.{◌≡◌, ℕ, ◌<◌, Bool, true, false, ◌||◌, List, [], ◌∷◌}
use Rattle.sparc_table.specs.declared.outcomes.Outcome.TheVariants.{Trap}
use Rattle.alw_image.specs.declared.parts.Parts.{Parts}
use Rattle.alw_image.specs.Images.{node_count}
use Rattle.alw_image.specs.Parameters.{Parameters}
use Rattle.alw_model.specs.declared.steps.Did.{Did}
use Rattle.alw_model.specs.declared.steps.Did.TheVariants.{Turn}
use Rattle.alw_model.specs.NodeStates.{NodeState, node_start}
use Rattle.alw_model.specs.NodeSteps.{node_step}
use Rattle.alw_model.specs.Threads.{Logged, Logs, log_at, node_after}
use Rattle.alw_cells.specs.declared.parts.Worked.{Worked}
use Rattle.alw_cells.specs.Cells.{IsSpent}
use Rattle.alw_cells.specs.Logs.{logged}
use Rattle.alw_cells.specs.Leaving.{LogsAreWorked}

-- a trapping turn
abbrev pub is_trap : Did → Bool
is_trap (Turn slot (Trap tt)) = true
is_trap _ = false

-- a log, which goes on from this state of its node, holds a trapping turn
abbrev pub traps_from : Parts → Parameters → ℕ → NodeState → List Logged → Bool
traps_from parts parameters number node [] = false
traps_from parts parameters number node (logged ∷ rest) =
    let step = node_step parts parameters number node logged.entry.event logged.taken in
    is_trap step.did || traps_from parts parameters number step.node rest

-- the log of a node holds a trapping turn
abbrev pub holds_trap : Parts → Parameters → ℕ → List Logged → Bool
holds_trap parts parameters number log = traps_from parts parameters number (node_start parts number) log

-- unless some log holds a trapping turn, each node is spent after its log
abbrev pub AreSpent : Parts → Parameters → Logs → Type 0
AreSpent parts parameters logs =
    ((n : ℕ) → n < node_count parts → holds_trap parts parameters n (log_at logs n) ≡ false)
    → (n : ℕ) → n < node_count parts → IsSpent parameters (node_after parts parameters n (node_start parts n) (log_at logs n))

-- what workers leave, with nodes that are spent as told
abbrev pub WorkIsLeft : Parts → Parameters → Worked → Type 0
WorkIsLeft parts parameters worked = LogsAreWorked parts parameters worked × AreSpent parts parameters (logged worked.logs)
