-- The command `run` with workers on threads.
use Rattle.std.specs.Prelude.{◌≡◌, ℕ, ◌<◌, ◌≤◌, true, false, None, Some, List, length, take, Result, Ok, Err}
use Rattle.std.specs.List.{AllByRecursion}
use Rattle.alw_msg.specs.declared.events.Entry.{Entry}
use Rattle.alw_msg.specs.Events.{is_evict}
use Rattle.alw_image.specs.declared.parts.Parts.{Parts}
use Rattle.alw_image.specs.Faults.{image_in, image_fault}
use Rattle.alw_image.specs.Images.{node_count, spelling}
use Rattle.alw_image.specs.Parameters.{Parameters}
use Rattle.alw_model.specs.Machine.{state, node_at, any_trapped}
use Rattle.alw_model.specs.Threads.{Logs, merged}
use Rattle.law_order.specs.Orders.{Ascends}
use Rattle.law_order.specs.Merges.{AreLocalRuns}
use Rattle.alw_work.specs.Works.{AreSpent}
use Rattle.alw_cells.specs.Cells.{IsSpent}
use Rattle.alw_mesh.specs.Histories.{History, stamps_of, joined_of}
use Rattle.alw_mesh.specs.Limits.{most_steps}
use Rattle.alw_sched.specs.Schedules.{MachineIsSeeded}
use Rattle.alw_config.specs.declared.commands.Form.{Form}
use Rattle.alw_answers.specs.declared.answers.InputErr.{InputErr}
use Rattle.alw_answers.specs.declared.answers.InputErr.TheVariants as reason
use Rattle.alw_answers.specs.declared.outputs.Output.{Output}
use Rattle.alw_answers.specs.declared.outputs.Refusal.{Refusal}
use Rattle.alw_answers.specs.declared.outputs.Refusal.TheVariants as refusal
use Rattle.alw_answers.specs.Outputs.{is_run}
use Rattle.alw_runs.specs.Forms.{IsTold, IsTooMuch}
use Rattle.alw_runs.specs.Running.{parameters_in}
use Rattle.alw_answers.specs.Tasks.{Task}

-- Workers left entries of an image: there are logs, one for each node, each a run of its node from the start, whose links agree; unless one of them
-- holds a trapping turn, each node is spent after its own; and the entries are their merge.
pub record AreLeftByWorkers (image : Parts) (parameters : Parameters) (entries : List Entry) : Type 0 where
  pub logs : Logs
  pub runs : AreLocalRuns image parameters logs
  pub spent : AreSpent image parameters logs
  pub are : entries ≡ merged logs

-- What workers left of a journal: its first entries are the merge of their logs, and ascend by stamp and node, each node is spent after them unless a
-- context has trapped, and the others are those that the schedule of seed 0 makes from there.
pub record IsBegun (image : Parts) (parameters : Parameters) (journal : List Entry) (merged : ℕ) : Type 0 where
  pub few : merged ≤ length journal
  pub left : AreLeftByWorkers image parameters (take merged journal)
  pub ascends : Ascends (take merged journal)
  pub spent : any_trapped (state image parameters (take merged journal)) ≡ false → (n : ℕ) → n < node_count image →
      IsSpent parameters (node_at (state image parameters (take merged journal)) n)
  pub later : MachineIsSeeded (record { image = image; parameters = parameters; journal = take merged journal; joined = merged }) 0
      (record { image = image; parameters = parameters; journal = journal; joined = merged })

-- no entry is an eviction where none is to be tried
abbrev pub KeepsCopies : Parameters → List Entry → Type 0
KeepsCopies parameters journal = parameters.evict ≡ 0 → AllByRecursion (λ (entry : Entry). is_evict entry.event ≡ false) journal

-- the bytes are an image with a node for each worker, which was run to an end; the first entries come from the workers
pub record Works (workers : ℕ) (parameters : Parameters) (form : Form) (bytes : List ℕ) (output : Output) : Type 0 where
  pub accepted : image_fault bytes ≡ None
  pub spelled : bytes ≡ spelling (image_in bytes)
  pub few : workers ≤ node_count (image_in bytes)
  pub told : IsTold (image_in bytes) parameters form output
  pub evicts : KeepsCopies parameters output.journal
  pub begun : IsBegun (image_in bytes) parameters output.journal output.merged

-- there are more workers than nodes, by these numbers
pub record AreTooMany (image : Parts) (workers number most : ℕ) : Type 0 where
  pub most_is : most ≡ node_count image
  pub number_is : number ≡ workers
  pub above : node_count image < workers

-- the image doesn't fit, or it does, and there are more workers than nodes
abbrev pub IsNoWork : ℕ → Parameters → Parts → InputErr → Type 0
IsNoWork workers parameters image (reason.LimitDoesNotFit number most) = IsTooMuch most_steps image parameters number most
IsNoWork workers parameters image (reason.WorkersDoNotFit number most) =
    (stamps_of image parameters ≤ most_steps) × AreTooMany image workers number most
IsNoWork workers parameters image _ = ⊥

-- whether it fits, with a node for each worker, or why not
abbrev pub FitsWorkers : ℕ → Parameters → Parts → Result (Unit {0}) Refusal → Type 0
FitsWorkers workers parameters image (Ok done) = (stamps_of image parameters ≤ most_steps) × (workers ≤ node_count image)
FitsWorkers workers parameters image (Err (refusal.Fault fault)) = IsNoWork workers parameters image fault
FitsWorkers workers parameters image (Err refusal.NoMemory) = ⊥

-- the bytes are no image, or one that workers don't run
abbrev pub IsNotWorked : ℕ → Parameters → List ℕ → InputErr → Type 0
IsNotWorked workers parameters bytes (reason.Image fault) = image_fault bytes ≡ Some fault
IsNotWorked workers parameters bytes fault = (image_fault bytes ≡ None) × IsNoWork workers parameters (image_in bytes) fault

-- the bytes are an image that fits, with a node for each worker
pub record IsWorkable (workers : ℕ) (parameters : Parameters) (bytes : List ℕ) : Type 0 where
  pub accepted : image_fault bytes ≡ None
  pub fits : stamps_of (image_in bytes) parameters ≤ most_steps
  pub few : workers ≤ node_count (image_in bytes)

abbrev pub work_task : ℕ → Parameters → Form → Task
work_task workers parameters form = record {
  reads = true;
  Makes = λ bytes. Works workers (parameters_in parameters bytes) form bytes;
  Refuses = λ bytes. IsNotWorked workers (parameters_in parameters bytes) bytes;
  Accepts = λ bytes. IsWorkable workers (parameters_in parameters bytes) bytes;
  is_done = is_run;
}

-- a machine was joined from what workers left of an image
pub record IsJoinedByWorkers (image : Parts) (parameters : Parameters) (machine : History) : Type 0 where
  pub left : AreLeftByWorkers image parameters machine.journal
  pub is : machine ≡ joined_of image parameters machine.journal
