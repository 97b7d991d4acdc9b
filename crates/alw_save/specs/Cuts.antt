-- A trace cut at a stamp (consistent cuts by Lamport's clocks, 1978).
use Rattle.std.specs.Prelude.{◌≡◌, ℕ, ◌<◌, ◌≤◌, Result, Ok, Err, List, ◌++◌}
use Rattle.alw_msg.specs.declared.events.Entry.{Entry}
use Rattle.alw_model.specs.Machine.{IsLegal, state}
use Rattle.law_order.specs.Orders.{kept_by, later_than}
use Rattle.alw_mesh.specs.Histories.{History, IsRun, stamps_of}
use Rattle.alw_mesh.specs.declared.errors.FitErr.{FitErr}
use Rattle.alw_mesh.specs.declared.errors.FitErr.TheVariants as fits
use Rattle.alw_mesh.specs.Limits.{most_steps}
use Rattle.alw_replay.specs.Replays.{IsFirstIllegal}
use Rattle.alw_trace.specs.declared.values.Trace.{Trace}
use Rattle.alw_save.specs.declared.values.Cut.{Cut}
use Rattle.alw_save.specs.declared.faults.CutErr.{CutErr}
use Rattle.alw_save.specs.declared.faults.CutErr.TheVariants.{DoesNotFit, NotLegal, NoMemory}

-- the trace fits, and all its entries are legal
pub record TraceIsSound (trace : Trace) : Type 0 where
  pub fits : stamps_of trace.image trace.params ≤ most_steps
  pub legal : IsLegal trace.image trace.params trace.journal

-- a legal journal is cut at a stamp: the entries with at most this stamp are legal, and the others behind them, which leaves the same state
pub record JournalIsCut (trace : Trace) (at : ℕ) (kept rest : List Entry) : Type 0 where
  pub kept_are : kept ≡ kept_by at trace.journal
  pub rest_are : rest ≡ later_than at trace.journal
  pub legal : IsLegal trace.image trace.params kept
  pub whole : IsLegal trace.image trace.params (kept ++ rest)
  pub same : state trace.image trace.params (kept ++ rest) ≡ state trace.image trace.params trace.journal

-- why a trace isn't cut: its nodes may have more stamps together than the most, or this is its first entry that isn't legal, or memory was refused
abbrev pub IsNoCut : Trace → CutErr → Type 0
IsNoCut trace (DoesNotFit number most) = (most_steps < number) × (number ≡ stamps_of trace.image trace.params) × (most ≡ most_steps)
IsNoCut trace (NotLegal k) = (stamps_of trace.image trace.params ≤ most_steps) × IsFirstIllegal trace.image trace.params trace.journal k
IsNoCut trace NoMemory = stamps_of trace.image trace.params ≤ most_steps

abbrev pub Cuts : Trace → ℕ → Result Cut CutErr → Type 0
Cuts trace at (Ok cut) = TraceIsSound trace × JournalIsCut trace at cut.kept cut.rest
Cuts trace at (Err fault) = IsNoCut trace fault

-- the machine after all entries of a trace
abbrev pub whole_of : Trace → History
whole_of trace = record { image = trace.image; parameters = trace.params; journal = trace.journal; joined = 0 }

abbrev pub LeavesAll : Trace → Result History CutErr → Type 0
LeavesAll trace (Ok machine) = TraceIsSound trace × IsRun machine × (machine ≡ whole_of trace)
LeavesAll trace (Err fault) = IsNoCut trace fault

-- the machine that a cut leaves
abbrev pub cut_machine : Trace → ℕ → History
cut_machine trace at = record { image = trace.image; parameters = trace.params; journal = kept_by at trace.journal; joined = 0 }

abbrev pub LeavesCut : Trace → ℕ → Result History CutErr → Type 0
LeavesCut trace at (Ok machine) = TraceIsSound trace × IsRun machine × (machine ≡ cut_machine trace at)
LeavesCut trace at (Err fault) = IsNoCut trace fault

-- why a machine doesn't start, of a trace
abbrev pub no_cut_of : FitErr → CutErr
no_cut_of (fits.DoesNotFit number most) = DoesNotFit number most
no_cut_of fits.NoMemory = NoMemory
