-- A run that workers began, and the schedule of seed 0 took to an end.
use Rattle.std.proofs.Common.{◌≡◌, ℕ, ◌<◌, ◌≤◌, Bool, true, false, cond, List, [], ◌∷◌, ◌++◌, map, length, take, refl, sym, ap, subst, ◌∙◌, arith, suc}
use Rattle.std.specs.Prelude.{Err}
use Rattle.std.specs.List.{AllByRecursion}
use Rattle.std.proofs.lemmas.Bool.{true≢false}
use Rattle.std.proofs.lemmas.List.{take_at, length-append}
use Rattle.alw_msg.specs.declared.events.Entry.{Entry}
use Rattle.alw_msg.specs.Events.{is_evict}
use Rattle.alw_image.specs.declared.parts.Parts.{Parts}
use Rattle.alw_image.specs.Images.{node_count, spelling}
use Rattle.alw_image.specs.Parameters.{Parameters}
use Rattle.alw_model.specs.declared.ends.Ended.{Ended}
use Rattle.alw_model.specs.NodeStates.{NodeState, node_start}
use Rattle.alw_model.specs.NodeSteps.{node_step}
use Rattle.alw_model.specs.Machine.{state, node_at, any_trapped, IsLegal}
use Rattle.alw_model.specs.Threads.{Logged, Logs, log_at, node_after, IsRunFrom, is_before, placed, in_order, merged}
use Rattle.law_order.specs.Merges.{entries_of}
use Rattle.law_order.specs.Orders.{Ascends}
use Rattle.law_order.proofs.Merging.{merged_legal, merged_ascends, merged_nodes}
use Rattle.alw_cells.specs.Cells.{IsSpent}
use Rattle.alw_tally.specs.Remaining.{trapped_in}
use Rattle.alw_work.specs.Works.{holds_trap}
use Rattle.alw_mesh.specs.declared.errors.FitErr.{FitErr}
use Rattle.alw_mesh.specs.declared.errors.FitErr.TheVariants as fits
use Rattle.alw_mesh.specs.Limits.{most_steps}
use Rattle.alw_mesh.specs.Histories.{History, MachineFits, joined_of, stamps_of}
use Rattle.alw_sched.specs.Schedules.{MachineIsSeeded, RunIsFinished}
use Rattle.alw_sched.proofs.Seeded.{seeded_front, seeded_stays, seeded_evicts}
use Rattle.alw_config.specs.declared.commands.Form.{Form}
use Rattle.alw_answers.specs.declared.answers.InputErr.TheVariants as reason
use Rattle.alw_answers.specs.declared.outputs.Output.{Output}
use Rattle.alw_answers.specs.declared.outputs.Refusal.{Refusal}
use Rattle.alw_answers.specs.declared.outputs.Refusal.TheVariants as refusal
use Rattle.alw_answers.specs.Outputs.{Gives}
use Rattle.alw_answers.specs.Refusals.{refusal_of_fit}
use Rattle.alw_runs.specs.Forms.{IsTold, IsTooMuch, output_of}
use Rattle.alw_threads.specs.Working.{AreLeftByWorkers, IsJoinedByWorkers, IsBegun, KeepsCopies, Works, AreTooMany, FitsWorkers, IsNotWorked}
use Rattle.alw_runs.proofs.Ended.{IsReadAs, IsFitFor, told_of_run}
use Rattle.alw_threads.proofs.Trapped.{trapped_after, any_of}

-- ---- no eviction among the entries of logs

abbrev IsMain : Entry → Type 0
IsMain entry = is_evict entry.event ≡ false

all_placed : (entry : Entry) (rest : List Entry) → IsMain entry → AllByRecursion IsMain rest → AllByRecursion IsMain (placed entry rest)
all_placed entry [] main all = (main, tt)
all_placed entry (first ∷ rest) main all = go (is_before first entry) (all_placed entry rest main all.1)
  where
    go : (b : Bool) → AllByRecursion IsMain (placed entry rest) → AllByRecursion IsMain (cond b (first ∷ placed entry rest) (entry ∷ first ∷ rest))
    go true later = (all.0, later)
    go false later = (main, all)

all_in_order : (entries : List Entry) → AllByRecursion IsMain entries → AllByRecursion IsMain (in_order entries)
all_in_order [] all = tt
all_in_order (entry ∷ rest) all = all_placed entry (in_order rest) all.0 (all_in_order rest all.1)

all_joined : (xs ys : List Entry) → AllByRecursion IsMain xs → AllByRecursion IsMain ys → AllByRecursion IsMain (xs ++ ys)
all_joined [] ys all more = more
all_joined (x ∷ xs) ys all more = (all.0, all_joined xs ys all.1 more)

run_main : (parts : Parts) (parameters : Parameters) (number : ℕ) (node : NodeState) (log : List Logged) → parameters.evict ≡ 0 →
    IsRunFrom parts parameters number node log → AllByRecursion IsMain (map (λ logged. logged.entry) log)
run_main parts parameters number node [] none run = tt
run_main parts parameters number node (logged ∷ rest) none run = (run.0.evicts none, run_main parts parameters number (node_step parts parameters number node logged.entry.event logged.taken).node rest none run.1)

all_logs : (logs : Logs) → ((k : ℕ) → k < length logs → AllByRecursion IsMain (map (λ logged. logged.entry) (log_at logs k))) → AllByRecursion IsMain (entries_of logs)
all_logs [] each = tt
all_logs (log ∷ rest) each =
    all_joined (map (λ logged. logged.entry) log) (entries_of rest) (each 0 (omega arith)) (all_logs rest (λ k below. each (suc k) (omega (arith, below))))

-- ---- what workers left

module _ (image : Parts) (params : Parameters) (machine : History) (joined : IsJoinedByWorkers image params machine) where
  abbrev left : AreLeftByWorkers image params machine.journal
  left = joined.left

  abbrev entries : List Entry
  entries = merged left.logs

  joined_so : machine ≡ joined_of image params entries
  joined_so = joined.is ∙ ap (λ (es : List Entry). joined_of image params es) left.are

  legal : IsLegal image params entries
  legal = merged_legal image params left.logs left.runs

  main : KeepsCopies params entries
  unfolding merged
  main none = all_in_order (entries_of left.logs) (all_logs left.logs (λ k below.
      run_main image params k (node_start image k) (log_at left.logs k) none (left.runs.runs k (omega (arith, below, left.runs.count)))))

  node_is : (n : ℕ) → n < node_count image → node_at (state image params entries) n ≡ node_after image params n (node_start image n) (log_at left.logs n)
  node_is n below = merged_nodes image params left.logs left.runs n below

  -- a log with a trapping turn leaves a trapped context
  untrapped : any_trapped (state image params entries) ≡ false → (n : ℕ) → n < node_count image → holds_trap image params n (log_at left.logs n) ≡ false
  untrapped none n below = go (holds_trap image params n (log_at left.logs n)) refl
    where
      go : (b : Bool) → holds_trap image params n (log_at left.logs n) ≡ b → holds_trap image params n (log_at left.logs n) ≡ false
      go false is = is
      go true is = absurd (true≢false (sym (any_of image params entries legal n below
          (subst (λ (node : NodeState). 1 ≤ trapped_in node) (sym (node_is n below))
          (trapped_after image params n (node_start image n) (log_at left.logs n) (left.runs.runs n below) is))) ∙ none))

  spent : any_trapped (state image params entries) ≡ false → (n : ℕ) → n < node_count image → IsSpent params (node_at (state image params entries) n)
  spent none n below = subst (IsSpent params) (sym (node_is n below)) (left.spent (untrapped none) n below)

  -- the schedule of seed 0 went on from there
  module _ (after : History) (e : Ended) (finished : RunIsFinished machine 0 after e) where
    from_all : MachineIsSeeded (joined_of image params entries) 0 after
    from_all = subst (λ (h : History). MachineIsSeeded h 0 after) joined_so finished.seeded

    after_is : after ≡ record { image = image; parameters = params; journal = after.journal; joined = length entries }
    after_is = seeded_stays _ 0 after from_all

    front_is : take (length entries) after.journal ≡ entries
    front_is =
        let more = seeded_front _ 0 after from_all in
        ap (take (length entries)) more.1 ∙ take_at entries more.0 (length entries) refl

    begun_so : IsBegun image params after.journal (length entries)
    begun_so =
        let more = seeded_front _ 0 after from_all in
        record {
          few = omega (arith, ap length more.1, length-append entries more.0);
          left = record { logs = left.logs; runs = left.runs; spent = left.spent; are = front_is };
          ascends = subst Ascends (sym front_is) (merged_ascends image params left.logs left.runs);
          spent = subst (λ (es : List Entry). any_trapped (state image params es) ≡ false → (n : ℕ) → n < node_count image → IsSpent params (node_at (state image params es) n))
              (sym front_is) spent;
          later = subst (λ (h : History). MachineIsSeeded (record { image = image; parameters = params; journal = take (length entries) after.journal; joined = length entries }) 0 h) after_is
              (subst (λ (es : List Entry). MachineIsSeeded (record { image = image; parameters = params; journal = es; joined = length entries }) 0 after) (sym front_is) from_all);
        }

    told_so : (form : Form) → IsFitFor most_steps image params → IsTold image params form (record (output_of after e form) { merged = length machine.journal })
    told_so form fit =
        let fit_after = subst (λ (h : History). IsFitFor most_steps h.image h.parameters) (sym after_is) fit in
        let told : IsTold image params form (output_of after e form) =
        subst (λ (h : History). IsTold h.image h.parameters form (output_of after e form)) after_is (told_of_run after e form finished.run fit_after finished.end) in
        record { image_is = told.image_is; parameters_are = told.parameters_are; points = told.points; fits = told.fits; ended = told.ended; run = told.run; ending = told.ending; text = told.text }

    -- and the bytes were read as the image
    pub worked : (workers : ℕ) (form : Form) (bytes : List ℕ) → IsReadAs bytes image → IsFitFor most_steps image params → workers ≤ node_count image →
        Works workers params form bytes (record (output_of after e form) { merged = length machine.journal })
    worked workers form bytes read fit few = record {
      accepted = read.accepted;
      spelled = read.spelled ∙ ap spelling read.same;
      few = subst (λ (p : Parts). workers ≤ node_count p) read.same few;
      told = subst (λ (p : Parts). IsTold p params form (record (output_of after e form) { merged = length machine.journal })) read.same (told_so form fit);
      evicts = λ none. seeded_evicts _ 0 after from_all none (main none);
      begun = subst (λ (p : Parts). IsBegun p params after.journal (length machine.journal)) read.same
          (subst (λ (n : ℕ). IsBegun image params after.journal n) (sym (ap (λ (es : List Entry). length es) left.are)) begun_so);
    }

-- why workers didn't run an image that was read
pub not_worked : (Makes : Output → Type 0) (workers : ℕ) (params : Parameters) (bytes : List ℕ) (image : Parts) → IsReadAs bytes image → (why : Refusal) →
    FitsWorkers workers params image (Err why) → Gives Makes (IsNotWorked workers params bytes) (Err why)
not_worked Makes workers params bytes image read (refusal.Fault (reason.LimitDoesNotFit number most)) is =
    (read.accepted, subst (λ (p : Parts). IsTooMuch most_steps p params number most) read.same is)
not_worked Makes workers params bytes image read (refusal.Fault (reason.WorkersDoNotFit number most)) is =
    (read.accepted, (subst (λ (p : Parts). stamps_of p params ≤ most_steps) read.same is.0, subst (λ (p : Parts). AreTooMany p workers number most) read.same is.1))
not_worked Makes workers params bytes image read (refusal.Fault _) is = absurd is
not_worked Makes workers params bytes image read refusal.NoMemory is = absurd is

-- an image that doesn't fit
pub no_fit : (workers : ℕ) (params : Parameters) (image : Parts) (fit : FitErr) → MachineFits image params (Err fit) → FitsWorkers workers params image (Err (refusal_of_fit fit))
no_fit workers params image (fits.DoesNotFit number most) is = record { most_is = is.2; number_is = is.1; above = omega (arith, is.0, is.1) }
no_fit workers params image fits.NoMemory is = absurd is
