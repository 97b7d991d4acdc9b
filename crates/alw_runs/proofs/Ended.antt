-- A machine at an end, which a seed has taken there from the start of an image, or which took the entries of a trace.
use Rattle.std.proofs.Common.{◌≡◌, ℕ, suc, ◌<◌, ◌≤◌, nat_le, Bool, true, false, cond, List, length, refl, sym, ap, subst, ◌∙◌, arith}
use Rattle.std.specs.Prelude.{None, Ok, Err}
use Rattle.std.proofs.lemmas.Bool.Decides.{nat_tests}
use Rattle.std.proofs.lemmas.List.{take_all}
use Rattle.alw_msg.specs.declared.events.Entry.{Entry}
use Rattle.alw_image.specs.declared.parts.Parts.{Parts}
use Rattle.alw_image.specs.Faults.{image_in, image_fault}
use Rattle.alw_image.specs.Images.{spelling, node_count}
use Rattle.alw_image.specs.Parameters.{Parameters, may_point, parameters_for}
use Rattle.alw_model.specs.declared.ends.Ended.{Ended}
use Rattle.alw_model.specs.Machine.{IsLegal, end_of}
use Rattle.alw_model.specs.Ends.{IsEnd}
use Rattle.alw_model.specs.Headline.{IsScheduled}
use Rattle.law_machine.proofs.CoherentRuns.{coherent_run}
use Rattle.alw_mesh.specs.Histories.{History, IsRun, begun, state_of, stamps_of}
use Rattle.alw_mesh.specs.Limits.{most_steps}
use Rattle.alw_sched.specs.Schedules.{IsSeededRun, RunIsFinished}
use Rattle.alw_sched.proofs.Seeded.{of_start, seeded_run, seeded_scheduled}
use Rattle.alw_replay.specs.Replays.{IsReplayed}
use Rattle.alw_trace.specs.declared.values.Trace.{Trace}
use Rattle.alw_config.specs.declared.commands.Form.{Form}
use Rattle.alw_answers.specs.declared.answers.InputErr.{InputErr}
use Rattle.alw_answers.specs.declared.answers.InputErr.TheVariants as reason
use Rattle.alw_answers.specs.declared.outputs.Output.{Output}
use Rattle.alw_answers.specs.declared.outputs.Refusal.{Refusal}
use Rattle.alw_answers.specs.declared.outputs.Refusal.TheVariants as refusal
use Rattle.alw_answers.specs.Outputs.{Gives}
use Rattle.alw_runs.specs.Forms.{TextOf, IsTold, IsToldBy, output_of, output_with, run_text}
use Rattle.alw_runs.specs.Running.{parameters_in, RunsBySeed}
use Rattle.alw_runs.specs.Replaying.{Spells, IsFit, IsFirstIllegal, IsUnfinished, IsFinishedTrace, IsNotTaken, EndsTrace, TakesAgain, IsNoReplay}
use Rattle.alw_runs.proofs.NoEvict.{some_end}

-- this text of a machine at an end, as an output
abbrev pub output_by : TextOf → History → Ended → Output
output_by text_of h e = output_with h e (text_of h.image h.parameters h.journal e)

-- a machine's image fits, and its entries have a few pointers, or one for each node
abbrev pub IsFitFor : ℕ → Parts → Parameters → Type 0
IsFitFor most image parameters = (may_point (node_count image) parameters.pointers ≡ true) × (stamps_of image parameters ≤ most)

pub told_by : (most : ℕ) (text_of : TextOf) (h : History) (e : Ended) → IsRun h → IsFitFor most h.image h.parameters → IsEnd h.image h.parameters h.journal e →
    IsToldBy most text_of h.image h.parameters (output_by text_of h e)
told_by most text_of h e is fit end = record {
  image_is = is.image;
  parameters_are = is.parameters;
  points = fit.0;
  fits = fit.1;
  ended = e;
  run = coherent_run h.image h.parameters is.parameters.some_pointer h.journal is.legal e end;
  ending = refl;
  text = refl;
}

pub told_of_run : (h : History) (e : Ended) (form : Form) → IsRun h → IsFitFor most_steps h.image h.parameters → IsEnd h.image h.parameters h.journal e →
    IsTold h.image h.parameters form (output_of h e form)
told_of_run h e form is fit end = told_by most_steps (run_text form) h e is fit end

-- parameters for an image's nodes are of so few pointers
pub fitted_points : (nodes : ℕ) (p : Parameters) → 1 ≤ p.pointers → may_point nodes (parameters_for nodes p).pointers ≡ true
fitted_points nodes p some = go (nat_le p.pointers 8) refl
  where
    go : (few : Bool) → nat_le p.pointers 8 ≡ few → may_point nodes (cond few p.pointers nodes) ≡ true
    go true is = grind (arith, nat_tests, some, is)
    go false is = grind (arith, nat_tests)

-- they are those for the image that was read
pub fitted_is : (params : Parameters) (bytes : List ℕ) (image : Parts) → image ≡ image_in bytes → (nodes : ℕ) → nodes ≡ node_count image → (p : Parameters) → p ≡ parameters_for nodes params →
    p ≡ parameters_in params bytes
fitted_is params bytes image same nodes count p is = is ∙ ap (λ n. parameters_for n params) (count ∙ ap node_count same)

pub fitted_for : (most : ℕ) (params : Parameters) (image : Parts) (nodes : ℕ) → nodes ≡ node_count image → (p : Parameters) → p ≡ parameters_for nodes params → 1 ≤ params.pointers →
    stamps_of image p ≤ most → IsFitFor most image p
fitted_for most params image nodes count p is some fits =
    (subst (λ n. may_point n p.pointers ≡ true) count (subst (λ (q : Parameters). may_point nodes q.pointers ≡ true) (sym is) (fitted_points nodes params some)), fits)

-- ---- by a seed

-- the bytes were read as an image
pub record IsReadAs (bytes : List ℕ) (image : Parts) : Type 0 where
  pub same : image ≡ image_in bytes
  pub spelled : bytes ≡ spelling image
  pub accepted : image_fault bytes ≡ None

pub ran : (seed : ℕ) (params : Parameters) (form : Form) (bytes : List ℕ) (image : Parts) → IsReadAs bytes image → (before after : History) (e : Ended) →
    before ≡ begun image params → IsFitFor most_steps image params → RunIsFinished before seed after e → RunsBySeed seed params form bytes (output_of after e form)
ran seed params form bytes image read before after e started fit finished =
    let done : RunIsFinished (begun image params) seed after e = subst (λ (h : History). RunIsFinished h seed after e) started finished in
    let is : after ≡ record { image = image; parameters = params; journal = after.journal; joined = 0 } = of_start image params seed after done.seeded in
    let by : IsSeededRun image params seed after.journal = seeded_run image params seed after done.seeded in
    record {
      accepted = read.accepted;
      spelled = read.spelled ∙ ap spelling read.same;
      told = subst (λ (p : Parts). IsTold p params form (output_of after e form)) read.same
          (subst (λ (h : History). IsTold h.image h.parameters form (output_of after e form)) is
          (told_of_run after e form done.run (subst (λ (h : History). IsFitFor most_steps h.image h.parameters) (sym is) fit) done.end));
      scheduled = subst (λ (p : Parts). IsScheduled p params after.journal) read.same (seeded_scheduled image params seed after.journal by);
      seeded = subst (λ (p : Parts). IsSeededRun p params seed after.journal) read.same by;
      merged = refl;
    }

-- ---- of a trace

module _ (most : ℕ) (trace : Trace) (after : History) (kept : ℕ) (replayed : IsReplayed trace.image trace.params trace.journal after kept) (fits_so : IsFit most trace) where
  -- all its entries are legal
  pub all_legal : length trace.journal ≤ kept → after ≡ record (begun trace.image trace.params) { journal = trace.journal }
  all_legal all =
      replayed.is ∙ ap (λ (j : List Entry). record { image = trace.image; parameters = trace.params; journal = j; joined = 0 }) (take_all kept trace.journal all)

  pub first_illegal : kept < length trace.journal → IsFit most trace × IsFirstIllegal trace kept
  first_illegal more = (
    fits_so,
    record {
      exists = more;
      before = subst (λ (h : History). IsLegal h.image h.parameters h.journal) replayed.is replayed.run.legal;
      here = λ legal. absurd (omega (arith, replayed.longest (suc kept) (omega (arith, more)) legal));
    },
  )

  pub unfinished : length trace.journal ≤ kept → end_of after.image after.parameters (state_of after) ≡ None → IsFit most trace × IsUnfinished trace
  unfinished all going = (
    fits_so,
    record {
      legal = subst (λ (h : History). IsLegal h.image h.parameters h.journal) (all_legal all) replayed.run.legal;
      going = subst (λ (h : History). end_of h.image h.parameters (state_of h) ≡ None) (all_legal all) going;
    },
  )

  module _ (e : Ended) (ends : EndsTrace most trace after (Ok e)) where
    pub finished : IsFinishedTrace most trace
    finished = record {
      fits = fits_so;
      legal = subst (λ (h : History). IsLegal h.image h.parameters h.journal) ends.0 replayed.run.legal;
      ended = some_end trace.image trace.params trace.journal e (subst (λ (h : History). IsEnd h.image h.parameters h.journal e) ends.0 ends.1);
    }

    pub taken_again : (text_of : TextOf) (bytes : List ℕ) → Spells bytes trace → TakesAgain most text_of bytes (output_by text_of after e)
    taken_again text_of bytes spells = record {
      trace = trace;
      spelled = spells;
      same = ap (λ (h : History). h.journal) ends.0;
      told = subst (λ (h : History). IsToldBy most text_of h.image h.parameters (output_by text_of after e)) replayed.is
          (told_by most text_of after e replayed.run (subst (λ (h : History). IsFitFor most h.image h.parameters) (sym replayed.is) (spells.is.points, fits_so)) ends.1);
      merged = refl;
    }

-- a fault of a trace is one of the bytes that spell it
pub not_taken : (most : ℕ) (bytes : List ℕ) (trace : Trace) → Spells bytes trace → (fault : InputErr) → IsNotTaken most trace fault → IsNoReplay most bytes fault
not_taken most bytes trace spells (reason.LimitDoesNotFit number above) why = record { trace = trace; spelled = spells; holds = why }
not_taken most bytes trace spells (reason.NotLegal k) why = record { trace = trace; spelled = spells; holds = why }
not_taken most bytes trace spells reason.Unfinished why = record { trace = trace; spelled = spells; holds = why }
not_taken most bytes trace spells _ why = absurd why

-- why no end holds
pub no_end : (Makes : Output → Type 0) (most : ℕ) (bytes : List ℕ) (trace : Trace) → Spells bytes trace → (after : History) (why : Refusal) → EndsTrace most trace after (Err why) →
    Gives Makes (IsNoReplay most bytes) (Err why)
no_end Makes most bytes trace spells after (refusal.Fault fault) ends = not_taken most bytes trace spells fault ends
no_end Makes most bytes trace spells after refusal.NoMemory ends = absurd ends
