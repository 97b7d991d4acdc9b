-- What `resume` makes of a checkpoint is the run that goes on from the cut by the seed, and no other.
use Rattle.std.proofs.Common.{◌≡◌, ℕ, ◌≤◌, true, nat_le, None, List, [], ◌∷◌, ◌++◌, refl, sym, ap, subst, ◌∙◌, arith}
use Rattle.std.specs.List.{AllByRecursion}
use Rattle.std.proofs.lemmas.Bool.Decides.{nat_tests}
use Rattle.alw_num.specs.Draws.{drawn}
use Rattle.alw_msg.specs.declared.events.Event.{Event}
use Rattle.alw_msg.specs.declared.events.Entry.{Entry}
use Rattle.alw_image.specs.declared.parts.Parts.{Parts}
use Rattle.alw_image.specs.Images.{IsImage, node_count}
use Rattle.alw_image.specs.Numbers.{HasWords}
use Rattle.alw_image.specs.Parameters.{Parameters, AreParameters, may_point}
use Rattle.alw_model.specs.declared.ends.Ended.{Ended}
use Rattle.alw_model.specs.Machine.{IsLegal, state, end_of}
use Rattle.alw_model.specs.Ends.{IsEnd}
use Rattle.alw_model.specs.Headline.{IsCoherentRun}
use Rattle.law_order.specs.Orders.{kept_by}
use Rattle.alw_mesh.specs.Histories.{History, whole, grown}
use Rattle.alw_mesh.specs.Limits.{most_steps}
use Rattle.alw_sched.specs.Schedules.{end_in, EventsAreDrawn}
use Rattle.alw_sched.proofs.Seeded.{one_seeded}
use Rattle.alw_report.specs.Reports.{params_line, report_of}
use Rattle.alw_trace.specs.declared.values.Trace.{Trace}
use Rattle.alw_trace.specs.Texts.{trace_text}
use Rattle.alw_trace.specs.Fronts.{front_text, IsFrontOf}
use Rattle.alw_trace.proofs.OneTrace.{no_evict}
use Rattle.alw_save.specs.Cuts.{cut_machine}
use Rattle.alw_save.specs.Checkpoints.{save_title, state_part, checkpoint_text}
use Rattle.alw_save.specs.Restoring.{with_evict, IsCheckpoint}
use Rattle.alw_save.proofs.FrontBack.{one_front}
use Rattle.alw_config.specs.declared.commands.Form.{Form}
use Rattle.alw_config.specs.declared.commands.Form.TheVariants as forms
use Rattle.alw_answers.specs.declared.outputs.Output.{Output}
use Rattle.alw_answers.specs.Outputs.{ending_of}
use Rattle.alw_runs.specs.Forms.{IsTold, run_text}
use Rattle.alw_runs.specs.Replaying.{Replays, IsFinishedTrace, IsFinishedText, IsRunThatFits, TellsAgain, trace_of}
use Rattle.alw_runs.proofs.NoEvict.{calm, end_after_same, one_end, some_end}
use Rattle.alw_runs.proofs.Kept.{one_spelled}
use Rattle.alw_cuts.specs.Saving.{Saves}
use Rattle.alw_cuts.specs.Resuming.{GoesOnBySeed, Resumes, IsSomeCheckpoint}
use Rattle.alw_cuts.proofs.Resumable.{saved_resumes}
use Rattle.law_commands.proofs.Again.{read_is, read_types, reports_the_same}

-- ---- a checkpoint's text says one image, one journal, and parameters but for how often evictions are tried

-- a text is a checkpoint of an image of words, after a legal journal
record IsWritten (text : List ℕ) (image : Parts) (p : Parameters) (journal : List Entry) : Type 0 where
  pub image_is : IsImage image
  pub words : HasWords image
  pub parameters_are : AreParameters p
  pub points : may_point (node_count image) p.pointers ≡ true
  pub legal : IsLegal image p journal
  pub text_is : text ≡ checkpoint_text image p journal

abbrev said : Parts → Parameters → List Entry → Trace
said image p journal = record { image = image; params = calm p; journal = journal }

module _ (text : List ℕ) (image : Parts) (p : Parameters) (journal : List Entry) (is : IsWritten text image p journal) where
  said_so : text ≡ save_title ++ (front_text image (calm p) journal ++ state_part image (state image p journal))
  unfolding checkpoint_text front_text params_line
  said_so = is.text_is

  front_is : IsFrontOf save_title text (said image p journal) (state_part image (state image p journal))
  front_is = record {
    text_is = said_so;
    is = read_is image p journal is.image_is is.parameters_are is.points is.legal;
    types = read_types image p journal is.image_is is.parameters_are is.words is.legal;
  }

one_written : (text : List ℕ) (one other : Parts) (p q : Parameters) (x y : List Entry) → IsWritten text one p x → IsWritten text other q y → said one p x ≡ said other q y
one_written text one other p q x y is are =
    (one_front save_title text (said one p x) (said other q y) _ _ (front_is text one p x is) (front_is text other q y are)).0

checkpoint_is : (text : List ℕ) (evict : ℕ) (machine : History) → IsCheckpoint text evict machine → IsWritten text machine.image machine.parameters machine.journal
checkpoint_is text evict machine is = record {
  image_is = is.run.image;
  words = is.words;
  parameters_are = is.run.parameters;
  points = is.points;
  legal = is.run.legal;
  text_is = is.text;
}

-- ---- a machine that a seed takes on doesn't say how many of its entries it was joined with

abbrev fresh : History → History
fresh h = whole h.image h.parameters h.journal

drawn_fresh : (h : History) (x : ℕ) (events : List Event) (after : History) (y : ℕ) → EventsAreDrawn h x events after y → EventsAreDrawn (fresh h) x events (fresh after) y
drawn_fresh h x [] after y are = (ap fresh are.0, are.1)
drawn_fresh h x (event ∷ rest) after y are = (record { going = are.0.going; pick = are.0.pick }, drawn_fresh (grown h event) (drawn x) rest after y are.1)

goes_on_fresh : (h : History) (seed : ℕ) (journal : List Entry) → GoesOnBySeed h seed journal → GoesOnBySeed (fresh h) seed journal
goes_on_fresh h seed journal on = record {
  later = on.later;
  begins = on.begins;
  seeded = record {
    events = on.seeded.events;
    last = on.seeded.last;
    drawn_are = drawn_fresh h seed on.seeded.events (record h { journal = journal }) on.seeded.last on.seeded.drawn_are;
  };
}

-- ---- one run goes on by a seed to an end

-- an output tells the run by which a machine goes on by a seed to an end
pub record TellsOn (machine : History) (seed : ℕ) (form : Form) (output : Output) : Type 0 where
  pub goes_on : GoesOnBySeed machine seed output.journal
  pub told : IsTold machine.image machine.parameters form output

module _ (image : Parts) (p : Parameters) (begins : List Entry) (seed : ℕ) where
  pub one_journal : (one other : List Entry) (e f : Ended) → GoesOnBySeed (whole image p begins) seed one → GoesOnBySeed (whole image p begins) seed other →
      IsEnd image p one e → IsEnd image p other f → one ≡ other
  one_journal one other e f on also end ended =
      ap (λ (h : History). h.journal) (one_seeded (whole image p begins) seed (whole image p one) (whole image p other) on.seeded also.seeded
      (some_end image p one e end) (some_end image p other f ended))

  told_alike : (form : Form) (one other : Output) → TellsOn (whole image p begins) seed form one → TellsOn (whole image p begins) seed form other → TellsAgain one other
  told_alike form one other is are =
      let same = one_journal one.journal other.journal is.told.ended are.told.ended is.goes_on are.goes_on is.told.run.end are.told.run.end in
      let end = one_end image p one.journal is.told.ended are.told.ended is.told.run.end
      (subst (λ (j : List Entry). IsEnd image p j are.told.ended) (sym same) are.told.run.end) in
      record {
        same = sym same;
        end = are.told.ending ∙ ap ending_of (sym end) ∙ sym is.told.ending;
        text = are.told.text ∙ ap (λ (j : List Entry). run_text form image p j are.told.ended) (sym same) ∙ ap (run_text form image p one.journal) (sym end) ∙ sym is.told.text;
      }

-- the machine that stands behind what a text says, with an evict
same_machine : (h : History) (image : Parts) (p : Parameters) (journal : List Entry) (evict : ℕ) → h.parameters.evict ≡ evict →
    said h.image h.parameters h.journal ≡ said image p journal → fresh h ≡ whole image (record p { evict = evict }) journal
same_machine h image p journal evict evict_is same = λ i. record {
  image = (same i).image;
  parameters = record { pointers = (same i).params.pointers; sets = (same i).params.sets; limit = (same i).params.limit; evict = evict_is i };
  journal = (same i).journal;
  joined = 0;
}

module _ (seed evict : ℕ) (form : Form) (text : List ℕ) (output : Output) (resumes : Resumes seed evict form text output) where
  -- what is resumed goes on from whatever the text is the checkpoint of
  tells_on : (image : Parts) (p : Parameters) (journal : List Entry) → IsWritten text image p journal → TellsOn (whole image (record p { evict = evict }) journal) seed form output
  tells_on image p journal is =
      let h = resumes.machine in
      let same = one_written text h.image image h.parameters p h.journal journal (checkpoint_is text evict h resumes.checkpoint) is in
      subst (λ (g : History). TellsOn g seed form output) (same_machine h image p journal evict resumes.checkpoint.evict_is same)
      (record { goes_on = goes_on_fresh h seed output.journal resumes.goes_on; told = resumes.told })

-- one text is resumed to one run
pub one_resumed : (seed evict : ℕ) (form : Form) (text : List ℕ) (one other : Output) → Resumes seed evict form text one → Resumes seed evict form text other → TellsAgain one other
one_resumed seed evict form text one other is are =
    let h = are.machine in
    let written = checkpoint_is text evict h are.checkpoint in
    told_alike h.image (record h.parameters { evict = evict }) h.journal seed form one other
    (tells_on seed evict form text one is h.image h.parameters h.journal written) (tells_on seed evict form text other are h.image h.parameters h.journal written)

-- ---- where nothing is left to be drawn

kept_all : (at : ℕ) (journal : List Entry) → AllByRecursion (λ (entry : Entry). entry.stamp ≤ at) journal → kept_by at journal ≡ journal
kept_all at [] all = refl
kept_all at (entry ∷ rest) all =
    let here : nat_le entry.stamp at ≡ true = (let low = all.0 in grind (arith, nat_tests)) in
    rw here (ap (λ (j : List Entry). entry ∷ j) (kept_all at rest all.1))

nothing_drawn : (h : History) (x : ℕ) (events : List Event) (after : History) (y : ℕ) → (end_in h ≡ None → ⊥) → EventsAreDrawn h x events after y → h ≡ after
nothing_drawn h x [] after y ended are = are.0
nothing_drawn h x (event ∷ rest) after y ended are = absurd (ended are.0.going)

-- ---- what is saved goes on

module _ (at : ℕ) (traced : List ℕ) (saved : Output) (saves : Saves at traced saved) where
  abbrev trace : Trace
  trace = saves.trace

  pub accepted : (evict : ℕ) → evict ≤ 255 → IsSomeCheckpoint evict saved.text
  accepted evict few =
      subst (λ (text : List ℕ). IsSomeCheckpoint evict text)
      (sym (saves.text ∙ ap (λ (j : List Entry). checkpoint_text trace.image trace.params j) saves.kept))
      (saved_resumes trace at evict saves.spelled.is saves.spelled.types saves.sound few)

  written : IsWritten saved.text trace.image trace.params (kept_by at trace.journal)
  written = record {
    image_is = saves.spelled.is.image;
    words = saves.spelled.types.0;
    parameters_are = saves.spelled.is.params;
    points = saves.spelled.is.points;
    legal = subst (λ (j : List Entry). IsLegal trace.image trace.params j) saves.kept saves.legal;
    text_is = saves.text ∙ ap (λ (j : List Entry). checkpoint_text trace.image trace.params j) saves.kept;
  }

  -- the machine that goes on
  abbrev cut : ℕ → History
  cut evict = cut_machine (with_evict trace evict) at

  module _ (seed evict : ℕ) (form : Form) (resumed : Output) (resumes : Resumes seed evict form saved.text resumed) where
    pub tells_cut : TellsOn (cut evict) seed form resumed
    tells_cut = tells_on seed evict form saved.text resumed resumes trace.image trace.params (kept_by at trace.journal) written

    pub alone : (journal : List Entry) (e : Ended) → GoesOnBySeed (cut evict) seed journal → IsEnd trace.image (cut evict).parameters journal e → journal ≡ resumed.journal
    alone journal e on end =
        one_journal trace.image (cut evict).parameters (kept_by at trace.journal) seed journal resumed.journal e tells_cut.told.ended on tells_cut.goes_on end tells_cut.told.run.end

    -- a finished trace that is kept whole has nothing more to come
    module _ (finished : IsFinishedText most_steps traced) (all : AllByRecursion (λ (entry : Entry). entry.stamp ≤ at) trace.journal) where
      abbrev params : Parameters
      params = (cut evict).parameters

      calm_is : trace.params ≡ calm params
      calm_is = λ i. record { pointers = trace.params.pointers; sets = trace.params.sets; limit = trace.params.limit; evict = saves.spelled.is.evict i }

      has_ended : end_in (cut evict) ≡ None → ⊥
      has_ended none =
          let whole_is = subst (IsFinishedTrace most_steps) (one_spelled traced finished.trace trace finished.spelled saves.spelled) finished.holds in
          whole_is.ended (ap (λ (p : Parameters). end_of trace.image p (state trace.image p trace.journal)) calm_is ∙ end_after_same trace.image params trace.journal
          ∙ ap (λ (j : List Entry). end_of trace.image params (state trace.image params j)) (sym (kept_all at trace.journal all)) ∙ none)

      pub same_journal : resumed.journal ≡ trace.journal
      same_journal =
          let on = tells_cut.goes_on.seeded in
          ap (λ (h : History). h.journal) (sym (nothing_drawn (cut evict) seed on.events (record (cut evict) { journal = resumed.journal }) on.last has_ended on.drawn_are))
          ∙ kept_all at trace.journal all

      is_run : IsRunThatFits most_steps trace.image params trace.journal tells_cut.told.ended
      is_run = record {
        image_is = tells_cut.told.image_is;
        words = saves.spelled.types.0;
        parameters_are = tells_cut.told.parameters_are;
        points = tells_cut.told.points;
        fits = tells_cut.told.fits;
        run = subst (λ (j : List Entry). IsCoherentRun trace.image params j tells_cut.told.ended) same_journal tells_cut.told.run;
      }

      -- its text is that of the run under other evictions
      text_is : traced ≡ trace_text (trace_of trace.image params trace.journal)
      text_is =
          saves.spelled.text ∙ ap trace_text (λ i. record { image = trace.image; params = calm_is i; journal = trace.journal })
          ∙ no_evict (trace_of trace.image params trace.journal)

      pub reported_alike : form ≡ forms.Report → (again : Output) → Replays forms.Report traced again → TellsAgain again resumed
      unfolding run_text
      reported_alike report again replays =
          let e = tells_cut.told.ended in
          let same = reports_the_same trace.image params trace.journal e most_steps is_run again
          (subst (λ (bytes : List ℕ). Replays forms.Report bytes again) text_is replays) in
          record {
            same = same_journal ∙ sym same.same;
            end = tells_cut.told.ending ∙ sym same.end;
            text = tells_cut.told.text ∙ ap (λ (f : Form). run_text f trace.image params resumed.journal e) report
                ∙ ap (λ (j : List Entry). report_of trace.image params j e) same_journal ∙ sym same.text;
          }
