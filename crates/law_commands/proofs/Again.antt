-- The trace of a run is accepted by `replay`, which answers and writes the same as a report.
use Rattle.std.proofs.Common.{◌≡◌, ℕ, true, List, ◌++◌, codes, refl, sym, ap, subst, ◌∙◌, arith}
use Rattle.alw_msg.specs.declared.events.Entry.{Entry}
use Rattle.alw_image.specs.declared.parts.Parts.{Parts}
use Rattle.alw_image.specs.Images.{IsImage, node_count}
use Rattle.alw_image.specs.Numbers.{HasWords}
use Rattle.alw_image.specs.Parameters.{Parameters, AreParameters, may_point}
use Rattle.alw_model.specs.declared.ends.Ended.{Ended}
use Rattle.alw_model.specs.Headline.{IsCoherentRun}
use Rattle.alw_model.specs.Machine.{IsLegal}
use Rattle.alw_mesh.specs.Histories.{whole}
use Rattle.alw_mesh.specs.Limits.{most_timed_steps}
use Rattle.alw_mesh.proofs.Journals.{journal_fits}
use Rattle.alw_report.specs.Reports.{report_of}
use Rattle.alw_report.specs.Reports.{params_line, ended_line}
use Rattle.alw_times.specs.declared.costs.Costs.{Costs}
use Rattle.alw_times.specs.Times.{times_start, timed_all, times_of}
use Rattle.alw_waits.specs.Waits.{waits_start, waited_all, waits_of, spans_all, spans_of}
use Rattle.alw_timing.specs.Texts.{head_text, cycles_title, cycles_line, totals_text, nodes_text, cycles_text, moments_title, entries_text, moments_text}
use Rattle.alw_trace.specs.declared.values.Trace.{Trace}
use Rattle.alw_trace.specs.Texts.{trace_text}
use Rattle.alw_trace.specs.Readings.{IsTrace, HasTraceTypes, without_evict}
use Rattle.alw_trace.proofs.OneTrace.{no_evict}
use Rattle.alw_config.specs.declared.commands.Form.TheVariants as forms
use Rattle.alw_config.specs.declared.commands.TimeForm.{TimeForm}
use Rattle.alw_config.specs.declared.commands.TimeForm.TheVariants.{Cycles, Moments}
use Rattle.alw_cycles.specs.Timing.{time_text}
use Rattle.alw_answers.specs.declared.outputs.Output.{Output}
use Rattle.alw_answers.specs.Outputs.{ending_of}
use Rattle.alw_runs.specs.Forms.{TextOf, run_text, IsToldBy}
use Rattle.alw_runs.specs.Replaying.{Spells, TakesAgain, IsFinishedTrace, IsFinishedText, IsRunThatFits, TellsTheSame, ReportsTheSame, TellsAgain, trace_of}
use Rattle.alw_runs.proofs.NoEvict.{calm, legal_same, end_after_same, ends_so, one_end, some_end, moments_same, report_same, stamped}
use Rattle.alw_runs.proofs.Kept.{one_spelled}

-- ---- what is read of a legal journal's text

module _ (image : Parts) (p : Parameters) (journal : List Entry) (image_is : IsImage image) (are : AreParameters p) where
  -- is a trace
  pub read_is : may_point (node_count image) p.pointers ≡ true → IsLegal image p journal → IsTrace (without_evict (trace_of image p journal))
  read_is points legal = record {
    image = image_is;
    params = record {
      some_pointer = are.some_pointer;
      pointers = are.pointers;
      sets = are.sets;
      some_limit = are.some_limit;
      limit = are.limit;
      evict = omega arith;
    };
    points = points;
    evict = refl;
    journal = stamped image p journal legal;
  }

  -- of words, and no longer than a trace may be
  pub read_types : HasWords image → IsLegal image p journal → HasTraceTypes (without_evict (trace_of image p journal))
  read_types words legal =
      (words, omega (arith, journal_fits (whole image p journal) (record { image = image_is; parameters = are; legal = legal; joined = omega arith })))

module _ (image : Parts) (p : Parameters) (journal : List Entry) (e : Ended) (most : ℕ) (is : IsRunThatFits most image p journal e) where
  abbrev text : List ℕ
  text = trace_text (trace_of image p journal)

  -- what is read of its text
  abbrev read : Trace
  read = without_evict (trace_of image p journal)

  spelled : Spells text read
  spelled = record {
    text = sym (no_evict (trace_of image p journal));
    is = read_is image p journal is.image_is is.parameters_are is.points is.run.legal;
    types = read_types image p journal is.image_is is.parameters_are is.words is.run.legal;
  }

  finished : IsFinishedTrace most read
  finished = record {
    fits = is.fits;
    legal = legal_same image p journal is.run.legal;
    ended = λ none. some_end image p journal e is.run.end (sym (end_after_same image p journal) ∙ none);
  }

  pub accepted : IsFinishedText most text
  accepted = record { trace = read; spelled = spelled; holds = finished }

  -- what is told of the run again, where the text doesn't depend on how often evictions are tried
  pub tells_the_same : (text_of : TextOf) → ((ended : Ended) → text_of image (calm p) journal ended ≡ text_of image p journal ended) → (output : Output) →
      TakesAgain most text_of text output → TellsTheSame text_of image p journal e output
  tells_the_same text_of calmly output takes =
      let one : takes.trace ≡ read = one_spelled text takes.trace read takes.spelled spelled in
      let same : output.journal ≡ journal = takes.same ∙ ap (λ (t : Trace). t.journal) one in
      let told : IsToldBy most text_of image (calm p) output = subst (λ (t : Trace). IsToldBy most text_of t.image t.params output) one takes.told in
      let run : IsCoherentRun image (calm p) journal told.ended = subst (λ (j : List Entry). IsCoherentRun image (calm p) j told.ended) same told.run in
      let end_is : told.ended ≡ e = one_end image p journal told.ended e (ends_so image p journal told.ended run.end) is.run.end in
      record {
        same = same;
        end = told.ending ∙ ap ending_of end_is;
        text = told.text ∙ ap (λ (j : List Entry). text_of image (calm p) j told.ended) same ∙ calmly told.ended ∙ ap (text_of image p journal) end_is;
      }

  pub reports_the_same : (output : Output) → TakesAgain most (run_text forms.Report) text output → ReportsTheSame image p journal e output
  unfolding run_text
  reports_the_same output replays = tells_the_same report_of (report_same image p journal) output replays

  -- ---- its times

  times_same : (costs : Costs) → times_of image (calm p) costs journal ≡ times_of image p costs journal
  unfolding times_of
  times_same costs = ap (timed_all image costs (times_start image costs)) (moments_same image p journal)

  waits_same : (costs : Costs) → waits_of image (calm p) costs journal ≡ waits_of image p costs journal
  unfolding waits_of
  waits_same costs = ap (waited_all image costs (times_start image costs) (waits_start image)) (moments_same image p journal)

  spans_same : (costs : Costs) → spans_of image (calm p) costs journal ≡ spans_of image p costs journal
  unfolding spans_of
  spans_same costs = ap (spans_all image costs (times_start image costs)) (moments_same image p journal)

  head_same : (costs : Costs) → head_text image (calm p) costs ≡ head_text image p costs
  unfolding head_text params_line
  head_same costs = refl

  time_same : (costs : Costs) (form : TimeForm) (ended : Ended) → time_text costs form image (calm p) journal ended ≡ time_text costs form image p journal ended
  unfolding time_text cycles_text moments_text
  time_same costs Cycles ended = λ i.
      cycles_title ++ (head_same costs i ++ (ended_line ended ++ (cycles_line (times_same costs i).latest ++ (totals_text (waits_same costs i)
      ++ (nodes_text (node_count image) (times_same costs i).latest (waits_same costs i).spent ++ codes "end\n")))))
  time_same costs Moments ended = λ i. moments_title ++ (head_same costs i ++ (entries_text journal (spans_same costs i) ++ codes "end\n"))

  pub times_the_same : (costs : Costs) (form : TimeForm) (output : Output) → TakesAgain most (time_text costs form) text output → TellsTheSame (time_text costs form) image p journal e output
  times_the_same costs form output takes = tells_the_same (time_text costs form) (time_same costs form) output takes

-- ---- what a timed run told of its times

module _ (image : Parts) (p : Parameters) (costs : Costs) (form : TimeForm) (run : Output) (words : HasWords image) (told : IsToldBy most_timed_steps (time_text costs form) image p run) where
  is_run : IsRunThatFits most_timed_steps image p run.journal told.ended
  is_run = record { image_is = told.image_is; words = words; parameters_are = told.parameters_are; points = told.points; fits = told.fits; run = told.run }

  pub told_again : (again : Output) → TakesAgain most_timed_steps (time_text costs form) (trace_text (trace_of image p run.journal)) again → TellsAgain run again
  told_again again takes =
      let same = times_the_same image p run.journal told.ended most_timed_steps is_run costs form again takes in
      record { same = same.same; end = same.end ∙ sym told.ending; text = same.text ∙ sym told.text }
