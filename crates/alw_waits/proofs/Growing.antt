-- What is told of a journal with an entry more.
use Rattle.std.proofs.Common.{◌≡◌, List, [], ◌∷◌, ◌++◌, refl, ap, ◌∙◌}
use Rattle.alw_msg.specs.declared.events.Entry.{Entry}
use Rattle.alw_image.specs.declared.parts.Parts.{Parts}
use Rattle.alw_image.specs.Parameters.{Parameters}
use Rattle.alw_model.specs.Machine.{state}
use Rattle.alw_model.specs.Runs.{Moment, moment_of, moments}
use Rattle.alw_model.proofs.Journals.{moments_push}
use Rattle.alw_times.specs.declared.costs.Costs.{Costs}
use Rattle.alw_times.specs.declared.happenings.Span.{Span}
use Rattle.alw_times.specs.Times.{Times, times_start, timed, timed_all, times_of}
use Rattle.alw_waits.specs.Waits.{WaitsSoFar, waits_start, waited, waited_all, waits_of, span_in, spans_all, spans_of}

module _ (parts : Parts) (costs : Costs) where
  -- a moment more behind a run
  all_more : (times : Times) (waits : WaitsSoFar) (run : List Moment) (moment : Moment) →
      waited_all parts costs times waits (run ++ moment ∷ []) ≡ waited parts costs (timed_all parts costs times run) (waited_all parts costs times waits run) moment
  all_more times waits [] moment = refl
  all_more times waits (first ∷ rest) moment = all_more (timed parts costs times first) (waited parts costs times waits first) rest moment

  spans_more : (times : Times) (run : List Moment) (moment : Moment) →
      spans_all parts costs times (run ++ moment ∷ []) ≡ spans_all parts costs times run ++ span_in parts costs (timed_all parts costs times run) moment ∷ []
  spans_more times [] moment = refl
  spans_more times (first ∷ rest) moment = ap (λ (spans : List Span). span_in parts costs times first ∷ spans) (spans_more (timed parts costs times first) rest moment)

module _ (parts : Parts) (parameters : Parameters) (costs : Costs) where
  -- nothing is told of no entry
  pub waits_none : waits_of parts parameters costs [] ≡ waits_start parts
  unfolding waits_of moments
  waits_none = refl

  pub spans_none : spans_of parts parameters costs [] ≡ []
  unfolding spans_of moments
  spans_none = refl

  -- an entry more is told behind the others
  pub waits_push : (journal : List Entry) (entry : Entry) → waits_of parts parameters costs (journal ++ entry ∷ []) ≡
      waited parts costs (times_of parts parameters costs journal) (waits_of parts parameters costs journal) (moment_of parts parameters (state parts parameters journal) entry)
  unfolding waits_of times_of
  waits_push journal entry =
      ap (λ (run : List Moment). waited_all parts costs (times_start parts costs) (waits_start parts) run) (moments_push parts parameters journal entry)
      ∙ all_more parts costs (times_start parts costs) (waits_start parts) (moments parts parameters journal) (moment_of parts parameters (state parts parameters journal) entry)

  pub spans_push : (journal : List Entry) (entry : Entry) → spans_of parts parameters costs (journal ++ entry ∷ []) ≡
      spans_of parts parameters costs journal ++ span_in parts costs (times_of parts parameters costs journal) (moment_of parts parameters (state parts parameters journal) entry) ∷ []
  unfolding spans_of times_of
  spans_push journal entry =
      ap (λ (run : List Moment). spans_all parts costs (times_start parts costs) run) (moments_push parts parameters journal entry)
      ∙ spans_more parts costs (times_start parts costs) (moments parts parameters journal) (moment_of parts parameters (state parts parameters journal) entry)
