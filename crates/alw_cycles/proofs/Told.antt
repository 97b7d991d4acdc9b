-- Times that are those of a machine's journal are told of that journal.
use Rattle.std.proofs.Common.{◌≡◌, ℕ, List, Vec, Global, sym, ap, subst, ◌∙◌}
use Rattle.std.specs.Prelude.{Option, Some, None, Result, Ok, Err, IfOk, IfSome, true, false, is_some}
use Rattle.alw_num.specs.declared.memory.NoMemory.{NoMemory}
use Rattle.alw_model.specs.declared.ends.Ended.{Ended}
use Rattle.alw_mesh.specs.Histories.{History}
use Rattle.alw_times.specs.declared.costs.Costs.{Costs}
use Rattle.alw_times.specs.declared.happenings.Span.{Span}
use Rattle.alw_waits.specs.Waits.{WaitsSoFar, waits_of, spans_of}
use Rattle.alw_timing.specs.declared.timing.RunTimes.{RunTimes}
use Rattle.alw_timing.specs.Timing.{TimesAreOf, has_waits, has_spans}
use Rattle.alw_timing.specs.Texts.{cycles_text, moments_text}
use Rattle.alw_config.specs.declared.commands.TimeForm.{TimeForm}
use Rattle.alw_config.specs.declared.commands.TimeForm.TheVariants.{Cycles, Moments}
use Rattle.alw_cycles.specs.Timing.{time_text, tells_by, TellAs}

-- the times that a form is told by have what the form needs
module _ (times : RunTimes) (form : TimeForm) (told : TellAs (tells_by form) times) where
  pub waits_are_told : form ≡ Cycles → times.waits ≡ None → ⊥
  waits_are_told is none = absurd (let e : false ≡ true = ap (λ (o : Option WaitsSoFar). is_some o) (sym none) ∙ told.waits ∙ ap (λ (f : TimeForm). has_waits (tells_by f)) is in cc)

  pub spans_are_told : form ≡ Moments → times.spans ≡ None → ⊥
  spans_are_told is none = absurd (let e : false ≡ true = ap (λ (o : Option (Vec Span Global)). is_some o) (sym none) ∙ told.spans ∙ ap (λ (f : TimeForm). has_spans (tells_by f)) is in cc)

module _ (costs : Costs) (h : History) (ended : Ended) (times : RunTimes) (are : TimesAreOf costs h times) (form : TimeForm) (result : Result (List ℕ) NoMemory) where
  -- their cycles
  pub told_cycles : form ≡ Cycles → (waits : WaitsSoFar) → times.waits ≡ Some waits → IfOk result (λ text. text ≡ cycles_text h.image h.parameters costs ended times.clocks.latest waits) →
      IfOk result (λ text. text ≡ time_text costs form h.image h.parameters h.journal ended)
  unfolding time_text
  told_cycles is waits some told = go result told
    where
      waits_are : waits ≡ waits_of h.image h.parameters costs h.journal
      waits_are = subst (λ (o : Option WaitsSoFar). IfSome o (λ so_far. so_far ≡ waits_of h.image h.parameters costs h.journal)) some are.waits

      go : (r : Result (List ℕ) NoMemory) → IfOk r (λ text. text ≡ cycles_text h.image h.parameters costs ended times.clocks.latest waits) →
          IfOk r (λ text. text ≡ time_text costs form h.image h.parameters h.journal ended)
      go (Ok text) same = rw is (same ∙ (λ i. cycles_text h.image h.parameters costs ended (are.clocks i).latest (waits_are i)))
      go (Err refused) same = tt

  -- and their moments
  pub told_moments : form ≡ Moments → (spans : Vec Span Global) → times.spans ≡ Some spans → IfOk result (λ text. text ≡ moments_text h.image h.parameters costs h.journal spans.items) →
      IfOk result (λ text. text ≡ time_text costs form h.image h.parameters h.journal ended)
  unfolding time_text
  told_moments is spans some told = go result told
    where
      spans_are : spans.items ≡ spans_of h.image h.parameters costs h.journal
      spans_are = subst (λ (o : Option (Vec Span Global)). IfSome o (λ all. all.items ≡ spans_of h.image h.parameters costs h.journal)) some are.spans

      go : (r : Result (List ℕ) NoMemory) → IfOk r (λ text. text ≡ moments_text h.image h.parameters costs h.journal spans.items) →
          IfOk r (λ text. text ≡ time_text costs form h.image h.parameters h.journal ended)
      go (Ok text) same = rw is (same ∙ (λ i. moments_text h.image h.parameters costs h.journal (spans_are i)))
      go (Err refused) same = tt
