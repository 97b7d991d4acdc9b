-- The times of one event more.
use Rattle.std.proofs.Common.{◌≡◌, ℕ, ◌+◌, ◌*◌, ◌<◌, ◌^◌, true, false, Option, None, Some, List, [], ◌∷◌, ◌++◌, length, Vec, Global, IfSome, refl, sym, ap, subst, ◌∙◌, arith}
use Rattle.std.specs.Option.{is_some, option_map}
use Rattle.std.proofs.lemmas.List.{length-append}
use Rattle.std.proofs.lemmas.Option.{IfSome_then}
use Rattle.alw_msg.specs.declared.events.Event.{Event}
use Rattle.alw_msg.specs.declared.messages.Msg.{Msg}
use Rattle.alw_msg.specs.Events.{node_of}
use Rattle.alw_image.specs.declared.parts.Parts.{Parts}
use Rattle.alw_image.specs.Images.{node_count}
use Rattle.alw_image.specs.Parameters.{Parameters}
use Rattle.alw_model.specs.Contexts.{Slot}
use Rattle.alw_model.specs.Machine.{IsLegal}
use Rattle.alw_mesh.specs.Histories.{History, IsRun, begun, entry_of, grown, last_sends}
use Rattle.alw_mesh.specs.Moments.{moment_in}
use Rattle.alw_mesh.specs.Readings.{node_in}
use Rattle.alw_times.specs.declared.costs.Costs.{Costs}
use Rattle.alw_times.specs.declared.happenings.Span.{Span}
use Rattle.alw_times.specs.declared.happenings.TimedMoment.{TimedMoment}
use Rattle.alw_times.specs.Happening.{kind_of, happened_of}
use Rattle.alw_times.specs.Times.{Times, times_start, times_of, timed, passed, start_of, finish_of}
use Rattle.alw_times.specs.Within.{TimesAreWithin}
use Rattle.alw_times.proofs.Bounds.{times_within, wider}
use Rattle.alw_times.proofs.Rising.{times_none, times_push}
use Rattle.alw_waits.specs.declared.waits.Waited.{Waited}
use Rattle.alw_waits.specs.Waits.{WaitsSoFar, waits_start, waits_of, waited, waited_in, told_by, span_in, spans_of}
use Rattle.alw_waits.proofs.Growing.{waits_none, waits_push, spans_none, spans_push}
use Rattle.alw_timing.specs.declared.looks.Look.{Look}
use Rattle.alw_timing.specs.declared.timing.Timekeeper.{Timekeeper}
use Rattle.alw_timing.specs.Timing.{TimesAreOf, TimesAreKept, AreWoken, IsLookAt, for_delivery, woken_in, asked_of}
use Rattle.alw_timing.proofs.Looking.{few_entries, node_after, asked_is}
use Rattle.alw_timing.proofs.Seen.{seen, finish_seen, passed_seen, told_seen}

-- nothing has happened, and no time is above 0
pub begins : (image : Parts) (parameters : Parameters) (keeper : Timekeeper) → keeper.times.clocks ≡ times_start image keeper.costs
    → IfSome keeper.times.waits (λ waits. waits ≡ waits_start image) → IfSome keeper.times.spans (λ spans. spans.items ≡ []) → TimesAreKept keeper (begun image parameters) keeper
begins image parameters keeper clocks waits spans = record {
  costs_are = refl;
  are = record {
    clocks = clocks ∙ sym (times_none image parameters keeper.costs);
    waits = IfSome_then keeper.times.waits waits (λ w is. is ∙ sym (waits_none image parameters keeper.costs));
    spans = IfSome_then keeper.times.spans spans (λ s is. is ∙ sym (spans_none image parameters keeper.costs));
  };
  waits_stay = refl;
  spans_stay = refl;
  within = subst (TimesAreWithin 0) (sym clocks) (times_within image keeper.costs);
  legal = tt;
}

-- what is kept so far can be a start
pub starts_again : (start : Timekeeper) (h : History) (now : Timekeeper) → TimesAreKept start h now → TimesAreKept now h now
starts_again start h now kept = record {
  costs_are = refl;
  are = subst (λ (costs : Costs). TimesAreOf costs h now.times) (sym kept.costs_are) kept.are;
  waits_stay = refl;
  spans_stay = refl;
  within = kept.within;
  legal = kept.legal;
}

-- so far no time is above the most that an event may find
pub few_times : (start : Timekeeper) (h : History) (now : Timekeeper) → IsRun h → TimesAreKept start h now → TimesAreWithin (2 ^ 63) now.times.clocks
few_times start h now run kept = wider (length h.journal * 2 ^ 33) (2 ^ 63) (few_entries h run) now.times.clocks kept.within

-- ---- what is told beside the clocks, where it is

some_map : {A B : Type 0} (f : A → B) (o : Option A) → is_some (option_map f o) ≡ is_some o
some_map f None = refl
some_map f (Some a) = refl

-- where no waits are told, none are told more
pub none_told : (next : WaitsSoFar → WaitsSoFar) (waits : Option WaitsSoFar) → is_some waits ≡ false → waits ≡ option_map next waits
none_told next None is = refl
none_told next (Some waits) is = absurd (cc)

more_waits : (P Q : WaitsSoFar → Type 0) (next : WaitsSoFar → WaitsSoFar) (old new : Option WaitsSoFar) → new ≡ option_map next old → IfSome old P
    → (is_some old ≡ true → (waits : WaitsSoFar) → P waits → Q (next waits)) → IfSome new Q
more_waits P Q next None new is all goes = subst (λ (o : Option WaitsSoFar). IfSome o Q) (sym is) tt
more_waits P Q next (Some waits) new is all goes = subst (λ (o : Option WaitsSoFar). IfSome o Q) (sym is) (goes refl waits all)

abbrev Spans : Type 0
Spans = Vec Span Global

abbrev listed : Option Spans → Option (List Span)
listed o = option_map (λ (spans : Spans). spans.items) o

abbrev with_span : Span → Option Spans → Option (List Span)
with_span span o = option_map (λ (spans : Spans). spans.items ++ span ∷ []) o

more_spans : (span : Span) (so_far : List Span) (old new : Option Spans) → listed new ≡ with_span span old → IfSome old (λ spans. spans.items ≡ so_far)
    → IfSome new (λ spans. spans.items ≡ so_far ++ span ∷ [])
more_spans span so_far old None is all = tt
more_spans span so_far None (Some spans) is all = absurd (cc)
more_spans span so_far (Some before) (Some spans) is all =
    let same : spans.items ≡ before.items ++ span ∷ [] = cc in same ∙ ap (λ (items : List Span). items ++ span ∷ []) all

-- ---- an event

-- what times are told of it
pub record IsTimedMoment (h after : History) (event : Event) (times : Times) (waits : Option WaitsSoFar) (look : Look) (message : Option Msg) (happened : TimedMoment) : Type 0 where
  pub look_is : IsLookAt h times event (is_some waits) look
  pub message_is : message ≡ (moment_in h event).taken
  pub sends : last_sends after ≡ (moment_in h event).stepped.sends
  pub event_is : happened.event ≡ event
  pub slot : happened.slot ≡ look.slot
  pub last : happened.last ≡ look.last
  pub taken : happened.taken ≡ kind_of message
  pub did : happened.did ≡ (moment_in h event).stepped.did
  pub woken : AreWoken event look.ready (node_in after (node_of event)).slots happened.woken

module _ (h after : History) (run : IsRun h) (event : Event) (here : node_of event < node_count h.image) (grew : after ≡ grown h event)
    (costs : Costs) (times : Times) (waits : Option WaitsSoFar) (look : Look) (message : Option Msg) (happened : TimedMoment)
    (told : IsTimedMoment h after event times waits look message happened) where
  abbrev this : TimedMoment
  this = happened_of (moment_in h event)

  -- it is what is seen of its moment
  happened_is : happened ≡ seen event this
  happened_is =
      let before : List Slot = (node_in h (node_of event)).slots in
      let left = ap (λ (g : History). (node_in g (node_of event)).slots) grew ∙ ap (λ n. n.slots) (node_after h run event here) in
      let slot = told.slot ∙ told.look_is.slot in
      let last = told.last ∙ told.look_is.last in
      let taken = told.taken ∙ ap kind_of told.message_is in
      let woken = told.woken before told.look_is.ready ∙ ap (λ (slots : List Slot). for_delivery event (woken_in before slots)) left in
      λ i. record { event = told.event_is i; slot = slot i; last = last i; taken = taken i; did = told.did i; woken = woken i }

  module _ (sends : List (ℕ × Msg)) (sent : sends ≡ last_sends after) where
    sends_are : sends ≡ (moment_in h event).stepped.sends
    sends_are = sent ∙ told.sends

    -- when it starts and finishes is what the definitions say of its moment
    span_is : (span : Span) → span.start ≡ start_of h.image costs times happened → span.finish ≡ finish_of h.image costs times happened sends
        → span ≡ span_in h.image costs times (moment_in h event)
    span_is span start finish =
        let starts = start ∙ ap (start_of h.image costs times) happened_is in
        let finishes = finish ∙ (λ i. finish_of h.image costs times (happened_is i) (sends_are i)) ∙ finish_seen h.image costs this times (moment_in h event).stepped.sends event in
        λ i. record { start = starts i; finish = finishes i }

    -- what is told beside it is what the definitions say of its moment
    waited_is : (span : Span) → span ≡ span_in h.image costs times (moment_in h event) → is_some waits ≡ true
        → record { asked = look.asked; taken = message; arrival = look.arrival; span = span } ≡ waited_in h.image costs times (moment_in h event)
    waited_is span is some =
        let slot = told.look_is.slot in
        let asked = told.look_is.asked some ∙ (λ i. asked_of h (slot i) event) ∙ asked_is h event in
        let arrival = told.look_is.arrival some in
        λ i. record { asked = asked i; taken = told.message_is i; arrival = arrival i; span = is i }

    -- the times of a journal with the event more
    clocks_more : (more : Times) → times ≡ times_of h.image h.parameters costs h.journal → more ≡ passed h.image costs times happened sends
        → more ≡ times_of h.image h.parameters costs (grown h event).journal
    unfolding timed
    clocks_more more are is =
        is ∙ (λ i. passed h.image costs (are i) (happened_is i) (sends_are i))
        ∙ passed_seen h.image costs this (times_of h.image h.parameters costs h.journal) (moment_in h event).stepped.sends event
        ∙ sym (times_push h.image h.parameters costs h.journal (entry_of h event))

  -- what waits with the event more
  waits_grown : (so_far : WaitsSoFar) (what : Waited) → so_far ≡ waits_of h.image h.parameters costs h.journal → times ≡ times_of h.image h.parameters costs h.journal
      → what ≡ waited_in h.image costs times (moment_in h event) → told_by h.image costs so_far happened what happened.event ≡ waits_of h.image h.parameters costs (grown h event).journal
  unfolding waited
  waits_grown so_far what so_far_is are is =
      (λ i. told_by h.image costs (so_far_is i) (happened_is i) (is i) (happened_is i).event)
      ∙ told_seen h.image costs this (waits_of h.image h.parameters costs h.journal) (waited_in h.image costs times (moment_in h event)) event
      ∙ (λ i. told_by h.image costs (waits_of h.image h.parameters costs h.journal) this (waited_in h.image costs (are i) (moment_in h event)) event)
      ∙ sym (waits_push h.image h.parameters costs h.journal (entry_of h event))

-- the times of the journal with the event more are kept
pub goes_on : (h after : History) → IsRun h → (event : Event) → node_of event < node_count h.image → after ≡ grown h event → IsLegal after.image after.parameters after.journal
    → (start now more : Timekeeper) (look : Look) (message : Option Msg) (happened : TimedMoment) (sends : List (ℕ × Msg)) (span : Span)
    → TimesAreKept start h now → IsTimedMoment h after event now.times.clocks now.times.waits look message happened → sends ≡ last_sends after
    → span.start ≡ start_of h.image now.costs now.times.clocks happened → span.finish ≡ finish_of h.image now.costs now.times.clocks happened sends
    → more.costs ≡ now.costs → more.times.clocks ≡ passed h.image now.costs now.times.clocks happened sends
    → ((most : ℕ) → TimesAreWithin most now.times.clocks → TimesAreWithin (most + 2 ^ 33) more.times.clocks)
    → more.times.waits ≡ option_map (λ w. told_by h.image now.costs w happened (record { asked = look.asked; taken = message; arrival = look.arrival; span = span }) happened.event) now.times.waits
    → listed more.times.spans ≡ with_span span now.times.spans
    → TimesAreKept start after more
goes_on h after run event here grew legal start now more look message happened sends span kept told sent begin finish costs_are clocks within waits spans =
    let costs = now.costs in
    let times = now.times.clocks in
    let this = moment_in h event in
    let entry = entry_of h event in
    let are : TimesAreOf costs h now.times = (starts_again start h now kept).are in
    let is = span_is h after run event here grew costs times now.times.waits look message happened told sends sent span begin finish in
    let all : TimesAreOf costs (grown h event) more.times = record {
      clocks = clocks_more h after run event here grew costs times now.times.waits look message happened told sends sent more.times.clocks are.clocks clocks;
      waits = more_waits _ _ _ now.times.waits more.times.waits waits are.waits (λ some so_far so_far_is.
          waits_grown h after run event here grew costs times now.times.waits look message happened told so_far _ so_far_is are.clocks
          (waited_is h after run event here grew costs times now.times.waits look message happened told sends sent span is some));
      spans = IfSome_then more.times.spans (more_spans span (spans_of h.image h.parameters costs h.journal) now.times.spans more.times.spans spans are.spans) (λ s items_are.
          items_are ∙ (λ i. spans_of h.image h.parameters costs h.journal ++ is i ∷ []) ∙ (λ i. spans_of h.image h.parameters costs h.journal ++ span_in h.image costs (are.clocks i) this ∷ [])
          ∙ sym (spans_push h.image h.parameters costs h.journal entry));
    } in
    let long : length h.journal * 2 ^ 33 + 2 ^ 33 ≡ length (grown h event).journal * 2 ^ 33 = omega (arith, length-append h.journal (entry ∷ [])) in
    let kept_all : TimesAreKept start (grown h event) more = record {
      costs_are = costs_are ∙ kept.costs_are;
      are = subst (λ (k : Costs). TimesAreOf k (grown h event) more.times) kept.costs_are all;
      waits_stay = ap is_some waits ∙ some_map _ now.times.waits ∙ kept.waits_stay;
      spans_stay = sym (some_map _ more.times.spans) ∙ ap is_some spans ∙ some_map _ now.times.spans ∙ kept.spans_stay;
      within = subst (λ (most : ℕ). TimesAreWithin most more.times.clocks) long (within (length h.journal * 2 ^ 33) kept.within);
      legal = subst (λ (g : History). IsLegal g.image g.parameters g.journal) grew legal;
    } in
    subst (λ (g : History). TimesAreKept start g more) (sym grew) kept_all
