-- What one context's turn adds to what was found.
use Rattle.std.proofs.Common.{◌≡◌, ℕ, ◌+◌, ◌<◌, Bool, true, false, List, [], ◌∷◌, ◌++◌, length, IsTrue, refl, sym, ap, ◌∙◌, subst}
use Rattle.alw_image.specs.declared.parts.Parts.{Parts}
use Rattle.alw_image.specs.Images.{context_count}
use Rattle.alw_msg.specs.Statuses.{is_ready}
use Rattle.alw_places.specs.declared.classes.Class.{Class}
use Rattle.alw_places.specs.declared.classes.Broken.{Broken}
use Rattle.alw_outcomes.specs.declared.pools.Numbers.{Numbers}
use Rattle.alw_outcomes.specs.declared.explored.Trapped.{Trapped}
use Rattle.alw_outcomes.specs.declared.explored.Explored.{Explored}
use Rattle.alw_places.specs.Places.{Place}
use Rattle.alw_places.specs.Sharing.{is_allowed}
use Rattle.alw_places.specs.Threads.{Thread, thread_at, with_thread, thread_need}
use Rattle.alw_outcomes.specs.Pools.{thread_in, AreIn}
use Rattle.alw_outcomes.specs.Leads.{IsTrapOf, IsGoing, IsLead}
use Rattle.alw_outcomes.specs.declared.remembered.Known.{Known}
use Rattle.alw_outcomes.specs.Remembered.{NotesOne, IsLeadOf}
use Rattle.alw_outcomes.specs.Explored.{Found, AddsPlace, GoesTo, IsPrivateTurn, HasTurn, IsReal, IsStored, place_in, places_in, found_in}
use Rattle.alw_outcomes.proofs.Storing.{IsGrown, number_place, place_stays, places_grow, stored_grows, within_same}
use Rattle.alw_outcomes.proofs.Leading.{inside_grows, thread_grows}
use Rattle.alw_outcomes.proofs.Remembering.{leads_grow, lead_noted}
use Rattle.alw_outcomes.proofs.Steps.{IsTurnAdded, turn_idle, led_to, turn_led, alone_is, trap_added, break_added, goes_refl}

pub found_grows : (parts : Parts) (before after : Explored) → IsGrown parts before after → found_in after ≡ found_in before
found_grows parts before after grown =
    let places = places_grow parts before after grown in
    (λ i. record (found_in (grown.rest i)) { places = places_in after }) ∙ (λ i. record (found_in before) { places = places i })

-- a thread at a place, once the pools have grown
pub thread_stays : (parts : Parts) (before after : Explored) (at context : ℕ) (thread : Thread) → IsGrown parts before after → at < length before.memories.items
    → thread ≡ thread_at (place_in before at) context → thread ≡ thread_at (place_in after at) context
thread_stays parts before after at context thread grown within is = is ∙ ap (λ (p : Place). thread_at p context) (sym (place_stays parts before after grown at within))

-- once a lead is remembered, all is stored still
pub known_stored : (parts : Parts) (before after : Explored) (known : Known) → IsGrown parts before after → AreIn before.pools known.at
    → IsLead parts before.classes.items known.context (thread_in before.pools known.at) after.pools known.lead
    → NotesOne before.leads.slots.items after.leads.slots.items known → IsStored parts after
known_stored parts before after known grown inside lead noted =
    let same = thread_grows parts before.pools after.pools known.at grown.stored.pools grown.go.grow inside in
    let one : IsLeadOf parts before.classes.items after.pools known = record {
      inside = inside_grows before.pools after.pools known.at grown.go.grow inside;
      lead = subst (λ (t : Thread). IsLead parts before.classes.items known.context t after.pools known.lead) (sym same) lead;
    } in
    let all = leads_grow parts before.classes.items before.pools after.pools grown.stored.pools grown.go.grow before.leads.slots.items grown.stored.leads in
    stored_grows parts before after grown (lead_noted parts before.classes.items after.pools before.leads.slots.items after.leads.slots.items known all one noted)

-- what was found stands as it was, and the place with this number is there
pub record PlaceStandsAt (parts : Parts) (one : Found) (two : Explored) (at : ℕ) : Type 0 where
  pub real : IsReal parts one
  pub same : found_in two ≡ one
  pub within : at < length two.memories.items

pub stands_at : (parts : Parts) (one two : Explored) (at : ℕ) → IsReal parts (found_in one) → at < length one.memories.items → found_in two ≡ found_in one → two.memories.items ≡ one.memories.items
    → PlaceStandsAt parts (found_in one) two at
stands_at parts one two at real within same memories = record { real = real; same = same; within = within_same two one at within memories }

pub record IsDone (parts : Parts) (classes : List Class) (one three : Found) (at context : ℕ) : Type 0 where
  pub goes : GoesTo parts one three
  pub turn : HasTurn parts classes three at context

module _ (parts : Parts) (classes : List Class) (one : Found) (two : Explored) (at context : ℕ) (stands : PlaceStandsAt parts one two at) where
  real_two : IsReal parts (found_in two)
  real_two = subst (IsReal parts) (sym stands.same) stands.real

  from_one : (three : Found) → GoesTo parts (found_in two) three → GoesTo parts one three
  from_one three goes = subst (λ (f : Found). GoesTo parts f three) stands.same goes

  done : (three : Found) → IsTurnAdded parts classes (found_in two) three at context → IsDone parts classes one three at context
  done three added = record { goes = from_one three added.goes; turn = added.turn }

  pub goes_same : GoesTo parts one (found_in two)
  goes_same = from_one (found_in two) (goes_refl parts (found_in two) real_two)

  pub idle_done : is_ready (thread_at (place_in two at) context).context.status ≡ false → IsDone parts classes one (found_in two) at context
  idle_done idle = record { goes = goes_same; turn = turn_idle parts classes (found_in two) at context (place_in two at) (number_place two at stands.within) idle }

  pub break_done : (turn : Broken) (broken : List Broken) → is_allowed classes context (thread_need parts (thread_at (place_in two at) context)) ≡ false → broken ≡ two.broken.items ++ turn ∷ []
      → IsDone parts classes one (record (found_in two) { broken = broken }) at context
  break_done turn broken refused pushed =
      done (record (found_in two) { broken = broken }) (break_added parts classes (found_in two) at context (place_in two at) turn broken (number_place two at stands.within) real_two refused pushed)

  pub trap_done : (pc tt' : ℕ) (trapped : List Trapped) → IsTrapOf parts classes context (thread_at (place_in two at) context) pc tt'
      → trapped ≡ two.trapped.items ++ record { at = at; context = context; pc = pc; tt = tt' } ∷ [] → IsDone parts classes one (record (found_in two) { trapped = trapped }) at context
  trap_done pc tt' trapped is pushed =
      done (record (found_in two) { trapped = trapped }) (trap_added parts classes (found_in two) at context pc (place_in two at) tt' trapped (number_place two at stands.within) real_two is pushed)

  pub alone_done : (to : Numbers) (more : ℕ) (first : Bool) → context < context_count parts → IsGoing parts classes context (thread_at (place_in two at) context) two.pools to more first → IsTrue first
      → IsPrivateTurn parts classes (found_in two) at context
  alone_done to more first exists is yes' = alone_is parts classes (found_in two) at context (place_in two at) (number_place two at stands.within) real_two exists (is.first_is yes')

  module _ (to : Numbers) (more : ℕ) (first : Bool) (three : Found) (exists : context < context_count parts)
      (is : IsGoing parts classes context (thread_at (place_in two at) context) two.pools to more first)
      (kept : Bool) (added : IsTrue kept → AddsPlace (found_in two) three (with_thread (place_in two at) context (thread_in two.pools to)) (record { from = at; context = context; turns = more + 1 }))
      (full : kept ≡ false → three ≡ found_in two) where
    going_done : IsTrue kept → IsDone parts classes one three at context
    going_done yes' = let adds = added yes' in record {
      goes =
          from_one three
          (led_to parts classes (found_in two) three at context more (place_in two at) (thread_in two.pools to) (number_place two at stands.within) real_two exists is.goes is.chain.private
          is.chain.end adds).goes;
      turn =
          turn_led parts classes (found_in two) three at context more (place_in two at) (thread_in two.pools to) (number_place two at stands.within) real_two exists is.goes is.chain.private
          is.chain.end adds;
    }

    pub kept_turn : IsTrue kept → HasTurn parts classes three at context
    kept_turn yes' = (going_done yes').turn

    pub kept_goes : GoesTo parts one three
    kept_goes = go kept refl
      where
        go : (b : Bool) → kept ≡ b → GoesTo parts one three
        go true e = (going_done e).goes
        go false e = subst (GoesTo parts one) (sym (full e)) goes_same
