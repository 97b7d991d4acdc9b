-- The steps of an exploration, as its functions meet them.
use Rattle.std.proofs.Common.{◌≡◌, ℕ, zero, suc, ◌+◌, ◌<◌, ◌≤◌, ◌⊎◌, inl, inr, true, false, Some, List, [], ◌∷◌, ◌++◌, length, length-append, replicate, refl, sym, ap, ◌∙◌, subst, arith}
use Rattle.std.specs.List.{slice_get}
use Rattle.std.proofs.lemmas.Bool.{false≢true, cases_lt}
use Rattle.std.proofs.lemmas.Option.{slice_get_within}
use Rattle.sparc_table.specs.declared.outcomes.Outcome.TheVariants.{Trap}
use Rattle.alw_msg.specs.Statuses.{is_ready}
use Rattle.alw_image.specs.declared.parts.Parts.{Parts}
use Rattle.alw_image.specs.Images.{context_count}
use Rattle.alw_flat.proofs.Turns.{ready_exists}
use Rattle.alw_model.specs.Flat.{context_at}
use Rattle.alw_places.specs.Places.{Place, place_turn, places_after, outcome_at, traps, IsForward, IsReadyAt, IsRun, PlaceHasSizes, place_turns}
use Rattle.alw_places.specs.Outcomes.{Ending, Halts, Traps, all_halted, EndsIn, ComesTo}
use Rattle.alw_places.specs.declared.classes.Class.{Class}
use Rattle.alw_places.specs.Sharing.{is_allowed, need_at, IsPrivate, HasNext, HasPrivateNext, PrivateTurns}
use Rattle.alw_outcomes.specs.Explored.{Found, IsAmong, IsHeld, HasHalted, HasTrapped, IsListed, IsBroken, IsReal, IsFull, IsExpanded, IsClosed, Grows, IsTurnFound, AddsPlace, GoesTo, IsPrivateTurn, HasFirst, HasTurn, TellsHalt, HasFull, HasExpanded}
use Rattle.alw_outcomes.specs.declared.explored.Trapped.{Trapped}
use Rattle.alw_places.specs.declared.classes.Broken.{Broken}
use Rattle.alw_outcomes.proofs.Finding.{same_member, grows_refl, grows_trans, turn_grows, expanded_grows, adds_is, halt_listed, trap_listed, break_listed, sizes_found}
use Rattle.alw_places.specs.Threads.{Thread, thread_at, with_thread, thread_turn, thread_turns, ThreadGoes, ThreadPrivate, ArePrivate}
use Rattle.alw_outcomes.specs.Leads.{IsTrapOf}
use Rattle.alw_outcomes.proofs.Pooling.{get-last}
use Rattle.alw_places.proofs.Sizes.{sizes_stay}
use Rattle.alw_places.proofs.Threading.{turns_with, thread_after, goes_at, private_at, forward_at, privates_at, private_run, turns_after, outcome_in}
use Rattle.alw_places.proofs.Independence.{IsToldBy, IsBrokenBy, private_told}

-- ---- where all contexts have halted

pub halt_pushed : (parts : Parts) (before : Found) (at : ℕ) (here : Place) (halted : List ℕ) → slice_get before.places at ≡ Some here → all_halted here ≡ true → IsReal parts before
    → halted ≡ before.halted ++ at ∷ []
    → GoesTo parts before (record before { halted = halted })
halt_pushed parts before at here halted there all real pushed =
    subst (λ (h : List ℕ). GoesTo parts before (record before { halted = h })) (sym pushed)
    (halt_listed parts before at real (record { place = here; there = there; halted = all }))

pub halt_told : (before : Found) (at : ℕ) (halted : List ℕ) → halted ≡ before.halted ++ at ∷ [] → TellsHalt (record before { halted = halted }) at
halt_told before at halted pushed place e all =
    record {
      index = length before.halted;
      at = at;
      place = place;
      listed = ap (λ (h : List ℕ). slice_get h (length before.halted)) pushed ∙ get-last before.halted at;
      there = e;
      printed_is = refl;
      memory_is = refl;
    }

pub halt_none : (parts : Parts) (before : Found) (at : ℕ) (here : Place) → slice_get before.places at ≡ Some here → all_halted here ≡ false → TellsHalt before at
halt_none parts before at here there none place e all =
    absurd (false≢true (sym none ∙ ap all_halted (same_member before.places at here place there e) ∙ all))

-- ---- any turn

pub record IsTurnAdded (parts : Parts) (classes : List Class) (before after : Found) (at context : ℕ) : Type 0 where
  pub goes : GoesTo parts before after
  pub turn : HasTurn parts classes after at context

-- what is said of the place as code reads it is said of the place with its number
at_number : (parts : Parts) (classes : List Class) (found : Found) (at context : ℕ) (here : Place) → slice_get found.places at ≡ Some here → IsTurnFound parts classes found here context
    → HasTurn parts classes found at context
at_number parts classes found at context here there is place e = subst (λ (p : Place). IsTurnFound parts classes found p context) (same_member found.places at here place there e) is

pub turn_idle : (parts : Parts) (classes : List Class) (before : Found) (at context : ℕ) (here : Place) → slice_get before.places at ≡ Some here
    → is_ready (context_at here.flat context).status ≡ false → HasTurn parts classes before at context
turn_idle parts classes before at context here there idle =
    at_number parts classes before at context here there
    (record {
      next = λ goes. absurd (false≢true (sym idle ∙ goes.on.ready));
      trap = λ pc tt' ends. absurd (false≢true (sym idle ∙ ends.0));
      kept = λ breaks. absurd (false≢true (sym idle ∙ breaks.ready));
    })

-- ---- turns that lead to a place

pub record IsLedTo (parts : Parts) (classes : List Class) (before after : Found) (at context : ℕ) (here : Place) : Type 0 where
  pub goes : GoesTo parts before after
  pub held : IsHeld parts classes (IsAmong after.places) (place_turn parts here context)

module _ (parts : Parts) (classes : List Class) (before after : Found) (at context more : ℕ) (here : Place) (to : Thread) (there : slice_get before.places at ≡ Some here) (real : IsReal parts before)
    (exists : context < context_count parts)
    (is : ThreadGoes parts classes context (thread_at here context)) (private : ArePrivate parts classes context (thread_turn parts (thread_at here context)) more)
    (end : to ≡ thread_turns parts (thread_turn parts (thread_at here context)) more)
    (adds : AddsPlace before after (with_thread here context to) (record { from = at; context = context; turns = more + 1 })) where
  sizes : PlaceHasSizes parts here
  sizes = sizes_found parts before real at here there

  there_is : place_turns parts (place_turn parts here context) context more ≡ with_thread here context to
  there_is = turns_with parts here context (suc more) sizes exists ∙ ap (with_thread here context) (sym end)

  privates : PrivateTurns parts classes (place_turn parts here context) context more
  privates =
      privates_at parts classes context exists (place_turn parts here context) more (sizes_stay parts here context sizes)
      (subst (λ (t : Thread). ArePrivate parts classes context t more) (sym (thread_after parts here context sizes exists)) private)

  pub led_to : IsLedTo parts classes before after at context here
  led_to =
      let one : suc more ≡ more + 1 = omega arith in
      let run : IsRun parts here (replicate (suc more) context) = ((goes_at parts classes here context is).on, private_run parts classes (place_turn parts here context) context more privates) in
      let then : places_after parts here (replicate (suc more) context) ≡ with_thread here context to = turns_after parts (place_turn parts here context) context more ∙ there_is in
      let added = adds_is parts before after (with_thread here context to) (record { from = at; context = context; turns = more + 1 }) real
      (record {
        before = here;
        there = there;
        run = subst (λ (n : ℕ). IsRun parts here (replicate n context)) one run;
        after = subst (λ (n : ℕ). places_after parts here (replicate n context) ≡ with_thread here context to) one then;
      })
      adds in
      record {
        goes = added.goes;
        held = record { context = context; steps = more; private = privates; among = subst (IsAmong after.places) (sym there_is) added.among };
      }

  pub turn_led : HasTurn parts classes after at context
  turn_led =
      let led = led_to in
      let on = (goes_at parts classes here context is) in
      at_number parts classes after at context here (led.goes.grows.places at here there)
      (record { next = λ _. led.held; trap = λ pc tt' ends. absurd (false≢true (sym on.on.no_trap ∙ ap traps ends.1)); kept = λ breaks. absurd (false≢true (sym breaks.broken ∙ on.allowed)) })

-- a private turn, as its own context sees it
pub alone_is : (parts : Parts) (classes : List Class) (found : Found) (at context : ℕ) (here : Place) → slice_get found.places at ≡ Some here → IsReal parts found → context < context_count parts
    → ThreadPrivate parts classes context (thread_at here context) → IsPrivateTurn parts classes found at context
alone_is parts classes found at context here there real exists first place e =
    let sizes = sizes_found parts found real at here there in
    let is : IsPrivate parts classes here context × IsForward parts here context = (private_at parts classes context exists here first, forward_at parts classes context exists here sizes first) in
    subst (λ (p : Place). IsPrivate parts classes p context × IsForward parts p context) (same_member found.places at here place there e) is

pub same_type : (one two : ℕ) → Trap one ≡ Trap two → one ≡ two
same_type one two e = cc

pub trap_added : (parts : Parts) (classes : List Class) (before : Found) (at context pc : ℕ) (here : Place) (tt' : ℕ) (trapped : List Trapped) → slice_get before.places at ≡ Some here
    → IsReal parts before
    → IsTrapOf parts classes context (thread_at here context) pc tt' → trapped ≡ before.trapped ++ record { at = at; context = context; pc = pc; tt = tt' } ∷ []
    → IsTurnAdded parts classes before (record before { trapped = trapped }) at context
trap_added parts classes before at context pc here tt' trapped there real is pushed =
    subst (λ (t : List Trapped). IsTurnAdded parts classes before (record before { trapped = t }) at context) (sym pushed) added
  where
    turn : Trapped
    turn = record { at = at; context = context; pc = pc; tt = tt' }

    after : Found
    after = record before { trapped = before.trapped ++ turn ∷ [] }

    here_traps : outcome_at parts here context ≡ Trap tt'
    here_traps = outcome_in parts here context ∙ is.trap

    told : (pc' type : ℕ) → EndsIn parts here (Traps context pc' type) → HasTrapped after context pc' type
    told pc' type ends = record {
      index = length before.trapped;
      turn = turn;
      listed = get-last before.trapped turn;
      context_is = refl;
      pc_is = sym is.pc_is ∙ ends.2;
      type_is = same_type tt' type (sym here_traps ∙ ends.1);
    }

    added : IsTurnAdded parts classes before after at context
    added = record {
      goes = trap_listed parts before turn real (record { place = here; there = there; ends = (is.ready, here_traps, is.pc_is) });
      turn = at_number parts classes after at context here there
          (record {
            next = λ goes. absurd (false≢true (sym goes.on.no_trap ∙ ap traps here_traps));
            trap = λ pc' type ends. inl (told pc' type ends);
            kept = λ breaks. absurd (false≢true (sym breaks.broken ∙ is.allowed));
          });
    }

-- a turn that doesn't keep to the hint is noted
pub break_added : (parts : Parts) (classes : List Class) (before : Found) (at context : ℕ) (here : Place) (turn : Broken) (broken : List Broken) → slice_get before.places at ≡ Some here
    → IsReal parts before
    → is_allowed classes context (need_at parts here context) ≡ false → broken ≡ before.broken ++ turn ∷ [] → IsTurnAdded parts classes before (record before { broken = broken }) at context
break_added parts classes before at context here turn broken there real refused pushed =
    subst (λ (b : List Broken). IsTurnAdded parts classes before (record before { broken = b }) at context) (sym pushed) is
  where
    some : 0 < length (before.broken ++ turn ∷ [])
    some = omega (arith, length-append before.broken (turn ∷ []))

    is : IsTurnAdded parts classes before (record before { broken = before.broken ++ turn ∷ [] }) at context
    is = record {
      goes = break_listed parts before turn real;
      turn = at_number parts classes (record before { broken = before.broken ++ turn ∷ [] }) at context here there
          (record { next = λ goes. absurd (false≢true (sym refused ∙ goes.allowed)); trap = λ pc type ends. inr some; kept = λ _. some });
    }

-- ---- all turns

-- contexts past the last never run
pub past_idle : (parts : Parts) (place : Place) (context : ℕ) → PlaceHasSizes parts place → IsReadyAt place context → context < context_count parts
past_idle parts place context sizes ready = let within = ready_exists place.flat context ready in let long = sizes.contexts in omega arith

pub all_full : (parts : Parts) (classes : List Class) (found : Found) (at : ℕ) → IsReal parts found → ((context : ℕ) → context < context_count parts → HasTurn parts classes found at context)
    → TellsHalt found at → HasFull parts classes found at
all_full parts classes found at real turns halt place e = record {
  next = next;
  endings = endings;
  kept = λ context breaks. (turns context (past_idle parts place context sizes breaks.ready) place e).kept breaks;
}
  where
    sizes : PlaceHasSizes parts place
    sizes = sizes_found parts found real at place e

    next : HasNext parts classes (IsHeld parts classes (IsAmong found.places)) place
    next context goes = (turns context (past_idle parts place context sizes goes.on.ready) place e).next goes

    halts : (printed : List (List ℕ)) → (memory : List _) → EndsIn parts place (Halts printed memory) → HasHalted found printed memory
    halts printed memory ends =
        let has = halt place e ends.0 in
        record { index = has.index; at = has.at; place = has.place; listed = has.listed; there = has.there; printed_is = has.printed_is ∙ ends.1; memory_is = has.memory_is ∙ ends.2 }

    endings : (ending : Ending) → EndsIn parts place ending → IsListed found ending ⊎ IsBroken found
    endings (Halts printed memory) ends = inl (halts printed memory ends)
    endings (Traps context pc type) ends = (turns context (past_idle parts place context sizes ends.0) place e).trap pc type ends

-- ---- the whole exploration

pub some_member : {A : Type 0} (xs : List A) (k : ℕ) → k < length xs → (x : A) × (slice_get xs k ≡ Some x)
some_member [] k l = absurd (omega arith)
some_member (x ∷ xs) zero l = (x, refl)
some_member (x ∷ xs) (suc k) l = some_member xs k (omega arith)

-- a step of a loop
pub goes_refl : (parts : Parts) (found : Found) → IsReal parts found → GoesTo parts found found
goes_refl parts found real = record { real = real; grows = grows_refl found }

pub goes_trans : (parts : Parts) (one two three : Found) → GoesTo parts one two → GoesTo parts two three → GoesTo parts one three
goes_trans parts one two three first second = record { real = second.real; grows = grows_trans one two three first.grows second.grows }

-- the place with this number is still there
pub within_grows : (before after : Found) (at : ℕ) → at < length before.places → Grows before after → at < length after.places
within_grows before after at within grows = let m = some_member before.places at within in slice_get_within after.places at m.0 (grows.places at m.0 m.1)

pub turn_stays : (parts : Parts) (classes : List Class) (one two : Found) (at context : ℕ) (here : Place) → slice_get one.places at ≡ Some here → GoesTo parts one two
    → HasTurn parts classes one at context → HasTurn parts classes two at context
turn_stays parts classes one two at context here there goes has =
    at_number parts classes two at context here (goes.grows.places at here there) (turn_grows parts classes one two goes.grows here context (has here there))

-- a private turn leads to a place that is found
pub first_led : (parts : Parts) (classes : List Class) (before after : Found) (at context : ℕ) → at < length before.places → GoesTo parts before after → IsPrivateTurn parts classes before at context
    → HasTurn parts classes after at context → HasFirst parts classes after at
first_led parts classes before after at context within goes alone turn place e =
    let m = some_member before.places at within in
    let there = goes.grows.places at m.0 m.1 in
    let is = alone m.0 m.1 in
    let has : HasPrivateNext parts classes (IsHeld parts classes (IsAmong after.places)) m.0 = record { context = context; private = is.0; forward = is.1; next = (turn m.0 there).next is.0.goes } in
    subst (λ (p : Place). HasPrivateNext parts classes (IsHeld parts classes (IsAmong after.places)) p) (same_member after.places at m.0 place there e) has

-- the same hint, the same turns
pub same_turns : (parts : Parts) (classes before : List Class) (found : Found) (at past : ℕ) → classes ≡ before → ((context : ℕ) → context < past → HasTurn parts before found at context)
    → (context : ℕ) → context < past → HasTurn parts classes found at context
same_turns parts classes before found at past same turns = subst (λ (l : List Class). (context : ℕ) → context < past → HasTurn parts l found at context) (sym same) turns

-- one context's turn more
pub turns_more : (parts : Parts) (classes : List Class) (one two : Found) (at past : ℕ) → at < length one.places → GoesTo parts one two
    → ((context : ℕ) → context < past → HasTurn parts classes one at context) → HasTurn parts classes two at past → (context : ℕ) → context < past + 1 → HasTurn parts classes two at context
turns_more parts classes one two at past within goes turns last context l = go (cases_lt context past)
  where
    go : (context < past) ⊎ (past ≤ context) → HasTurn parts classes two at context
    go (inl earlier) = let m = some_member one.places at within in turn_stays parts classes one two at context m.0 m.1 goes (turns context earlier)
    go (inr here) = let same : past ≡ context = omega arith in subst (λ (k : ℕ). HasTurn parts classes two at k) same last

-- once all contexts have taken a turn, and a place where all have halted is listed
pub turns_full : (parts : Parts) (classes : List Class) (one two : Found) (at past : ℕ) → at < length one.places → GoesTo parts one two → context_count parts ≤ past
    → ((context : ℕ) → context < past → HasTurn parts classes one at context) → TellsHalt two at → HasFull parts classes two at
turns_full parts classes one two at past within goes all turns halt =
    all_full parts classes two at goes.real (λ context l. let m = some_member one.places at within in turn_stays parts classes one two at context m.0 m.1 goes (turns context (omega arith))) halt

-- so many places have been gone on from
pub record IsExploredTo (parts : Parts) (classes : List Class) (found : Found) (past : ℕ) : Type 0 where
  pub real : IsReal parts found
  pub within : past ≤ length found.places
  pub expanded : (at : ℕ) (place : Place) → at < past → slice_get found.places at ≡ Some place → IsExpanded parts classes found place

pub explored_none : (parts : Parts) (classes : List Class) (found : Found) → IsReal parts found → IsExploredTo parts classes found 0
explored_none parts classes found real = record { real = real; within = omega arith; expanded = λ at place l e. absurd (omega arith) }

pub explored_more : (parts : Parts) (classes : List Class) (before after : Found) (past : ℕ) → IsExploredTo parts classes before past → past < length before.places → GoesTo parts before after
    → HasExpanded parts classes after past → IsExploredTo parts classes after (past + 1)
explored_more parts classes before after past is more goes expanded = record {
  real = goes.real;
  within = let m = some_member before.places past more in let w = slice_get_within after.places past m.0 (goes.grows.places past m.0 m.1) in omega arith;
  expanded = λ at place l e. go at place l e (cases_lt at past);
}
  where
    go : (at : ℕ) (place : Place) → at < past + 1 → slice_get after.places at ≡ Some place → (at < past) ⊎ (past ≤ at) → IsExpanded parts classes after place
    go at place l e (inl earlier) =
        let m = some_member before.places at (omega arith) in
        let same = same_member after.places at m.0 place (goes.grows.places at m.0 m.1) e in
        subst (λ (p : Place). IsExpanded parts classes after p) same (expanded_grows parts classes before after goes.grows m.0 (is.expanded at m.0 earlier m.1))
    go at place l e (inr last) = let same : at ≡ past = omega arith in expanded place (ap (slice_get after.places) (sym same) ∙ e)

-- once all places have been gone on from and no turn broke the hint, the places are closed
pub all_closed : (parts : Parts) (classes : List Class) (found : Found) (past : ℕ) → IsExploredTo parts classes found past → length found.places ≤ past → length found.broken ≡ 0
    → IsClosed parts classes found
all_closed parts classes found past is all whole = record {
  expanded = λ place among. let w = slice_get_within found.places among.at place among.there in is.expanded among.at place (omega arith) among.there;
  kept = λ some. omega arith;
}

-- a place that is held leads by a private turn to another, or is one that was gone on from
pub held_next : (parts : Parts) (classes : List Class) (found : Found) → ((place : Place) → IsAmong found.places place → IsExpanded parts classes found place) → (place : Place) (context steps : ℕ)
    → PrivateTurns parts classes place context steps → IsAmong found.places (place_turns parts place context steps)
    → HasPrivateNext parts classes (IsHeld parts classes (IsAmong found.places)) place ⊎ IsFull parts classes found place
held_next parts classes found expanded place context zero private among = expanded place among
held_next parts classes found expanded place context (suc n) private among =
    inl (record { context = context; private = private.0; forward = private.1; next = record { context = context; steps = n; private = private.2; among = among } })

-- from a closed set of places all that runs come to is listed
pub all_listed : (parts : Parts) (classes : List Class) (found : Found) → IsReal parts found → IsClosed parts classes found → (ending : Ending) → ComesTo parts ending → IsListed found ending
all_listed parts classes found real closed ending comes =
    go (private_told parts classes (IsHeld parts classes (IsAmong found.places)) (IsFull parts classes found) (record {
      context = 0;
      steps = 0;
      private = tt;
      among = record { at = 0; there = real.start };
    })
    (λ place held. held_next parts classes found closed.expanded place held.context held.steps held.private held.among)
    (λ place full. full.next) ending comes)
  where
    listed : IsListed found ending ⊎ IsBroken found → IsListed found ending
    listed (inl has) = has
    listed (inr some) = absurd (closed.kept some)

    go : IsToldBy parts (IsHeld parts classes (IsAmong found.places)) (IsFull parts classes found) ending
        ⊎ IsBrokenBy parts classes (IsHeld parts classes (IsAmong found.places)) (IsFull parts classes found)
        → IsListed found ending
    go (inl told) = listed (told.full.endings ending told.ends)
    go (inr broken) = absurd (closed.kept (broken.full.kept broken.context broken.breaks))
