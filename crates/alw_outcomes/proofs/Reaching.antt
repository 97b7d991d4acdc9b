-- Places from which an end can be reached: by marks, from ends backwards.
use Rattle.std.proofs.Common.{◌≡◌, ℕ, zero, suc, ◌+◌, ◌<◌, ◌≤◌, ◌⊎◌, inl, inr, Bool, true, false, ◌||◌, Some, List, [], ◌∷◌, ◌++◌, length, replicate, slice_set, refl, sym, ap, ◌∙◌, subst, arith}
use Rattle.std.specs.List.{slice_get}
use Rattle.std.proofs.lemmas.Bool.{false≢true, cases_lt}
use Rattle.std.proofs.lemmas.Option.{slice_get_within}
use Rattle.alw_msg.specs.Statuses.{is_ready}
use Rattle.alw_image.specs.declared.parts.Parts.{Parts}
use Rattle.alw_image.specs.Images.{context_count}
use Rattle.alw_model.specs.Flat.{context_at}
use Rattle.alw_places.specs.declared.classes.Class.{Class}
use Rattle.alw_outcomes.specs.declared.pools.Numbers.{Numbers}
use Rattle.alw_outcomes.specs.declared.pools.Pools.{Pools}
use Rattle.alw_places.specs.Places.{Place, place_start, place_turn, places_after, traps, IsRun, PlaceHasSizes, place_turns}
use Rattle.alw_places.specs.Outcomes.{Ending, Halts, Traps, EndsIn, all_halted, CanEnd, CanAlwaysEnd}
use Rattle.alw_places.specs.Sharing.{HasPrivateNext, PrivateTurns}
use Rattle.alw_places.specs.Threads.{Thread, thread_at, with_thread, ArePrivate}
use Rattle.alw_outcomes.specs.Pools.{thread_in}
use Rattle.alw_outcomes.specs.Leads.{IsGoing, IsTrapOf}
use Rattle.alw_outcomes.specs.Explored.{Found, found_in, places_in, place_in, IsStored, IsAmong, IsHeld, IsReal, IsFull, IsClosed}
use Rattle.alw_outcomes.specs.declared.explored.Explored.{Explored}
use Rattle.alw_outcomes.specs.declared.stuck.Stuck.{Stuck}
use Rattle.alw_outcomes.specs.declared.stuck.Look.{Look}
use Rattle.alw_outcomes.specs.declared.stuck.Look.TheVariants.{Ends, Alone, Stays, Open}
use Rattle.alw_outcomes.specs.Stuck.{IsStuckAt, TellsStuck}
use Rattle.alw_outcomes.specs.Marks.{AreMarks, IsUnmarked, StaysAlong, StaysAll, IsStaying, AreStaying, HeldUnmarked, KeepsFound, IsStayingAt, StaysAlongAt, LooksAlong, LooksAt, LooksAlongAt, look_of, ends, tells, is_open, stays_inside}
use Rattle.alw_outcomes.proofs.Storing.{number_place, places_length}
use Rattle.alw_outcomes.proofs.Finding.{same_member, sizes_found}
use Rattle.alw_outcomes.proofs.Steps.{held_next, some_member, past_idle}
use Rattle.alw_places.proofs.Sizes.{sizes_stay}
use Rattle.alw_places.proofs.Threading.{turns_with, thread_after, goes_at, private_at, forward_at, privates_at, private_run, turns_after, outcome_in}
use Rattle.alw_outcomes.proofs.Witnesses.{run-append, after-append}
use Rattle.alw_places.proofs.Independence.{IsToldBy, IsBrokenBy, told_from, can_be_had}

-- ---- an end behind turns

-- what can end behind a run can end before it
pub can_before : (parts : Parts) (place there : Place) (turns : List ℕ) → IsRun parts place turns → places_after parts place turns ≡ there → CanEnd parts there → CanEnd parts place
can_before parts place there turns run after can =
    let run' : IsRun parts (places_after parts place turns) can.turns = subst (λ (p : Place). IsRun parts p can.turns) (sym after) can.run in
    let end : places_after parts place (turns ++ can.turns) ≡ places_after parts there can.turns =
    after-append parts place turns can.turns ∙ ap (λ (p : Place). places_after parts p can.turns) after in
    record { turns = turns ++ can.turns; ending = can.ending; run = run-append parts place turns can.turns run run'; ends = subst (λ (p : Place). EndsIn parts p can.ending) (sym end) can.ends }

pub can_here : (parts : Parts) (place : Place) (ending : Ending) → EndsIn parts place ending → CanEnd parts place
can_here parts place ending ends = record { turns = []; ending = ending; run = tt; ends = ends }

pub can_halt : (parts : Parts) (place : Place) → all_halted place ≡ true → CanEnd parts place
can_halt parts place all = can_here parts place (Halts place.printed place.flat.memory) (all, refl, refl)

-- what can end behind private turns can end before them
can_held : (parts : Parts) (classes : List Class) (Among : Place → Type 0) → ((place : Place) → Among place → CanEnd parts place) → (place : Place) (context steps : ℕ)
    → PrivateTurns parts classes place context steps → Among (place_turns parts place context steps) → CanEnd parts place
can_held parts classes Among can place context steps private among =
    can_before parts place (place_turns parts place context steps) (replicate steps context) (private_run parts classes place context steps private) (turns_after parts place context steps)
    (can _ among)

-- ---- where all places are marked

pub all_can : (parts : Parts) (classes : List Class) (found : Found) (marks : List Bool) → IsReal parts found → IsClosed parts classes found → AreMarks parts found marks
    → length marks ≡ length found.places → ((k : ℕ) → k < length marks → slice_get marks k ≡ Some true) → CanAlwaysEnd parts
all_can parts classes found marks real closed are long all turns run =
    can_be_had parts classes (place_start parts) (IsHeld parts classes (IsAmong found.places)) (IsFull parts classes found) (record {
      context = 0;
      steps = 0;
      private = tt;
      among = record { at = 0; there = real.start };
    })
    (λ place held. held_next parts classes found closed.expanded place held.context held.steps held.private held.among) (λ place full. full.next)
    (CanEnd parts) (λ place held. can_held parts classes (IsAmong found.places) among_can place held.context held.steps held.private held.among)
    (λ place c private can. can_before parts place (place_turn parts place c) (c ∷ []) (private.goes.on, tt) refl can)
    (λ place c full breaks. closed.kept (full.kept c breaks)) turns run
  where
    among_can : (place : Place) → IsAmong found.places place → CanEnd parts place
    among_can place among = are among.at place (all among.at (let w = slice_get_within found.places among.at place among.there in omega (arith, w, long))) among.there

-- ---- where unmarked places lead to unmarked places alone

held_stays : (parts : Parts) (classes : List Class) (Among : Place → Type 0) → ((place : Place) → Among place → IsStaying parts classes (IsHeld parts classes Among) place)
    → (place : Place) (context steps : ℕ) → PrivateTurns parts classes place context steps → Among (place_turns parts place context steps)
    → IsStaying parts classes (IsHeld parts classes Among) place
held_stays parts classes Among stays place context zero private among = stays place among
held_stays parts classes Among stays place context (suc n) private among =
    inl (record { context = context; private = private.0; forward = private.1; next = record { context = context; steps = n; private = private.2; among = among } })

pub never : (parts : Parts) (classes : List Class) (Among : Place → Type 0) → ((place : Place) → Among place → IsStaying parts classes (IsHeld parts classes Among) place) → (place : Place)
    → Among place → CanEnd parts place → ⊥
never parts classes Among stays place among can =
    go (told_from parts classes place (IsHeld parts classes Among) (StaysAll parts classes (IsHeld parts classes Among)) (record { context = 0; steps = 0; private = tt; among = among })
    (λ p held. held_stays parts classes Among stays p held.context held.steps held.private held.among) (λ p all. all.next) can.ending can.turns can.run can.ends)
  where
    go : IsToldBy parts (IsHeld parts classes Among) (StaysAll parts classes (IsHeld parts classes Among)) can.ending
        ⊎ IsBrokenBy parts classes (IsHeld parts classes Among) (StaysAll parts classes (IsHeld parts classes Among))
        → ⊥
    go (inl told) = told.full.no_end can.ending told.ends
    go (inr broken) = broken.full.kept broken.context broken.breaks

pub stuck_at : (parts : Parts) (classes : List Class) (found : Found) (marks : List Bool) (at : ℕ) → length marks ≡ length found.places → AreStaying parts classes found marks (length marks)
    → slice_get marks at ≡ Some false → IsStuckAt parts found at
stuck_at parts classes found marks at long stays unmarked =
    let m = some_member found.places at (let w = slice_get_within marks at false unmarked in omega (arith, w, long)) in
    record {
      place = m.0;
      there = m.1;
      never = never parts classes (IsUnmarked found marks)
          (λ place is. stays is.at place (let w = slice_get_within marks is.at false is.unmarked in omega (arith, w)) is.unmarked is.there)
          m.0 (record { at = at; there = m.1; unmarked = unmarked });
    }

-- ---- a look along a context's turn

module _ (parts : Parts) (classes : List Class) (found : Found) (marks : List Bool) (here : Place) (context : ℕ) where
  pub look_idle : is_ready (context_at here.flat context).status ≡ false → StaysAlong parts classes (HeldUnmarked parts classes found marks) here context
  look_idle idle = record {
    next = λ goes. absurd (false≢true (sym idle ∙ goes.on.ready));
    no_trap = λ pc type ends. absurd (false≢true (sym idle ∙ ends.0));
    kept = λ breaks. absurd (false≢true (sym idle ∙ breaks.ready));
  }

  pub look_trap : (pc type : ℕ) → IsTrapOf parts classes context (thread_at here context) pc type → CanEnd parts here
  look_trap pc type is = can_here parts here (Traps context pc type) (is.ready, outcome_in parts here context ∙ is.trap, is.pc_is)

  module _ (at target more : ℕ) (first mark : Bool) (pools : Pools) (to : Numbers) (real : IsReal parts found) (are : AreMarks parts found marks) (there : slice_get found.places at ≡ Some here)
      (exists : context < context_count parts)
      (is : IsGoing parts classes context (thread_at here context) pools to more first) (row : slice_get found.places target ≡ Some (with_thread here context (thread_in pools to)))
      (marked : slice_get marks target ≡ Some mark) where
    sizes : PlaceHasSizes parts here
    sizes = sizes_found parts found real at here there

    there_is : place_turns parts (place_turn parts here context) context more ≡ with_thread here context (thread_in pools to)
    there_is = turns_with parts here context (suc more) sizes exists ∙ ap (with_thread here context) (sym is.chain.end)

    privates : PrivateTurns parts classes (place_turn parts here context) context more
    privates =
        privates_at parts classes context exists (place_turn parts here context) more (sizes_stay parts here context sizes)
        (subst (λ (t : Thread). ArePrivate parts classes context t more) (sym (thread_after parts here context sizes exists)) is.chain.private)

    target_can : mark ≡ true → CanEnd parts here
    target_can yes' =
        can_before parts here (with_thread here context (thread_in pools to)) (context ∷ replicate more context)
        ((goes_at parts classes here context is.goes).on, private_run parts classes (place_turn parts here context) context more privates)
        (turns_after parts (place_turn parts here context) context more ∙ there_is) (are target _ (marked ∙ ap (λ (b : Bool). Some b) yes') row)

    held : mark ≡ false → HeldUnmarked parts classes found marks (place_turn parts here context)
    held none = record {
      context = context;
      steps = more;
      private = privates;
      among = record { at = target; there = row ∙ ap (λ (p : Place). Some p) (sym there_is); unmarked = marked ∙ ap (λ (b : Bool). Some b) none };
    }

    along : mark ≡ false → StaysAlong parts classes (HeldUnmarked parts classes found marks) here context
    along none =
        let on = goes_at parts classes here context is.goes in
        record { next = λ _. held none; no_trap = λ pc type ends. absurd (false≢true (sym on.on.no_trap ∙ ap traps ends.1)); kept = λ breaks. absurd (false≢true (sym breaks.broken ∙ on.allowed)) }

    first_next : first ≡ true → mark ≡ false → HasPrivateNext parts classes (HeldUnmarked parts classes found marks) here
    first_next yes' none =
        let private = is.first_is yes' in
        let forward = forward_at parts classes context exists here sizes private in
        record { context = context; private = private_at parts classes context exists here private; forward = forward; next = held none }

    pub look_going : LooksAlong parts classes found marks here context (look_of mark first)
    look_going = go mark first refl refl
      where
        go : (m f : Bool) → mark ≡ m → first ≡ f → LooksAlong parts classes found marks here context (look_of m f)
        go true f e g = target_can e
        go false true e g = first_next g e
        go false false e g = along e

-- ---- a look at a place

pub stays_none : (parts : Parts) (classes : List Class) (Held : Place → Type 0) (place : Place) (context : ℕ) → context < 0 → StaysAlong parts classes Held place context
stays_none parts classes Held place context less = absurd (omega arith)

pub looks_all : (parts : Parts) (classes : List Class) (found : Found) (Held : Place → Type 0) (at : ℕ) (place : Place) → IsReal parts found → slice_get found.places at ≡ Some place
    → all_halted place ≡ false → ((context : ℕ) → context < context_count parts → StaysAlong parts classes Held place context) → StaysAll parts classes Held place
looks_all parts classes found Held at place real there none stays = record {
  next = λ context goes. (stays context (past_idle parts place context sizes goes.on.ready)).next goes;
  no_end = no_end;
  kept = λ context breaks. (stays context (past_idle parts place context sizes breaks.ready)).kept breaks;
}
  where
    sizes : PlaceHasSizes parts place
    sizes = sizes_found parts found real at place there

    no_end : (ending : Ending) → EndsIn parts place ending → ⊥
    no_end (Halts printed memory) ends = false≢true (sym none ∙ ends.0)
    no_end (Traps context pc type) ends = (stays context (past_idle parts place context sizes ends.0)).no_trap pc type ends

-- ---- what code finds

pub keeps_refl : (parts : Parts) (e : Explored) → IsStored parts e → KeepsFound parts e e
keeps_refl parts e stored = record { stored = stored; same = refl; memories = refl; hint = refl }

pub keeps_trans : (parts : Parts) (one two three : Explored) → KeepsFound parts one two → KeepsFound parts two three → KeepsFound parts one three
keeps_trans parts one two three first second = record { stored = second.stored; same = second.same ∙ first.same; memories = second.memories ∙ first.memories; hint = second.hint ∙ first.hint }

module _ (parts : Parts) (before after : Explored) (keeps : KeepsFound parts before after) where
  pub real_kept : IsReal parts (found_in before) → IsReal parts (found_in after)
  real_kept real = subst (IsReal parts) (sym keeps.same) real

  pub marks_kept : (marks : List Bool) → AreMarks parts (found_in before) marks → AreMarks parts (found_in after) marks
  marks_kept marks are = subst (λ (f : Found). AreMarks parts f marks) (sym keeps.same) are

  pub marks_back : (marks : List Bool) → AreMarks parts (found_in after) marks → AreMarks parts (found_in before) marks
  marks_back marks are = subst (λ (f : Found). AreMarks parts f marks) keeps.same are

  pub long_kept : (n : ℕ) → n ≡ length before.memories.items → n ≡ length after.memories.items
  long_kept n long = long ∙ ap length (sym keeps.memories)

  pub within_kept : (at : ℕ) → at < length before.memories.items → at < length after.memories.items
  within_kept at less = subst (λ (l : List ℕ). at < length l) (sym keeps.memories) less

  pub closed_kept : IsClosed parts before.classes.items (found_in before) → IsClosed parts after.classes.items (found_in after)
  closed_kept closed = subst (λ (f : Found). IsClosed parts after.classes.items f) (sym keeps.same) (subst (λ (l : List Class). IsClosed parts l (found_in before)) (sym keeps.hint) closed)

  pub along_back : (marks : List Bool) (at context : ℕ) (look : Look) → LooksAlongAt parts after.classes.items (found_in after) marks at context look
      → LooksAlongAt parts before.classes.items (found_in before) marks at context look
  along_back marks at context look is =
      subst (λ (f : Found). LooksAlongAt parts before.classes.items f marks at context look) keeps.same
      (subst (λ (l : List Class). LooksAlongAt parts l (found_in after) marks at context look) keeps.hint is)

  pub staying_back : (marks : List Bool) (at : ℕ) → IsStayingAt parts after.classes.items (found_in after) marks at → IsStayingAt parts before.classes.items (found_in before) marks at
  staying_back marks at is =
      subst (λ (f : Found). IsStayingAt parts before.classes.items f marks at) keeps.same (subst (λ (l : List Class). IsStayingAt parts l (found_in after) marks at) keeps.hint is)

  pub told_back : (stuck : Stuck) → TellsStuck parts (found_in after) stuck → TellsStuck parts (found_in before) stuck
  told_back stuck is = subst (λ (f : Found). TellsStuck parts f stuck) keeps.same is

module _ (parts : Parts) (classes : List Class) (found : Found) (marks : List Bool) (at : ℕ) where
  pub tells_so : (context : ℕ) (look : Look) → tells look ≡ true → LooksAlongAt parts classes found marks at context look → LooksAt parts classes found marks at look
  tells_so context Ends e is = is
  tells_so context Alone e is = is
  tells_so context Stays e is = absurd (cc)
  tells_so context Open e is = absurd (cc)

  stays_so : (context : ℕ) (look : Look) → tells look ≡ false → is_open look ≡ false → LooksAlongAt parts classes found marks at context look → StaysAlongAt parts classes found marks at context
  stays_so context Ends e f is = absurd (cc)
  stays_so context Alone e f is = absurd (cc)
  stays_so context Stays e f is = is
  stays_so context Open e f is = absurd (cc)

  either_false : (a b : Bool) → (a || b) ≡ false → (a ≡ false) × (b ≡ false)
  either_false false b e = (refl, e)
  either_false true b e = absurd (cc)

  pub along_more : (past : ℕ) (open' more : Bool) (look : Look) → more ≡ (open' || is_open look) → tells look ≡ false → LooksAlongAt parts classes found marks at past look
      → (open' ≡ false → (context : ℕ) → context < past → StaysAlongAt parts classes found marks at context) → more ≡ false → (context : ℕ) → context < past + 1
      → StaysAlongAt parts classes found marks at context
  along_more past open' more look is untold here before none context less = go (cases_lt context past)
    where
      both : (open' ≡ false) × (is_open look ≡ false)
      both = either_false open' (is_open look) (sym is ∙ none)

      go : (context < past) ⊎ (past ≤ context) → StaysAlongAt parts classes found marks at context
      go (inl earlier) = before both.0 context earlier
      go (inr late) = let same : past ≡ context = omega arith in subst (StaysAlongAt parts classes found marks at) same (stays_so past look untold both.1 here)

  pub inside_so : (look : Look) → stays_inside look ≡ true → LooksAt parts classes found marks at look → IsStayingAt parts classes found marks at
  inside_so Ends e is = absurd (cc)
  inside_so Alone e is = λ place unmarked there. inl (is place there)
  inside_so Stays e is = λ place unmarked there. inr (is place there)
  inside_so Open e is = absurd (cc)

  set_at : (xs : List Bool) (i j : ℕ) → slice_get (slice_set xs i true) j ≡ Some true → (slice_get xs j ≡ Some true) ⊎ (i ≡ j)
  set_at [] i j f = inl f
  set_at (x ∷ xs) zero zero f = inr refl
  set_at (x ∷ xs) zero (suc j) f = inl f
  set_at (x ∷ xs) (suc i) zero f = inl f
  set_at (x ∷ xs) (suc i) (suc j) f = next (set_at xs i j f)
    where
      next : (slice_get xs j ≡ Some true) ⊎ (i ≡ j) → (slice_get xs j ≡ Some true) ⊎ (suc i ≡ suc j)
      next (inl old) = inl old
      next (inr same) = inr (ap suc same)

  marks_set : (after : List Bool) → LooksAt parts classes found marks at Ends → after ≡ slice_set marks at true → AreMarks parts found marks → AreMarks parts found after
  marks_set after is set are k place mark there = go (set_at marks at k (ap (λ (l : List Bool). slice_get l k) (sym set) ∙ mark))
    where
      go : (slice_get marks k ≡ Some true) ⊎ (at ≡ k) → CanEnd parts place
      go (inl old) = are k place old there
      go (inr same) = is place (ap (slice_get found.places) same ∙ there)

  pub marked_so : (look : Look) (after : List Bool) → ends look ≡ true → LooksAt parts classes found marks at look → after ≡ slice_set marks at true → AreMarks parts found marks
      → AreMarks parts found after
  marked_so Alone after e is set are = absurd (cc)
  marked_so Stays after e is set are = absurd (cc)
  marked_so Open after e is set are = absurd (cc)
  marked_so Ends after e is set are = marks_set after is set are

  pub staying_more : AreStaying parts classes found marks at → IsStayingAt parts classes found marks at → AreStaying parts classes found marks (at + 1)
  staying_more before here k place less unmarked there = go (cases_lt k at)
    where
      go : (k < at) ⊎ (at ≤ k) → IsStaying parts classes (HeldUnmarked parts classes found marks) place
      go (inl earlier) = before k place earlier unmarked there
      go (inr late) = let same : k ≡ at = omega arith in here place (ap (slice_get marks) (sym same) ∙ unmarked) (ap (slice_get found.places) (sym same) ∙ there)

pub marks_none : (parts : Parts) (found : Found) (n : ℕ) (marks : List Bool) → marks ≡ replicate n false → AreMarks parts found marks
marks_none parts found n marks is k place mark there = absurd (no_mark n k (ap (λ (l : List Bool). slice_get l k) (sym is) ∙ mark))
  where
    no_mark : (n k : ℕ) → slice_get (replicate n false) k ≡ Some true → ⊥
    no_mark zero k e = cc
    no_mark (suc n) zero e = cc
    no_mark (suc n) (suc k) e = no_mark n k e

-- ---- a look, as code reads the place

pub target_within : (e : Explored) (target : ℕ) (place : Place) → slice_get (places_in e) target ≡ Some place → target < length e.memories.items
target_within e target place there = let w = slice_get_within (places_in e) target place there in omega (arith, w, places_length e)

pub place_is : (e : Explored) (at : ℕ) (place : Place) → at < length e.memories.items → slice_get (places_in e) at ≡ Some place → place_in e at ≡ place
place_is e at place within there = same_member (places_in e) at (place_in e at) place (number_place e at within) there

module _ (parts : Parts) (one two : Explored) (marks : List Bool) (at context : ℕ) (same : found_in two ≡ found_in one) (hint : two.classes.items ≡ one.classes.items)
    (within : at < length two.memories.items) where
  here_is : (place : Place) → slice_get (places_in one) at ≡ Some place → place_in two at ≡ place
  here_is place there = place_is two at place within (ap (λ (f : Found). slice_get f.places at) same ∙ there)

  pub idle_along : is_ready (thread_at (place_in two at) context).context.status ≡ false → LooksAlongAt parts one.classes.items (found_in one) marks at context Stays
  idle_along idle place there =
      look_idle parts one.classes.items (found_in one) marks place context (ap (λ (p : Place). is_ready (context_at p.flat context).status) (sym (here_is place there)) ∙ idle)

  pub trap_along : (pc type : ℕ) → IsTrapOf parts two.classes.items context (thread_at (place_in two at) context) pc type → LooksAlongAt parts one.classes.items (found_in one) marks at context Ends
  trap_along pc type is place there =
      look_trap parts one.classes.items (found_in one) marks place context pc type
      (subst (λ (p : Place). IsTrapOf parts one.classes.items context (thread_at p context) pc type) (here_is place there)
      (subst (λ (l : List Class). IsTrapOf parts l context (thread_at (place_in two at) context) pc type) hint is))

  pub goes_along : (to : Numbers) (more target : ℕ) (first mark : Bool) → IsReal parts (found_in one) → AreMarks parts (found_in one) marks → context < context_count parts
      → IsGoing parts two.classes.items context (thread_at (place_in two at) context) two.pools to more first
      → slice_get (places_in two) target ≡ Some (with_thread (place_in two at) context (thread_in two.pools to)) → slice_get marks target ≡ Some mark
      → LooksAlongAt parts one.classes.items (found_in one) marks at context (look_of mark first)
  goes_along to more target first mark real are exists is row marked place there =
      look_going parts one.classes.items (found_in one) marks place context at target more first mark two.pools to real are there exists
      (subst (λ (p : Place). IsGoing parts one.classes.items context (thread_at p context) two.pools to more first) (here_is place there)
      (subst (λ (l : List Class). IsGoing parts l context (thread_at (place_in two at) context) two.pools to more first) hint is))
      (ap (λ (f : Found). slice_get f.places target) (sym same) ∙ row ∙ ap (λ (p : Place). Some (with_thread p context (thread_in two.pools to))) (here_is place there))
      marked
