-- What is said of a thread is said of its context at a place.
use Rattle.std.proofs.Common.{◌≡◌, ℕ, zero, suc, ◌<◌, List, [], replicate, slice_index_or, slice_set, refl, sym, ap, ◌∙◌, subst, arith}
use Rattle.std.proofs.lemmas.List.{get_or-set_same, set-get_or, set-set}
use Rattle.sparc_table.specs.Registers.{start_of}
use Rattle.sparc_table.specs.declared.outcomes.Outcome.{Outcome}
use Rattle.sparc_table.specs.declared.outcomes.Outcome.TheVariants.{Done, Miss, Out, Halt, Trap}
use Rattle.alw_msg.specs.declared.contexts.Status.TheVariants.{Halted}
use Rattle.alw_image.specs.declared.parts.Parts.{Parts}
use Rattle.alw_image.specs.Images.{context_count}
use Rattle.alw_model.specs.Flat.{Context, context_at}
use Rattle.alw_places.specs.declared.classes.Class.{Class}
use Rattle.alw_places.specs.Places.{Place, place_turn, places_after, printed_after, outcome_at, regs_at, traps, to_go, IsRun, IsForward, PlaceHasSizes, place_turns}
use Rattle.alw_places.specs.Sharing.{Goes, IsPrivate, PrivateTurns}
use Rattle.alw_places.specs.Effects.{effect_of}
use Rattle.alw_places.specs.Threads.{Thread, thread_at, with_thread, words_after, effect_in, thread_left, thread_turn, thread_turns, ThreadGoes, ThreadPrivate, ArePrivate}
use Rattle.alw_places.proofs.Commuting.{effect_at, place_turn_is, outcome_is}
use Rattle.alw_places.proofs.Sizes.{sizes_stay}

-- what is printed, as the words of the context
printed_is : (printed : List (List ℕ)) (context : ℕ) (outcome : Outcome) → printed_after printed context outcome ≡ slice_set printed context (words_after (slice_index_or printed context []) outcome)
printed_is printed context (Out word) = refl
printed_is printed context Done = sym (set-get_or printed context [])
printed_is printed context (Miss line mode) = sym (set-get_or printed context [])
printed_is printed context Halt = sym (set-get_or printed context [])
printed_is printed context (Trap tt) = sym (set-get_or printed context [])

-- a turn changes the thread of its context alone
turn_with : (parts : Parts) (place : Place) (context : ℕ) → place_turn parts place context ≡ with_thread place context (thread_turn parts (thread_at place context))
unfolding effect_at
turn_with parts place context =
    let effect = effect_of parts place.flat.memory (regs_at place context) in
    place_turn_is parts place context
    ∙ (λ i. record { flat = record { memory = effect.memory; contexts = slice_set place.flat.contexts context (thread_left (thread_at place context) effect).context }; printed = printed_is place.printed context effect.outcome i })

thread_with : (parts : Parts) (place : Place) (context : ℕ) (thread : Thread) → PlaceHasSizes parts place → context < context_count parts
    → thread_at (with_thread place context thread) context ≡ thread
thread_with parts place context thread sizes exists =
    let none : Context = record { regs = start_of 0 0 0; status = Halted } in
    let empty : List ℕ = [] in
    let here : slice_index_or (slice_set place.flat.contexts context thread.context) context none ≡ thread.context = get_or-set_same place.flat.contexts context thread.context none (let s = sizes.contexts in omega (arith, s)) in
    let words : slice_index_or (slice_set place.printed context thread.printed) context empty ≡ thread.printed = get_or-set_same place.printed context thread.printed empty (let s = sizes.printed in omega (arith, s)) in
    λ i. record { memory = thread.memory; context = here i; printed = words i }

with_with : (place : Place) (context : ℕ) (one two : Thread) → with_thread (with_thread place context one) context two ≡ with_thread place context two
with_with place context one two =
    let contexts = set-set place.flat.contexts context one.context two.context in
    let printed = set-set place.printed context one.printed two.printed in
    λ i. record { flat = record { memory = two.memory; contexts = contexts i }; printed = printed i }

with_same : (place : Place) (context : ℕ) → with_thread place context (thread_at place context) ≡ place
with_same place context =
    let none : Context = record { regs = start_of 0 0 0; status = Halted } in
    let contexts = set-get_or place.flat.contexts context none in
    let printed = set-get_or place.printed context [] in
    λ i. record { flat = record { memory = place.flat.memory; contexts = contexts i }; printed = printed i }

-- after a turn the thread is what the turn left
pub thread_after : (parts : Parts) (place : Place) (context : ℕ) → PlaceHasSizes parts place → context < context_count parts → thread_at (place_turn parts place context) context ≡ thread_turn parts (thread_at place context)
thread_after parts place context sizes exists = ap (λ (p : Place). thread_at p context) (turn_with parts place context) ∙ thread_with parts place context (thread_turn parts (thread_at place context)) sizes exists

pub turns_with : (parts : Parts) (place : Place) (context n : ℕ) → PlaceHasSizes parts place → context < context_count parts → place_turns parts place context n ≡ with_thread place context (thread_turns parts (thread_at place context) n)
turns_with parts place context zero sizes exists = sym (with_same place context)
turns_with parts place context (suc n) sizes exists =
    turns_with parts (place_turn parts place context) context n (sizes_stay parts place context sizes) exists
    ∙ ap (λ (t : Thread). with_thread (place_turn parts place context) context (thread_turns parts t n)) (thread_after parts place context sizes exists)
    ∙ ap (λ (p : Place). with_thread p context (thread_turns parts (thread_turn parts (thread_at place context)) n)) (turn_with parts place context)
    ∙ with_with place context (thread_turn parts (thread_at place context)) (thread_turns parts (thread_turn parts (thread_at place context)) n)

-- ---- facts of a thread

pub outcome_in : (parts : Parts) (place : Place) (context : ℕ) → outcome_at parts place context ≡ (effect_in parts (thread_at place context)).outcome
unfolding effect_at
outcome_in parts place context = outcome_is parts place context

pub goes_at : (parts : Parts) (classes : List Class) (place : Place) (context : ℕ) → ThreadGoes parts classes context (thread_at place context) → Goes parts classes place context
goes_at parts classes place context is = record { on = record { ready = is.ready; no_trap = ap traps (outcome_in parts place context) ∙ is.no_trap }; allowed = is.allowed }

module _ (parts : Parts) (classes : List Class) (context : ℕ) (exists : context < context_count parts) where
  pub private_at : (place : Place) → ThreadPrivate parts classes context (thread_at place context) → IsPrivate parts classes place context
  private_at place is = record { goes = goes_at parts classes place context is.goes; alone = is.alone }

  pub forward_at : (place : Place) → PlaceHasSizes parts place → ThreadPrivate parts classes context (thread_at place context) → IsForward parts place context
  forward_at place sizes is = subst (λ (t : Thread). to_go t.context < to_go (context_at place.flat context)) (sym (thread_after parts place context sizes exists)) is.forward

  pub privates_at : (place : Place) (n : ℕ) → PlaceHasSizes parts place → ArePrivate parts classes context (thread_at place context) n → PrivateTurns parts classes place context n
  privates_at place zero sizes are = tt
  privates_at place (suc n) sizes are = (
    private_at place are.0,
    forward_at place sizes are.0,
    privates_at (place_turn parts place context) n (sizes_stay parts place context sizes) (subst (λ (t : Thread). ArePrivate parts classes context t n) (sym (thread_after parts place context sizes exists)) are.1),
  )

-- ---- private turns as a run

pub private_run : (parts : Parts) (classes : List Class) (place : Place) (context n : ℕ) → PrivateTurns parts classes place context n → IsRun parts place (replicate n context)
private_run parts classes place context zero are = tt
private_run parts classes place context (suc n) are = (are.0.goes.on, private_run parts classes (place_turn parts place context) context n are.2)

pub turns_after : (parts : Parts) (place : Place) (context n : ℕ) → places_after parts place (replicate n context) ≡ place_turns parts place context n
turns_after parts place context zero = refl
turns_after parts place context (suc n) = turns_after parts (place_turn parts place context) context n
