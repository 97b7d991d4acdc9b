-- What a drawn number picks while no end holds.
use Rattle.std.proofs.Common.{◌≡◌, ℕ, zero, suc, ◌≤◌, Bool, true, false, cond, ◌&&◌, None, Some, List, [], ◌∷◌, filter, slice_get, length, refl, subst, ◌%◌, arith}
use Rattle.std.specs.List.{list_any}
use Rattle.alw_msg.specs.declared.events.Event.{Event}
use Rattle.alw_model.specs.Machine.{MachineState, Trapped, Halted, Limit, any_trapped, has_halted, is_settled, goes_on, main_events}
use Rattle.alw_mesh.specs.Histories.{History, state_of, may_be_next}
use Rattle.alw_mesh.specs.Ends.{next_events}
use Rattle.alw_sched.specs.Schedules.{end_in, picked, is_evicted, asked_eviction}

-- a list with a member that passes a test keeps one
some_kept : (test : Event → Bool) (xs : List Event) → list_any test xs ≡ true → 1 ≤ length (filter test xs)
some_kept test [] any = absurd (cc)
some_kept test (x ∷ xs) any = by_test (test x) refl any (some_kept test xs)
  where
    by_test : (b : Bool) → test x ≡ b → list_any test (x ∷ xs) ≡ true → (list_any test xs ≡ true → 1 ≤ length (filter test xs)) → 1 ≤ length (cond b (x ∷ filter test xs) (filter test xs))
    by_test true is any more = omega arith
    by_test false is any more = more (rw is at any)

-- while no end holds a main event may be next
pub some_event : (h : History) → end_in h ≡ None → 1 ≤ length (next_events h)
some_event h going = some_kept (may_be_next h) (main_events h.image) (by_end (any_trapped s) (has_halted s && is_settled s) (goes_on h.image h.parameters s) going)
  where
    s : MachineState
    s = state_of h

    by_end : (trapped halted goes : Bool) → cond trapped (Some Trapped) (cond halted (Some Halted) (cond goes None (Some Limit))) ≡ None → goes ≡ true
    by_end true halted goes none = absurd (cc)
    by_end false true goes none = absurd (cc)
    by_end false false true none = refl
    by_end false false false none = absurd (cc)

-- what is picked may be next
kept_passes : (test : Event → Bool) (xs : List Event) (k : ℕ) (event : Event) → slice_get (filter test xs) k ≡ Some event → test event ≡ true
kept_passes test [] k event got = absurd (cc)
kept_passes test (x ∷ xs) k event got = by_test (test x) refl got (λ j. kept_passes test xs j event)
  where
    by_test : (b : Bool) → test x ≡ b → slice_get (cond b (x ∷ filter test xs) (filter test xs)) k ≡ Some event → ((j : ℕ) → slice_get (filter test xs) j ≡ Some event → test event ≡ true) → test event ≡ true
    by_test true is got more = at_place k got more
      where
        at_place : (k : ℕ) → slice_get (x ∷ filter test xs) k ≡ Some event → ((j : ℕ) → slice_get (filter test xs) j ≡ Some event → test event ≡ true) → test event ≡ true
        at_place zero got more = let same : x ≡ event = cc in subst (λ (e : Event). test e ≡ true) same is
        at_place (suc j) got more = more j got
    by_test false is got more = more k got

pub picked_may : (h : History) (number : ℕ) (event : Event) → picked h number ≡ Some event → may_be_next h event ≡ true
picked_may h number event pick = by_test (is_evicted h number) refl pick
  where
    may_of : (a b c : Bool) → (a && (b && c)) ≡ true → c ≡ true
    may_of true true c is = is
    may_of true false c is = absurd (cc)
    may_of false b c is = absurd (cc)

    by_test : (b : Bool) → is_evicted h number ≡ b → cond b (Some (asked_eviction h number)) (slice_get (next_events h) (number % length (next_events h))) ≡ Some event → may_be_next h event ≡ true
    by_test true is pick = let same : asked_eviction h number ≡ event = cc in subst (λ (e : Event). may_be_next h e ≡ true) same (may_of _ _ _ is)
    by_test false is pick = kept_passes (may_be_next h) (main_events h.image) (number % length (next_events h)) event pick
