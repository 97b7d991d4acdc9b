-- Members of lists: the main events that may be next, and those of them that are due.
use Rattle.std.proofs.Common.{◌≡◌, ℕ, zero, suc, ◌≤◌, Bool, true, false, cond, Some, List, [], ◌∷◌, filter, slice_get, length, ◌⊎◌, inl, inr, refl, sym, ap, subst, arith}
use Rattle.alw_msg.specs.declared.events.Event.{Event}
use Rattle.alw_msg.specs.Events.{is_evict}
use Rattle.alw_model.specs.Machine.{main_events}
use Rattle.alw_mesh.specs.Histories.{History, may_be_next}
use Rattle.alw_mesh.specs.Ends.{next_events}
use Rattle.alw_sched.proofs.Seeded.{main_at}
use Rattle.std.proofs.lemmas.Option.{same_Some}

pub record IsIn (xs : List Event) (x : Event) : Type 0 where
  pub place : ℕ
  pub stands : slice_get xs place ≡ Some x

none_in : (x : Event) → IsIn [] x → ⊥
none_in x within = absurd (cc)

pub in_behind : (y : Event) (xs : List Event) (x : Event) → IsIn xs x → IsIn (y ∷ xs) x
in_behind y xs x within = record { place = suc within.place; stands = within.stands }

pub in_head : (y : Event) (xs : List Event) (x : Event) → x ≡ y → IsIn (y ∷ xs) x
in_head y xs x same = record { place = 0; stands = ap Some (sym same) }

pub in_cases : (y : Event) (xs : List Event) (x : Event) → IsIn (y ∷ xs) x → (x ≡ y) ⊎ IsIn xs x
in_cases y xs x within = by_place within.place within.stands
  where
    by_place : (k : ℕ) → slice_get (y ∷ xs) k ≡ Some x → (x ≡ y) ⊎ IsIn xs x
    by_place zero got = inl (sym (same_Some y x got))
    by_place (suc k) got = inr (record { place = k; stands = got })

module _ (test : Event → Bool) where
  -- what a filter keeps
  pub kept : (xs : List Event) (x : Event) → IsIn xs x → test x ≡ true → IsIn (filter test xs) x
  kept [] x within passes = absurd (none_in x within)
  kept (y ∷ xs) x within passes = by_test (test y) refl (in_cases y xs x within) (λ more. kept xs x more passes)
    where
      by_test : (b : Bool) → test y ≡ b → (x ≡ y) ⊎ IsIn xs x → (IsIn xs x → IsIn (filter test xs) x) → IsIn (cond b (y ∷ filter test xs) (filter test xs)) x
      by_test true is (inl same) more = in_head y (filter test xs) x same
      by_test true is (inr rest) more = in_behind y (filter test xs) x (more rest)
      by_test false is (inl same) more = let passes_too : test y ≡ true = subst (λ (e : Event). test e ≡ true) same passes in absurd (cc)
      by_test false is (inr rest) more = more rest

  pub of_kept : (xs : List Event) (x : Event) → IsIn (filter test xs) x → IsIn xs x × (test x ≡ true)
  of_kept [] x within = absurd (none_in x within)
  of_kept (y ∷ xs) x within = by_test (test y) refl within (of_kept xs x)
    where
      by_test : (b : Bool) → test y ≡ b → IsIn (cond b (y ∷ filter test xs) (filter test xs)) x → (IsIn (filter test xs) x → IsIn xs x × (test x ≡ true)) → IsIn (y ∷ xs) x × (test x ≡ true)
      by_test true is within more = by_cases (in_cases y (filter test xs) x within)
        where
          by_cases : (x ≡ y) ⊎ IsIn (filter test xs) x → IsIn (y ∷ xs) x × (test x ≡ true)
          by_cases (inl same) = (in_head y xs x same, subst (λ (e : Event). test e ≡ true) (sym same) is)
          by_cases (inr rest) = let there = more rest in (in_behind y xs x there.0, there.1)
      by_test false is within more = let there = more within in (in_behind y xs x there.0, there.1)

-- a list that isn't empty has a member
pub some_in : (xs : List Event) → 1 ≤ length xs → (x : Event) × IsIn xs x
some_in [] some = absurd (omega (arith, some))
some_in (x ∷ xs) some = (x, in_head x xs x refl)

-- an event that may be next is enabled and no eviction
pub next_may : (h : History) (event : Event) → IsIn (next_events h) event → may_be_next h event ≡ true
next_may h event within = (of_kept (may_be_next h) (main_events h.image) event within).1

pub next_main : (h : History) (event : Event) → IsIn (next_events h) event → is_evict event ≡ false
next_main h event within = main_at h within.place event within.stands
