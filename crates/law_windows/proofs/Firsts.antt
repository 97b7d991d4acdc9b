-- Where an event is due there is a first one: of all, and at its node.
use Rattle.std.proofs.Common.{◌≡◌, ℕ, ◌≤◌, ◌==◌, Bool, true, false, List, [], ◌∷◌, filter, ◌⊎◌, inl, inr, refl, sym, subst, ◌∙◌, arith}
use Rattle.std.proofs.lemmas.Bool.{eqb-true, eq-eqb}
use Rattle.alw_msg.specs.declared.events.Event.{Event}
use Rattle.alw_msg.specs.Events.{node_of, is_evict}
use Rattle.alw_mesh.specs.Histories.{History}
use Rattle.alw_mesh.specs.Ends.{next_events}
use Rattle.alw_times.specs.declared.costs.Costs.{Costs}
use Rattle.alw_due.specs.Due.{times_in, is_due_for, due_events, rank_of, arrived_at, sender_of, is_before, IsFirstDue}
use Rattle.alw_due.proofs.Before.{before_trans, before_or_same, first_le}
use Rattle.alw_due.proofs.Best.{same_event}
use Rattle.alw_due.proofs.Mains.{in_next}
use Rattle.alw_due.proofs.Members.{IsIn, in_head, in_behind, in_cases, kept, of_kept, next_may, next_main}
use Rattle.law_windows.specs.Windows.{start_next, key_next, IsDueAt, NothingIsLeft}

module _ (h : History) (costs : Costs) where
  abbrev key : Event → List ℕ
  key event = key_next h costs event

  -- an event is another one, or comes before it
  abbrev pub NotAfter : Event → Event → Type 0
  NotAfter event other = (other ≡ event) ⊎ (is_before (key_next h costs event) (key_next h costs other) ≡ true)

  pub starts_no_later : (event other : Event) → NotAfter event other → start_next h costs event ≤ start_next h costs other
  starts_no_later event other (inl same) = subst (λ (e : Event). start_next h costs event ≤ start_next h costs e) (sym same) (omega arith)
  starts_no_later event other (inr lt) = first_le (start_next h costs event) (start_next h costs other) (rest event) (rest other) lt
    where
      rest : Event → List ℕ
      rest e = node_of e ∷ rank_of e ∷ arrived_at h.image (times_in h costs) e ∷ sender_of e ∷ []

  pub not_after_then : (event other third : Event) → is_before (key_next h costs event) (key_next h costs other) ≡ true → NotAfter other third → is_before (key_next h costs event) (key_next h costs third) ≡ true
  not_after_then event other third lt (inl same) = subst (λ (e : Event). is_before (key event) (key e) ≡ true) (sym same) lt
  not_after_then event other third lt (inr more) = before_trans (key event) (key other) (key third) lt more

  -- ---- the first of a list

  record Least (xs : List Event) : Type 0 where
    event : Event
    within : IsIn xs event
    first : (other : Event) → IsIn xs other → NotAfter event other

  least_or : (x y : Event) (ys : List Event) → is_evict x ≡ false → Least (y ∷ ys) → ((e : Event) → IsIn (y ∷ ys) e → is_evict e ≡ false) → Least (x ∷ y ∷ ys)
  least_or x y ys main least mains = go (is_before (key least.event) (key x)) refl
    where
      e : Event
      e = least.event

      x_first : is_before (key x) (key least.event) ≡ true → (other : Event) → (other ≡ x) ⊎ IsIn (y ∷ ys) other → NotAfter x other
      x_first lt other (inl same) = inl same
      x_first lt other (inr rest) = inr (not_after_then x least.event other lt (least.first other rest))

      e_first : is_before (key least.event) (key x) ≡ true → (other : Event) → (other ≡ x) ⊎ IsIn (y ∷ ys) other → NotAfter least.event other
      e_first lt other (inl same) = inr (subst (λ (f : Event). is_before (key least.event) (key f) ≡ true) (sym same) lt)
      e_first lt other (inr rest) = least.first other rest

      by_order : (key least.event ≡ key x) ⊎ (is_before (key x) (key least.event) ≡ true) → Least (x ∷ y ∷ ys)
      by_order (inl same) =
          let one = same_event h costs (times_in h costs) least.event x (mains least.event least.within) main same in
          record { event = least.event; within = in_behind x (y ∷ ys) least.event least.within; first = λ other is. by_cases one other (in_cases x (y ∷ ys) other is) }
        where
          by_cases : least.event ≡ x → (other : Event) → (other ≡ x) ⊎ IsIn (y ∷ ys) other → NotAfter least.event other
          by_cases one other (inl is) = inl (is ∙ sym one)
          by_cases one other (inr rest) = least.first other rest
      by_order (inr lt) = record { event = x; within = in_head x (y ∷ ys) x refl; first = λ other is. x_first lt other (in_cases x (y ∷ ys) other is) }

      go : (t : Bool) → is_before (key least.event) (key x) ≡ t → Least (x ∷ y ∷ ys)
      go true lt = record { event = least.event; within = in_behind x (y ∷ ys) least.event least.within; first = λ other is. e_first lt other (in_cases x (y ∷ ys) other is) }
      go false none = by_order (before_or_same (key x) (key least.event) refl none)

  least_of : (x : Event) (xs : List Event) → ((e : Event) → IsIn (x ∷ xs) e → is_evict e ≡ false) → Least (x ∷ xs)
  least_of x [] mains = record { event = x; within = in_head x [] x refl; first = λ other is. by_cases other (in_cases x [] other is) }
    where
      by_cases : (other : Event) → (other ≡ x) ⊎ IsIn [] other → NotAfter x other
      by_cases other (inl same) = inl same
      by_cases other (inr rest) = absurd (let got = rest.stands in cc)
  least_of x (y ∷ ys) mains =
      let more = λ (e : Event) (is : IsIn (y ∷ ys) e). mains e (in_behind x (y ∷ ys) e is) in
      least_or x y ys (mains x (in_head x (y ∷ ys) x refl)) (least_of y ys more) more

  least_with : (xs : List Event) (x : Event) → IsIn xs x → ((e : Event) → IsIn xs e → is_evict e ≡ false) → Least xs
  least_with [] x is mains = absurd (let got = is.stands in cc)
  least_with (y ∷ ys) x is mains = least_of y ys mains

  -- ---- the first that is due

  due_in : (n : ℕ) (event : Event) → IsDueAt h costs n event → IsIn (due_events h costs (times_in h costs)) event
  due_in n event is = kept (is_due_for h costs (times_in h costs)) (next_events h) event (in_next h event is.main is.may) is.due

  due_there : (event : Event) → IsIn (due_events h costs (times_in h costs)) event → IsDueAt h costs (node_of event) event
  due_there event is =
      let both = of_kept (is_due_for h costs (times_in h costs)) (next_events h) event is in
      record { node = refl; main = next_main h event both.0; may = next_may h event both.0; due = both.1 }

  -- an event that comes before all that are due is the first of them
  pub is_first_due : (n : ℕ) (event : Event) → IsDueAt h costs n event → ((other : Event) → IsDueAt h costs (node_of other) other → NotAfter event other) → IsFirstDue h costs (times_in h costs) event
  is_first_due n event is first =
      let there = due_in n event is in
      record { place = there.place; stands = there.stands; first = λ k other got. first other (due_there other (record { place = k; stands = got })) }

  -- where the first of all starts no sooner than a time none does
  pub nothing_before : (from : ℕ) → ((event : Event) → IsFirstDue h costs (times_in h costs) event → from ≤ start_next h costs event) → NothingIsLeft h costs from
  nothing_before from first n event is =
      let least = least_with (due_events h costs (times_in h costs)) event (due_in n event is) (λ e within. (due_there e within).main) in
      let late = first least.event (record { place = least.within.place; stands = least.within.stands; first = λ k other got. least.first other (record { place = k; stands = got }) }) in
      let le = starts_no_later least.event event (least.first event (due_in n event is)) in
      omega (arith, late, le)

  -- the first at a node
  pub record IsFirstAt (n : ℕ) : Type 0 where
    pub event : Event
    pub due : IsDueAt h costs n event
    pub first : (other : Event) → IsDueAt h costs n other → NotAfter event other

  pub first_at : (n : ℕ) (event : Event) → IsDueAt h costs n event → IsFirstAt n
  first_at n event is =
      let least = least_with own event (own_in event is) (λ e within. (own_there e within).main) in
      record { event = least.event; due = own_there least.event least.within; first = λ other also. least.first other (own_in other also) }
    where
      own : List Event
      own = filter (λ (e : Event). node_of e == n) (due_events h costs (times_in h costs))

      own_in : (e : Event) → IsDueAt h costs n e → IsIn (filter (λ (e : Event). node_of e == n) (due_events h costs (times_in h costs))) e
      own_in e due = kept (λ (e : Event). node_of e == n) (due_events h costs (times_in h costs)) e (due_in n e due) (eq-eqb (node_of e) n due.node)

      own_there : (e : Event) → IsIn (filter (λ (e : Event). node_of e == n) (due_events h costs (times_in h costs))) e → IsDueAt h costs n e
      own_there e within =
          let both = of_kept (λ (e : Event). node_of e == n) (due_events h costs (times_in h costs)) e within in
          let due = due_there e both.0 in
          record { node = eqb-true (node_of e) n both.1; main = due.main; may = due.may; due = due.due }
