-- What is kept with its starts, and the first of all that is kept.
use Rattle.std.proofs.Common.{◌≡◌, ℕ, zero, suc, ◌^◌, ◌-◌, ◌<◌, ◌≤◌, true, false, Option, Some, None, List, [], ◌∷◌, map, length, replicate, slice_index, slice_set, ◌⊎◌, inl, inr, refl, sym, ap, subst, ◌∙◌, arith}
use Rattle.std.proofs.lemmas.List.{get_or-set_same, get_or-set_other, get_or_past, length-set, length-map, length-replicate}
use Rattle.std.proofs.lemmas.Bool.{cases_lt}
use Rattle.alw_num.proofs.Weigh.{cases_lt_then}
use Rattle.alw_least.specs.Leasts.{IsFirstLeast}
use Rattle.alw_msg.specs.declared.events.Event.{Event}
use Rattle.alw_msg.specs.Events.{node_of, is_evict}
use Rattle.alw_image.specs.Images.{node_count}
use Rattle.alw_mesh.specs.Histories.{History, may_be_next}
use Rattle.alw_mesh.specs.Ends.{next_events}
use Rattle.alw_times.specs.declared.costs.Costs.{Costs}
use Rattle.alw_times.specs.Times.{Times}
use Rattle.alw_due.specs.declared.keys.Due.{Due}
use Rattle.alw_due.specs.Due.{end_in, is_due_for, key_for, is_before, IsFirstDue}
use Rattle.alw_due.specs.Picks.{numbers_of, HasKey, IsFirstOf, IsBestOf}
use Rattle.alw_due.specs.Bests.{IsOf, best_at, start_kept, AreKept, IsFirstKept, IsPut, AreBests}
use Rattle.alw_due.proofs.Before.{heads_less, heads_same}
use Rattle.alw_due.proofs.Best.{in_front}
use Rattle.alw_due.proofs.Members.{IsIn, next_may, next_main}
use Rattle.alw_due.proofs.Mains.{here, in_next}
use Rattle.alw_due.proofs.Coming.{first_is, never_none}

some_is : (a b : Due) → Some a ≡ Some b → a ≡ b
some_is a b same = cc

-- ---- starts beside what is kept

start_at : (bests : List (Option Due)) (n : ℕ) → n < length bests → slice_index (map start_kept bests) n ≡ start_kept (best_at bests n)
start_at [] n within = absurd (omega (arith, within))
start_at (best ∷ rest) zero within = refl
start_at (best ∷ rest) (suc n) within = start_at rest n (omega (arith, within))

starts_set : (bests : List (Option Due)) (n : ℕ) (best : Option Due) → slice_set (map start_kept bests) n (start_kept best) ≡ map start_kept (slice_set bests n best)
starts_set [] n best = refl
starts_set (old ∷ rest) zero best = refl
starts_set (old ∷ rest) (suc n) best = ap (λ starts. start_kept old ∷ starts) (starts_set rest n best)

starts_none : (count : ℕ) → replicate count (2 ^ 64 - 1) ≡ map start_kept (replicate count None)
starts_none zero = refl
starts_none (suc count) = ap (λ starts. (2 ^ 64 - 1) ∷ starts) (starts_none count)

pub none_kept : (bests : List (Option Due)) (starts : List ℕ) → bests ≡ replicate 256 None → starts ≡ replicate 256 (2 ^ 64 - 1) → AreKept bests starts
none_kept bests starts nothing all = record { counted = ap (λ (all : List (Option Due)). length all) nothing ∙ length-replicate {A = Option Due} 256 None; starts_are = all ∙ (starts_none 256 ∙ ap (map start_kept) (sym nothing)) }

pub put_kept : (bests : List (Option Due)) (starts after : List ℕ) (n start : ℕ) (best : Option Due) → AreKept bests starts → start ≡ start_kept best → after ≡ slice_set starts n start →
    AreKept (slice_set bests n best) after
put_kept bests starts after n start best kept is put = record {
  counted = length-set bests n best ∙ kept.counted;
  starts_are = put ∙ ((λ i. slice_set (kept.starts_are i) n (is i)) ∙ starts_set bests n best);
}

pub is_put : (bests : List (Option Due)) (n : ℕ) (best : Option Due) → n < length bests → IsPut n best bests (slice_set bests n best)
is_put bests n best within = record {
  here = get_or-set_same bests n best None within;
  others = λ m other. get_or-set_other bests n m best None other;
}

-- what stands stands within
within_of : (bests : List (Option Due)) (n : ℕ) (due : Due) → best_at bests n ≡ Some due → n < length bests
within_of bests n due got = cases_lt_then (length bests) n (λ lt. lt) (λ past. let none = get_or_past bests n None past in absurd (cc))

pub first_kept : (bests : List (Option Due)) (starts : List ℕ) (place : ℕ) → AreKept bests starts → IsFirstLeast starts place → IsFirstKept bests (best_at bests place)
first_kept bests starts place kept first = record {
  place = place;
  stands = refl;
  least = λ n other got. let within = within_of bests n other got in
      omega (arith, here, there n within, ap start_kept got, first.least n (omega (arith, long, within)));
  lowest = λ n other lt got. let within = within_of bests n other got in
      omega (arith, here, there n within, ap start_kept got, first.first n lt);
}
  where
    long : length starts ≡ length bests
    long = ap length kept.starts_are ∙ length-map bests start_kept

    there : (n : ℕ) → n < length bests → slice_index starts n ≡ start_kept (best_at bests n)
    there n within = ap (λ (ts : List ℕ). slice_index ts n) kept.starts_are ∙ start_at bests n within

    here : slice_index starts place ≡ start_kept (best_at bests place)
    here = there place (omega (arith, first.within, long))

-- ---- the first of all

module _ (h : History) (costs : Costs) (times : Times) where
  -- a main event that may be next
  abbrev IsMain : Event → Type 0
  IsMain event = (may_be_next h event ≡ true) × (is_evict event ≡ false)

  earlier_start : (one two : Due) → HasKey h costs times one → HasKey h costs times two → one.start < two.start → is_before (key_for h costs times one.event) (key_for h costs times two.event) ≡ true
  earlier_start one two key other lt = sym (λ i. is_before (key.key_is i) (other.key_is i)) ∙ heads_less one.start two.start _ lt

  lower_node : (one two : Due) → HasKey h costs times one → HasKey h costs times two → one.start ≤ two.start → node_of one.event < node_of two.event →
      is_before (key_for h costs times one.event) (key_for h costs times two.event) ≡ true
  lower_node one two key other le lt = sym (λ i. is_before (key.key_is i) (other.key_is i)) ∙ by_start (cases_lt one.start two.start)
    where
      by_start : (one.start < two.start) ⊎ (two.start ≤ one.start) → is_before (numbers_of one) (numbers_of two) ≡ true
      by_start (inl less) = heads_less one.start two.start _ less
      by_start (inr from) = heads_same one.start two.start _ (omega (arith, le, from)) (heads_less (node_of one.event) (node_of two.event) _ lt)

  module _ (bests : List (Option Due)) (are : AreBests h costs times bests) where
    -- what stands at a place is of that node
    of_place : (n : ℕ) (due : Due) → best_at bests n ≡ Some due → HasKey h costs times due × IsOf h n due.event
    of_place n due got = cases_lt_then (node_count h.image) n
        (λ exists. (subst (λ (best : Option Due). IsBestOf h costs times (IsOf h n) best) got (are.each n exists)).one)
        (λ past. let none = are.past n past in absurd (cc))

    -- the first of all comes before what stands for a node, or stands there
    ahead : (due two : Due) (n : ℕ) → IsFirstKept bests (Some due) → best_at bests n ≡ Some two → (two ≡ due) ⊎ (is_before (key_for h costs times due.event) (key_for h costs times two.event) ≡ true)
    ahead due two n first got =
        let one = of_place first.place due (sym first.stands) in
        let other = of_place n two got in
        cases_lt_then first.place n
        (λ lower. inr (earlier_start due two one.0 other.0 (first.lowest n two lower got)))
        (λ from. cases_lt_then n first.place
        (λ higher. inr (lower_node due two one.0 other.0 (first.least n two got) (omega (arith, one.1.2, other.1.2, higher))))
        (λ le. let same : n ≡ first.place = omega (arith, from, le) in inl (some_is two due (sym got ∙ (ap (best_at bests) same ∙ sym first.stands)))))

    -- what stands for the node of an event that is due comes before it, or is it
    at_node : (other : Event) → IsMain other → is_due_for h costs times other ≡ true → (two : Due) × ((best_at bests (node_of other) ≡ Some two) × IsFirstOf h costs times (Some two) other)
    at_node other of due = go (best_at bests (node_of other)) refl ((are.each (node_of other) (here h other of.0)).first other (of.0, of.1, refl) due)
      where
        go : (best : Option Due) → best_at bests (node_of other) ≡ best → IsFirstOf h costs times best other → (two : Due) × ((best_at bests (node_of other) ≡ Some two) × IsFirstOf h costs times (Some two) other)
        go None is never = absurd never
        go (Some two) is first = (two, (is, first))

    kept_best : (first : Option Due) → IsFirstKept bests first → IsBestOf h costs times IsMain first
    kept_best None is = record {
      one = tt;
      first = λ other of due. let there = at_node other of due in
          absurd (omega (arith, is.least (node_of other) there.0 there.1.0, (of_place (node_of other) there.0 there.1.0).0.early));
    }
    kept_best (Some due) is = record {
      one = (let one = of_place is.place due (sym is.stands) in (one.0, (one.1.0, one.1.1)));
      first = λ other of due_too. let there = at_node other of due_too in by_order other there.0 (ahead due there.0 (node_of other) is there.1.0) there.1.1;
    }
      where
        by_order : (other : Event) (two : Due) → (two ≡ due) ⊎ (is_before (key_for h costs times due.event) (key_for h costs times two.event) ≡ true) →
            IsFirstOf h costs times (Some two) other → IsFirstOf h costs times (Some due) other
        by_order other two (inl same) first = subst (λ (d : Due). IsFirstOf h costs times (Some d) other) same first
        by_order other two (inr lt) first = in_front h costs times due two other lt first

    all_main : (event : Event) → IsIn (next_events h) event → IsMain event
    all_main event within = (next_may h event within, next_main h event within)

    pub never : end_in h ≡ None → IsFirstKept bests None → ⊥
    never going first = never_none h costs times IsMain all_main going (kept_best None first)

    pub first_of_all : (due : Due) → IsFirstKept bests (Some due) → IsFirstDue h costs times due.event
    first_of_all due first = first_is h costs times IsMain due (λ event of. in_next h event of.1 of.0) all_main (kept_best (Some due) first)
