-- The first of some events that are due: of two sets together it is the earlier of both.
use Rattle.std.proofs.Common.{◌≡◌, ℕ, zero, suc, Bool, true, false, cond, Some, None, Option, List, [], ◌∷◌, ◌⊎◌, inl, inr, refl, sym, ap, subst, ◌∙◌}
use Rattle.alw_num.specs.declared.addresses.NodeNo.{NodeNo}
use Rattle.alw_msg.specs.declared.events.Event.{Event}
use Rattle.alw_msg.specs.declared.events.Event.TheVariants.{Instr, Handle, Deliver, Evict}
use Rattle.alw_msg.specs.Events.{node_of, is_evict}
use Rattle.alw_mesh.specs.Histories.{History, may_be_next}
use Rattle.alw_times.specs.declared.costs.Costs.{Costs}
use Rattle.alw_times.specs.Times.{Times}
use Rattle.alw_due.specs.declared.keys.Due.{Due}
use Rattle.alw_due.specs.Due.{is_due_for, rank_of, sender_of, key_for, is_before}
use Rattle.alw_due.specs.Picks.{numbers_of, earlier, IsKeyOf, HasKey, IsFirstOf, IsBestOf}
use Rattle.alw_due.specs.Bests.{IsEvent}
use Rattle.alw_due.proofs.Before.{before_trans, before_or_same}

-- ---- node, rank and sender decide which main event it is

node_is : (a b : NodeNo) → a.0 ≡ b.0 → a ≡ b
node_is a b same = λ i. record { 0 = same i }

-- the member of a list at a place
abbrev number_at : List ℕ → ℕ → ℕ
number_at [] k = 0
number_at (x ∷ xs) zero = x
number_at (x ∷ xs) (suc k) = number_at xs k

pub one_key : (one other : Event) → is_evict one ≡ false → is_evict other ≡ false → node_of one ≡ node_of other → rank_of one ≡ rank_of other → sender_of one ≡ sender_of other → one ≡ other
one_key (Instr a) (Instr b) main also node rank sender = ap Instr (node_is a b node)
one_key (Instr a) (Handle b) main also node rank sender = absurd (cc)
one_key (Instr a) (Deliver from b) main also node rank sender = absurd (cc)
one_key (Instr a) (Evict b set) main also node rank sender = absurd (cc)
one_key (Handle a) (Instr b) main also node rank sender = absurd (cc)
one_key (Handle a) (Handle b) main also node rank sender = ap Handle (node_is a b node)
one_key (Handle a) (Deliver from b) main also node rank sender = absurd (cc)
one_key (Handle a) (Evict b set) main also node rank sender = absurd (cc)
one_key (Deliver from a) (Instr b) main also node rank sender = absurd (cc)
one_key (Deliver from a) (Handle b) main also node rank sender = absurd (cc)
one_key (Deliver from a) (Deliver other b) main also node rank sender = λ i. Deliver (node_is from other sender i) (node_is a b node i)
one_key (Deliver from a) (Evict b set) main also node rank sender = absurd (cc)
one_key (Evict a set) other main also node rank sender = absurd (cc)

module _ (h : History) (costs : Costs) (times : Times) where
  abbrev key : Event → List ℕ
  key event = key_for h costs times event

  pub same_event : (one other : Event) → is_evict one ≡ false → is_evict other ≡ false → key one ≡ key other → one ≡ other
  same_event one other main also same = one_key one other main also (ap (λ ns. number_at ns 1) same) (ap (λ ns. number_at ns 2) same) (ap (λ ns. number_at ns 4) same)

  -- ---- a set of events

  -- an event that stands in front of the first of others does so of each of them
  pub in_front : (one two : Due) (other : Event) → is_before (key one.event) (key two.event) ≡ true → IsFirstOf h costs times (Some two) other → IsFirstOf h costs times (Some one) other
  in_front one two other lt (inl same) = inr (subst (λ (e : Event). is_before (key one.event) (key e) ≡ true) (sym same) lt)
  in_front one two other lt (inr more) = inr (before_trans (key one.event) (key two.event) (key other) lt more)

  -- the same where it isn't behind it
  not_behind : (one two : Due) (other : Event) → is_evict one.event ≡ false → is_evict two.event ≡ false → is_before (key two.event) (key one.event) ≡ false →
      IsFirstOf h costs times (Some two) other → IsFirstOf h costs times (Some one) other
  not_behind one two other main also none first = by_order (before_or_same (key one.event) (key two.event) refl none)
    where
      by_order : (key two.event ≡ key one.event) ⊎ (is_before (key one.event) (key two.event) ≡ true) → IsFirstOf h costs times (Some one) other
      by_order (inl same) = subst (λ (e : Event). (other ≡ e) ⊎ (is_before (key e) (key other) ≡ true)) (same_event two.event one.event also main same) first
      by_order (inr lt) = in_front one two other lt first

  -- no event
  pub of_none : (In : Event → Type 0) → ((other : Event) → In other → ⊥) → IsBestOf h costs times In None
  of_none In none = record {
    one = tt;
    first = λ other within is. absurd (none other within);
  }

  -- one event alone, where it may be next
  none_is : (event other : Event) → may_be_next h event ≡ false → IsEvent h event other → ⊥
  none_is event other isnt of = let may : may_be_next h event ≡ true = ap (may_be_next h) (sym of.0) ∙ of.1 in absurd (cc)

  pub none_may : (event : Event) → may_be_next h event ≡ false → IsBestOf h costs times (IsEvent h event) None
  none_may event isnt = of_none (IsEvent h event) (λ other of. none_is event other isnt of)

  pub none_due : (event : Event) → is_due_for h costs times event ≡ false → IsBestOf h costs times (IsEvent h event) None
  none_due event isnt = record {
    one = tt;
    first = λ other of is. let due : is_due_for h costs times event ≡ true = ap (is_due_for h costs times) (sym of.0) ∙ is in absurd (cc);
  }

  pub has_key : (event : Event) (due : Due) → IsKeyOf h costs times event due → is_due_for h costs times event ≡ true → HasKey h costs times due
  has_key event due is due_is = record {
    due_is = ap (is_due_for h costs times) is.event_is ∙ due_is;
    key_is = is.key_is ∙ sym (ap (key_for h costs times) is.event_is);
    early = is.early;
  }

  pub of_event : (event : Event) (due : Due) → IsKeyOf h costs times event due → is_due_for h costs times event ≡ true → may_be_next h event ≡ true → IsBestOf h costs times (IsEvent h event) (Some due)
  of_event event due is due_is may = record {
    one = (has_key event due is due_is, (is.event_is, ap (may_be_next h) is.event_is ∙ may));
    first = λ other of due_too. inl (of.0 ∙ sym is.event_is);
  }

  -- two sets together
  pub of_both : (A B C : Event → Type 0) (one two : Option Due) → ((e : Event) → C e → is_evict e ≡ false) → ((e : Event) → A e → C e) → ((e : Event) → B e → C e) →
      ((e : Event) → C e → A e ⊎ B e) → IsBestOf h costs times A one → IsBestOf h costs times B two → IsBestOf h costs times C (earlier one two)
  of_both A B C None None main left right apart a b = record {
    one = tt;
    first = λ other within is. by_side other is (apart other within);
  }
    where
      by_side : (other : Event) → is_due_for h costs times other ≡ true → A other ⊎ B other → ⊥
      by_side other is (inl here) = a.first other here is
      by_side other is (inr there) = b.first other there is
  of_both A B C None (Some two) main left right apart a b = record {
    one = (b.one.0, right two.event b.one.1);
    first = λ other within is. by_side other is (apart other within);
  }
    where
      by_side : (other : Event) → is_due_for h costs times other ≡ true → A other ⊎ B other → IsFirstOf h costs times (Some two) other
      by_side other is (inl here) = absurd (a.first other here is)
      by_side other is (inr there) = b.first other there is
  of_both A B C (Some one) None main left right apart a b = record {
    one = (a.one.0, left one.event a.one.1);
    first = λ other within is. by_side other is (apart other within);
  }
    where
      by_side : (other : Event) → is_due_for h costs times other ≡ true → A other ⊎ B other → IsFirstOf h costs times (Some one) other
      by_side other is (inl here) = a.first other here is
      by_side other is (inr there) = absurd (b.first other there is)
  of_both A B C (Some one) (Some two) main left right apart a b =
      by_test (is_before (numbers_of two) (numbers_of one)) (sym (λ i. is_before (b.one.0.key_is i) (a.one.0.key_is i)))
    where
      main_one : is_evict one.event ≡ false
      main_one = main one.event (left one.event a.one.1)

      main_two : is_evict two.event ≡ false
      main_two = main two.event (right two.event b.one.1)

      by_test : (t : Bool) → is_before (key two.event) (key one.event) ≡ t → IsBestOf h costs times C (cond t (Some two) (Some one))
      by_test true lt = record {
        one = (b.one.0, right two.event b.one.1);
        first = λ other within is. by_side other is (apart other within);
      }
        where
          by_side : (other : Event) → is_due_for h costs times other ≡ true → A other ⊎ B other → IsFirstOf h costs times (Some two) other
          by_side other is (inl here) = in_front two one other lt (a.first other here is)
          by_side other is (inr there) = b.first other there is
      by_test false none = record {
        one = (a.one.0, left one.event a.one.1);
        first = λ other within is. by_side other is (apart other within);
      }
        where
          by_side : (other : Event) → is_due_for h costs times other ≡ true → A other ⊎ B other → IsFirstOf h costs times (Some one) other
          by_side other is (inl here) = a.first other here is
          by_side other is (inr there) = not_behind one two other main_one main_two none (b.first other there is)
