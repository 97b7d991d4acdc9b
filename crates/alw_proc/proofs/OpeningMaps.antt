-- What the map of open transactions has, and what a change at one slot does to it.
use Rattle.std.proofs.Common.{◌≡◌, ℕ, zero, suc, ◌+◌, ◌<◌, Bool, true, false, cond, ◌==◌, Option, Some, None, List, [], ◌∷◌, length, slice_set, refl, sym, ap, subst, ◌∙◌, arith}
use Rattle.std.proofs.lemmas.Bool.{true≢false, eqb-true, eq-eqb}
use Rattle.std.proofs.lemmas.Bool.Decides.{nat_tests}
use Rattle.std.specs.Option.{option_map}
use Rattle.alw_num.specs.Maps.{passes, value_at, with_value, without_value}
use Rattle.alw_num.proofs.MapLaws.{value-empty, value-with, value-without, same_maps}
use Rattle.alw_model.specs.Caches.{Transaction}
use Rattle.alw_proc.specs.declared.openings.Opening.{Opening}
use Rattle.alw_proc.specs.Openings.{transaction_of, opener_of, map_from, first_of, is_of, HasNoOpening, OpeningsAreSingle, opened_at, OpeningIsNotOf}

-- the map has the first transaction on a line
pub value_from : (slots : List (Option Opening)) (slot line : ℕ) → value_at (map_from slot slots) line ≡ first_of slot slots line
value_from [] slot line = value-empty line
value_from (None ∷ rest) slot line = value_from rest (slot + 1) line
value_from (Some opening ∷ rest) slot line =
    value-with (map_from (slot + 1) rest) opening.line.0 (transaction_of slot opening) line ∙ grind (arith, nat_tests, value_from rest (slot + 1) line)

-- where no slot has one on a line, there is no first
pub first_none : (slots : List (Option Opening)) (slot line : ℕ) → HasNoOpening slots line → first_of slot slots line ≡ None
first_none [] slot line none = refl
first_none (None ∷ rest) slot line none = first_none rest (slot + 1) line none.1
first_none (Some opening ∷ rest) slot line none = rw none.0 (first_none rest (slot + 1) line none.1)

-- and the converse
pub none_first : (slots : List (Option Opening)) (slot line : ℕ) → first_of slot slots line ≡ None → HasNoOpening slots line
none_first [] slot line none = tt
none_first (None ∷ rest) slot line none = (refl, none_first rest (slot + 1) line none)
none_first (Some opening ∷ rest) slot line none = go (opening.line.0 == line) refl none (none_first rest (slot + 1) line)
  where
    go : (b : Bool) → (opening.line.0 == line) ≡ b → cond b (Some (transaction_of slot opening)) (first_of (slot + 1) rest line) ≡ None → (first_of (slot + 1) rest line ≡ None → HasNoOpening rest line) → (passes (is_of line) (Some opening) ≡ false) × HasNoOpening rest line
    go true e n next = absurd (cc)
    go false e n next = (e, next n)

has_none-at : (slots : List (Option Opening)) (k line : ℕ) → HasNoOpening slots line → passes (is_of line) (opened_at slots k) ≡ false
has_none-at [] k line none = refl
has_none-at (first ∷ rest) zero line none = none.0
has_none-at (first ∷ rest) (suc k) line none = has_none-at rest k line none.1

-- what a slot has opened is the first on its line
pub first_at : (slots : List (Option Opening)) (slot k line : ℕ) (opening : Opening) → OpeningsAreSingle slots → opened_at slots k ≡ Some opening → (opening.line.0 == line) ≡ true → first_of slot slots line ≡ Some (transaction_of (slot + k) opening)
first_at [] slot k line opening single at of = absurd (cc)
first_at (None ∷ rest) slot zero line opening single at of = absurd (cc)
first_at (Some first ∷ rest) slot zero line opening single at of =
    let same : first ≡ opening = cc in let here : slot + 0 ≡ slot = omega arith in rw (same, of, here) refl
first_at (None ∷ rest) slot (suc k) line opening single at of =
    let next = first_at rest (slot + 1) k line opening single.1 at of in let here : slot + 1 + k ≡ slot + suc k = omega arith in rw (← here) next
first_at (Some first ∷ rest) slot (suc k) line opening single at of =
    let next = first_at rest (slot + 1) k line opening single.1 at of in
    let here : slot + 1 + k ≡ slot + suc k = omega arith in
    go (first.line.0 == line) refl (rw (← here) next)
  where
    go : (b : Bool) → (first.line.0 == line) ≡ b → first_of (slot + 1) rest line ≡ Some (transaction_of (slot + suc k) opening)
        → cond b (Some (transaction_of slot first)) (first_of (slot + 1) rest line) ≡ Some (transaction_of (slot + suc k) opening)
    go true e next =
        let other = has_none-at rest k first.line.0 single.0 in
        let same : first.line.0 ≡ line = eqb-true _ _ e in
        absurd (true≢false (sym of ∙ (ap (λ n. opening.line.0 == n) (sym same) ∙ (ap (passes (is_of first.line.0)) (sym at) ∙ other))))
    go false e next = next

-- ---- a slot opens a transaction

first_opened : (slots : List (Option Opening)) (slot k line : ℕ) (opening : Opening) → k < length slots → opened_at slots k ≡ None → first_of slot slots opening.line.0 ≡ None
    → first_of slot (slice_set slots k (Some opening)) line ≡ cond (line == opening.line.0) (Some (transaction_of (slot + k) opening)) (first_of slot slots line)
first_opened [] slot k line opening l at none = absurd (omega arith)
first_opened (None ∷ rest) slot zero line opening l at none = let here : slot + 0 ≡ slot = omega arith in rw here (grind (arith, nat_tests))
first_opened (Some first ∷ rest) slot zero line opening l at none = absurd (cc)
first_opened (None ∷ rest) slot (suc k) line opening l at none =
    let here : slot + 1 + k ≡ slot + suc k = omega arith in rw (← here) (first_opened rest (slot + 1) k line opening (omega arith) at none)
first_opened (Some first ∷ rest) slot (suc k) line opening l at none =
    let here : slot + 1 + k ≡ slot + suc k = omega arith in rw (← here) (grind (arith, nat_tests, first_opened rest (slot + 1) k line opening))

has_none-opened : (slots : List (Option Opening)) (k line : ℕ) (o : Option Opening) → HasNoOpening slots line → passes (is_of line) o ≡ false → HasNoOpening (slice_set slots k o) line
has_none-opened [] k line o none other = tt
has_none-opened (first ∷ rest) zero line o none other = (other, none.1)
has_none-opened (first ∷ rest) (suc k) line o none other = (none.0, has_none-opened rest k line o none.1 other)

single_opened : (slots : List (Option Opening)) (k : ℕ) (opening : Opening) → OpeningsAreSingle slots → HasNoOpening slots opening.line.0 → OpeningsAreSingle (slice_set slots k (Some opening))
single_opened [] k opening single none = tt
single_opened (first ∷ rest) zero opening single none = (none.1, single.1)
single_opened (None ∷ rest) (suc k) opening single none = (tt, single_opened rest k opening single.1 none.1)
single_opened (Some first ∷ rest) (suc k) opening single none =
    (has_none-opened rest k first.line.0 (Some opening) single.0 (grind (arith, nat_tests)), single_opened rest k opening single.1 none.1)

-- ---- a slot's transaction ends

first_ended : (slots : List (Option Opening)) (slot k line : ℕ) (opening : Opening) → OpeningsAreSingle slots → opened_at slots k ≡ Some opening
    → first_of slot (slice_set slots k None) line ≡ cond (line == opening.line.0) None (first_of slot slots line)
first_ended [] slot k line opening single at = absurd (cc)
first_ended (None ∷ rest) slot zero line opening single at = absurd (cc)
first_ended (Some first ∷ rest) slot zero line opening single at =
    let same : first ≡ opening = cc in grind (arith, nat_tests, first_none rest (slot + 1) first.line.0 single.0)
first_ended (None ∷ rest) slot (suc k) line opening single at = first_ended rest (slot + 1) k line opening single.1 at
first_ended (Some first ∷ rest) slot (suc k) line opening single at =
    let other = has_none-at rest k first.line.0 single.0 in
    let apart : (opening.line.0 == first.line.0) ≡ false = ap (passes (is_of first.line.0)) (sym at) ∙ other in
    grind (arith, nat_tests, first_ended rest (slot + 1) k line opening single.1 at)

-- ---- as the functions of openings meet them

missing : (slots : List (Option Opening)) (line : ℕ) → value_at (map_from 0 slots) line ≡ None → HasNoOpening slots line
missing slots line none = none_first slots 0 line (sym (value_from slots 0 line) ∙ none)

pub none_told : {X : Type 0} (f : Transaction → X) (slots : List (Option Opening)) (line : ℕ) → HasNoOpening slots line → None ≡ option_map f (value_at (map_from 0 slots) line)
none_told f slots line none = sym (ap (option_map f) (value_from slots 0 line ∙ first_none slots 0 line none))

pub found_at : (slots : List (Option Opening)) (k line : ℕ) (opening : Opening) → OpeningsAreSingle slots → opened_at slots k ≡ Some opening → passes (is_of line) (opened_at slots k) ≡ true
    → value_at (map_from 0 slots) line ≡ Some (transaction_of k opening)
found_at slots k line opening single at of =
    let here : 0 + k ≡ k = omega arith in
    let is : (opening.line.0 == line) ≡ true = ap (passes (is_of line)) (sym at) ∙ of in
    value_from slots 0 line ∙ (first_at slots 0 k line opening single at is ∙ ap (λ n. Some (transaction_of n opening)) here)

-- a slot that is found has opened something
pub is_opened : (line : ℕ) (o : Option Opening) → passes (is_of line) o ≡ true → o ≡ None → ⊥
is_opened line o of none = true≢false (sym of ∙ ap (passes (is_of line)) none)

pub opener_at : (slots : List (Option Opening)) (k line : ℕ) → OpeningsAreSingle slots → passes (is_of line) (opened_at slots k) ≡ true → Some k ≡ option_map opener_of (value_at (map_from 0 slots) line)
opener_at slots k line single of = go (opened_at slots k) refl
  where
    go : (o : Option Opening) → opened_at slots k ≡ o → Some k ≡ option_map opener_of (value_at (map_from 0 slots) line)
    go None at = absurd (is_opened line (opened_at slots k) of at)
    go (Some opening) at = rw (found_at slots k line opening single at of) refl

-- one more is open
pub record Opens (slots : List (Option Opening)) (k : ℕ) (opening : Opening) : Type 0 where
  pub map_is : map_from 0 (slice_set slots k (Some opening)) ≡ with_value (map_from 0 slots) opening.line.0 (transaction_of k opening)
  pub single : OpeningsAreSingle (slice_set slots k (Some opening))

pub opens : (slots : List (Option Opening)) (k : ℕ) (opening : Opening) → k < length slots → OpeningsAreSingle slots → value_at (map_from 0 slots) opening.line.0 ≡ None → ((l : ℕ) → OpeningIsNotOf k (value_at (map_from 0 slots) l)) → Opens slots k opening
opens slots k opening l single none free =
    let absent = missing slots opening.line.0 none in
    let at : opened_at slots k ≡ None = go (opened_at slots k) refl in
    let here : 0 + k ≡ k = omega arith in
    record {
      map_is = same_maps _ _ (λ line. value_from (slice_set slots k (Some opening)) 0 line
          ∙ (first_opened slots 0 k line opening l at (first_none slots 0 opening.line.0 absent)
          ∙ (ap (λ n. cond (line == opening.line.0) (Some (transaction_of n opening)) (first_of 0 slots line)) here
          ∙ (ap (λ (o : Option Transaction). cond (line == opening.line.0) (Some (transaction_of k opening)) o) (sym (value_from slots 0 line))
          ∙ sym (value-with (map_from 0 slots) opening.line.0 (transaction_of k opening) line)))));
      single = single_opened slots k opening single absent;
    }
  where
    go : (o : Option Opening) → opened_at slots k ≡ o → opened_at slots k ≡ None
    go None at = at
    go (Some other) at =
        let of : passes (is_of other.line.0) (opened_at slots k) ≡ true = ap (passes (is_of other.line.0)) at ∙ eq-eqb _ _ refl in
        let not : OpeningIsNotOf k (Some (transaction_of k other)) = subst (OpeningIsNotOf k) (found_at slots k other.line.0 other single at of) (free other.line.0) in
        absurd (not refl)

-- one fewer is open
pub ends_at : (slots : List (Option Opening)) (k line : ℕ) → OpeningsAreSingle slots → passes (is_of line) (opened_at slots k) ≡ true → map_from 0 (slice_set slots k None) ≡ without_value (map_from 0 slots) line
ends_at slots k line single of = go (opened_at slots k) refl
  where
    go : (o : Option Opening) → opened_at slots k ≡ o → map_from 0 (slice_set slots k None) ≡ without_value (map_from 0 slots) line
    go None at = absurd (is_opened line (opened_at slots k) of at)
    go (Some opening) at =
        let is : opening.line.0 ≡ line = eqb-true _ _ (ap (passes (is_of line)) (sym at) ∙ of) in
        same_maps _ _ (λ l. value_from (slice_set slots k None) 0 l
        ∙ (first_ended slots 0 k l opening single at
        ∙ (ap (λ n. cond (l == n) None (first_of 0 slots l)) is
        ∙ (ap (λ (o : Option Transaction). cond (l == line) None o) (sym (value_from slots 0 l))
        ∙ sym (value-without (map_from 0 slots) line l)))))

-- where there is none, nothing ends
pub ends_none : (slots : List (Option Opening)) (line : ℕ) → HasNoOpening slots line → map_from 0 slots ≡ without_value (map_from 0 slots) line
ends_none slots line none = same_maps _ _ (λ l. sym (value-without (map_from 0 slots) line l ∙ go l (l == line) refl))
  where
    go : (l : ℕ) (b : Bool) → (l == line) ≡ b → cond b None (value_at (map_from 0 slots) l) ≡ value_at (map_from 0 slots) l
    go l true e = sym (ap (value_at (map_from 0 slots)) (eqb-true l line e) ∙ (value_from slots 0 line ∙ first_none slots 0 line none))
    go l false e = refl
