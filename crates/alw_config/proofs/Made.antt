-- Choices that are made, where one more pair of an option and its value stands at the end.
use Rattle.std.proofs.Common.{◌≡◌, ℕ, zero, suc, ◌+◌, ◌-◌, ◌*◌, ◌<◌, ◌≤◌, ◌||◌, Bool}
use Rattle.std.proofs.Common.{true, false, cond, List, [], ◌∷◌, ◌++◌, length, refl, ap, arith}
use Rattle.std.specs.Prelude.{Option, None, Some, is_some, option_map, slice_index_or, slice_set}
use Rattle.alw_config.specs.declared.rows.Made.{Made}
use Rattle.alw_config.specs.declared.rows.Value.{Value}
use Rattle.alw_config.specs.Table.{Options, makes, value_behind, is_made, made_from}

-- ---- in the words

-- a value at a place
abbrev pub made_at : ℕ → Value → Made
made_at at value = record { value = value; at = at }

module _ (options : Options) (k : ℕ) (option value : List ℕ) where
  pub is_made-more : (done : List (List ℕ)) (c : ℕ) → length done ≡ 2 * c →
      is_made options k (done ++ option ∷ value ∷ []) ≡ (is_made options k done || makes options k option)
  is_made-more [] c even = go (makes options k option)
    where
      go : (b : Bool) → (b || false) ≡ b
      go true = refl
      go false = refl
  is_made-more (x ∷ []) c even = absurd (omega arith)
  is_made-more (x ∷ y ∷ rest) c even = go (makes options k x) (is_made-more rest (c - 1) (omega arith))
    where
      go : (b : Bool) → is_made options k (rest ++ option ∷ value ∷ []) ≡ (is_made options k rest || makes options k option)
          → (b || is_made options k (rest ++ option ∷ value ∷ [])) ≡ ((b || is_made options k rest) || makes options k option)
      go true more = refl
      go false more = more

  -- the last pair makes it where none before it does
  pub made-last : (from at : ℕ) (done : List (List ℕ)) (c : ℕ) → length done ≡ 2 * c → at ≡ from + length done + 1 → is_made options k done ≡ false →
      makes options k option ≡ true
      → made_from from options k (done ++ option ∷ value ∷ []) ≡ option_map (made_at at) (value_behind options option value)
  made-last from at [] c even here none this = let same : from + 1 ≡ at = omega arith in rw (this, same) refl
  made-last from at (x ∷ []) c even here none this = absurd (omega arith)
  made-last from at (x ∷ y ∷ rest) c even here none this =
      go (makes options k x) none (λ none_left. made-last (from + 2) at rest (c - 1) (omega arith) (omega arith) none_left this)
    where
      go : (b : Bool) → (b || is_made options k rest) ≡ false
          → (is_made options k rest ≡ false →
          made_from (from + 2) options k (rest ++ option ∷ value ∷ []) ≡ option_map (made_at at) (value_behind options option value))
          → cond b (option_map (made_at (from + 1)) (value_behind options x y)) (made_from (from + 2) options k (rest ++ option ∷ value ∷ []))
          ≡ option_map (made_at at) (value_behind options option value)
      go true e more = absurd (cc)
      go false e more = more e

  -- where the last pair makes another choice
  pub made-before : (from : ℕ) (done : List (List ℕ)) (c : ℕ) → length done ≡ 2 * c → makes options k option ≡ false
      → made_from from options k (done ++ option ∷ value ∷ []) ≡ made_from from options k done
  made-before from [] c even other = rw other refl
  made-before from (x ∷ []) c even other = absurd (omega arith)
  made-before from (x ∷ y ∷ rest) c even other =
      ap (cond (makes options k x) (option_map (made_at (from + 1)) (value_behind options x y))) (made-before (from + 2) rest (c - 1) (omega arith) other)

-- ---- in a list of choices

-- 1 where it is made
abbrev pub one_if : Option Made → ℕ
one_if None = 0
one_if (Some m) = 1

-- how many are made
abbrev pub count : List (Option Made) → ℕ
count [] = 0
count (first ∷ rest) = one_if first + count rest

pub count-le : (chosen : List (Option Made)) → count chosen ≤ length chosen
count-le [] = omega arith
count-le (None ∷ rest) = omega (arith, count-le rest)
count-le (Some m ∷ rest) = omega (arith, count-le rest)

-- one more
pub count-set : (chosen : List (Option Made)) (k : ℕ) (m : Made) → k < length chosen → slice_index_or chosen k None ≡ None →
    count (slice_set chosen k (Some m)) ≡ count chosen + 1
count-set [] k m l none = absurd (omega arith)
count-set (first ∷ rest) zero m l none = rw none (omega arith)
count-set (first ∷ rest) (suc k) m l none = omega (arith, count-set rest k m (omega arith) none)

pub is_none : {A : Type 0} (o : Option A) → is_some o ≡ false → o ≡ None
is_none None e = refl
is_none (Some x) e = absurd (cc)
