-- The lowest of the lines that slots wait on, from a number on.
use Rattle.std.proofs.Common.{◌≡◌, ℕ, zero, suc, ◌+◌, ◌<◌, ◌≤◌, nat_le, Bool, true, false, cond, IsTrue, Option, None, Some, refl, sym, ap, subst, ◌∙◌, arith}
use Rattle.alw_num.proofs.Weigh.{is_node}
use Rattle.std.proofs.lemmas.Bool.Decides.{nat_tests}
use Rattle.std.proofs.lemmas.Option.{none-some, same_Some}
use Rattle.alw_save.specs.Waiting.{nearest, lowest_of}

-- a line is there, and at most so high
abbrev pub is_at_most : ℕ → Option ℕ → Bool
is_at_most line None = false
is_at_most line (Some lowest) = nat_le lowest line

keeps : (from line : ℕ) (next new : Option ℕ) → IsTrue (is_at_most line next) → IsTrue (is_at_most line (nearest from next new))
keeps from line next None is = is
keeps from line None (Some other) is = absurd (grind (arith, nat_tests))
keeps from line (Some lowest) (Some other) is = grind (arith, nat_tests)

takes : (from line : ℕ) (next : Option ℕ) → from ≤ line → IsTrue (is_at_most line (nearest from next (Some line)))
takes from line None l = grind (arith, nat_tests)
takes from line (Some lowest) l = grind (arith, nat_tests)

module _ (lines : ℕ → Option ℕ) (from : ℕ) where
  -- each line from the number on is at least the lowest
  pub lowest_first : (count slot line : ℕ) → slot < count → lines slot ≡ Some line → from ≤ line → IsTrue (is_at_most line (lowest_of lines from count))
  lowest_first zero slot line s e l = absurd (omega arith)
  lowest_first (suc count) slot line s e l = is_node _ slot count
      (λ same. let here : lines count ≡ Some line = ap lines (sym same) ∙ e in
      subst (λ (o : Option ℕ). IsTrue (is_at_most line (nearest from (lowest_of lines from count) o))) (sym here)
      (takes from line (lowest_of lines from count) l))
      (λ other. keeps from line (lowest_of lines from count) (lines count) (lowest_first count slot line (omega arith) e l))

  -- and the lowest is one of them
  pub record IsOne (count line : ℕ) : Type 0 where
    pub slot : ℕ
    pub within : slot < count
    pub here : lines slot ≡ Some line
    pub above : from ≤ line

  one_more : (count line : ℕ) → IsOne count line → IsOne (suc count) line
  one_more count line one = record { slot = one.slot; within = omega (arith, one.within); here = one.here; above = one.above }

  here_is : {count line : ℕ} (other : ℕ) → lines count ≡ Some other → nat_le from other ≡ true → other ≡ line → IsOne (suc count) line
  here_is {count} {line} other is above same =
      record {
        slot = count;
        within = omega arith;
        here = is ∙ ap Some same;
        above = (let l : from ≤ other = grind (arith, nat_tests) in omega (arith, l, same));
      }

  pub lowest_is : (count line : ℕ) → lowest_of lines from count ≡ Some line → IsOne count line
  lowest_is zero line e = absurd (none-some line e)
  lowest_is (suc count) line e = go (λ was. one_more count line (lowest_is count line was)) (lowest_of lines from count) refl (lines count) refl e
    where
      go : (lowest_of lines from count ≡ Some line → IsOne (suc count) line) → (next : Option ℕ) → lowest_of lines from count ≡ next → (new : Option ℕ)
          → lines count ≡ new → nearest from next new ≡ Some line → IsOne (suc count) line
      go more next was None is f = more (was ∙ f)
      go more None was (Some other) is f = first (nat_le from other) refl f
        where
          first : (b : Bool) → nat_le from other ≡ b → cond b (Some other) None ≡ Some line → IsOne (suc count) line
          first true above g = here_is other is above (same_Some _ _ g)
          first false below g = absurd (none-some line g)
      go more (Some lowest) was (Some other) is f = lower (nat_le lowest other) (nat_le from other) refl f
        where
          lower : (b c : Bool) → nat_le from other ≡ c → cond b (Some lowest) (cond c (Some other) (Some lowest)) ≡ Some line → IsOne (suc count) line
          lower true c above g = more (was ∙ g)
          lower false true above g = here_is other is above (same_Some _ _ g)
          lower false false below g = more (was ∙ g)

  -- a slot more
  pub lowest_more : (count : ℕ) (next after new : Option ℕ) → next ≡ lowest_of lines from count → after ≡ nearest from next new → new ≡ lines count
      → after ≡ lowest_of lines from (count + 1)
  lowest_more count next after new was is this =
      let more : suc count ≡ count + 1 = omega arith in
      is ∙ (λ i. nearest from (was i) (this i)) ∙ ap (lowest_of lines from) more
