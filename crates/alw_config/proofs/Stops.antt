-- What is bad of a place behind pairs.
use Rattle.std.proofs.Common.{◌≡◌, ◌≢◌, ℕ, suc, ◌+◌, ◌-◌, ◌*◌, ◌%◌, ◌≤◌, ◌==◌, Bool, true, false, List, [], ◌∷◌, ◌++◌, length, refl, ap, ◌∙◌, arith}
use Rattle.std.specs.Prelude.{Some, slice_get, take}
use Rattle.std.proofs.Math.Seq.{take-append_seam}
use Rattle.std.proofs.lemmas.Bool.Decides.{nat_tests}
use Rattle.std.proofs.lemmas.Option.{slice_get_past}
use Rattle.alw_config.specs.declared.rows.Name.{Name}
use Rattle.alw_config.specs.Table.{open_options}
use Rattle.alw_config.specs.Places.{is_bad_option, is_bad_name, is_bad_value}

-- what follows a front stands at its length
get_behind : {X : Type 0} (front back : List X) (i : ℕ) → slice_get (front ++ back) (length front + i) ≡ slice_get back i
get_behind {X} [] back i = let e : length {A = X} [] + i ≡ i = omega arith in ap (slice_get back) e
get_behind (x ∷ front) back i = let e : suc (length front) + i ≡ suc (length front + i) = omega arith in rw e (get_behind front back i)

-- behind pairs a name stands
pub bad_name : (name : Name) (done : List (List ℕ)) (c : ℕ) (word : List ℕ) (left : List (List ℕ)) → length done ≡ 2 * c
    → is_bad_option name (done ++ word ∷ left) (length done) ≡ is_bad_name name done word
bad_name name done c word left even =
    let place : (length done % 2 == 0) ≡ true = grind (arith, nat_tests) in
    let here : slice_get (done ++ word ∷ left) (length done) ≡ Some word = let e : length done ≡ length done + 0 = omega arith in
    ap (slice_get (done ++ word ∷ left)) e ∙ get_behind done (word ∷ left) 0 in
    rw (place, here, take-append_seam done (word ∷ left))

-- and then a value
pub bad_value : (name : Name) (done : List (List ℕ)) (c : ℕ) (word : List ℕ) (left : List (List ℕ)) → length done ≡ 2 * c
    → is_bad_option name (done ++ word ∷ left) (length done + 1) ≡ is_bad_value (open_options name done) word (slice_get left 0)
bad_value name done c word left even =
    let place : ((length done + 1) % 2 == 0) ≡ false = grind (arith, nat_tests) in
    let back : length done + 1 - 1 ≡ length done + 0 = omega arith in
    let front : take (length done + 0) (done ++ word ∷ left) ≡ done =
    let e : length done + 0 ≡ length done = omega arith in ap (λ n. take n (done ++ word ∷ left)) e ∙ take-append_seam done (word ∷ left) in
    rw (place, back, get_behind done (word ∷ left) 0, get_behind done (word ∷ left) 1, front)

-- behind the last pair nothing is bad
pub right_behind : (name : Name) (words : List (List ℕ)) (c i : ℕ) → length words ≡ 2 * c → length words ≤ i → is_bad_option name words i ≡ false
right_behind name words c i even past = go (i % 2 == 0) refl
  where
    go : (b : Bool) → (i % 2 == 0) ≡ b → is_bad_option name words i ≡ false
    go true e = rw (e, slice_get_past words i past)
    go false e = let odd : i % 2 ≢ 0 = grind (arith, nat_tests) in rw (e, slice_get_past words (i - 1) (omega arith))
