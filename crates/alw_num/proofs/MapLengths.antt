-- How many entries a finite map has after a change.
use Rattle.std.proofs.Common.{◌≡◌, ℕ, ◌+◌, T, Some, None, List, [], ◌∷◌, length, refl, arith}
use Rattle.std.proofs.lemmas.Bool.Decides.{nat_tests}
use Rattle.std.proofs.lemmas.Option.{none-some}
use Rattle.alw_num.specs.Maps.{Map, ascends_from, put, taken, found, empty_map, value_at, with_value, without_value}
use Rattle.alw_num.proofs.MapLaws.{not_below}

length-put_new : {X : Type 0} (key : ℕ) (value : X) (entries : List (ℕ × X)) → found key entries ≡ None → length (put key value entries) ≡ length entries + 1
length-put_new key value [] none = omega arith
length-put_new {X} key value (entry ∷ rest) none = grind (arith, nat_tests, length-put_new key value rest, none-some entry.1)

length-put_same : {X : Type 0} (key : ℕ) (value old : X) (low : ℕ) (entries : List (ℕ × X)) → T (ascends_from low entries) → found key entries ≡ Some old → length (put key value entries) ≡ length entries
length-put_same key value old low [] a some = absurd (cc)
length-put_same key value old low (entry ∷ rest) a some = grind (arith, nat_tests, length-put_same key value old (entry.0 + 1) rest, not_below key (entry.0 + 1) rest, none-some old)

length-taken : {X : Type 0} (key : ℕ) (old : X) (entries : List (ℕ × X)) → found key entries ≡ Some old → length (taken key entries) + 1 ≡ length entries
length-taken key old [] some = absurd (cc)
length-taken key old (entry ∷ rest) some = grind (arith, nat_tests, length-taken key old rest)

pub length-empty : (X : Type 0) → length ((empty_map {X = X}).entries) ≡ 0
unfolding empty_map
length-empty X = refl

pub length-with_new : {X : Type 0} (map : Map X) (key : ℕ) (value : X) → value_at map key ≡ None → length ((with_value map key value).entries) ≡ length map.entries + 1
unfolding value_at with_value
length-with_new map key value none = length-put_new key value map.entries none

pub length-with_same : {X : Type 0} (map : Map X) (key : ℕ) (value old : X) → value_at map key ≡ Some old → length ((with_value map key value).entries) ≡ length map.entries
unfolding value_at with_value
length-with_same map key value old some = length-put_same key value old 0 map.entries map.ascending some

pub length-without : {X : Type 0} (map : Map X) (key : ℕ) (old : X) → value_at map key ≡ Some old → length ((without_value map key).entries) + 1 ≡ length map.entries
unfolding value_at without_value
length-without map key old some = length-taken key old map.entries some
