-- Values of data, and how they are spelled.
use Rattle.std.proofs.Common.{◌≡◌, true, false, Bool, ℕ, zero, suc, add-one, ◌+◌, List, [], ◌∷◌, ◌++◌, length, map, take, drop, slice_get, Some, None, refl, sym, ap, ◌∙◌, arith, append_assoc, length-append}
use Rattle.std.specs.List.{list_any, flat_map}
use Rattle.std.proofs.lemmas.List.{append-nil}
use Rattle.alw_num.specs.declared.addresses.Width.{Width}
use Rattle.alw_num.specs.declared.addresses.Width.TheVariants.{Byte, Half, Word}
use Rattle.alw_num.specs.Lanes.{bytes_in}
use Rattle.sparc_asm.specs.declared.values.Sum.{Sum}
use Rattle.sparc_asm.specs.declared.faults.Fault.TheVariants.{Range}
use Rattle.sparc_asm.specs.declared.statements.Signed.{Signed}
use Rattle.sparc_asm.specs.Values.{value_of}
use Rattle.sparc_asm.proofs.Reading.{drop_get}
use Rattle.sparc_assemble.specs.Assembly.{Names, is_datum, is_outside, data_fault, spelled_as, written_over}
use Rattle.sparc_assemble.specs.Data.{is_unknown_in}
use Rattle.sparc_assemble.proofs.Tables.{written_behind}

pub spelled_size : (width : Width) (value : ℕ) → length (spelled_as width value) ≡ bytes_in width
spelled_size Byte value = refl
spelled_size Half value = refl
spelled_size Word value = refl

flat_map-append : (f : ℕ → List ℕ) (xs ys : List ℕ) → flat_map f (xs ++ ys) ≡ flat_map f xs ++ flat_map f ys
flat_map-append f [] ys = refl
flat_map-append f (x ∷ xs) ys = ap (λ rest. f x ++ rest) (flat_map-append f xs ys) ∙ sym (append_assoc (f x) (flat_map f xs) (flat_map f ys))

pub flat_map-push : (f : ℕ → List ℕ) (xs : List ℕ) (x : ℕ) → flat_map f (xs ++ x ∷ []) ≡ flat_map f xs ++ f x
flat_map-push f xs x = flat_map-append f xs (x ∷ []) ∙ ap (λ rest. flat_map f xs ++ rest) (append-nil (f x))

-- a test of a list from one of its places on
pub any_here : {A : Type 0} (test : A → Bool) (xs : List A) (i : ℕ) (x : A) → slice_get xs i ≡ Some x → test x ≡ true → list_any test (drop i xs) ≡ true
any_here test xs i x at is = rw (drop_get xs i x at, is)

pub any_behind : {A : Type 0} (test : A → Bool) (xs : List A) (i : ℕ) (x : A) → slice_get xs i ≡ Some x → test x ≡ false → list_any test (drop i xs) ≡ list_any test (drop (i + 1) xs)
any_behind test xs i x at is = rw (drop_get xs i x at, is)

-- a value outside its width
pub range_fault : (names : Names) (here : ℕ) (width : Width) (values : List (List Signed)) (i : ℕ) (e : List Signed) (v : Sum) → slice_get values i ≡ Some e → Some v ≡ value_of names here e → is_datum width v ≡ false → is_unknown_in names here values ≡ false → list_any (λ e. is_outside width (value_of names here e)) values ≡ list_any (λ e. is_outside width (value_of names here e)) (drop i values) → data_fault names here width values ≡ Some Range
range_fault names here width values i e v at is out known before =
    let wide : is_outside width (value_of names here e) ≡ true = rw (sym is, out) in
    rw (known, before ∙ any_here (λ e. is_outside width (value_of names here e)) values i e at wide)

pub no_fault : (names : Names) (here : ℕ) (width : Width) (values : List (List Signed)) → is_unknown_in names here values ≡ false → list_any (λ e. is_outside width (value_of names here e)) values ≡ false → data_fault names here width values ≡ None
no_fault names here width values known within = rw (known, within)

pub take_get : {A : Type 0} (xs : List A) (i : ℕ) (x : A) → slice_get xs i ≡ Some x → take (i + 1) xs ≡ take i xs ++ x ∷ []
take_get [] i x at = absurd cc
take_get (y ∷ ys) zero x at = let same : y ≡ x = cc in ap (λ z. z ∷ []) same
take_get (y ∷ ys) (suc i) x at = rw add-one (ap (λ rest. y ∷ rest) (rw add-one at (take_get ys i x at)))

-- the step of writing values
pub more_written : (width : Width) (values : List ℕ) (i v from at : ℕ) (a b c : ℕ → ℕ) → slice_get values i ≡ Some v → at ≡ from + length (flat_map (spelled_as width) (take i values)) → ((place : ℕ) → b place ≡ written_over from (flat_map (spelled_as width) (take i values)) a place) → ((place : ℕ) → c place ≡ written_over at (spelled_as width v) b place) → (place : ℕ) → c place ≡ written_over from (flat_map (spelled_as width) (take (i + 1) values)) a place
more_written width values i v from at a b c here next before now place =
    let longer : flat_map (spelled_as width) (take (i + 1) values) ≡ flat_map (spelled_as width) (take i values) ++ spelled_as width v = ap (flat_map (spelled_as width)) (take_get values i v here) ∙ flat_map-push (spelled_as width) (take i values) v in
    let last : c place ≡ written_over (from + length (flat_map (spelled_as width) (take i values))) (spelled_as width v) b place = now place ∙ ap (λ n. written_over n (spelled_as width v) b place) next in
    rw longer (written_behind a b c from place (flat_map (spelled_as width) (take i values)) (spelled_as width v) (before place) last)

pub more_length : (width : Width) (values : List ℕ) (i v from at : ℕ) → slice_get values i ≡ Some v → at ≡ from + length (flat_map (spelled_as width) (take i values)) → at + bytes_in width ≡ from + length (flat_map (spelled_as width) (take (i + 1) values))
more_length width values i v from at here next =
    let longer : flat_map (spelled_as width) (take (i + 1) values) ≡ flat_map (spelled_as width) (take i values) ++ spelled_as width v = ap (flat_map (spelled_as width)) (take_get values i v here) ∙ flat_map-push (spelled_as width) (take i values) v in
    omega (arith, ap length longer, length-append (flat_map (spelled_as width) (take i values)) (spelled_as width v), spelled_size width v)

-- what a map gives from one of its places on
pub map_from : {A B : Type 0} (f : A → B) (xs : List A) (i : ℕ) (x : A) (y : B) (old new : List B) → slice_get xs i ≡ Some x → y ≡ f x → new ≡ old ++ y ∷ [] → old ++ map f (drop i xs) ≡ new ++ map f (drop (i + 1) xs)
map_from f xs i x y old new at is pushed =
    ap (λ rest. old ++ map f rest) (drop_get xs i x at)
    ∙ ap (λ z. old ++ z ∷ map f (drop (i + 1) xs)) (sym is)
    ∙ sym (append_assoc old (y ∷ []) (map f (drop (i + 1) xs)))
    ∙ ap (λ front. front ++ map f (drop (i + 1) xs)) (sym pushed)
