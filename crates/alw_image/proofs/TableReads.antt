-- A table read member by member: how it grows, and that its bytes are its members' spellings.
use Rattle.std.proofs.Common.{◌≡◌, ℕ, zero, suc, ◌+◌, ◌*◌, ◌<◌, ◌≤◌, List, [], ◌∷◌, ◌++◌, length, drop, refl, sym, ap, ◌∙◌, append_assoc, length-append, arith}
use Rattle.std.proofs.Math.Nat.{mul-suc}
use Rattle.std.proofs.lemmas.List.{append-nil, nil_from_length}
use Rattle.std.specs.List.{flat_map, AllByRecursion}
use Rattle.alw_image.specs.Faults.{table_of}
use Rattle.alw_image.specs.TableReads.{IsMember, TableIsWhole}

-- so many members are read, and the rest is to come
pub record TableIsRead {X : Type 0} (read : List ℕ → X) (spell : X → List ℕ) (Good : X → Type 0) (size count : ℕ) (bytes : List ℕ) (so_far : List X) (rest : List ℕ) : Type 0 where
  pub left : ℕ
  pub number : length so_far + left ≡ count
  pub bytes_left : length rest ≡ size * left
  pub reading : table_of read size count bytes ≡ so_far ++ table_of read size left rest
  pub spelled : AllByRecursion Good so_far → bytes ≡ flat_map spell so_far ++ rest

pub begins : {X : Type 0} (read : List ℕ → X) (spell : X → List ℕ) (Good : X → Type 0) (size count : ℕ) (bytes : List ℕ) → length bytes ≡ size * count → TableIsRead read spell Good size count bytes [] bytes
begins read spell Good size count bytes long = record { left = count; number = omega arith; bytes_left = long; reading = refl; spelled = λ good. refl }

all-front : {X : Type 0} (Good : X → Type 0) (xs : List X) (x : X) → AllByRecursion Good (xs ++ x ∷ []) → AllByRecursion Good xs × Good x
all-front Good [] x all = (tt, all.0)
all-front Good (y ∷ ys) x all = let rest = all-front Good ys x all.1 in ((all.0, rest.0), rest.1)

flat_map-push : {X : Type 0} (spell : X → List ℕ) (xs : List X) (x : X) (rest : List ℕ) → flat_map spell (xs ++ x ∷ []) ++ rest ≡ flat_map spell xs ++ (spell x ++ rest)
flat_map-push spell [] x rest = ap (λ bytes. bytes ++ rest) (append-nil (spell x))
flat_map-push spell (y ∷ ys) x rest = append_assoc (spell y) (flat_map spell (ys ++ x ∷ [])) rest ∙ ap (λ bytes. spell y ++ bytes) (flat_map-push spell ys x rest) ∙ sym (append_assoc (spell y) (flat_map spell ys) (spell x ++ rest))

goes_on_by : {X : Type 0} (read : List ℕ → X) (spell : X → List ℕ) (Good : X → Type 0) (size count : ℕ) (bytes : List ℕ) (so_far : List X) (rest : List ℕ) (x : X) (after : List ℕ) (left : ℕ) → 1 ≤ size →
    length so_far + left ≡ count → length rest ≡ size * left → table_of read size count bytes ≡ so_far ++ table_of read size left rest → (AllByRecursion Good so_far → bytes ≡ flat_map spell so_far ++ rest) →
    IsMember read spell Good size rest x after → TableIsRead read spell Good size count bytes (so_far ++ x ∷ []) after
goes_on_by read spell Good size count bytes so_far rest x after zero some number bytes_left reading spelled m =
    absurd (omega (arith, m.bytes_left, (let none : size * 0 ≡ 0 = omega arith in bytes_left ∙ none)))
goes_on_by read spell Good size count bytes so_far rest x after (suc left) some number bytes_left reading spelled m = record {
  left = left;
  number = omega (arith, length-append so_far (x ∷ []));
  bytes_left = omega (arith, m.bytes_left, bytes_left ∙ mul-suc size left);
  reading = reading ∙ ap (λ xs. so_far ++ xs) (ap (λ y. y ∷ table_of read size left (drop size rest)) m.reading ∙ ap (λ ys. x ∷ table_of read size left ys) m.rest) ∙ sym (append_assoc so_far (x ∷ []) (table_of read size left after));
  spelled = λ good. let each = all-front Good so_far x good in spelled each.0 ∙ ap (λ ys. flat_map spell so_far ++ ys) (m.spelled each.1) ∙ sym (flat_map-push spell so_far x after);
}

pub goes_on : {X : Type 0} (read : List ℕ → X) (spell : X → List ℕ) (Good : X → Type 0) (size count : ℕ) (bytes : List ℕ) (so_far : List X) (rest : List ℕ) (x : X) (after : List ℕ) → 1 ≤ size →
    TableIsRead read spell Good size count bytes so_far rest → IsMember read spell Good size rest x after → TableIsRead read spell Good size count bytes (so_far ++ x ∷ []) after
goes_on read spell Good size count bytes so_far rest x after some r m = goes_on_by read spell Good size count bytes so_far rest x after r.left some r.number r.bytes_left r.reading r.spelled m

-- there is room for one more while bytes are left
pub has_left : {X : Type 0} (read : List ℕ → X) (spell : X → List ℕ) (Good : X → Type 0) (size count : ℕ) (bytes : List ℕ) (so_far : List X) (rest : List ℕ) → TableIsRead read spell Good size count bytes so_far rest → 1 ≤ length rest → length so_far < count
has_left read spell Good size count bytes so_far rest r some = has_left_by size count (length so_far) (length rest) r.left some r.number r.bytes_left
  where
    has_left_by : (size count read rest left : ℕ) → 1 ≤ rest → read + left ≡ count → rest ≡ size * left → read < count
    has_left_by size count read rest zero some number bytes_left = absurd (omega (arith, (let none : size * 0 ≡ 0 = omega arith in bytes_left ∙ none)))
    has_left_by size count read rest (suc left) some number bytes_left = omega arith

ends_by : {X : Type 0} (read : List ℕ → X) (spell : X → List ℕ) (Good : X → Type 0) (size count : ℕ) (bytes : List ℕ) (so_far : List X) (rest : List ℕ) (left : ℕ) →
    length so_far + left ≡ count → length rest ≡ size * left → table_of read size count bytes ≡ so_far ++ table_of read size left rest → (AllByRecursion Good so_far → bytes ≡ flat_map spell so_far ++ rest) →
    length rest < size → TableIsWhole read spell Good size count bytes so_far
ends_by read spell Good size count bytes so_far rest zero number bytes_left reading spelled few =
    let none : rest ≡ [] = nil_from_length rest (let none : size * 0 ≡ 0 = omega arith in bytes_left ∙ none) in
    record { reading = reading ∙ append-nil so_far; spelled = λ good. spelled good ∙ ap (λ ys. flat_map spell so_far ++ ys) none ∙ append-nil (flat_map spell so_far); number = omega arith }
ends_by read spell Good size count bytes so_far rest (suc left) number bytes_left reading spelled few = absurd (omega (arith, bytes_left ∙ mul-suc size left))

pub ends : {X : Type 0} (read : List ℕ → X) (spell : X → List ℕ) (Good : X → Type 0) (size count : ℕ) (bytes : List ℕ) (so_far : List X) (rest : List ℕ) → TableIsRead read spell Good size count bytes so_far rest → length rest < size → TableIsWhole read spell Good size count bytes so_far
ends read spell Good size count bytes so_far rest r few = ends_by read spell Good size count bytes so_far rest r.left r.number r.bytes_left r.reading r.spelled few
