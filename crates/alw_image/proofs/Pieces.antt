-- Tables read back off their spellings.
use Rattle.std.proofs.Common.{◌≡◌, ℕ, ◌+◌, ◌-◌, ◌*◌, ◌<◌, ◌^◌, List, [], ◌∷◌, ◌++◌, length, take, drop, refl, ap, ◌∙◌, length-append, arith}
use Rattle.std.proofs.Math.Nat.{mul-suc}
use Rattle.std.proofs.lemmas.List.{take_at, drop_at}
use Rattle.std.specs.Int.{w32, to_be_bytes}
use Rattle.std.specs.List.{flat_map, AllByRecursion}
use Rattle.alw_num.specs.declared.addresses.Line.{Line}
use Rattle.alw_num.specs.declared.addresses.LineNo.{LineNo}
use Rattle.alw_num.specs.declared.addresses.NodeNo.{NodeNo}
use Rattle.alw_image.specs.Images.{data_line, start_bytes}
use Rattle.alw_image.specs.Faults.{table_of, piece, word_of, body_of_bytes, start_of_bytes}
use Rattle.alw_image.specs.Numbers.{IsWord, HasFourWords}
use Rattle.alw_image.specs.TableReads.{IsMember, IsAnyMember, IsSlot}
use Rattle.alw_image.proofs.Members.{word_read, body_read, start_read}

-- ---- one member

pub word-back_read : (after : List ℕ) (n : ℕ) → IsWord n → IsMember word_of (to_be_bytes w32) IsAnyMember 4 (to_be_bytes w32 n ++ after) n after
word-back_read after n fits = word_read (to_be_bytes w32 n ++ after) after n fits refl

pub body-back_read : (after : List ℕ) (entry : LineNo × Line) → IsWord entry.0.0 × HasFourWords entry → IsMember body_of_bytes data_line IsAnyMember 20 (data_line entry ++ after) entry after
body-back_read after entry fits =
    let l = entry.1 in
    body_read (data_line entry ++ after) _ _ _ _ after entry.0.0 l.a l.b l.c l.d fits.0 fits.1.0 fits.1.1.0 fits.1.1.1.0 fits.1.1.1.1 refl refl refl refl refl

pub start-back_read : (after : List ℕ) (start : NodeNo × ℕ × ℕ) → (start.0.0 < 2 ^ 16) × IsWord start.2 → IsMember start_of_bytes start_bytes IsSlot 8 (start_bytes start ++ after) start after
start-back_read after start fits = start_read (start_bytes start ++ after) _ _ _ after start.0.0 start.1 0 start.2 start.1 fits.0 fits.1 refl refl refl refl refl

-- ---- a table

pub table_back : {X : Type 0} (read : List ℕ → X) (spell : X → List ℕ) (Good Fits : X → Type 0) (size : ℕ) (xs : List X) → ((x : X) (after : List ℕ) → Fits x → IsMember read spell Good size (spell x ++ after) x after) →
    AllByRecursion Fits xs → table_of read size (length xs) (flat_map spell xs) ≡ xs
table_back read spell Good Fits size [] each all = refl
table_back read spell Good Fits size (x ∷ rest) each all =
    let m = each x (flat_map spell rest) all.0 in
    ap (λ y. y ∷ table_of read size (length rest) (drop size (spell x ++ flat_map spell rest))) m.reading
    ∙ ap (λ ys. x ∷ table_of read size (length rest) ys) m.rest
    ∙ ap (λ ys. x ∷ ys) (table_back read spell Good Fits size rest each all.1)

pub length-table : {X : Type 0} (spell : X → List ℕ) (size : ℕ) (xs : List X) → ((x : X) → length (spell x) ≡ size) → length (flat_map spell xs) ≡ size * length xs
length-table spell size [] each = omega arith
length-table spell size (x ∷ rest) each = length-append (spell x) (flat_map spell rest) ∙ omega (arith, each x, length-table spell size rest each, mul-suc size (length rest))

-- ---- the bytes between two places

pub piece_at : (before middle after bytes : List ℕ) (from to : ℕ) → bytes ≡ before ++ (middle ++ after) → length before ≡ from → from + length middle ≡ to → piece from to bytes ≡ middle
piece_at before middle after bytes from to parts first last =
    ap (λ bs. take (to - from) (drop from bs)) parts
    ∙ ap (take (to - from)) (drop_at before (middle ++ after) from first)
    ∙ take_at middle after (to - from) (omega arith)
