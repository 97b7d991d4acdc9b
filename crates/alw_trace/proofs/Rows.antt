-- Bytes in lines of 32.
use Rattle.std.proofs.Common.{◌≡◌, ℕ, suc, ◌+◌, ◌-◌, ◌<◌, ◌≤◌, ◌==◌, List, ◌++◌, length, take, drop, refl, sym, ap, ◌∙◌, arith, append_assoc, length-drop, min, nat_le, Bool, true, false}
use Rattle.std.proofs.lemmas.Bool.{eqb-true}
use Rattle.std.proofs.lemmas.Bool.Decides.{nat_tests}
use Rattle.std.proofs.lemmas.List.{append-nil, take_all, drop_all}
use Rattle.alw_trace.specs.Texts.{hex_line, hex_lines, line_number}

-- one line more
pub next_row : (rest : List ℕ) → 1 ≤ length rest → hex_lines (line_number (length rest)) rest ≡ hex_line (take 32 rest) ++ hex_lines (line_number (length (drop 32 rest))) (drop 32 rest)
unfolding hex_lines
next_row rest some =
    let one : line_number (length rest) ≡ suc (line_number (length (drop 32 rest))) = omega (arith, length-drop 32 rest) in
    ap (λ (count : ℕ). hex_lines count rest) one

pub put_row : (out after whole rest row behind : List ℕ) → 1 ≤ length rest → row ≡ take 32 rest → behind ≡ drop 32 rest → after ≡ out ++ hex_line row
    → out ++ hex_lines (line_number (length rest)) rest ≡ whole → after ++ hex_lines (line_number (length behind)) behind ≡ whole
put_row out after whole rest row behind some row_is behind_is grown so_far =
    ap (λ (b : List ℕ). after ++ hex_lines (line_number (length b)) b) behind_is
    ∙ ap (λ (a : List ℕ). a ++ hex_lines (line_number (length (drop 32 rest))) (drop 32 rest)) (grown ∙ ap (λ (r : List ℕ). out ++ hex_line r) row_is)
    ∙ append_assoc out (hex_line (take 32 rest)) (hex_lines (line_number (length (drop 32 rest))) (drop 32 rest))
    ∙ ap (λ (t : List ℕ). out ++ t) (sym (next_row rest some)) ∙ so_far

pub some_left : (rest : List ℕ) → false ≡ (length rest == 0) → 1 ≤ length rest
some_left rest some = grind (arith, nat_tests)

pub none_left : (out whole rest : List ℕ) → true ≡ (length rest == 0) → out ++ hex_lines (line_number (length rest)) rest ≡ whole → out ≡ whole
unfolding hex_lines
none_left out whole rest none so_far =
    let empty : length rest ≡ 0 = eqb-true (length rest) 0 (sym none) in
    sym (append-nil out) ∙ ap (λ (n : ℕ). out ++ hex_lines (line_number n) rest) (sym empty) ∙ so_far

-- the bytes of the first line, and what follows them
pub row_cut : (bytes : List ℕ) (count : ℕ) → count ≡ min (length bytes) 32 → (take count bytes ≡ take 32 bytes) × (drop count bytes ≡ drop 32 bytes)
row_cut bytes count e = go (nat_le 32 (length bytes)) refl
  where
    go : (b : Bool) → nat_le 32 (length bytes) ≡ b → (take count bytes ≡ take 32 bytes) × (drop count bytes ≡ drop 32 bytes)
    go true l =
        let same : count ≡ 32 = grind (arith, nat_tests) in
        (ap (λ (n : ℕ). take n bytes) same, ap (λ (n : ℕ). drop n bytes) same)
    go false l =
        let short : length bytes ≤ 32 = grind (arith, nat_tests) in
        (take_all count bytes (omega arith) ∙ sym (take_all 32 bytes short), drop_all count bytes (omega arith) ∙ sym (drop_all 32 bytes short))

-- each line takes some of what is left
pub shorter : (rest behind : List ℕ) → 1 ≤ length rest → behind ≡ drop 32 rest → length behind < length rest
shorter rest behind some e = omega (arith, ap length e, length-drop 32 rest)
