-- Adding up the terms of an expression.
use Rattle.std.proofs.Common.{◌≡◌, true, false, Bool, ℕ, ◌+◌, List, drop, slice_get, Option, Some, None, refl, sym, ap, ◌∙◌, arith}
use Rattle.std.specs.Option.{option_map}
use Rattle.sparc_asm.specs.declared.names.Value.{Value}
use Rattle.sparc_asm.specs.declared.values.Sum.{Sum}
use Rattle.sparc_asm.specs.declared.statements.Signed.{Signed}
use Rattle.sparc_asm.specs.Values.{term_value, with_value, term_onto, value_of}
use Rattle.sparc_asm.proofs.Reading.{drop_get}

-- both sums
abbrev pub both : Sum → Sum → Sum
both s t = record { plus = s.plus + t.plus; minus = s.minus + t.minus }

-- a sum of the terms so far, with that of the terms behind
abbrev pub onto : Sum → Option Sum → Option Sum
onto s rest = option_map (both s) rest

made : (a b c d : ℕ) → a ≡ c → b ≡ d → (let s : Sum = record { plus = a; minus = b } in let t : Sum = record { plus = c; minus = d } in s ≡ t)
made a b c d p q = rw (p, q)

moved : (minus : Bool) (v : Value) (s t : Sum) → both s (with_value minus v t) ≡ both (with_value minus v s) t
moved false v s t = made _ _ _ _ (omega arith) (omega arith)
moved true v s t = made _ _ _ _ (omega arith) (omega arith)

onto-term : (minus : Bool) (v : Value) (s : Sum) (rest : Option Sum) → onto s (term_onto minus (Some v) rest) ≡ onto (with_value minus v s) rest
onto-term minus v s None = refl
onto-term minus v s (Some t) = ap Some (moved minus v s t)

-- the step of a sum's loop
pub more_sum : (names : List ℕ → Option Value) (here : ℕ) (terms : List Signed) (i : ℕ) (signed : Signed) (v : Value) (old new : Sum) → slice_get terms i ≡ Some signed → Some v ≡ term_value names here signed.term → new ≡ with_value signed.minus v old → onto old (value_of names here (drop i terms)) ≡ onto new (value_of names here (drop (i + 1) terms))
more_sum names here terms i signed v old new at is added =
    ap (λ xs. onto old (value_of names here xs)) (drop_get terms i signed at)
    ∙ ap (λ value. onto old (term_onto signed.minus value (value_of names here (drop (i + 1) terms)))) (sym is)
    ∙ onto-term signed.minus v old (value_of names here (drop (i + 1) terms))
    ∙ ap (λ s. onto s (value_of names here (drop (i + 1) terms))) (sym added)

pub no_sum : (names : List ℕ → Option Value) (here : ℕ) (terms : List Signed) (i : ℕ) (signed : Signed) (old : Sum) → slice_get terms i ≡ Some signed → None ≡ term_value names here signed.term → value_of names here terms ≡ onto old (value_of names here (drop i terms)) → None ≡ value_of names here terms
no_sum names here terms i signed old at is whole =
    sym (whole ∙ ap (λ xs. onto old (value_of names here xs)) (drop_get terms i signed at)
    ∙ ap (λ value. onto old (term_onto signed.minus value (value_of names here (drop (i + 1) terms)))) (sym is))
