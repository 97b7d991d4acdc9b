-- The value of an expression: a sum less another, of which the names, the numbers and the place of the statement tell the terms.
use Rattle.std.specs.Prelude.{ℕ, ◌+◌, ◌-◌, ◌/◌, ◌%◌, ◌&&◌, Bool, true, false, nat_le, List, [], ◌∷◌, Option, Some, None}
use Rattle.std.specs.Option.{option_map}
use Rattle.sparc_asm.specs.declared.names.Value.{Value}
use Rattle.sparc_asm.specs.declared.values.Sum.{Sum}
use Rattle.sparc_asm.specs.declared.statements.Term.{Term}
use Rattle.sparc_asm.specs.declared.statements.Term.TheVariants as term
use Rattle.sparc_asm.specs.declared.statements.Signed.{Signed}

-- the value of a term in a statement at a place: None where it is a name that stands for nothing
abbrev pub term_value : (List ℕ → Option Value) → ℕ → Term → Option Value
term_value names here (term.Number n) = Some (record { plus = n; minus = 0 })
term_value names here (term.Name name) = names name
term_value names here term.Here = Some (record { plus = here; minus = 0 })

-- a sum and a value that is added, or taken away
abbrev pub with_value : Bool → Value → Sum → Sum
with_value false v s = record { plus = s.plus + v.plus; minus = s.minus + v.minus }
with_value true v s = record { plus = s.plus + v.minus; minus = s.minus + v.plus }

-- a term and those behind it
abbrev pub term_onto : Bool → Option Value → Option Sum → Option Sum
term_onto minus None rest = None
term_onto minus (Some v) rest = option_map (with_value minus v) rest

-- the value of an expression in a statement at a place: None where one of its names stands for nothing
abbrev pub value_of : (List ℕ → Option Value) → ℕ → List Signed → Option Sum
value_of names here [] = Some (record { plus = 0; minus = 0 })
value_of names here (first ∷ rest) = term_onto first.minus (term_value names here first.term) (value_of names here rest)

-- how far a value lies above 0
abbrev pub above : Sum → ℕ
above s = s.plus - s.minus

-- how far a value lies below 0
abbrev pub below : Sum → ℕ
below s = s.minus - s.plus

-- a value lies from `-least` to `most`
abbrev pub is_between : ℕ → ℕ → Sum → Bool
is_between least most s = nat_le (below s) least && nat_le (above s) most

-- a value modulo a power of two, of which it isn't further below 0
abbrev pub modulo : ℕ → Sum → ℕ
modulo modulus s = (above s + (modulus - below s)) % modulus

-- a quarter of a value that is a multiple of 4
abbrev pub quarter : Sum → Sum
quarter s = record { plus = above s / 4; minus = below s / 4 }
