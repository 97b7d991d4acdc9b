-- Bodies that are a line's value: the test of two lines, and the number of bodies that are off.
use Rattle.std.proofs.Common.{◌≡◌, ◌+◌, ◌≤◌, Bool, true, false, not, ◌==◌, Option, Some, None, List, [], ◌∷◌, refl, ap, arith}
use Rattle.std.proofs.lemmas.Bool.{eqb-true, eq-eqb, and_parts}
use Rattle.alw_num.specs.declared.addresses.Line.{Line}
use Rattle.alw_num.specs.declared.states.Mode.{Mode}
use Rattle.alw_num.specs.declared.states.Mode.TheVariants.{Read, Write}
use Rattle.alw_num.specs.Weights.{digit, weigh}
use Rattle.alw_num.proofs.Weigh.{digit_le}
use Rattle.alw_msg.specs.Contents.{ToMemory, RREQ, WREQ, REPM, UPDATE, ACKC, ToCache, RDATA, WDATA, INV, BUSY, is_repm, is_update, is_rdata, is_wdata}
use Rattle.alw_model.specs.LineInvariant.{same_line}
use Rattle.alw_msg.specs.Lists.{count_of}
use Rattle.alw_model.specs.Lines.{LineNode}
use Rattle.law_line.specs.Census.{is_read, is_write, copies_of, off, off_copy, off_up, off_down, census, carries}

-- lines that the test calls equal are one
pub equal_lines : (one other : Line) → same_line one other ≡ true → one ≡ other
equal_lines one other e =
    let p = and_parts (one.a == other.a) _ e in
    let q = and_parts (one.b == other.b) _ p.1 in
    let r = and_parts (one.c == other.c) _ q.1 in
    let a : one.a ≡ other.a = eqb-true _ _ p.0 in
    let b : one.b ≡ other.b = eqb-true _ _ q.0 in
    let c : one.c ≡ other.c = eqb-true _ _ r.0 in
    let d : one.d ≡ other.d = eqb-true _ _ r.1 in
    λ i. record { a = a i; b = b i; c = c i; d = d i }

-- a line is equal to itself
pub line_equals : (one : Line) → same_line one one ≡ true
line_equals one = rw (eq-eqb one.a one.a refl, eq-eqb one.b one.b refl, eq-eqb one.c one.c refl, eq-eqb one.d one.d refl)

pub off_same : (value : Line) → off value value ≡ 0
off_same value = ap (λ b. digit (not b)) (line_equals value)

pub same_of_off : (value body : Line) → off value body ≡ 0 → body ≡ value
same_of_off value body none = go (same_line body value) refl none
  where
    go : (b : Bool) → same_line body value ≡ b → digit (not b) ≡ 0 → body ≡ value
    go true e zero = equal_lines body value e
    go false e zero = absurd (omega arith)

pub off_le : (value body : Line) → off value body ≤ 1
off_le value body = digit_le (not (same_line body value))

-- no more bodies are off than there are messages with a body
ups_off : (value : Line) (up : List ToMemory) → weigh (off_up value) up ≤ count_of is_repm up + count_of is_update up
ups_off value [] = omega arith
ups_off value (RREQ ∷ rest) = omega (arith, ups_off value rest)
ups_off value (WREQ ∷ rest) = omega (arith, ups_off value rest)
ups_off value (REPM body ∷ rest) = omega (arith, ups_off value rest, off_le value body)
ups_off value (UPDATE body ∷ rest) = omega (arith, ups_off value rest, off_le value body)
ups_off value (ACKC ∷ rest) = omega (arith, ups_off value rest)

downs_off : (value : Line) (down : List ToCache) → weigh (off_down value) down ≤ count_of is_rdata down + count_of is_wdata down
downs_off value [] = omega arith
downs_off value (RDATA body ∷ rest) = omega (arith, downs_off value rest, off_le value body)
downs_off value (WDATA body ∷ rest) = omega (arith, downs_off value rest, off_le value body)
downs_off value (INV ∷ rest) = omega (arith, downs_off value rest)
downs_off value (BUSY ∷ rest) = omega (arith, downs_off value rest)

copy_off : (value : Line) (copy : Option (Mode × Line)) → off_copy value copy ≤ copies_of is_read copy + copies_of is_write copy
copy_off value None = omega arith
copy_off value (Some copy) = go copy.0 copy.1
  where
    go : (mode : Mode) (body : Line) → off value body ≤ is_read mode + is_write mode
    go Read body = omega (arith, off_le value body)
    go Write body = omega (arith, off_le value body)

-- the bodies at a node that are off are of carriers, of RDATA and of Read-Only copies
pub off_within : (value : Line) (v : LineNode) → (census value v).off ≤ carries (census value v) + (census value v).rdata + (census value v).ro
off_within value v = omega (arith, ups_off value v.up, downs_off value v.down, copy_off value v.copy)
