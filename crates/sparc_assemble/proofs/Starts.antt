-- The addresses of starts are those of code words.
use Rattle.std.proofs.Common.{◌≡◌, true, false, Bool, ℕ, ◌+◌, ◌*◌, ◌%◌, ◌^◌, ◌<◌, ◌≤◌, ◌==◌, ◌&&◌, not, if◌then◌else◌, nat_lt, List, [], ◌∷◌, Option, Some, None, refl, sym, arith}
use Rattle.std.proofs.lemmas.Bool.Decides.{nat_tests}
use Rattle.alw_num.specs.declared.addresses.Width.{Width}
use Rattle.sparc_asm.specs.declared.faults.Fault.{Fault}
use Rattle.sparc_asm.specs.declared.faults.Fault.TheVariants.{Range, Unaligned}
use Rattle.sparc_asm.specs.declared.faults.AsmErr.{AsmErr}
use Rattle.sparc_asm.specs.declared.values.Sum.{Sum}
use Rattle.sparc_asm.specs.declared.statements.Signed.{Signed}
use Rattle.sparc_asm.specs.declared.statements.Statement.{Statement}
use Rattle.sparc_asm.specs.declared.statements.Statement.TheVariants as statement
use Rattle.sparc_asm.specs.declared.statements.Line.{Line}
use Rattle.sparc_asm.specs.Values.{value_of, above, below, modulo}
use Rattle.sparc_place.specs.declared.cursors.Position.{Position}
use Rattle.sparc_assemble.specs.Assembly.{Names, Filled, nothing_filled, start_fault, value_fault, value_fault_in, first_of, values_fault, datum, put_start, with_values, filled, filled_in, all_filled}
use Rattle.sparc_assemble.proofs.Allowed.{AreAddresses}

-- an address without a fault
sound_value : (count : ℕ) (v : Sum) → count ≤ 65536 → start_fault count (Some v) ≡ None → (modulo (2 ^ 32) v % 4 ≡ 0) × (modulo (2 ^ 32) v < 4 * count)
sound_value count v few none = go ((below v == 0) && nat_lt (above v) (4 * count)) refl (above v % 4 == 0) refl none
  where
    go : (a : Bool) → ((below v == 0) && nat_lt (above v) (4 * count)) ≡ a → (b : Bool) → (above v % 4 == 0) ≡ b → (if not a then Some Range else (if not b then Some Unaligned else None)) ≡ None → (modulo (2 ^ 32) v % 4 ≡ 0) × (modulo (2 ^ 32) v < 4 * count)
    go false e b f n = absurd cc
    go true e false f n = absurd cc
    go true e true f n =
        let low : below v ≡ 0 = grind (arith, nat_tests, e) in
        let high : above v < 4 * count = grind (arith, nat_tests, e) in
        let even : above v % 4 ≡ 0 = grind (arith, nat_tests, f) in
        let same : modulo (2 ^ 32) v ≡ above v = omega arith in
        rw same (even, high)

sound_address : (count : ℕ) (names : Names) (here : ℕ) (e : List Signed) → count ≤ 65536 → start_fault count (value_of names here e) ≡ None → (datum names here (2 ^ 32) e % 4 ≡ 0) × (datum names here (2 ^ 32) e < 4 * count)
sound_address count names here e few none = go (value_of names here e) refl none
  where
    go : (o : Option Sum) → value_of names here e ≡ o → start_fault count o ≡ None → (datum names here (2 ^ 32) e % 4 ≡ 0) × (datum names here (2 ^ 32) e < 4 * count)
    go None is n = absurd cc
    go (Some v) is n = rw is (sound_value count v few n)

put_sound : (count node slot address : ℕ) (starts : ℕ → ℕ → Option ℕ) → (address % 4 ≡ 0) × (address < 4 * count) → AreAddresses count starts → AreAddresses count (put_start node slot address starts)
put_sound count node slot address starts here before n s a e = go ((n == node) && (s == slot)) e
  where
    go : (b : Bool) → (if b then Some address else starts n s) ≡ Some a → (a % 4 ≡ 0) × (a < 4 * count)
    go true is = let same : address ≡ a = cc in rw (sym same) here
    go false is = before n s a is

values_sound : (count number : ℕ) (p : Position) (width : Width) (values : List ℕ) (f : Filled) → AreAddresses count f.starts → AreAddresses count (with_values number p width values f).starts
values_sound count number p width values f before = go p.in_data refl
  where
    go : (b : Bool) → p.in_data ≡ b → AreAddresses count (with_values number p width values f).starts
    go true e = rw e before
    go false e = rw e before

statement_sound : (count number : ℕ) (names : Names) (p : Position) (s : Statement) (f : Filled) → count ≤ 65536 → value_fault names count p s ≡ None → AreAddresses count f.starts → AreAddresses count (filled names number p s f).starts
statement_sound count number names p (statement.Arith op3 rs1 o rd) f few none before = before
statement_sound count number names p (statement.Shift op3 rs1 o rd) f few none before = before
statement_sound count number names p (statement.ReadY rd) f few none before = before
statement_sound count number names p (statement.WriteY rs1 o) f few none before = before
statement_sound count number names p (statement.Jmpl address rd) f few none before = before
statement_sound count number names p (statement.Call target) f few none before = before
statement_sound count number names p (statement.Branch annul condition target) f few none before = before
statement_sound count number names p (statement.Trap condition address) f few none before = before
statement_sound count number names p (statement.Sethi value rd) f few none before = before
statement_sound count number names p (statement.SethiHigh value rd) f few none before = before
statement_sound count number names p (statement.Memory op3 address rd) f few none before = before
statement_sound count number names p (statement.Set value rd) f few none before = before
statement_sound count number names p (statement.Mesh width height) f few none before = before
statement_sound count number names p (statement.Contexts n) f few none before = before
statement_sound count number names p (statement.Lines n) f few none before = before
statement_sound count number names p statement.Text f few none before = before
statement_sound count number names p (statement.Shared offset) f few none before = before
statement_sound count number names p (statement.Data width values) f few none before = values_sound count number p width _ f before
statement_sound count number names p (statement.Skip n) f few none before = before
statement_sound count number names p (statement.Align unit) f few none before = before
statement_sound count number names p (statement.Equ name value) f few none before = before
statement_sound count number names p (statement.Start node slot address) f few none before = put_sound count p.node p.slot _ f.starts (sound_address count names p.here address few none) before
statement_sound count number names p (statement.Always line) f few none before = before

line_sound : (count number : ℕ) (names : Names) (p : Position) (s : Option Statement) (f : Filled) → count ≤ 65536 → value_fault_in names count p s ≡ None → AreAddresses count f.starts → AreAddresses count (filled_in names number p s f).starts
line_sound count number names p None f few none before = before
line_sound count number names p (Some s) f few none before = statement_sound count number names p s f few none before

both_none : (number : ℕ) (fault : Option Fault) (rest : Option AsmErr) → first_of number fault rest ≡ None → (fault ≡ None) × (rest ≡ None)
both_none number None rest e = (refl, e)
both_none number (Some fault) rest e = absurd cc

lines_sound : (count number : ℕ) (names : Names) (ps : List Position) (lines : List Line) (f : Filled) → count ≤ 65536 → values_fault names count number ps lines ≡ None → AreAddresses count f.starts → AreAddresses count (all_filled names number ps lines f).starts
lines_sound count number names [] lines f few none before = before
lines_sound count number names (p ∷ ps) [] f few none before = before
lines_sound count number names (p ∷ ps) (line ∷ lines) f few none before =
    let parts = both_none number (value_fault_in names count p line.statement) (values_fault names count (number + 1) ps lines) none in
    lines_sound count (number + 1) names ps lines (filled_in names number p line.statement f) few parts.1 (line_sound count number names p line.statement f few parts.0 before)

pub all_sound : (count : ℕ) (names : Names) (ps : List Position) (lines : List Line) → count ≤ 65536 → values_fault names count 1 ps lines ≡ None → AreAddresses count (all_filled names 1 ps lines nothing_filled).starts
all_sound count names ps lines few none = lines_sound count 1 names ps lines nothing_filled few none (λ node slot address e. absurd cc)
