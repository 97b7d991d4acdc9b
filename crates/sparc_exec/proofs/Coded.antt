-- An instruction that sets codes leaves its value in rd, and that value's codes.
use Rattle.std.proofs.Common.{◌≡◌, ℕ, ◌+◌, refl}
use Rattle.std.specs.Int.{from_bool}
use Rattle.sparc_table.specs.Registers.{with_register}
use Rattle.sparc_table.specs.Arithmetic.{Computed, computed, with_codes, arithmetic}
use Rattle.sparc_table.specs.declared.registers.Regs.{Regs}
use Rattle.sparc_exec.specs.Rows.{low_of}
use Rattle.sparc_exec.specs.declared.arithmetic.Operation.{Operation}
use Rattle.sparc_exec.specs.declared.arithmetic.Operation.TheVariants.{Add, And, Or, Xor, Sub, Andn, Orn, Xnor, Addx, Subx}

abbrev assigned : ℕ → Computed → Regs → Regs
assigned rd result regs = with_register (with_codes regs result) rd result.value

pub coded_is : (operation : Operation) (rd x y : ℕ) (regs : Regs) → arithmetic (0x10 + low_of operation) rd x y regs ≡ assigned rd (computed (low_of operation) x y (from_bool regs.c)) regs
unfolding arithmetic
coded_is Add rd x y regs = refl
coded_is And rd x y regs = refl
coded_is Or rd x y regs = refl
coded_is Xor rd x y regs = refl
coded_is Sub rd x y regs = refl
coded_is Andn rd x y regs = refl
coded_is Orn rd x y regs = refl
coded_is Xnor rd x y regs = refl
coded_is Addx rd x y regs = refl
coded_is Subx rd x y regs = refl
