-- The registers of a context as a value: what is read from one, and what a write leaves.
use Rattle.std.specs.Prelude.{ℕ, ◌+◌, ◌%◌, ◌^◌, ◌==◌, if◌then◌else◌, Bool, true, false, not, slice_index, slice_set, replicate}
use Rattle.sparc_table.specs.declared.registers.Regs.{Regs}

-- the value of a register: register 0 reads 0
abbrev pub register : Regs → ℕ → ℕ
register regs r = if r == 0 then 0 else slice_index regs.r r

-- the registers with one of them written: a write to register 0 is lost
abbrev pub with_register : Regs → ℕ → ℕ → Regs
with_register regs r value = if r == 0 then regs else record regs { r = slice_set regs.r r value }

-- the registers of a context that starts at an address, with %o0 and %o1 given and all else 0
abbrev pub start_of : ℕ → ℕ → ℕ → Regs
start_of pc o0 o1 = record {
  r = slice_set (slice_set (replicate 32 0) 8 o0) 9 o1;
  y = 0;
  n = false;
  z = false;
  v = false;
  c = false;
  pc = pc;
  npc = (pc + 4) % 2 ^ 32;
}

-- exclusive or of two codes: one is set and the other isn't
abbrev pub differ : Bool → Bool → Bool
differ true b = not b
differ false b = b
