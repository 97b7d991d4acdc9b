use Rattle.std.proofs.Common.{◌≡◌, ◌+◌, ◌≤◌, ℕ, length, slice_index}
use Rattle.sparc_assemble.proofs.Tables.{written_upto}
use Rattle.sparc_assemble.proofs.memory.Memory.write.Given as goal

abbrev pub invariant-loop-i : goal.invariant-loop-i
invariant-loop-i l = record {
  written : (place : ℕ) → slice_index l.self-inside.bytes.items place ≡ written_upto l.from l.i l.bytes (slice_index l.fn.self) place;
  room : l.from + length l.bytes ≤ length l.self-inside.bytes.items;
}
