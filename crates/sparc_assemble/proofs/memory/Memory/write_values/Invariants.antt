use Rattle.std.proofs.Common.{◌≡◌, ◌+◌, ◌*◌, ◌≤◌, ℕ, length, take, slice_index}
use Rattle.std.specs.List.{flat_map}
use Rattle.sparc_assemble.specs.Assembly.{spelled_as, written_over}
use Rattle.sparc_assemble.proofs.memory.Memory.write_values.Given as goal

abbrev pub invariant-loop-i : goal.invariant-loop-i
invariant-loop-i l = record {
  written : (place : ℕ) → slice_index l.self place ≡ written_over l.from (flat_map (spelled_as l.width) (take l.i l.values)) (slice_index l.fn.self) place;
  next : l.at ≡ l.from + length (flat_map (spelled_as l.width) (take l.i l.values));
  bound : l.at ≤ l.from + 4 * l.i;
}
