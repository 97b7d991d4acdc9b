-- The lines so far.
use Rattle.std.proofs.Common.{◌≡◌, ◌*◌, map}
use Rattle.std.specs.List.{range_with_len}
use Rattle.alw_memory.specs.Lines.{line_start}
use Rattle.alw_memory.proofs.memories.lines_start.Given as goal

abbrev pub invariant-loop-k : goal.invariant-loop-k
invariant-loop-k l = l.homes.items ≡ map (line_start l.image) (range_with_len (l.fn.node.0 * l.image.per_node) l.k)
