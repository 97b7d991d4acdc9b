-- The values of the lines so far.
use Rattle.std.proofs.Common.{vec_capacity}
use Rattle.alw_image.specs.Images.{body_of}
use Rattle.alw_flat.proofs.Starts.{IsBuilt}
use Rattle.alw_flat.proofs.memory.Memory.start.Given as goal

abbrev pub invariant-loop-line : goal.invariant-loop-line
invariant-loop-line l = IsBuilt (body_of l.image) l.values.items l.line l.lines (vec_capacity l.values)
