-- The contexts so far.
use Rattle.std.proofs.Common.{vec_capacity}
use Rattle.alw_model.specs.Flat.{context_start}
use Rattle.alw_flat.specs.Contexts.{contexts_of}
use Rattle.alw_flat.proofs.Starts.{IsBuilt}
use Rattle.alw_flat.proofs.machines.contexts_at_start.Given as goal

abbrev pub invariant-loop-context : goal.invariant-loop-context
invariant-loop-context l = IsBuilt (context_start l.image) (contexts_of l.contexts.items) l.context l.count (vec_capacity l.contexts)
