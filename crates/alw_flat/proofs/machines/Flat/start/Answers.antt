-- As many lines and contexts as the image says.
use Rattle.std.proofs.Common.{refl}
use Rattle.alw_flat.proofs.Starts.{has_sizes}
use Rattle.alw_flat.proofs.machines.Flat.start.Goals as goal

pub invariant_of-result : goal.invariant_of-result
invariant_of-result c = has_sizes c.args.image.now _ c.in_ok-memory.memory c.in_ok-contexts.contexts.items _ _
    (rw (c.width.ensures, c.height.ensures, c.per_node.ensures) refl)
    (rw (c.width.ensures, c.height.ensures, c.contexts.ensures) refl)
    c.lines.ensures.count
    c.all_contexts.ensures.count
    c.in_ok-memory.ensures c.in_ok-contexts.ensures
