-- The image's sizes, no copy, no transaction.
use Rattle.std.proofs.Common.{refl, arith}
use Rattle.alw_proc.proofs.Starting.{start_stands}
use Rattle.alw_proc.proofs.processors.Proc.start.Goals as goal

pub of-requires : goal.of-requires
of-requires c = omega (arith, c.from.ensures, c.per_node.ensures, c.lines-lines.ensures.allowed.per_node.0)

pub invariant_of-result : goal.invariant_of-result
invariant_of-result c =
    let cache = c.in_ok-cache.ensures in
    rw (c.width.ensures, c.height.ensures, c.of.ensures, c.from.ensures, c.per_node.ensures, c.start.ensures, cache, c.sets.ensures.value, c.none.ensures, c.lines-lines.ensures.count)
    (record { stands = start_stands c.args.image.now c.args.params.now c.args.node.0 c.lines-lines.ensures.allowed c.requires; lines_are = refl })
