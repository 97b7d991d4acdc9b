use Rattle.mesh_route.proofs.Moves.{started}
use Rattle.mesh_route.proofs.hops.Hops.start.Goals as goal

pub invariant_of-result : goal.invariant_of-result
invariant_of-result c =
    rw (c.in_ok-empty_queues.ensures, c.in_ok-empty_lists.ensures, c.in_ok-vec.ensures.items_if_clones_equal (λ y e. e), c.from.ensures, c.from-2.ensures)
    (started c.args.width c.args.height c.requires.narrow c.requires.wide c.requires.high)
