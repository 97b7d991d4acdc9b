-- No link has a place, and there is none.
use Rattle.std.proofs.Common.{◌*◌, refl}
use Rattle.alw_links.proofs.Keeping.{starts, links-start}
use Rattle.alw_links.proofs.links.Links.start.Goals as goal

pub invariant_of-result : goal.invariant_of-result
invariant_of-result c =
    rw (c.in_ok-vec.ensures.items_if_clones_equal (λ y e. e), c.in_ok-vec-2.ensures.items_if_clones_equal (λ y e. e), c.new.ensures.items) (starts c.args.nodes c.empty.result c.requires c.empty.ensures)

pub returns : goal.returns
returns c =
    rw (c.in_ok-vec.ensures.items_if_clones_equal (λ y e. e), c.new.ensures.items, links-start (c.args.nodes * c.args.nodes)) refl
