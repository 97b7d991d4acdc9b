-- What was behind the place comes behind the one before it.
use Rattle.std.proofs.Common.{ap, ◌∙◌, ℕ, List, slice_set}
use Rattle.dir_soft.specs.declared.places.PoolPlace.{PoolPlace}
use Rattle.dir_soft.specs.Chains.{with_next}
use Rattle.dir_soft.proofs.Walks.{next-seen, with_next-seen}
use Rattle.dir_soft.proofs.places.unlink.Goals as goal

pub returns-in-Some-clause-chains : goal.returns-in-Some-clause-chains
returns-in-Some-clause-chains c =
    rw (c.in-Some.is)
    (ap (λ (ps : List PoolPlace). let both : List ℕ × List PoolPlace = (c.args.heads.now.items, ps) in both)
    (with_next-seen c.args.places.now.items c.in-Some.before c.index.result.now.next c.index_mut.result.now c.index_mut.ensures.value
    ∙ ap (with_next c.args.places.now.items c.in-Some.before) (next-seen c.args.places.now.items c.args.spot.at c.index.result.now c.requires.at c.index.ensures)))

pub returns-in-None-clause-chains : goal.returns-in-None-clause-chains
returns-in-None-clause-chains c =
    rw (c.in-None.is)
    (ap (λ (next : ℕ). let both : List ℕ × List PoolPlace = (slice_set c.args.heads.now.items c.args.chain next, c.args.places.now.items) in both)
    (next-seen c.args.places.now.items c.args.spot.at c.index.result.now c.requires.at c.index.ensures))
