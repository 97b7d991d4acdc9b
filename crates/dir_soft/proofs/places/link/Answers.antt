-- What was the chain's first place comes behind this one.
use Rattle.std.proofs.Common.{ap, ◌∙◌, ℕ, slice_set}
use Rattle.dir_soft.specs.declared.places.PoolPlace.{PoolPlace}
use Rattle.dir_soft.proofs.Walks.{head-read}
use Rattle.dir_soft.proofs.places.link.Goals as goal

pub returns-clause-places : goal.returns-clause-places
returns-clause-places c = ap (λ (next : ℕ). let place : PoolPlace = record { line = c.args.line; nodes = c.args.nodes; next = next } in slice_set c.args.places.now.items c.args.at place) (c.index.ensures ∙ head-read c.args.heads.now.items c.args.chain _ c.requires.chain)
