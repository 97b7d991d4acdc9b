-- The memory with the place's number.
use Rattle.std.proofs.Common.{ℕ, slice_index_or, sym, ap, ◌∙◌}
use Rattle.alw_outcomes.proofs.Pooling.{at_place}
use Rattle.alw_outcomes.proofs.Storing.{memory_read}
use Rattle.alw_outcomes.proofs.places.memory_at.Goals as goal

pub returns : goal.returns
returns c =
    memory_read c.args.image.now c.args.found.now c.args.at c.index-2.result.now c.requires.stored c.requires.at
    (c.index-2.ensures ∙ ap (λ (n : ℕ). slice_index_or c.args.found.now.pools.memories.items n c.index-2.result.now)
    (sym (at_place c.args.found.now.memories.items c.args.at 0 c.index.result.now c.requires.at c.index.ensures)))
