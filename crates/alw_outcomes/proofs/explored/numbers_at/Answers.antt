-- The thread is that of the context at the place.
use Rattle.std.proofs.Common.{ℕ, List, take, drop, ◌*◌, slice_index_or, sym, ap, ◌∙◌}
use Rattle.alw_outcomes.proofs.Pooling.{at_place}
use Rattle.alw_outcomes.proofs.Storing.{thread_read}
use Rattle.alw_outcomes.proofs.explored.numbers_at.Goals as goal

pub returns-clause-thread : goal.returns-clause-thread
returns-clause-thread c =
    let found = c.args.found.now in
    let row = c.row_of-row.ensures ∙ ap (λ (l : List ℕ). take found.width (drop (c.args.at * found.width) l)) c.deref.ensures.value in
    thread_read c.args.image.now found c.args.at c.args.context (slice_index_or c.row_of-row.result.now c.args.context 0) c.index.result.now c.requires.stored c.requires.at c.requires.context
    (sym (at_place found.memories.items c.args.at 0 c.index.result.now c.requires.at c.index.ensures))
    (ap (λ (l : List ℕ). slice_index_or l c.args.context 0) row)
