-- The words of the context's list.
use Rattle.std.proofs.Common.{List, [], ℕ, slice_index_or, ◌∙◌, ap, sym}
use Rattle.alw_outcomes.specs.Pools.{lists_of, no_seat, thread_in}
use Rattle.alw_places.specs.Threads.{Thread}
use Rattle.alw_outcomes.proofs.Pooling.{at_place}
use Rattle.alw_outcomes.proofs.places.words_at.Goals as goal

pub returns : goal.returns
unfolding thread_in
returns c =
    let none : List ℕ = [] in
    let seat = at_place c.args.found.now.pools.seats.items c.numbers_at-here.result.seat no_seat c.index.result.now c.numbers_at-here.ensures.inside.seat c.index.ensures in
    c.in_ok-words.ensures
    ∙ (λ i. slice_index_or (lists_of (c.deref.ensures.value i)) (sym seat i).list none)
    ∙ ap (λ (t : Thread). t.printed) c.numbers_at-here.ensures.thread
