-- The words of one context more.
use Rattle.std.proofs.Common.{ℕ, List, [], ◌++◌, map, sym, ap, ◌∙◌}
use Rattle.std.specs.Prelude.{slice_index_or}
use Rattle.alw_outcomes.specs.Explored.{place_in}
use Rattle.alw_endings.specs.Ends.{prints_by}
use Rattle.alw_num.proofs.Lists.{number_more}
use Rattle.alw_endings.proofs.telling.prints_of.Goals as goal

pub loop-context-preserved : goal.loop-context-preserved
loop-context-preserved c =
    let place = place_in c.args.found.now c.args.at in
    c.in_ok-put_words.ensures
    ∙ ap (λ (prints : List (ℕ × ℕ)). prints ++ map (λ (word : ℕ). (c.loop-context.context, word)) c.deref.result.now) c.loop-context.invariant
    ∙ ap (λ (words : List ℕ). prints_by (λ context. slice_index_or place.printed context []) c.loop-context.context ++ map (λ (word : ℕ). (c.loop-context.context, word)) words)
    (c.deref.ensures.value ∙ c.in_ok-words.ensures)
    ∙ sym (number_more (λ context. map (λ (word : ℕ). (context, word)) (slice_index_or place.printed context [])) c.loop-context.context)
