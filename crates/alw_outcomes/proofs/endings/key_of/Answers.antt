-- The prints of one context more, and the memory behind all.
use Rattle.std.proofs.Common.{◌++◌, arith, ◌∙◌}
use Rattle.std.proofs.lemmas.List.{take_all}
use Rattle.alw_outcomes.specs.Explored.{place_in}
use Rattle.alw_outcomes.specs.Endings.{memory_words}
use Rattle.alw_outcomes.specs.Keys.{prints_key, words_key}
use Rattle.alw_outcomes.proofs.Storing.{printed_length}
use Rattle.alw_outcomes.proofs.Keying.{prints_more}
use Rattle.alw_outcomes.proofs.endings.key_of.Goals as goal

pub loop-context-preserved : goal.loop-context-preserved
loop-context-preserved c =
    prints_more c.loop-context.key.items c.push_words.new.key.items c.deref.result.now (place_in c.args.found.now c.args.at).printed c.loop-context.context
    (omega (arith, printed_length c.args.image.now c.args.found.now c.args.at c.requires.stored c.requires.at, c.loop-context-test.true, c.contexts_of-context-end.ensures))
    c.loop-context.invariant (c.deref.ensures.value ∙ c.in_ok-words.ensures) c.in_ok-push_words.ensures

pub returns : goal.returns
returns c =
    let all =
    take_all c.loop-context.context (place_in c.args.found.now c.args.at).printed
    (omega (arith, printed_length c.args.image.now c.args.found.now c.args.at c.requires.stored c.requires.at, c.loop-context-test.false, c.contexts_of-context-end.ensures)) in
    c.in_ok-push_memory.ensures ∙ (λ i. c.loop-context.invariant i ++ words_key (memory_words (c.memory_at.ensures i)))
    ∙ (λ i. prints_key (all i) ++ words_key (memory_words (place_in c.args.found.now c.args.at).flat.memory))
