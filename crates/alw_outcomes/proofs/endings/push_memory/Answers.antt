-- One line more.
use Rattle.std.proofs.Common.{◌+◌, ◌*◌, ◌++◌, arith, ◌∙◌}
use Rattle.std.proofs.lemmas.List.{take_all}
use Rattle.alw_num.specs.declared.addresses.TheConstants.{SHARED_BASE}
use Rattle.alw_image.specs.Images.{zero_line}
use Rattle.alw_outcomes.specs.Endings.{line_words, words_from}
use Rattle.alw_outcomes.specs.Keys.{words_key}
use Rattle.alw_outcomes.proofs.MemoryWords.{key_more}
use Rattle.alw_outcomes.proofs.endings.push_memory.Goals as goal

pub loop-line-preserved : goal.loop-line-preserved
loop-line-preserved c =
    key_more SHARED_BASE c.args.key.now.items c.loop-line.key.items c.push_line.new.key.items c.args.memory.now c.loop-line.line zero_line
    (omega (arith, c.loop-line-test.true, c.lines-line-end.ensures)) c.loop-line.invariant
    (c.in_ok-push_line.ensures ∙ (λ i. c.loop-line.key.items ++ words_key (line_words (SHARED_BASE + 16 * c.loop-line.line) (c.value.ensures i))))

pub returns : goal.returns
returns c =
    let all = take_all c.loop-line.line c.args.memory.now (omega (arith, c.loop-line-test.false, c.lines-line-end.ensures)) in
    c.loop-line.invariant ∙ (λ i. c.args.key.now.items ++ words_key (words_from SHARED_BASE (all i)))
