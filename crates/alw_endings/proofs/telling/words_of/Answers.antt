-- The words of one line more.
use Rattle.std.proofs.Common.{ℕ, List, ◌++◌, sym, ap, ◌∙◌, length, arith}
use Rattle.std.specs.Prelude.{slice_index_or}
use Rattle.alw_num.specs.declared.addresses.Line.{Line}
use Rattle.alw_image.specs.Images.{zero_line}
use Rattle.alw_model.specs.Counts.{words_of, listed_words}
use Rattle.alw_outcomes.specs.Explored.{place_in}
use Rattle.alw_num.proofs.Lists.{number_more}
use Rattle.alw_endings.proofs.Told.{memory_sized}
use Rattle.alw_endings.proofs.telling.words_of.Goals as goal

pub value-requires : goal.value-requires
value-requires c =
    omega (arith, c.loop-line-test.true, c.lines-line-end.ensures.count, ap length c.memory_at-memory.ensures, memory_sized c.args.image.now c.args.found.now c.args.at c.requires.stored c.requires.at)

pub loop-line-preserved : goal.loop-line-preserved
loop-line-preserved c =
    let values : ℕ → Line = λ line. slice_index_or (place_in c.args.found.now c.args.at).flat.memory line zero_line in
    let few = c.loop-line.invariant.few in
    let grown = c.in_ok-put_line.ensures.few in
    record {
      words = c.in_ok-put_line.ensures.words
          ∙ ap (λ (words : List (ℕ × ℕ)). words ++ words_of c.loop-line.line c.value.result) c.loop-line.invariant.words
          ∙ ap (λ (body : Line). listed_words values c.loop-line.line ++ words_of c.loop-line.line body)
          (c.value.ensures ∙ ap (λ (lines : List Line). slice_index_or lines c.loop-line.line zero_line) c.memory_at-memory.ensures)
          ∙ sym (number_more (λ line. words_of line (values line)) c.loop-line.line);
      few = omega arith;
    }
