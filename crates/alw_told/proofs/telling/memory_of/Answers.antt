-- The words of one line more.
use Rattle.std.proofs.Common.{ℕ, List, ◌++◌, sym, ap, ◌∙◌, arith}
use Rattle.alw_num.specs.declared.addresses.Line.{Line}
use Rattle.alw_model.specs.Counts.{words_of}
use Rattle.alw_model.specs.Lines.{current_value}
use Rattle.alw_mesh.specs.Histories.{state_of}
use Rattle.alw_told.specs.Lines.{words_below}
use Rattle.alw_num.proofs.Lists.{number_more}
use Rattle.alw_told.proofs.telling.memory_of.Goals as goal

pub loop-line-preserved : goal.loop-line-preserved
loop-line-preserved c =
    let machine = c.args.machine.now in
    let few = c.loop-line.invariant.few in
    let grown = c.in_ok-put_line.ensures.few in
    record {
      words = c.in_ok-put_line.ensures.words
          ∙ ap (λ (words : List (ℕ × ℕ)). words ++ words_of c.loop-line.line c.value.result) c.loop-line.invariant.words
          ∙ ap (λ (body : Line). words_below machine c.loop-line.line ++ words_of c.loop-line.line body) c.value.ensures.value
          ∙ sym (number_more (λ line. words_of line (current_value machine.image machine.parameters (state_of machine) line)) c.loop-line.line);
      few = omega arith;
    }
