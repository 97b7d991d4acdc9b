use Rattle.std.proofs.Common.{ℕ, ◌∙◌, refl, arith}
use Rattle.sparc_asm.proofs.Reading.{pushed_length}
use Rattle.sparc_assemble.proofs.Spellings.{map_from}
use Rattle.sparc_assemble.proofs.fillings.Filling.words.Goals as goal

pub loop-i-preserved : goal.loop-i-preserved
loop-i-preserved c =
    let pair : ℕ → ℕ × ℕ = λ word. (word, c.args.number) in
    record {
      words = c.loop-i.invariant.words ∙ map_from pair c.args.words.now c.loop-i.i c.at.result (pair c.at.result) c.loop-i.self.words _ c.at.ensures refl c.in_ok-push.ensures.ok;
      rest = c.loop-i.invariant.rest;
      count = omega (arith, pushed_length _ _ _ c.in_ok-push.ensures.ok);
    }
