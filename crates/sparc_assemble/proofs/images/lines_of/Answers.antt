use Rattle.std.proofs.Common.{ℕ, ◌∙◌, refl, arith}
use Rattle.sparc_asm.proofs.Reading.{pushed_length}
use Rattle.sparc_assemble.proofs.Spellings.{map_from}
use Rattle.sparc_assemble.proofs.images.lines_of.Goals as goal

pub loop-i-preserved : goal.loop-i-preserved
loop-i-preserved c =
    let second : ℕ × ℕ → ℕ = λ word. word.1 in
    record {
      found = c.loop-i.invariant.found ∙ map_from second c.args.words.now c.loop-i.i c.at-word.result c.at-word.result.1 c.loop-i.lines _ c.at-word.ensures refl c.in_ok-push.ensures.ok;
      count = omega (arith, pushed_length _ _ _ c.in_ok-push.ensures.ok);
    }
