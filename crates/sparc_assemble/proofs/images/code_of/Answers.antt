use Rattle.std.proofs.Common.{ℕ, ◌∙◌, refl, arith}
use Rattle.sparc_asm.proofs.Reading.{pushed_length}
use Rattle.sparc_assemble.proofs.Spellings.{map_from}
use Rattle.sparc_assemble.proofs.images.code_of.Goals as goal

pub loop-i-preserved : goal.loop-i-preserved
loop-i-preserved c =
    let first : ℕ × ℕ → ℕ = λ word. word.0 in
    record {
      found = c.loop-i.invariant.found ∙ map_from first c.args.words.now c.loop-i.i c.at-word.result c.at-word.result.0 c.loop-i.code _ c.at-word.ensures refl c.in_ok-push.ensures.ok;
      count = omega (arith, pushed_length _ _ _ c.in_ok-push.ensures.ok);
    }
