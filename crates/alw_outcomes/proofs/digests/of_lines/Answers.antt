-- By what is left at the end.
use Rattle.std.proofs.Common.{ℕ, ap, ◌∙◌}
use Rattle.alw_outcomes.specs.Digests.{mixed, memory_digest}
use Rattle.alw_outcomes.proofs.Indexing.{lines_end}
use Rattle.alw_outcomes.proofs.digests.of_lines.Goals as goal

pub returns : goal.returns
unfolding memory_digest
returns c = c.mixed-2.ensures ∙ ap (λ (d : ℕ). mixed d 0) (lines_end c.args.lines.now c.loop-line.line-index c.loop-line.digest c.loop-line.factor _ c.loop-line-test.false c.loop-line.invariant)
