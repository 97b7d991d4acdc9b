-- The line that is needed exists.
use Rattle.std.proofs.Common.{◌≡◌, ℕ, sym, ap, subst, ◌∙◌}
use Rattle.sparc_table.specs.declared.outcomes.Need.{Need}
use Rattle.alw_image.specs.Images.{line_count}
use Rattle.alw_effects.specs.Before.{IsLineOf}
use Rattle.alw_effects.proofs.Needs.{line_exists}
use Rattle.alw_turns.proofs.sights.look.Goals as goal

pub is_waited-requires-clause-line : goal.is_waited-requires-clause-line
is_waited-requires-clause-line c =
    let lines : c.lines.result ≡ line_count c.args.machine.now.image = c.lines.ensures.count ∙ ap line_count c.image-image.ensures in
    subst (λ (k : ℕ). IsLineOf k c.need-need.result) lines
    (subst (λ (n : Need). IsLineOf c.lines.result n) (sym c.need-need.ensures) (line_exists c.words.result.now c.regs-regs.result c.lines.result))
