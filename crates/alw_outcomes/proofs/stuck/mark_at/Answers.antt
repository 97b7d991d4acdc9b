-- The place is marked where an end is behind it.
use Rattle.std.proofs.Common.{refl, sym, ◌∙◌}
use Rattle.alw_outcomes.specs.Explored.{found_in}
use Rattle.alw_outcomes.proofs.Reaching.{marked_so}
use Rattle.alw_outcomes.proofs.stuck.mark_at.Goals as goal

pub returns-clause-marks : goal.returns-clause-marks
returns-clause-marks c =
    marked_so c.args.image.now c.args.found.now.classes.items (found_in c.args.found.now) c.args.marks.now.items c.args.at c.in_ok-look.look _ (sym c.is_end.ensures ∙ c.if-not-is_end.false)
    (rw c.deref.ensures.value at c.in_ok-look.ensures.look) refl c.requires.marks
