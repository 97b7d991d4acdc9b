-- A place without a mark stays so, or all have one.
use Rattle.alw_outcomes.specs.Explored.{found_in}
use Rattle.std.proofs.Common.{sym, ◌∙◌}
use Rattle.alw_outcomes.proofs.Storing.{places_length}
use Rattle.alw_outcomes.proofs.Reaching.{stuck_at, all_can}
use Rattle.alw_outcomes.proofs.stuck.told_by.Goals as goal

pub returns-in-None-clause-stuck : goal.returns-in-None-clause-stuck
returns-in-None-clause-stuck c =
    all_can c.args.image.now c.args.found.now.classes.items (found_in c.args.found.now) c.args.marks.now c.requires.real c.requires.closed c.requires.marks
    (c.requires.length ∙ sym (places_length c.args.found.now)) c.in-None.ensures.none

pub returns-else-branch-clause-stuck : goal.returns-else-branch-clause-stuck
returns-else-branch-clause-stuck c =
    stuck_at c.args.image.now c.args.found.now.classes.items (found_in c.args.found.now) c.args.marks.now c.in-Some.at (c.requires.length ∙ sym (places_length c.args.found.now))
    (c.in_ok-have_exit-in-Some.ensures.closed c.if-branch.false) c.in-Some.ensures.some
