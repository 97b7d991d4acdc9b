-- By what a look finds.
use Rattle.std.proofs.Common.{sym, ◌∙◌}
use Rattle.alw_outcomes.specs.Explored.{found_in}
use Rattle.alw_outcomes.proofs.Reaching.{inside_so}
use Rattle.alw_outcomes.proofs.stuck.stays_at.Goals as goal

pub returns-clause-stays : goal.returns-clause-stays
returns-clause-stays c = λ yes'.
    inside_so c.args.image.now c.args.found.now.classes.items (found_in c.args.found.now) c.args.marks.now c.args.at c.in_ok-look.look (sym c.is_inside.ensures ∙ yes') c.in_ok-look.ensures.look
