-- All is found, or it is said that it isn't.
use Rattle.alw_outcomes.specs.Explored.{found_in, places_in}
use Rattle.alw_outcomes.proofs.Steps.{all_listed}
use Rattle.alw_outcomes.proofs.Apart.{kept_differ}
use Rattle.alw_outcomes.proofs.Listed.{every_contained}
use Rattle.alw_outcomes.proofs.explored.explore_by.Goals as goal

pub returns-clause-real : goal.returns-clause-real
unfolding places_in
returns-clause-real c = c.in_ok-is_complete.ensures.real

pub returns-clause-closed : goal.returns-clause-closed
unfolding places_in
returns-clause-closed c = c.in_ok-is_complete.ensures.closed

pub returns-clause-complete : goal.returns-clause-complete
unfolding places_in
returns-clause-complete c = λ yes'. every_contained c.args.image.now (found_in c.expand_all.new.found)
    (all_listed c.args.image.now c.expand_all.new.found.classes.items (found_in c.expand_all.new.found) c.in_ok-is_complete.ensures.real (c.in_ok-is_complete.ensures.closed yes'))

pub returns-clause-different : goal.returns-clause-different
unfolding places_in
returns-clause-different c = kept_differ c.args.image.now c.expand_all.new.found c.in_ok-is_complete.ensures.stored
