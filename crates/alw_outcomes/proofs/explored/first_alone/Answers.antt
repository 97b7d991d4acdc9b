-- What was found stays as it was.
use Rattle.std.proofs.Common.{sym, subst}
use Rattle.alw_outcomes.specs.Explored.{IsReal}
use Rattle.alw_outcomes.proofs.Storing.{within_same}
use Rattle.alw_outcomes.proofs.explored.first_alone.Goals as goal

pub is_alone-requires-clause-at : goal.is_alone-requires-clause-at
is_alone-requires-clause-at c = within_same c.loop-context.found c.args.found.now c.args.at c.requires.at c.loop-context.invariant.memories

pub is_alone-requires-clause-real : goal.is_alone-requires-clause-real
is_alone-requires-clause-real c = subst (IsReal c.args.image.now) (sym c.loop-context.invariant.same) c.requires.real
