-- The place at hand has the first message that is left, and names the place of the next.
use Rattle.std.proofs.Common.{length, sym, ap, rules, ◌∙◌}
use Rattle.alw_links.proofs.Walks.{steps_at}
use Rattle.alw_links.proofs.iters.LinkIterator.next.Goals as goal

pub returns-clause-steps : goal.returns-clause-steps
returns-clause-steps c = sym c.self.view_is ∙ steps_at c.self.inside.places.now c.self.inside.at c.self.invariant _ c.if-self.false

pub returns-clause-goes : goal.returns-clause-goes
returns-clause-goes c =
    let shorter = ap length (returns-clause-steps c) in search rules
