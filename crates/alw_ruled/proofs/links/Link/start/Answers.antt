use Rattle.std.proofs.Common.{rules}
use Rattle.alw_ruled.proofs.Moves.{begins, forks}
use Rattle.alw_ruled.proofs.links.Link.start.Goals as goal

pub ruled-requires-clause-rule : goal.ruled-requires-clause-rule
ruled-requires-clause-rule g c = begins

pub another-receiver-requires-clause-rule : goal.another-receiver-requires-clause-rule
another-receiver-requires-clause-rule g c = forks _ _ (search rules) (search rules)
