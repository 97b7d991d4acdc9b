use Rattle.std.proofs.Common.{ap, rules}
use Rattle.alw_ruled.proofs.Moves.{merges, totals}
use Rattle.alw_ruled.proofs.links.Link.close.Goals as goal

pub absorb-requires-clause-rule : goal.absorb-requires-clause-rule
absorb-requires-clause-rule g c = merges _ _ _ _ (ap (λ v. v.pushed) c.sender.invariant.1) (ap (λ v. v.popped) c.receiver.invariant.1)

pub len_as-held-requires-clause-rule : goal.len_as-held-requires-clause-rule
len_as-held-requires-clause-rule g c = totals _ _ (search rules) (search rules)
