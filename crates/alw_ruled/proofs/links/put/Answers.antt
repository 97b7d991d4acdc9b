-- A push keeps the rule.
use Rattle.std.proofs.Common.{ap}
use Rattle.alw_ruled.proofs.Moves.{sends}
use Rattle.alw_ruled.proofs.links.put.Goals as goal

pub push_as-requires-clause-rule : goal.push_as-requires-clause-rule
push_as-requires-clause-rule g c = (sends _ _ _ _ (ap (λ v. v.pushed) c.requires.sends), λ held views h at. tt)
