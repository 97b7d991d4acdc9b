-- What is left without the least member decides.
use Rattle.std.proofs.Common.{refl}
use Rattle.std.proofs.lemmas.Bool.{false≢true}
use Rattle.dir_full.proofs.Members.{sole_one, sole_of_more}
use Rattle.dir_full.proofs.sets.sole_member.Goals as goal

pub returns-then-is_empty-clause-some : goal.returns-then-is_empty-clause-some
returns-then-is_empty-clause-some c = sole_one _ _ _ c.in_ok-first.ensures.lowest c.without.ensures (c.if-is_empty.ensures.0 refl)

pub returns-else-is_empty-clause-none : goal.returns-else-is_empty-clause-none
returns-else-is_empty-clause-none c = sole_of_more _ _ _ c.in_ok-first.ensures.lowest c.without.ensures (λ e. false≢true (c.if-is_empty.ensures.1 e))
