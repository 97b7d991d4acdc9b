-- The state's text is the one that is compared.
use Rattle.std.proofs.Common.{ℕ, List, subst, ◌∙◌}
use Rattle.alw_save.specs.Differences.{Differs}
use Rattle.alw_save.proofs.restores.difference.Goals as goal

pub returns-clause-differs : goal.returns-clause-differs
returns-clause-differs c =
    subst (λ (t : List ℕ). Differs t c.args.text.now c.first_difference.result) (c.bytes.ensures ∙ c.in_ok-state.ensures) c.first_difference.ensures.differs
