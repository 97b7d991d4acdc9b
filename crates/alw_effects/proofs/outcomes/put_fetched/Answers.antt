-- An access that was fetched is aligned where it needs a copy.
use Rattle.std.proofs.Common.{sym, ◌∙◌}
use Rattle.alw_effects.proofs.Needs.{is_aligned}
use Rattle.alw_effects.proofs.outcomes.put_fetched.Goals as goal

pub put_done-requires-clause-aligned : goal.put_done-requires-clause-aligned
put_done-requires-clause-aligned c = is_aligned c.args.code.now c.args.before.now c.in-Ok.instr c.requires (sym c.fetch.ensures.found ∙ c.in-Ok.is)
