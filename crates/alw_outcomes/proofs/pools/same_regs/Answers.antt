-- Member by member.
use Rattle.std.proofs.Common.{sym, ◌∙◌}
use Rattle.alw_outcomes.proofs.Comparing.{regs_same, regs_equal}
use Rattle.alw_outcomes.proofs.pools.same_regs.Goals as goal

pub returns : goal.returns
returns c = (λ same. regs_same c.args.one.now c.args.other.now (sym c.eq.ensures ∙ same), λ same. c.eq.ensures ∙ regs_equal c.args.one.now c.args.other.now same)
