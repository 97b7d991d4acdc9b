use Rattle.std.proofs.Common.{ℕ, sym, subst, arith}
use Rattle.alw_num.proofs.Weigh.{is_node}
use Rattle.alw_cells.specs.Logs.{logged, Agrees}
use Rattle.alw_cells.proofs.agreement.links_agree.Goals as goal

pub loop-to-preserved : goal.loop-to-preserved
loop-to-preserved c = λ from k l below. is_node _ k c.loop-to.to
    (λ same. subst (λ (j : ℕ). Agrees (logged c.args.logs.now) from j) (sym same) (c.log_agrees.ensures.0 c.if-not-log_agrees.false from l))
    (λ other. c.loop-to.invariant from k l (omega (arith, below, other)))
