use Rattle.std.proofs.Common.{ℕ, sym, subst, ◌∙◌, arith}
use Rattle.std.proofs.lemmas.Bool.{false≢true}
use Rattle.alw_num.proofs.Weigh.{is_node}
use Rattle.alw_cells.specs.Logs.{logged, Agrees}
use Rattle.alw_cells.proofs.Fronts.{pair_is}
use Rattle.alw_cells.proofs.agreement.log_agrees.Goals as goal

pub returns-then-not-took_front : goal.returns-then-not-took_front
returns-then-not-took_front c =
    let pair = pair_is c.args.logs.now c.loop-from.from c.args.to c.at_ref.result.now c.at_ref-log.result.now c.at_ref.ensures c.at_ref-log.ensures in
    (λ no. absurd (false≢true no), λ all. sym c.if-not-took_front.true ∙ c.took_front.ensures.1 (pair.1 (all c.loop-from.from (omega arith))))

pub loop-from-preserved : goal.loop-from-preserved
loop-from-preserved c =
    let pair = pair_is c.args.logs.now c.loop-from.from c.args.to c.at_ref.result.now c.at_ref-log.result.now c.at_ref.ensures c.at_ref-log.ensures in
    λ k below. is_node _ k c.loop-from.from
    (λ same. subst (λ (j : ℕ). Agrees (logged c.args.logs.now) j c.args.to) (sym same) (pair.0 (c.took_front.ensures.0 c.if-not-took_front.false)))
    (λ other. c.loop-from.invariant k (omega (arith, below, other)))
