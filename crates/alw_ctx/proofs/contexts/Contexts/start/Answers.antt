-- No slot has a hold.
use Rattle.std.proofs.Common.{arith, rules, sym}
use Rattle.alw_ctx.proofs.Holds.{start_holds}
use Rattle.alw_ctx.proofs.contexts.Contexts.start.Goals as goal

pub invariant_of-result : goal.invariant_of-result
invariant_of-result c =
    let contexts = c.code-allowed.ensures.allowed.contexts in
    (omega (arith, contexts.0, c.contexts.ensures), omega (arith, contexts.1, c.contexts.ensures), search rules, rw (c.contexts.ensures, c.residents.ensures) (sym (start_holds c.args.image.now c.args.node.0)))
