-- Nothing at any place.
use Rattle.std.proofs.Common.{◌≡◌, ℕ, None, replicate, ap, ◌∙◌, arith}
use Rattle.alw_due.proofs.Kept.{none_kept}
use Rattle.alw_due.proofs.bests.Bests.none.Goals as goal

pub invariant_of-result : goal.invariant_of-result
invariant_of-result c =
    let all : c.loop-node._node ≡ 256 = omega (arith, c.loop-node-test.false, c.loop-node.auto._node-end) in
    none_kept c.loop-node.dues.items c.all.result (c.loop-node.invariant.0 ∙ ap (λ (n : ℕ). replicate n None) all) c.all.ensures
