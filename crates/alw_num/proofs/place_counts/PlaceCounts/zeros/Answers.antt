use Rattle.std.proofs.Common.{ℕ, arith}
use Rattle.std.proofs.lemmas.List.{take-replicate}
use Rattle.alw_num.proofs.Sums.{zeros_summed}
use Rattle.alw_num.proofs.place_counts.PlaceCounts.zeros.Goals as goal

pub invariant_of-result : goal.invariant_of-result
invariant_of-result c =
    let n = c.loop-place._place in
    rw (c.loop-place.invariant.0, take-replicate {X = ℕ} c.args.places n 0 (omega arith)) (zeros_summed c.args.places n (omega arith) (omega arith))

pub returns : goal.returns
returns c =
    let n = c.loop-place._place in
    rw (c.loop-place.invariant.0) (take-replicate {X = ℕ} c.args.places n 0 (omega arith))
