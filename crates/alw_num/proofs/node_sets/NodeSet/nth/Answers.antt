-- Number k stands in the word that has more ones than are left of k there.
use Rattle.std.proofs.Common.{◌<◌, ◌^◌, ◌-◌, ◌+◌, slice_index, count_ones, refl, arith}
use Rattle.alw_num.proofs.Words.{each_of_four}
use Rattle.alw_num.proofs.Ranks.{nth_in}
use Rattle.alw_num.proofs.node_sets.NodeSet.nth.Goals as goal

pub returns-then-k-first-clause-member : goal.returns-then-k-first-clause-member
returns-then-k-first-clause-member c = nth_in c.args.self.now 0 c.args.k c.args.k c.nth_one.result _ (omega arith) (λ j l. absurd (omega arith)) (omega arith) (omega arith) c.nth_one.ensures

pub returns-then-k-second-clause-member : goal.returns-then-k-second-clause-member
returns-then-k-second-clause-member c =
    let words = c.args.self.now.words in
    let fits = each_of_four (λ i. slice_index words i < 2 ^ 64) (omega arith) (omega arith) (omega arith) (omega arith) in
    nth_in c.args.self.now 1 c.args.k (c.args.k - count_ones (slice_index words 0)) c.nth_one-then-k-second.result _ (omega arith) (λ j l. fits j (omega arith)) (omega (arith, c.if-k-first.false)) refl c.nth_one-then-k-second.ensures

pub returns-then-k-third-clause-member : goal.returns-then-k-third-clause-member
returns-then-k-third-clause-member c =
    let words = c.args.self.now.words in
    let fits = each_of_four (λ i. slice_index words i < 2 ^ 64) (omega arith) (omega arith) (omega arith) (omega arith) in
    nth_in c.args.self.now 2 c.args.k (c.args.k - (count_ones (slice_index words 0) + count_ones (slice_index words 1))) c.nth_one-then-k-third.result _
    (omega arith) (λ j l. fits j (omega arith)) (omega (arith, c.if-k-second.false)) refl c.nth_one-then-k-third.ensures

pub returns-clause-member : goal.returns-clause-member
returns-clause-member c =
    let words = c.args.self.now.words in
    let fits = each_of_four (λ i. slice_index words i < 2 ^ 64) (omega arith) (omega arith) (omega arith) (omega arith) in
    nth_in c.args.self.now 3 c.args.k (c.args.k - (count_ones (slice_index words 0) + count_ones (slice_index words 1) + count_ones (slice_index words 2))) c.nth_one-2.result _
    (omega arith) (λ j l. fits j (omega arith)) (omega (arith, c.if-k-third.false)) refl c.nth_one-2.ensures
