-- One mark after the other.
use Rattle.std.proofs.Common.{◌%◌, arith, refl, sym, ap, ◌∙◌}
use Rattle.alw_outcomes.proofs.Pooling.{at_place}
use Rattle.alw_outcomes.proofs.Chaining.{chaining_begins, chaining_long, chaining_more, chaining_ends, remainder_less}
use Rattle.alw_outcomes.proofs.tables.chain_all.Goals as goal

pub loop-at-init : goal.loop-at-init
loop-at-init c = chaining_begins c.args.heads.now.items c.args.marks.now.items c.requires.heads c.requires.some

pub loop-at-preserved : goal.loop-at-preserved
loop-at-preserved c =
    let some = c.loop-at.invariant.some in
    let long = chaining_long c.loop-at.heads.items c.loop-at.marks.items c.args.marks.now.items c.loop-at.at c.loop-at.invariant in
    let count = c.len.ensures ∙ c.loop-at.heads.ok.0 in
    let less = remainder_less c.index.result.now.digest c.len.result (omega (arith, some, count)) in
    chaining_more c.loop-at.heads.items c.loop-at.marks.items c.args.marks.now.items c.loop-at.at (c.index.result.now.digest % c.len.result) _ c.index.result.now c.loop-at.invariant
    (omega (arith, long, c.loop-at-test.true, c.len-at-end.ensures, c.args.marks.now.ok.0)) c.index.ensures refl (ap (λ n. c.index.result.now.digest % n) count)
    (sym (at_place c.loop-at.heads.items (c.index.result.now.digest % c.len.result) 0 c.index-in-loop-at.result.now (omega (arith, less, count)) c.index-in-loop-at.ensures))
    (omega (arith, less, count))

pub returns-clause-table : goal.returns-clause-table
returns-clause-table c =
    chaining_ends c.loop-at.heads.items c.loop-at.marks.items c.args.marks.now.items c.loop-at.at
    (omega (arith, c.loop-at-test.false, c.loop-at.auto.at-end, c.len-at-end.ensures, c.args.marks.now.ok.0)) c.requires.few c.loop-at.invariant
