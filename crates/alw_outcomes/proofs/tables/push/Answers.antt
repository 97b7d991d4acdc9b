-- A mark behind the others, with which its chain begins.
use Rattle.std.proofs.Common.{◌%◌, arith, sym, ap, ◌∙◌}
use Rattle.alw_outcomes.proofs.Pooling.{at_place}
use Rattle.alw_outcomes.proofs.Chaining.{pushed, remainder_less}
use Rattle.alw_outcomes.proofs.tables.push.Goals as goal

pub returns-clause-table : goal.returns-clause-table
returns-clause-table c =
    let count = c.len.ensures ∙ c.args.heads.now.ok.0 in
    let less = remainder_less c.args.digest c.len.result (let some = c.requires.some in omega (arith, some, count)) in
    pushed c.args.heads.now.items c.args.marks.now.items c.push.new.self.items (c.args.digest % c.len.result) c.len-2.result (record { digest = c.args.digest; before = c.index.result.now })
    c.requires.table
    (ap (λ n. c.args.digest % n) count) (sym (at_place c.args.heads.now.items (c.args.digest % c.len.result) 0 c.index.result.now (omega (arith, less, count)) c.index.ensures)) c.requires.some
    (omega (arith, less, count))
    c.in_ok-push.ensures.items (c.len-2.ensures ∙ c.push.new.self.ok.0) c.requires.few
