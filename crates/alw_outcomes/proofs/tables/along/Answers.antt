-- From each number to the one before it on its chain.
use Rattle.std.proofs.Common.{◌-◌, length, arith, ◌∙◌, sym}
use Rattle.alw_outcomes.specs.Tables.{digests_of, befores_of}
use Rattle.alw_outcomes.proofs.Chaining.{along_more, along_found, along_begins, mark_digest, mark_before}
use Rattle.alw_outcomes.proofs.tables.along.Goals as goal

pub loop-rest-init : goal.loop-rest-init
loop-rest-init c = along_begins (digests_of c.args.marks.now) (length c.args.heads.now) c.args.digest c.args.from c.requires.chain

pub returns-then-mark-digest : goal.returns-then-mark-digest
returns-then-mark-digest c =
    let within = c.loop-rest.invariant.within in
    let some = c.loop-rest-test.true in
    along_found (digests_of c.args.marks.now) (length c.args.heads.now) c.args.digest c.args.from c.loop-rest.rest
    (mark_digest c.args.marks.now (c.loop-rest.rest - 1) (record { digest = 0; before = 0 }) (omega (arith, within, some, c.requires.within)) ∙ c.if-mark-digest.true) c.loop-rest.invariant

pub loop-rest-preserved : goal.loop-rest-preserved
loop-rest-preserved c =
    let within = c.loop-rest.invariant.within in
    let some = c.loop-rest-test.true in
    along_more (digests_of c.args.marks.now) (befores_of c.args.marks.now) c.args.heads.now (length c.args.heads.now) c.args.digest c.args.from c.loop-rest.rest (length c.args.marks.now) _
    c.requires.table.chained c.requires.within
    (omega (arith, some))
    (λ same. c.if-mark-digest.false (sym (mark_digest c.args.marks.now (c.loop-rest.rest - 1) (record { digest = 0; before = 0 }) (omega (arith, within, some, c.requires.within))) ∙ same))
    (mark_before c.args.marks.now (c.loop-rest.rest - 1) (record { digest = 0; before = 0 }) (omega (arith, within, some, c.requires.within))) c.loop-rest.invariant
