-- From each row with the digest to the one before it.
use Rattle.std.proofs.Common.{◌-◌, arith}
use Rattle.alw_outcomes.specs.Explored.{rows_in, digest_in}
use Rattle.alw_outcomes.proofs.Indexing.{sought_begins, sought_more}
use Rattle.alw_outcomes.proofs.Rows.{rows_length, other_row, is_there}
use Rattle.alw_outcomes.proofs.explored.find_row.Goals as goal

pub loop-rest-init : goal.loop-rest-init
loop-rest-init c =
    sought_begins digest_in (rows_in c.args.found.now) c.args.found.now.by_row c.args.digest (record { memory = c.args.memory; contexts = c.args.row.now })
    c.last-rest.result c.requires.indexed c.requires.digest c.last-rest.ensures

pub is_row-requires-clause-at : goal.is_row-requires-clause-at
is_row-requires-clause-at c =
    let within = c.loop-rest.invariant.within in
    let some = c.loop-rest-test.true in
    omega (arith, within, some, rows_length c.args.found.now.width c.args.found.now.memories.items c.args.found.now.rows.items)

pub loop-rest-preserved : goal.loop-rest-preserved
loop-rest-preserved c =
    let some = c.loop-rest-test.true in
    sought_more digest_in (rows_in c.args.found.now) c.args.found.now.by_row c.args.digest (record { memory = c.args.memory; contexts = c.args.row.now })
    c.loop-rest.rest c.before-rest.result c.requires.indexed c.requires.digest (omega (arith, some))
    (other_row c.args.found.now (c.loop-rest.rest - 1) c.args.memory c.args.row.now c.is_row.result c.is_row.ensures.1 c.if-is_row.false) c.before-rest.ensures c.loop-rest.invariant

pub returns-clause-none : goal.returns-clause-none
returns-clause-none c = λ at is. c.loop-rest.invariant.none at (let end = c.loop-rest-test.false in omega (arith, end)) (is_there c.args.found.now at c.args.memory c.args.row.now is)
