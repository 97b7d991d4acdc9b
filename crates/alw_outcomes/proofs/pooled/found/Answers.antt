-- From each member with the digest to the one before it.
use Rattle.std.proofs.Common.{◌-◌, arith}
use Rattle.alw_outcomes.proofs.Indexing.{sought_begins, sought_more, same_there, other_there}
use Rattle.alw_outcomes.proofs.pooled.found.Goals as goal

pub loop-rest-init : goal.loop-rest-init
loop-rest-init g c = sought_begins g.T.Pooled.digest_of c.args.pool.now c.args.table.now c.args.digest c.args.member.now c.last-rest.result c.requires.indexed c.requires.digest c.last-rest.ensures

pub returns-then-is_same-clause-same : goal.returns-then-is_same-clause-same
returns-then-is_same-clause-same g c =
    let within = c.loop-rest.invariant.within in
    let some = c.loop-rest-test.true in
    same_there c.args.pool.now (c.loop-rest.rest - 1) c.index-pool-at.result c.args.member.now (omega (arith, within, some)) c.index-pool-at.is (c.is_same.ensures.0 c.if-is_same.true)

pub loop-rest-preserved : goal.loop-rest-preserved
loop-rest-preserved g c =
    let within = c.loop-rest.invariant.within in
    let some = c.loop-rest-test.true in
    sought_more g.T.Pooled.digest_of c.args.pool.now c.args.table.now c.args.digest c.args.member.now c.loop-rest.rest c.before-rest.result c.requires.indexed c.requires.digest (omega (arith, some))
    (other_there c.args.pool.now (c.loop-rest.rest - 1) c.index-pool-at.result c.args.member.now c.is_same.result
    (omega (arith, within, some)) c.index-pool-at.is c.is_same.ensures.1 c.if-is_same.false) c.before-rest.ensures c.loop-rest.invariant
