-- The first spare place is on no link, and goes behind the last place of this one, or alone to an empty one.
use Rattle.std.proofs.Common.{not, sym, ap, arith}
use Rattle.alw_msg.specs.Lists.{is_nonempty}
use Rattle.alw_links.proofs.Moves.{was_empty, was_some, last_within, sends_alone, sends_behind}
use Rattle.alw_links.proofs.pools.push.Goals as goal

pub returns-then-ends-clause-pool : goal.returns-then-ends-clause-pool
returns-then-ends-clause-pool c =
    sends_alone _ _ _ _ c.requires.pool c.args.at c.requires.at c.args.msg c.index-ends.result.now c.index.result.now c.requires.room c.index-ends.ensures c.if-ends.true c.index.ensures

pub returns-then-ends-clause-first : goal.returns-then-ends-clause-first
returns-then-ends-clause-first c = sym (ap (λ msgs. not (is_nonempty msgs)) (was_empty _ _ _ _ c.requires.pool c.args.at c.requires.at c.index-ends.result.now c.index-ends.ensures c.if-ends.true))

pub index_mut-requires-3 : goal.index_mut-requires-3
index_mut-requires-3 c = omega (arith, last_within _ _ _ _ c.requires.pool c.args.at c.requires.at c.index-ends.result.now c.index-ends.ensures c.if-ends.false)

pub returns-clause-pool : goal.returns-clause-pool
returns-clause-pool c =
    sends_behind _ _ _ _ c.requires.pool c.args.at c.requires.at c.args.msg c.index-ends.result.now c.index_mut-2.result.now c.index.result.now c.index_mut-3.result.now c.requires.room
    c.index-ends.ensures c.index_mut-2.ensures.value c.if-ends.false c.index.ensures c.index_mut-3.ensures.value

pub returns-clause-first : goal.returns-clause-first
returns-clause-first c = sym (ap not (was_some _ _ _ _ c.requires.pool c.args.at c.requires.at c.index-ends.result.now c.index-ends.ensures c.if-ends.false))
