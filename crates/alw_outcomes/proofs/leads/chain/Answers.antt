-- One private turn more, or none.
use Rattle.alw_outcomes.specs.Pools.{thread_in}
use Rattle.alw_outcomes.proofs.Leading.{goes_on_trans, chain_grows, chain_more}
use Rattle.alw_outcomes.proofs.leads.chain.Goals as goal

pub returns-in-None-clause-chain : goal.returns-in-None-clause-chain
returns-in-None-clause-chain c =
    chain_grows c.args.image.now c.args.classes.now c.args.context (thread_in c.args.pools.now c.args.at) c.loop-more.pools c.private_step.new.pools c.loop-more.to c.loop-more.more
    c.loop-more.invariant.grow.pools c.in_ok-next.ensures.grow.grow c.loop-more.invariant.chain

pub loop-more-preserved : goal.loop-more-preserved
loop-more-preserved c =
    let inside = rw c.in-Some.is at c.in_ok-next.ensures.inside in
    let turn = rw c.in-Some.is at c.in_ok-next.ensures.turn in
    let private = rw c.in-Some.is at c.in_ok-next.ensures.private in
    record {
      grow = goes_on_trans c.args.image.now c.args.pools.now c.loop-more.pools c.private_step.new.pools c.loop-more.invariant.grow c.in_ok-next.ensures.grow;
      chain =
          chain_more c.args.image.now c.args.classes.now c.args.context (thread_in c.args.pools.now c.args.at) c.loop-more.pools c.private_step.new.pools c.loop-more.to c.in-Some.next c.loop-more.more
          c.loop-more.invariant.chain inside turn private;
    }
