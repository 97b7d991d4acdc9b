-- One node more.
use Rattle.std.proofs.Common.{arith}
use Rattle.std.proofs.lemmas.List.{length-map}
use Rattle.alw_gen.proofs.Programs.{block_words, block_room, all_put}
use Rattle.alw_gen.proofs.workloads.code_of.Goals as goal

pub put_block-requires-clause-room : goal.put_block-requires-clause-room
put_block-requires-clause-room c = block_room _ c.args.size c.args.nodes c.loop-node._node c.loop-node.draws.state c.loop-node.code _ c.loop-node-test.true c.loop-node.invariant (rw length-map (omega (arith, c.requires.room)))

pub loop-node-preserved : goal.loop-node-preserved
loop-node-preserved c = block_words _ c.args.size c.args.nodes c.loop-node._node c.loop-node.draws.state _ c.loop-node.code _ _ c.loop-node-test.true c.in_ok-put_block.ensures.draws (rw c.from.ensures at c.in_ok-put_block.ensures.code) c.loop-node.invariant

pub returns : goal.returns
returns c = all_put _ c.args.size c.args.nodes c.loop-node._node c.loop-node.draws.state c.loop-node.code _ (omega arith) c.loop-node.invariant
