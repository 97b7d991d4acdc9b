-- A node more.
use Rattle.alw_mesh.specs.Histories.{state_of}
use Rattle.alw_save.specs.States.{node_text}
use Rattle.alw_num.proofs.Lists.{grows_by_number}
use Rattle.alw_save.proofs.states.put_nodes.Goals as goal

pub loop-n-preserved : goal.loop-n-preserved
loop-n-preserved c = grows_by_number (node_text c.args.machine.now.image (state_of c.args.machine.now)) c.loop-n.n _ _ _ c.loop-n.invariant c.in_ok-put_node.ensures
