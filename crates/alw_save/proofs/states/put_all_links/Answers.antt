-- The links from a node more.
use Rattle.alw_mesh.specs.Histories.{state_of}
use Rattle.alw_save.specs.States.{links_from}
use Rattle.alw_num.proofs.Lists.{grows_by_number}
use Rattle.alw_save.proofs.states.put_all_links.Goals as goal

pub loop-n-preserved : goal.loop-n-preserved
loop-n-preserved c = grows_by_number (links_from c.args.machine.now.image (state_of c.args.machine.now)) c.loop-n.n _ _ _ c.loop-n.invariant c.in_ok-put_links.ensures
