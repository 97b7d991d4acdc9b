-- A link more.
use Rattle.alw_mesh.specs.Histories.{state_of}
use Rattle.alw_save.specs.States.{link_text}
use Rattle.alw_num.proofs.Lists.{grows_by_number}
use Rattle.alw_save.proofs.messages.put_links.Goals as goal

pub loop-to-preserved : goal.loop-to-preserved
loop-to-preserved c =
    grows_by_number (link_text c.args.machine.now.image (state_of c.args.machine.now) c.args.from.0) c.loop-to.to _ _ _ c.loop-to.invariant c.in_ok-put_link.ensures
