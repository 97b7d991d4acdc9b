-- The messages on one link more.
use Rattle.std.proofs.Common.{refl}
use Rattle.alw_mesh.specs.Histories.{state_of}
use Rattle.alw_laws.specs.Shown.{link_of}
use Rattle.alw_laws.proofs.Collected.{gathers_behind}
use Rattle.alw_laws.proofs.showing.put_home_links.Goals as goal

pub loop-n-preserved : goal.loop-n-preserved
loop-n-preserved c =
    let h = c.args.machine.now in
    let own = link_of h.image (state_of h) c.args.line.0 c.args.at.0 in
    gathers_behind own c.loop-n.n c.args.links.now c.loop-n.links (own c.loop-n.n) _ c.loop-n.invariant c.in_ok-put_link.ensures refl
