-- The node at the place takes its step.
use Rattle.std.proofs.Common.{option_copied}
use Rattle.alw_mesh.proofs.OneNode.{acts}
use Rattle.alw_mesh.proofs.stepping.act.Goals as goal

pub returns : goal.returns
returns c =
    acts c.args.nodes.now.items c.args.at c.args.event (option_copied c.args.taken) c.args.sent.now c.local-did.new.sent c.index_mut-node.result.now c.local-did.new.self c.local-did.result
    c.holds-holds.result c.free-fits.result c.changes_holds.result c.requires.here c.index_mut-node.ensures.value
    c.local-did.ensures c.holds-holds.ensures c.changes_holds.ensures c.free-fits.ensures.left
