use Rattle.alw_num.specs.NodeSets.{nodes_of}
use Rattle.alw_ready.proofs.Renewing.{is_put}
use Rattle.alw_ready.proofs.renewals.looked_at.Goals as goal

pub returns : goal.returns
returns g c = is_put (nodes_of c.args.senders) _ c.args.from.0 _ _ c.put.ensures c.arrives.ensures
