-- The new ends are those of the links that the type names.
use Rattle.std.proofs.Common.{List, subst}
use Rattle.alw_image.specs.Images.{node_count}
use Rattle.alw_ruled.specs.Ends.{LinkName}
use Rattle.alw_work.specs.Ties.{RowsAreNew, LinksAreColumns}
use Rattle.alw_work.proofs.runs.run_named.Goals as goal

pub start_seats-requires-clause-outs : goal.start_seats-requires-clause-outs
start_seats-requires-clause-outs g c =
    subst (λ (ls : List LinkName). RowsAreNew ls (node_count c.args.image.now) c.args.laid.outs.items) c.requires.links c.requires.laid.outs

pub start_seats-requires-clause-ins : goal.start_seats-requires-clause-ins
start_seats-requires-clause-ins g c =
    let nodes = node_count c.args.image.now in
    subst (λ (ls : List LinkName). LinksAreColumns ls nodes nodes 0 c.args.laid.ins.items) c.requires.links c.requires.laid.ins
