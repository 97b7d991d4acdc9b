-- A message to memory is about a line of this home.
use Rattle.std.proofs.Common.{sym}
use Rattle.alw_node.proofs.Fitting.{fit_is_home}
use Rattle.alw_node.proofs.nodes.Node.may_arrive.Goals as goal

pub is_free-requires : goal.is_free-requires
is_free-requires c =
    let one = c.self.invariant in
    let whole = c.args.self.now in
    let home = fit_is_home whole.parts c.args.from.0 whole.number c.args.msg.now c.requires.fit (sym c.if-is_to_memory.ensures) in
    record { home = rw (one.per_node, one.number) (rw (← c.self.view_is) at home) }
