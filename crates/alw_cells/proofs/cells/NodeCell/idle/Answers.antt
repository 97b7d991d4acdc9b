use Rattle.std.proofs.Common.{◌≡◌, ◌<◌, ◌^◌, ◌-◌, [], length, sym, subst, ap, arith}
use Rattle.alw_image.specs.Parameters.{Parameters}
use Rattle.alw_cells.specs.Cells.{Cell, IsSpent}
use Rattle.alw_cells.specs.Choice.{next_events}
use Rattle.alw_cells.proofs.Choosing.{none_spent}
use Rattle.alw_cells.proofs.cells.NodeCell.idle.Goals as goal

pub returns-clause-spent : goal.returns-clause-spent
returns-clause-spent c =
    let v : Cell = record { node = c.self.inside.node; log = c.self.inside.log.entries; come = c.self.inside.come.items; pending = c.self.inside.pending.items; dids = c.self.inside.dids.list } in
    let current : c.self.inside.node.state.current < length c.self.inside.node.state.slots = subst (λ k. k < length c.self.inside.node.state.slots) c.last-last.ensures.slot c.last-last.ensures.within in
    let limit : c.self.inside.node.parameters.limit < 2 ^ 32 - 1 = omega (arith, c.limit-limit.ensures.allowed.limit, ap (λ (p : Parameters). p.limit) c.params.ensures) in
    subst (λ (cell : Cell). IsSpent cell.node.parameters cell.node.state) c.self.view_is
    (none_spent v c.self.invariant.kept.replayed c.number-number.ensures.stands.number limit current (subst (λ (cell : Cell). next_events cell ≡ []) (sym c.self.view_is) c.requires))
