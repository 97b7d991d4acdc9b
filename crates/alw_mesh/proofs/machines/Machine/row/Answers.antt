-- The rows fit the machine.
use Rattle.std.proofs.Common.{◌<◌, sym, subst}
use Rattle.std.proofs.lemmas.Option.{get_or_from_slice_get}
use Rattle.alw_model.specs.Machine.{MachineState}
use Rattle.alw_ready.specs.Rows.{no_row}
use Rattle.alw_ready.specs.Fits.{RowFits}
use Rattle.alw_mesh.proofs.machines.Machine.row.Goals as goal

pub row-requires : goal.row-requires
row-requires c =
    let rows = c.self.invariant.rows in
    let here = rw (← c.self.view_is) at c.requires in
    subst (λ n. c.args.node.0 < n) (sym rows.counted) here

pub returns : goal.returns
returns c =
    let at = c.args.node.0 in
    let inside = c.self.inside in
    let here = rw (← c.self.view_is) at c.requires in
    let fits = c.self.invariant.rows.each at here in
    let same = get_or_from_slice_get inside.ready at c.row.result no_row c.row.ensures in
    rw (← c.self.view_is)
    (subst (λ (m : MachineState). RowFits inside.mesh.image inside.mesh.parameters m at c.row.result) c.self.invariant.state_is
    (subst (RowFits inside.mesh.image inside.mesh.parameters inside.mesh.machine at) same fits))
