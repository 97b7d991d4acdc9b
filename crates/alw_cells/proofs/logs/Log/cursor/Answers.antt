use Rattle.std.proofs.Common.{sym, subst}
use Rattle.alw_cells.specs.Logs.{Written}
use Rattle.alw_cells.specs.Records.{HasRecords, Ascends}
use Rattle.alw_cells.proofs.Unpacking.{readable}
use Rattle.alw_cells.proofs.logs.Log.cursor.Goals as goal

pub returns-clause-ascends : goal.returns-clause-ascends
returns-clause-ascends c = subst (λ (w : Written). Ascends w.entries) c.self.view_is c.self.invariant.ascends

pub over-requires : goal.over-requires
over-requires c =
    subst (HasRecords c.self.inside.events) (sym c.deref.ensures.value)
    (readable c.self.inside.node.0 c.self.inside.events c.self.inside.bytes.items c.self.invariant.packed c.self.invariant.records)
