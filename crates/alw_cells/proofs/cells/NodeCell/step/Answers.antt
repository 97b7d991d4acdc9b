use Rattle.std.proofs.Common.{Ok, Some, refl, sym, subst, ap, ◌∙◌}
use Rattle.alw_ready.specs.Rows.{instr_at}
use Rattle.alw_cells.specs.declared.cells.Stepped.{Stepped}
use Rattle.alw_cells.specs.Choice.{StepsCell}
use Rattle.alw_cells.proofs.Choosing.{picked_may, nothing_picked}
use Rattle.alw_cells.proofs.cells.NodeCell.step.Goals as goal

pub happen-requires-clause-may : goal.happen-requires-clause-may
happen-requires-clause-may c =
    (picked_may c.args.self.now c.args.pick (instr_at c.in-Some-Instr.node.0) (sym c.pick.ensures ∙ (c.in-Some-Instr.is ∙ ap Some c.in-Some-Instr.field-0-is))).0

pub happen_apart-requires : goal.happen_apart-requires
happen_apart-requires c =
    let may = picked_may c.args.self.now c.args.pick c.in-Some.event (sym c.pick.ensures ∙ c.in-Some.is) in
    record { may = may.0; evicts = may.1 }

pub returns-in-None : goal.returns-in-None
returns-in-None c =
    subst (λ (stepped : Stepped). StepsCell c.args.self.now c.args.pick c.args.self.now (Ok stepped)) (sym c.idle.ensures.idle)
    (nothing_picked c.args.self.now c.args.pick (sym c.pick.ensures ∙ c.in-None.is), c.idle.ensures.spent, refl)

pub idle-requires : goal.idle-requires
idle-requires c = nothing_picked c.args.self.now c.args.pick (sym c.pick.ensures ∙ c.in-None.is)
