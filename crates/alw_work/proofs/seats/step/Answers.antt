-- A trapping turn is marked.
use Rattle.alw_work.proofs.Trapping.{marks}
use Rattle.alw_work.proofs.Working.{works_step}
use Rattle.alw_work.proofs.seats.step.Goals as goal

pub returns-in-Did-clause-marked : goal.returns-in-Did-clause-marked
returns-in-Did-clause-marked c =
    let steps = rw c.in-Did.is at c.in_ok-did.ensures in
    rw (steps.3, c.is_trap.ensures) (marks c.args.cell.now c.in-Did.entry.event c.in-Did.did c.args.trapped.now c.log-stands.ensures.stands steps.2)

pub returns-in-Did-clause-works : goal.returns-in-Did-clause-works
returns-in-Did-clause-works c = let steps = rw c.in-Did.is at c.in_ok-did.ensures in rw steps.3 (works_step c.args.cell.now c.in-Did.entry.event)
