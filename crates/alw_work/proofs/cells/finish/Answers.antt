-- A step goes on, and an idle one ends the steps at a spent node.
use Rattle.alw_work.proofs.Finishing.{goes_none, goes_on, sooner}
use Rattle.alw_work.proofs.cells.finish.Goals as goal

pub loop-init : goal.loop-init
loop-init c = goes_none c.args.cell.now

pub loop-smaller : goal.loop-smaller
loop-smaller c = let steps = rw c.in-Did.is at c.in_ok-step.ensures in rw steps.3 (sooner c.loop.cell c.in-Did.entry.event c.log-stands.ensures.stands)

pub loop-preserved : goal.loop-preserved
loop-preserved c = let steps = rw c.in-Did.is at c.in_ok-step.ensures in rw steps.3 (goes_on c.args.cell.now c.loop.cell c.in-Did.entry.event c.loop.invariant)

pub returns-in-Idle : goal.returns-in-Idle
returns-in-Idle c =
    let steps = rw c.in-Idle.is at c.in_ok-step.ensures in
    rw steps.2 (record {
      same = c.loop.invariant.same;
      stands = c.log-stands.ensures.stands;
      spent = steps.1;
      alone = c.loop.invariant.alone;
      works = c.loop.invariant.works;
    })
