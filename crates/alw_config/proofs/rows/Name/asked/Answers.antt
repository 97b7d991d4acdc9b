use Rattle.alw_config.proofs.rows.Name.asked.Goals as goal

pub returns-in-Timed-clause-asked : goal.returns-in-Timed-clause-asked
returns-in-Timed-clause-asked c = rw c.in-Timed.is c.timed_run.ensures.asked

pub returns-in-Run-clause-asked : goal.returns-in-Run-clause-asked
returns-in-Run-clause-asked c = rw c.in-Run.is c.drawn_run.ensures.asked
