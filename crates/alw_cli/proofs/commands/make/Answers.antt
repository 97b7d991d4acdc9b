use Rattle.alw_cli.proofs.commands.make.Goals as goal

pub returns-in-Asm : goal.returns-in-Asm
returns-in-Asm c = rw c.in-Asm.is c.assemble_source.ensures

pub returns-in-Run : goal.returns-in-Run
returns-in-Run c = rw c.in-Run.is c.run_bytes.ensures

pub returns-in-RunByTime : goal.returns-in-RunByTime
returns-in-RunByTime c = rw c.in-RunByTime.is c.run_by_time.ensures

pub returns-in-Replay : goal.returns-in-Replay
returns-in-Replay c = rw c.in-Replay.is c.replay_bytes.ensures

pub returns-in-Audit : goal.returns-in-Audit
returns-in-Audit c = rw c.in-Audit.is c.audit_bytes.ensures

pub returns-in-Gen : goal.returns-in-Gen
returns-in-Gen c = rw c.in-Gen.is c.make_workload.ensures

pub returns-in-Route : goal.returns-in-Route
returns-in-Route c = rw c.in-Route.is c.route_bytes.ensures

pub returns-in-Save : goal.returns-in-Save
returns-in-Save c = rw c.in-Save.is c.save_bytes.ensures

pub returns-in-Resume : goal.returns-in-Resume
returns-in-Resume c = rw c.in-Resume.is c.resume.ensures

pub returns-in-Outcomes : goal.returns-in-Outcomes
returns-in-Outcomes c = rw c.in-Outcomes.is c.search_bytes.ensures

pub returns-in-Dis : goal.returns-in-Dis
returns-in-Dis c = rw c.in-Dis.is c.read_back.ensures

pub returns-in-Schedule : goal.returns-in-Schedule
returns-in-Schedule c = rw c.in-Schedule.is c.schedule_bytes.ensures

pub returns-in-Time : goal.returns-in-Time
returns-in-Time c = rw c.in-Time.is c.time_bytes.ensures
