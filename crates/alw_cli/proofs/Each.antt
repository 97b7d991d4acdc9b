-- Each command is kept, and so is a run by workers.
use Rattle.alw_config.specs.declared.commands.Asked.{Asked}
use Rattle.alw_config.specs.declared.commands.Asked.TheVariants as asked
use Rattle.alw_config.specs.declared.commands.Command.{Command}
use Rattle.alw_config.specs.declared.commands.Command.TheVariants as commands
use Rattle.alw_cli.specs.Answers.{task_of, task_for}
use Rattle.alw_answers.proofs.Kept.{IsKept}
use Rattle.alw_builds.proofs.Kept.{asm_kept, dis_kept, gen_kept}
use Rattle.alw_checks.proofs.Kept.{audit_kept, search_kept}
use Rattle.alw_runs.proofs.Kept.{run_kept, replay_kept}
use Rattle.alw_threads.proofs.Kept.{work_kept}
use Rattle.alw_cuts.proofs.Kept.{route_kept, save_kept, resume_kept}
use Rattle.alw_orders.proofs.Kept.{schedule_kept}
use Rattle.alw_cycles.proofs.Kept.{time_kept, by_time_kept}

each_kept : (command : Command) → IsKept (task_of command)
each_kept (commands.Asm form) = asm_kept form
each_kept (commands.Run seed params form) = run_kept seed params form
each_kept (commands.RunByTime costs params form) = by_time_kept costs params form
each_kept (commands.Replay form) = replay_kept form
each_kept (commands.Audit form) = audit_kept form
each_kept (commands.Gen seed width height size) = gen_kept (record { seed = seed; width = width; height = height; size = size })
each_kept (commands.Route seed) = route_kept
each_kept (commands.Save at) = save_kept at
each_kept (commands.Resume seed evict form) = resume_kept seed evict form
each_kept (commands.Outcomes most) = search_kept most
each_kept (commands.Schedule params) = schedule_kept params
each_kept (commands.Time costs form) = time_kept costs form
each_kept commands.Dis = dis_kept

pub all_kept : (it : Asked) → IsKept (task_for it)
all_kept (asked.Alone command) = each_kept command
all_kept (asked.Workers work) = work_kept work.workers work.params work.write
