-- While no end holds a main event may be next.
use Rattle.std.proofs.Common.{arith}
use Rattle.alw_sched.proofs.Picking.{some_event}
use Rattle.alw_sched.proofs.schedules.pick.Goals as goal

pub drawn-requires : goal.drawn-requires
drawn-requires c = omega (arith, some_event c.args.machine.now c.requires)
