-- All times stay within the bound.
use Rattle.std.proofs.Common.{◌+◌, ◌≤◌, ◌^◌, sym, subst, arith}
use Rattle.alw_msg.specs.Events.{node_of}
use Rattle.alw_times.specs.Times.{Times, time_at}
use Rattle.alw_times.specs.Within.{AreWithin, QueuesAreWithin, TimesAreWithin}
use Rattle.alw_times.proofs.Bounds.{time_within, left_within, wider}
use Rattle.alw_times.proofs.clocks.Clocks.pass.Goals as goal

pub overflow_add-finish : goal.overflow_add-finish
overflow_add-finish c = omega (arith, c.start-start.ensures.within (2 ^ 63) c.requires, c.cost.ensures.few)

pub leave-requires-clause-finish : goal.leave-requires-clause-finish
leave-requires-clause-finish c = omega (arith, c.start-start.ensures.within (2 ^ 63) c.requires, c.cost.ensures.few)

pub returns-clause-within : goal.returns-clause-within
returns-clause-within c = λ most are.
    let self = c.args.self.now in
    let at = node_of c.args.happened.now.event in
    let more = most + 2 ^ 33 in
    let wide = wider most more (omega arith) self are in
    let early = c.start-start.ensures.within most are in
    let few = c.cost.ensures.few in
    let port = time_within most self.ports at are.ports in
    let left = c.in_ok-leave.ensures.left in
    let arrivals = c.in_ok-leave.ensures.arrivals more (omega (arith, early, few, port)) wide.arrivals in
    let wakes = c.in_ok-leave.ensures.wakes more (omega (arith, early, few)) wide.wakes in
    let free : time_at c.leave.new.self.ports at ≤ more = omega (arith, c.in_ok-leave.ensures.port, early, few, port) in
    subst (λ (times : Times). TimesAreWithin more times) (sym left)
    (left_within more c.args.image.now c.args.costs.now self c.args.happened.now c.args.sends.now.messages c.start-start.result (c.start-start.result + c.cost.result) wide
    (omega (arith, early)) (omega (arith, early, few)) (subst (λ (times : Times). time_at times.ports at ≤ more) left free)
    (subst (λ (times : Times). QueuesAreWithin more times.arrivals) left arrivals) (subst (λ (times : Times). AreWithin more times.wakes) left wakes))
