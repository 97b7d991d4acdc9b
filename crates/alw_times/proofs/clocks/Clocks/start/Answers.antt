-- The start is within the bound.
use Rattle.std.proofs.Common.{rules, ◌≡◌, ◌<◌, ◌^◌, arith}
use Rattle.alw_times.specs.Times.{work_before, start_by}
use Rattle.alw_times.proofs.Bounds.{begin_within, start_within}
use Rattle.alw_times.proofs.clocks.Clocks.start.Goals as goal

pub overflow_add-acts : goal.overflow_add-acts
overflow_add-acts c =
    omega (arith, c.work_before.ensures.few, c.begin-begin.ensures, begin_within (2 ^ 63) c.args.image.now c.args.self.now c.args.slot c.args.event c.requires)

pub returns-clause-within : goal.returns-clause-within
returns-clause-within c = λ most are.
    let same : c.max.result ≡ start_by c.args.image.now c.args.costs.now c.args.self.now c.args.slot c.args.event = search rules in
    let few : work_before c.args.costs.now c.args.event < 2 ^ 16 = omega (arith, c.work_before.ensures.work, c.work_before.ensures.few) in
    omega (arith, same, start_within most c.args.image.now c.args.costs.now c.args.self.now c.args.slot c.args.event are few)
