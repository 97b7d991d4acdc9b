-- Each step goes behind those before it.
use Rattle.std.proofs.Common.{refl, arith}
use Rattle.std.proofs.lemmas.Result.{err_from_is_err_and}
use Rattle.alw_work.proofs.Turned.{acts_on, was_taken, was_refused}
use Rattle.alw_work.proofs.seats.Locked.run.Goals as goal

pub loop-steps-init : goal.loop-steps-init
loop-steps-init g c = record { few = omega arith; acts = refl }

pub returns-in_err-act : goal.returns-in_err-act
returns-in_err-act g c =
    let stop = err_from_is_err_and c.from_residual.result c.from_residual.ensures.1 in
    let acts = rw c.in_err-act.was at c.act.ensures in
    rw stop.1 (record {
      steps = c.loop-steps.steps;
      few = c.loop-steps.invariant.few;
      last = c.loop-steps.self;
      acts = c.loop-steps.invariant.acts;
      told = was_refused c.loop-steps.self c.act.new.self _ acts;
    })

pub loop-steps-preserved : goal.loop-steps-preserved
loop-steps-preserved g c = record {
  few = omega (arith, c.loop-steps-test.true);
  acts = acts_on c.loop-steps.steps c.args.self.now c.loop-steps.self c.act.new.self c.loop-steps.invariant.acts (c.may_run.ensures c.if-may_run.true)
      (was_taken c.loop-steps.self c.act.new.self c.in_ok-act.field-0 (c.may_run.ensures c.if-may_run.true) c.in_ok-act.ensures);
}
