-- Each part of what is left.
use Rattle.std.proofs.lemmas.Result.{IfOk-weaker}
use Rattle.alw_work.proofs.runs.run_workers.Goals as goal

pub returns-clause-worked : goal.returns-clause-worked
returns-clause-worked g c = IfOk-weaker c.run_named.result _ _ (λ worked left. left.0) c.run_named.ensures

pub returns-clause-spent : goal.returns-clause-spent
returns-clause-spent g c = IfOk-weaker c.run_named.result _ _ (λ worked left. left.1) c.run_named.ensures
