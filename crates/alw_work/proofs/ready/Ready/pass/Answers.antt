-- A pass that holds nothing keeps the rule.
use Rattle.alw_work.proofs.Fairness.{admits}
use Rattle.alw_work.proofs.ready.Ready.pass.Goals as goal

pub pass-requires : goal.pass-requires
pass-requires g c = admits g.I.Counting.nodes
