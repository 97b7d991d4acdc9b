use Rattle.alw_merge.proofs.TrapTurns.{trapped_turns}
use Rattle.alw_merge.proofs.laws.traps_are_turns.Goals as goal

pub returns : goal.returns
returns c = trapped_turns
