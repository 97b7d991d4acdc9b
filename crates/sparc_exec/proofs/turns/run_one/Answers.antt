use Rattle.sparc_table.proofs.Effects.{orderly_run}
use Rattle.sparc_exec.proofs.Outcomes.{missed_is, still_is}
use Rattle.sparc_exec.proofs.RunWords.{one_is}
use Rattle.sparc_exec.proofs.turns.run_one.Goals as goal

pub returns-clause-run : goal.returns-clause-run
returns-clause-run g c = one_is _ _ _ _ _ _ c.encode.ensures.row c.run_word.ensures.run

pub returns-clause-missed : goal.returns-clause-missed
returns-clause-missed g c = missed_is _ _ _ _ _ (orderly_run _ _ _) (one_is _ _ _ _ _ _ c.encode.ensures.row c.run_word.ensures.run)

pub returns-clause-still : goal.returns-clause-still
returns-clause-still g c = still_is _ _ _ _ _ (orderly_run _ _ _) (one_is _ _ _ _ _ _ c.encode.ensures.row c.run_word.ensures.run)
