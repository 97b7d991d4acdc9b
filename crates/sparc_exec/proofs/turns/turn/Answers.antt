use Rattle.sparc_table.proofs.Effects.{orderly_turn}
use Rattle.sparc_exec.specs.Runs.{seen}
use Rattle.sparc_exec.proofs.Outcomes.{missed_is, still_is}
use Rattle.sparc_exec.proofs.RunWords.{turn_is, turn_past}
use Rattle.sparc_exec.proofs.turns.turn.Goals as goal

pub returns-in-Some-clause-run : goal.returns-in-Some-clause-run
returns-in-Some-clause-run g c = turn_is _ _ _ _ _ _ c.in-Some.ensures.lookup.0 c.in-Some.ensures.lookup.1 c.run_word.ensures.run

pub returns-in-Some-clause-missed : goal.returns-in-Some-clause-missed
returns-in-Some-clause-missed g c = missed_is _ _ _ _ _ (orderly_turn _ _ _) (turn_is _ _ _ _ _ _ c.in-Some.ensures.lookup.0 c.in-Some.ensures.lookup.1 c.run_word.ensures.run)

pub returns-in-Some-clause-still : goal.returns-in-Some-clause-still
returns-in-Some-clause-still g c = still_is _ _ _ _ _ (orderly_turn _ _ _) (turn_is _ _ _ _ _ _ c.in-Some.ensures.lookup.0 c.in-Some.ensures.lookup.1 c.run_word.ensures.run)

pub returns-in-None-clause-run : goal.returns-in-None-clause-run
returns-in-None-clause-run g c = turn_past _ _ _ c.in-None.ensures.lookup.0

pub returns-in-None-clause-missed : goal.returns-in-None-clause-missed
returns-in-None-clause-missed g c = missed_is _ _ _ _ _ (orderly_turn _ _ _) (turn_past _ _ (seen c.args.regs.now (g.P.Port.copy c.args.port.now) (g.P.Port.calls c.args.port.now)) c.in-None.ensures.lookup.0)
