-- By the laws on what is told, and on turns.
use Rattle.std.proofs.Common.{subst}
use Rattle.alw_image.specs.Faults.{image_in}
use Rattle.alw_endings.specs.declared.values.StuckRun.{StuckRun}
use Rattle.alw_endings.specs.Ends.{IsStuckRun}
use Rattle.law_turns.proofs.Stuck.{no_journal_is_stuck, every_journal_can_end}
use Rattle.law_endings.proofs.Ends.{every_end_is_of_a_run}
use Rattle.law_commands.proofs.laws.told_ends_are_of_runs.Goals as goal

pub returns-clause-told : goal.returns-clause-told
returns-clause-told c = λ most bytes output searches one parameters are. every_end_is_of_a_run (image_in bytes) searches.image one searches.told searches.are parameters are

pub returns-clause-unstuck : goal.returns-clause-unstuck
returns-clause-unstuck c = λ most bytes output searches one no.
    no_journal_is_stuck (image_in bytes) searches.image one (subst (λ (s : StuckRun). IsStuckRun (image_in bytes) s) no searches.are.stuck)

pub returns-clause-forever : goal.returns-clause-forever
returns-clause-forever c = λ most bytes output searches one no.
    every_journal_can_end (image_in bytes) searches.image one (subst (λ (s : StuckRun). IsStuckRun (image_in bytes) s) no searches.are.stuck)
