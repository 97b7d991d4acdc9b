-- By the law on what runs come to.
use Rattle.std.proofs.Common.{subst}
use Rattle.alw_image.specs.declared.parts.Parts.{Parts}
use Rattle.alw_image.specs.Faults.{image_in}
use Rattle.alw_image.specs.Images.{node_count}
use Rattle.alw_image.specs.Parameters.{AreParameters, parameters_for}
use Rattle.alw_model.specs.Machine.{IsLegal}
use Rattle.law_turns.specs.Stuck.{HasEnded}
use Rattle.law_endings.proofs.Ends.{every_run_comes_to_told}
use Rattle.law_commands.proofs.laws.told_turns_are_scheduled.Goals as goal

pub returns : goal.returns
returns c = λ most bytes searched searches parameters claimed output schedules same.
    every_run_comes_to_told _ searches.told searches.are (parameters_for (node_count (image_in bytes)) parameters)
    (subst (λ (p : Parts). AreParameters (parameters_for (node_count p) parameters)) same schedules.told.parameters_are) output.journal
    (subst (λ (p : Parts). IsLegal p (parameters_for (node_count p) parameters) output.journal) same schedules.told.run.legal)
    (subst (λ (p : Parts). HasEnded p (parameters_for (node_count p) parameters) output.journal) same schedules.taken.ended)
