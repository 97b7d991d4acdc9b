-- What a run of a searched image reports is told.
use Rattle.std.proofs.Common.{◌≡◌, refl, sym, ◌∙◌, subst}
use Rattle.alw_image.specs.declared.parts.Parts.{Parts}
use Rattle.alw_image.specs.Parameters.{Parameters}
use Rattle.alw_model.specs.declared.ends.Ended.{Ended}
use Rattle.alw_model.specs.declared.ends.Ended.TheVariants as ended
use Rattle.alw_model.specs.Machine.{state}
use Rattle.alw_model.specs.Ends.{IsEnd}
use Rattle.alw_report.specs.Reports.{told_of}
use Rattle.alw_config.specs.declared.commands.Form.{Form}
use Rattle.alw_endings.specs.declared.values.Outcomes.{Outcomes}
use Rattle.alw_endings.specs.Schedules.{TellsEveryRun}
use Rattle.law_endings.proofs.Ends.{all_have}
use Rattle.alw_answers.specs.declared.outputs.Ending.{Ending}
use Rattle.alw_answers.specs.declared.outputs.Ending.TheVariants as ending
use Rattle.alw_answers.specs.declared.outputs.Output.{Output}
use Rattle.alw_answers.specs.Outputs.{ending_of}
use Rattle.alw_runs.specs.Forms.{IsTold}
use Rattle.alw_checks.specs.Searching.{TellsReport}

-- a run ended as all contexts halted
is_halt : (e : Ended) → ending.Fine ≡ ending_of e → e ≡ ended.Halted
is_halt ended.Halted same = refl
is_halt (ended.Trapped at) same = absurd cc
is_halt (ended.Limit event) same = absurd cc

pub tells_report : (image : Parts) (told : Outcomes) → TellsEveryRun image told → (parameters : Parameters) (form : Form) (output : Output) → IsTold image parameters form output →
    output.ending ≡ ending.Fine → TellsReport image told (told_of image parameters output.journal ended.Halted)
tells_report image told every parameters form output run fine =
    let halted = is_halt run.ended (sym fine ∙ run.ending) in
    every.halted parameters run.parameters_are.some_pointer output.journal run.run.legal
    (all_have image parameters (state image parameters output.journal) (subst (λ (e : Ended). IsEnd image parameters output.journal e) halted run.run.end))
