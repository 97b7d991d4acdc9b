-- What a run is written as, by the form that is asked for.
use Rattle.std.specs.Prelude.{◌≡◌, ℕ, ◌<◌, ◌≤◌, true, List}
use Rattle.alw_msg.specs.declared.events.Entry.{Entry}
use Rattle.alw_image.specs.declared.parts.Parts.{Parts}
use Rattle.alw_image.specs.Images.{IsImage, node_count}
use Rattle.alw_image.specs.Parameters.{Parameters, AreParameters, may_point}
use Rattle.alw_model.specs.declared.ends.Ended.{Ended}
use Rattle.alw_model.specs.Headline.{IsCoherentRun}
use Rattle.alw_mesh.specs.Limits.{most_steps}
use Rattle.alw_mesh.specs.Histories.{History, stamps_of}
use Rattle.alw_report.specs.Reports.{report_of, summary_of}
use Rattle.alw_report.specs.Json.{json_of}
use Rattle.alw_trace.specs.Texts.{trace_text, claim_text}
use Rattle.alw_log.specs.Logs.{log_of}
use Rattle.alw_profile.specs.Json.{profile_of}
use Rattle.alw_audit.specs.Claims.{claim_of}
use Rattle.alw_config.specs.declared.commands.Form.{Form}
use Rattle.alw_config.specs.declared.commands.Form.TheVariants.{Report, Json, Trace, Claim, Summary, Log, Profile}
use Rattle.alw_answers.specs.declared.outputs.Output.{Output}
use Rattle.alw_answers.specs.Outputs.{ending_of}

unfoldable pub run_text : Form → Parts → Parameters → List Entry → Ended → List ℕ
run_text Report image parameters journal ended = report_of image parameters journal ended
run_text Json image parameters journal ended = json_of image parameters journal ended
run_text Trace image parameters journal ended = trace_text (record { image = image; params = parameters; journal = journal })
run_text Claim image parameters journal ended = claim_text (claim_of image parameters journal)
run_text Summary image parameters journal ended = summary_of image parameters journal ended
run_text Log image parameters journal ended = log_of image parameters journal ended
run_text Profile image parameters journal ended = profile_of image parameters journal

-- what is made of a machine at an end, with a text, or in a form
abbrev pub output_with : History → Ended → List ℕ → Output
output_with machine ended text = record { text = text; ending = ending_of ended; journal = machine.journal; merged = 0 }

abbrev pub output_of : History → Ended → Form → Output
output_of machine ended form = output_with machine ended (run_text form machine.image machine.parameters machine.journal ended)

-- a text of a run, by its image, its parameters, its journal and its end
abbrev pub TextOf : Type 0
TextOf = Parts → Parameters → List Entry → Ended → List ℕ

-- the headline, of an output: its journal is a coherent run of an image that fits, up to the end that it tells, and its text is this one of that run;
-- an entry has a few pointers, or one for each node
pub record IsToldBy (most : ℕ) (text_of : TextOf) (image : Parts) (parameters : Parameters) (output : Output) : Type 0 where
  pub image_is : IsImage image
  pub parameters_are : AreParameters parameters
  pub points : may_point (node_count image) parameters.pointers ≡ true
  pub fits : stamps_of image parameters ≤ most
  pub ended : Ended
  pub run : IsCoherentRun image parameters output.journal ended
  pub ending : output.ending ≡ ending_of ended
  pub text : output.text ≡ text_of image parameters output.journal ended

-- that in a form, where no time is kept
abbrev pub IsTold : Parts → Parameters → Form → Output → Type 0
IsTold image parameters form output = IsToldBy most_steps (run_text form) image parameters output

-- the image doesn't fit, by these numbers
pub record IsTooMuch (bound : ℕ) (image : Parts) (parameters : Parameters) (number most : ℕ) : Type 0 where
  pub most_is : most ≡ bound
  pub number_is : number ≡ stamps_of image parameters
  pub above : bound < stamps_of image parameters
