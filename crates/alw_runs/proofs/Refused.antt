-- What a command's function answers where a machine doesn't start.
use Rattle.std.proofs.Common.{ℕ, List, arith}
use Rattle.std.specs.Prelude.{Err}
use Rattle.alw_msg.specs.declared.events.Entry.{Entry}
use Rattle.alw_image.specs.declared.parts.Parts.{Parts}
use Rattle.alw_image.specs.Parameters.{Parameters}
use Rattle.alw_mesh.specs.declared.errors.FitErr.{FitErr}
use Rattle.alw_mesh.specs.declared.errors.FitErr.TheVariants as fits
use Rattle.alw_mesh.specs.Limits.{most_steps}
use Rattle.alw_mesh.specs.Histories as histories
use Rattle.alw_replay.specs.Replays as replays
use Rattle.alw_answers.specs.declared.answers.InputErr.{InputErr}
use Rattle.alw_answers.specs.declared.answers.InputErr.TheVariants as reason
use Rattle.alw_answers.specs.declared.outputs.Output.{Output}
use Rattle.alw_answers.specs.Outputs.{Gives}
use Rattle.alw_answers.specs.Refusals.{refusal_of_fit}
use Rattle.alw_runs.specs.Forms.{IsTooMuch}

module _ (Makes : Output → Type 0) (Refuses : InputErr → Type 0) where
  -- a machine that doesn't start
  module _ (parts : Parts) (parameters : Parameters) (refuses : (number most : ℕ) → IsTooMuch most_steps parts parameters number most → Refuses (reason.LimitDoesNotFit number most)) where
    pub no_start : (fit : FitErr) → histories.Starts parts parameters (Err fit) → Gives Makes Refuses (Err (refusal_of_fit fit))
    no_start (fits.DoesNotFit number most) is = refuses number most (record { most_is = is.2; number_is = is.1; above = omega (arith, is.0, is.1) })
    no_start fits.NoMemory is = tt

    pub no_replay : (entries : List Entry) (fit : FitErr) → replays.Replays parts parameters entries (Err fit) → Gives Makes Refuses (Err (refusal_of_fit fit))
    no_replay entries (fits.DoesNotFit number most) is = refuses number most (record { most_is = is.2; number_is = is.1; above = omega (arith, is.0, is.1) })
    no_replay entries fits.NoMemory is = tt
