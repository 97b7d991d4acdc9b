-- The command `schedule`.
use Rattle.std.specs.Prelude.{◌≡◌, ℕ, ◌*◌, ◌<◌, ◌≤◌, true, ◌⊎◌, List, length, Result, Ok, Err}
use Rattle.alw_msg.specs.Statuses.{has_trapped}
use Rattle.alw_image.specs.Images.{node_count}
use Rattle.alw_image.specs.Parameters.{Parameters, may_point, parameters_for}
use Rattle.alw_model.specs.Ends.{IsEnd}
use Rattle.alw_model.specs.Flat.{AreReady, flat_after, context_at}
use Rattle.alw_places.specs.Outcomes.{flat_halted}
use Rattle.alw_mesh.specs.Limits.{most_steps}
use Rattle.alw_mesh.specs.Histories.{begun, stamps_of}
use Rattle.law_turns.specs.Turns.{turn_events, NoneTrapsEarly}
use Rattle.alw_serve.specs.declared.errors.Hindrance.{Hindrance}
use Rattle.alw_serve.specs.declared.errors.Hindrance.TheVariants.{NotReady, NotCurrent, AboveLimit}
use Rattle.alw_serve.specs.declared.errors.ServeErr.{ServeErr}
use Rattle.alw_serve.specs.declared.errors.ServeErr.TheVariants as serves
use Rattle.alw_serve.specs.declared.serving.Served.{Served}
use Rattle.alw_serve.specs.Serving.{HasTaken, StandsAgainst, IsUnfinished}
use Rattle.alw_trace.specs.declared.values.Claim.{Claim}
use Rattle.alw_config.specs.declared.commands.Form.TheVariants.{Trace}
use Rattle.alw_answers.specs.declared.answers.InputErr.{InputErr}
use Rattle.alw_answers.specs.declared.answers.InputErr.TheVariants as reason
use Rattle.alw_answers.specs.declared.outputs.Output.{Output}
use Rattle.alw_answers.specs.declared.outputs.Refusal.{Refusal}
use Rattle.alw_answers.specs.declared.outputs.Refusal.TheVariants as refusal
use Rattle.alw_answers.specs.Outputs.{Gives, is_run}
use Rattle.alw_answers.specs.Tasks.{Task}
use Rattle.alw_checks.specs.Auditing.{SpellsClaim, IsNoClaim}
use Rattle.alw_runs.specs.Forms.{IsTold, IsTooMuch}

-- why a claim isn't scheduled, as a refusal
abbrev pub refusal_of_hindrance : ℕ → Hindrance → Refusal
refusal_of_hindrance turn NotReady = refusal.Fault (reason.NotReady turn)
refusal_of_hindrance turn NotCurrent = refusal.Fault (reason.NotCurrent turn)
refusal_of_hindrance turn AboveLimit = refusal.Fault (reason.AboveLimit turn)

abbrev pub refusal_of_serve : ServeErr → Refusal
refusal_of_serve (serves.DoesNotFit number most) = refusal.Fault (reason.LimitDoesNotFit number most)
refusal_of_serve (serves.NotTaken turn why) = refusal_of_hindrance turn why
refusal_of_serve serves.NotFinished = refusal.Fault reason.Unfinished
refusal_of_serve serves.NoMemory = refusal.NoMemory

-- the bytes are the text of a claim of which this holds
pub record IsClaimThat (Holds : Claim → Type 0) (bytes : List ℕ) : Type 0 where
  pub claim : Claim
  pub spelled : SpellsClaim bytes claim
  pub holds : Holds claim

-- parameters for the image of a claim
abbrev pub parameters_to : Parameters → Claim → Parameters
parameters_to parameters claim = parameters_for (node_count claim.image) parameters

-- the bytes are a claim, and the text is the trace of a coherent run that takes its turns, exactly these and in this order, up to an end
pub record Schedules (parameters : Parameters) (bytes : List ℕ) (output : Output) : Type 0 where
  pub claim : Claim
  pub spelled : SpellsClaim bytes claim
  pub told : IsTold claim.image (parameters_to parameters claim) Trace output
  pub taken : HasTaken claim.image (parameters_to parameters claim) claim.turns (record (begun claim.image (parameters_to parameters claim)) { journal = output.journal })
  pub merged : output.merged ≡ 0

-- this stands against a turn of the claim
abbrev pub IsHindered : Parameters → ℕ → Hindrance → Claim → Type 0
IsHindered parameters turn why claim = (turn < length claim.turns) × StandsAgainst claim.image (parameters_to parameters claim) claim.turns turn why

-- the bytes are no claim, or one that doesn't fit, or that has a turn that isn't taken, or that comes to no end
abbrev pub IsNotScheduled : Parameters → List ℕ → InputErr → Type 0
IsNotScheduled parameters bytes (reason.Text fault) = IsNoClaim bytes (reason.Text fault)
IsNotScheduled parameters bytes (reason.LimitDoesNotFit number most) = IsClaimThat (λ claim. IsTooMuch most_steps claim.image (parameters_to parameters claim) number most) bytes
IsNotScheduled parameters bytes (reason.NotReady turn) = IsClaimThat (IsHindered parameters turn NotReady) bytes
IsNotScheduled parameters bytes (reason.NotCurrent turn) = IsClaimThat (IsHindered parameters turn NotCurrent) bytes
IsNotScheduled parameters bytes (reason.AboveLimit turn) = IsClaimThat (IsHindered parameters turn AboveLimit) bytes
IsNotScheduled parameters bytes reason.Unfinished = IsClaimThat (λ claim. IsUnfinished claim.image (parameters_to parameters claim) claim.turns) bytes
IsNotScheduled parameters bytes _ = ⊥

-- ---- the machine that takes the turns

-- the bytes are a claim, and the machine has taken its turns
pub record IsOfClaim (parameters : Parameters) (bytes : List ℕ) (served : Served) : Type 0 where
  pub claim : Claim
  pub spelled : SpellsClaim bytes claim
  pub taken : HasTaken claim.image (parameters_to parameters claim) claim.turns served.machine
  pub fits : stamps_of claim.image (parameters_to parameters claim) ≤ most_steps
  pub points : may_point (node_count claim.image) (parameters_to parameters claim).pointers ≡ true
  pub end : IsEnd served.machine.image served.machine.parameters served.machine.journal served.ended

abbrev pub TakesClaim : Parameters → List ℕ → Result Served Refusal → Type 0
TakesClaim parameters bytes (Ok served) = IsOfClaim parameters bytes served
TakesClaim parameters bytes (Err why) = Gives (Schedules parameters bytes) (IsNotScheduled parameters bytes) (Err why)

-- ---- which claims are scheduled

-- behind its turns all contexts of the flat memory have halted, or one has trapped
abbrev pub ComesToEnd : Claim → Type 0
ComesToEnd claim = (flat_halted (flat_after claim.image claim.turns) ≡ true) ⊎ ((context : ℕ) × (has_trapped (context_at (flat_after claim.image claim.turns) context).status ≡ true))

-- a claim that is scheduled whatever else: of one context a node, it fits, each turn is of a context that is Ready on the flat memory where none has
-- trapped, behind all of them that has come to an end, and the limit leaves room for their events
pub record CanBeScheduled (parameters : Parameters) (claim : Claim) : Type 0 where
  pub one : claim.image.contexts ≡ 1
  pub fits : stamps_of claim.image (parameters_to parameters claim) ≤ most_steps
  pub ready : AreReady claim.image claim.turns
  pub early : NoneTrapsEarly claim.image claim.turns
  pub ends : ComesToEnd claim
  pub room : length claim.turns * turn_events claim.image ≤ parameters.limit

abbrev pub schedule_task : Parameters → Task
schedule_task parameters = record {
  reads = true;
  Makes = Schedules parameters;
  Refuses = IsNotScheduled parameters;
  Accepts = IsClaimThat (CanBeScheduled parameters);
  is_done = is_run;
}
