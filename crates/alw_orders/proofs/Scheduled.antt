-- What a claim that was read is scheduled to, or why it isn't.
use Rattle.std.proofs.Common.{◌≡◌, ℕ, ◌<◌, List, refl, sym, subst, ap, ◌∙◌}
use Rattle.std.specs.Prelude.{Err}
use Rattle.alw_image.specs.Images.{node_count}
use Rattle.alw_image.specs.Parameters.{Parameters, parameters_for}
use Rattle.alw_model.specs.declared.ends.Ended.{Ended}
use Rattle.alw_mesh.specs.Limits.{most_steps}
use Rattle.alw_mesh.specs.Histories.{History, begun}
use Rattle.alw_trace.specs.declared.values.Claim.{Claim}
use Rattle.alw_config.specs.declared.commands.Form.TheVariants.{Trace}
use Rattle.alw_checks.specs.Auditing.{SpellsClaim}
use Rattle.alw_runs.specs.Forms.{IsTold, output_of}
use Rattle.alw_runs.proofs.Ended.{IsFitFor, told_of_run}
use Rattle.alw_answers.specs.Outputs.{Gives}
use Rattle.alw_serve.specs.declared.errors.Hindrance.TheVariants.{NotReady, NotCurrent, AboveLimit}
use Rattle.alw_serve.specs.declared.errors.ServeErr.{ServeErr}
use Rattle.alw_serve.specs.declared.errors.ServeErr.TheVariants as serves
use Rattle.alw_serve.specs.Serving.{HasTaken, Serves}
use Rattle.alw_orders.specs.Scheduling.{parameters_to, Schedules, IsNotScheduled, IsOfClaim, refusal_of_serve}

-- parameters for the nodes of a claim's image
pub params_are : (params : Parameters) (claim : Claim) (nodes : ℕ) → nodes ≡ node_count claim.image → (p : Parameters) → p ≡ parameters_for nodes params → p ≡ parameters_to params claim
params_are params claim nodes count p is = is ∙ ap (λ n. parameters_for n params) count

module _ (parameters : Parameters) (bytes : List ℕ) (claim : Claim) (spells : SpellsClaim bytes claim) where
  pub not_served : (fault : ServeErr) → Serves claim.image (parameters_to parameters claim) claim.turns (Err fault) → Gives (Schedules parameters bytes) (IsNotScheduled parameters bytes) (Err (refusal_of_serve fault))
  not_served (serves.DoesNotFit number most) is =
      record { claim = claim; spelled = spells; holds = record { most_is = is.2; number_is = is.1; above = subst (λ (n : ℕ). most_steps < n) is.1 is.0 } }
  not_served (serves.NotTaken turn NotReady) is = record { claim = claim; spelled = spells; holds = is }
  not_served (serves.NotTaken turn NotCurrent) is = record { claim = claim; spelled = spells; holds = is }
  not_served (serves.NotTaken turn AboveLimit) is = record { claim = claim; spelled = spells; holds = is }
  not_served serves.NotFinished is = record { claim = claim; spelled = spells; holds = is }
  not_served serves.NoMemory is = tt

-- the trace of a machine that has taken a claim's turns
pub scheduled : (parameters : Parameters) (bytes : List ℕ) (h : History) (ended : Ended) → IsOfClaim parameters bytes (record { machine = h; ended = ended }) → Schedules parameters bytes (output_of h ended Trace)
scheduled parameters bytes h ended is = record {
  claim = is.claim;
  spelled = is.spelled;
  told = subst (λ (now : History). IsTold now.image now.parameters Trace (output_of h ended Trace)) is.taken.begun
      (told_of_run h ended Trace is.taken.run (subst (λ (now : History). IsFitFor most_steps now.image now.parameters) (sym is.taken.begun) (is.points, is.fits)) is.end);
  taken = subst (HasTaken is.claim.image (parameters_to parameters is.claim) is.claim.turns) is.taken.begun is.taken;
  merged = refl;
}
