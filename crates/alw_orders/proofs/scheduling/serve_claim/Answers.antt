-- The turns of the claim that was read are taken, or what is refused.
use Rattle.std.proofs.Common.{ℕ, ◌≤◌, List, sym, subst}
use Rattle.std.specs.Prelude.{Err}
use Rattle.std.proofs.lemmas.Result.{err_from_is_err_and}
use Rattle.alw_answers.specs.declared.outputs.Refusal.{Refusal}
use Rattle.alw_answers.specs.Outputs.{Gives}
use Rattle.alw_answers.proofs.Refused.{no_text}
use Rattle.alw_checks.specs.Auditing.{SpellsClaim}
use Rattle.alw_serve.specs.Serving.{HasTaken, Serves}
use Rattle.alw_orders.specs.Scheduling.{Schedules, IsNotScheduled}
use Rattle.alw_image.specs.Images.{node_count}
use Rattle.alw_image.specs.Parameters.{Parameters}
use Rattle.alw_mesh.specs.Histories.{stamps_of}
use Rattle.alw_mesh.specs.Limits.{most_steps}
use Rattle.alw_runs.proofs.Ended.{fitted_points}
use Rattle.alw_orders.proofs.Scheduled.{params_are, not_served}
use Rattle.alw_orders.proofs.scheduling.serve_claim.Goals as goal

pub returns-in_err-claim : goal.returns-in_err-claim
returns-in_err-claim c =
    let stop = err_from_is_err_and c.from_residual.result c.from_residual.ensures.1 in
    rw (stop.1, stop.2) (no_text (Schedules c.args.params.now c.args.bytes.now) (IsNotScheduled c.args.params.now c.args.bytes.now) c.in_err-claim.field-0.0 (λ fault. (fault, c.in_err-claim.ensures.read)))

pub returns-in-Ok : goal.returns-in-Ok
returns-in-Ok c =
    let claim = c.in_ok-claim.claim in
    let served = c.in-Ok.served in
    let same = params_are c.args.params.now claim c.nodes.result c.nodes.ensures.count c.for_nodes-params.result c.for_nodes-params.ensures in
    record {
      claim = claim;
      spelled = record { text = c.in_ok-claim.ensures.read.0; is = c.in_ok-claim.ensures.read.1; types = c.in_ok-claim.ensures.types };
      taken = subst (λ (p : Parameters). HasTaken claim.image p claim.turns served.machine) same
          (subst (λ (turns : List ℕ). HasTaken claim.image c.for_nodes-params.result turns served.machine) c.members.ensures c.in-Ok.ensures.0);
      fits = subst (λ (p : Parameters). stamps_of claim.image p ≤ most_steps) same c.in-Ok.ensures.2;
      points = fitted_points (node_count claim.image) c.args.params.now c.limit-allowed.ensures.allowed.some_pointer;
      end = c.in-Ok.ensures.1;
    }

pub returns : goal.returns
returns c =
    let claim = c.in_ok-claim.claim in
    let spells : SpellsClaim c.args.bytes.now claim = record { text = c.in_ok-claim.ensures.read.0; is = c.in_ok-claim.ensures.read.1; types = c.in_ok-claim.ensures.types } in
    let same = params_are c.args.params.now claim c.nodes.result c.nodes.ensures.count c.for_nodes-params.result c.for_nodes-params.ensures in
    let stands = subst (λ (p : Parameters). Serves claim.image p claim.turns (Err c.in-Err.fault)) same
    (subst (λ (turns : List ℕ). Serves claim.image c.for_nodes-params.result turns (Err c.in-Err.fault)) c.members.ensures c.in-Err.ensures) in
    subst (λ (why : Refusal). Gives (Schedules c.args.params.now c.args.bytes.now) (IsNotScheduled c.args.params.now c.args.bytes.now) (Err why)) (sym c.refusal_of_serve.ensures)
    (not_served c.args.params.now c.args.bytes.now claim spells c.in-Err.fault stands)
