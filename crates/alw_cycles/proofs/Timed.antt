-- An image that the timed schedule has taken to an end.
use Rattle.std.proofs.Common.{◌≡◌, ℕ, List, [], ◌∷◌, refl, sym, ap, subst, ◌∙◌}
use Rattle.alw_msg.specs.declared.events.Event.{Event}
use Rattle.alw_image.specs.declared.parts.Parts.{Parts}
use Rattle.alw_image.specs.Images.{spelling}
use Rattle.alw_image.specs.Parameters.{Parameters}
use Rattle.alw_model.specs.declared.ends.Ended.{Ended}
use Rattle.alw_model.specs.Headline.{IsScheduled}
use Rattle.alw_mesh.specs.Limits.{most_timed_steps}
use Rattle.alw_mesh.specs.Histories.{History, begun, grown}
use Rattle.alw_timing.specs.declared.timing.Timekeeper.{Timekeeper}
use Rattle.alw_times.specs.declared.costs.Costs.{Costs}
use Rattle.alw_due.specs.Due.{EventsAreTimed, MachineIsTimed, IsTimedRun, FinishesByTime}
use Rattle.alw_due.proofs.Timely.{timed_scheduled}
use Rattle.alw_config.specs.declared.commands.TimedForm.{TimedForm}
use Rattle.alw_runs.specs.Forms.{IsToldBy}
use Rattle.alw_runs.proofs.Ended.{IsReadAs, IsFitFor, output_by, told_by}
use Rattle.alw_answers.specs.declared.outputs.Output.{Output}
use Rattle.alw_cycles.specs.ByTime.{timed_text, TellsByTime, RunsByTime}

-- the timed schedule changes nothing but the journal
stays : (h : History) (costs : Costs) (events : List Event) (after : History) → EventsAreTimed h costs events after → after ≡ record h { journal = after.journal }
stays h costs [] after are = subst (λ (g : History). g ≡ record h { journal = g.journal }) are refl
stays h costs (event ∷ rest) after are = stays (grown h event) costs rest after are.1

pub ran_by_time : (costs : Costs) (params : Parameters) (form : TimedForm) (bytes : List ℕ) (image : Parts) (output : Output) → IsReadAs bytes image → IsFitFor most_timed_steps image params →
    TellsByTime (begun image params) costs form output → RunsByTime costs params form bytes output
ran_by_time costs params form bytes image output read fit tells =
    let after = tells.after in
    let is : after ≡ record { image = image; parameters = params; journal = after.journal; joined = 0 } = stays (begun image params) costs tells.timed.events after tells.timed.timed_are in
    let run : IsTimedRun image params costs after.journal = subst (λ (h : History). MachineIsTimed (begun image params) costs h) is tells.timed in
    subst (RunsByTime costs params form bytes) (sym tells.told)
    (record {
      accepted = read.accepted;
      spelled = read.spelled ∙ ap spelling read.same;
      told = subst (λ (p : Parts). IsToldBy most_timed_steps (timed_text costs form) p params (output_by (timed_text costs form) after tells.ended)) read.same
          (subst (λ (h : History). IsToldBy most_timed_steps (timed_text costs form) h.image h.parameters (output_by (timed_text costs form) after tells.ended)) is
          (told_by most_timed_steps (timed_text costs form) after tells.ended tells.run (subst (λ (h : History). IsFitFor most_timed_steps h.image h.parameters) (sym is) fit) tells.end));
      scheduled = subst (λ (p : Parts). IsScheduled p params after.journal) read.same (timed_scheduled image params costs after.journal run);
      timed = subst (λ (p : Parts). IsTimedRun p params costs after.journal) read.same run;
      merged = refl;
    })

-- a machine that has been taken to an end is told
pub tells_finished : (costs : Costs) (form : TimedForm) (before after : History) (start keeper : Timekeeper) (e : Ended) (output : Output) → start.costs ≡ costs →
    FinishesByTime before start after e keeper → output ≡ output_by (timed_text costs form) after e → TellsByTime before costs form output
tells_finished costs form before after start keeper e output by done told = record {
  after = after;
  ended = e;
  timed = subst (λ (cs : Costs). MachineIsTimed before cs after) by done.timed;
  run = done.run;
  end = done.end;
  told = told;
}
