-- What the image that was read can come to is told, or what is refused.
use Rattle.std.proofs.Common.{ap, subst, ◌∙◌}
use Rattle.std.proofs.lemmas.Result.{err_from_is_err_and}
use Rattle.alw_image.specs.declared.parts.Parts.{Parts}
use Rattle.alw_image.specs.Images.{IsImage, spelling}
use Rattle.alw_endings.specs.Ends.{AreOutcomes}
use Rattle.alw_checks.specs.Searching.{Searches}
use Rattle.alw_answers.specs.Refusals.{IsNoImage}
use Rattle.alw_answers.proofs.Refused.{no_image}
use Rattle.alw_checks.proofs.searching.search_bytes.Goals as goal

pub returns-in_err-image : goal.returns-in_err-image
returns-in_err-image c =
    let stop = err_from_is_err_and c.from_residual.result c.from_residual.ensures.1 in
    rw (stop.1, stop.2) (no_image (Searches c.args.most c.args.bytes.now) (IsNoImage c.args.bytes.now) c.in_err-image.field-0.0 c.in_err-image.ensures.fault)

pub returns : goal.returns
returns c =
    let read = c.in_ok-image.ensures in
    record {
      accepted = read.accepted;
      spelled = read.found ∙ ap spelling read.parts;
      image = subst IsImage (c.image.view_is ∙ read.parts) c.image.invariant;
      told = c.in_ok-told.told;
      are = subst (λ (p : Parts). AreOutcomes p c.in_ok-told.told) read.parts c.in_ok-told.ensures.are;
      stopped = c.in_ok-told.ensures.stopped;
      few = c.in_ok-told.ensures.few;
      text = record {
        text_is = c.of_text.ensures.text_is ∙ c.in_ok-text.ensures;
        ending_is = c.of_text.ensures.ending_is ∙ c.ending_of_outcomes.ensures;
        no_journal = c.of_text.ensures.no_journal;
        no_merged = c.of_text.ensures.no_merged;
      };
    }
