-- The source of the image that was read, or what is refused.
use Rattle.std.proofs.Common.{ap, subst, ◌∙◌, arith}
use Rattle.std.proofs.lemmas.Result.{err_from_is_err_and}
use Rattle.alw_image.specs.Images.{IsImage, spelling}
use Rattle.alw_source.specs.Sources.{source_of}
use Rattle.alw_answers.specs.Refusals.{IsNoImage}
use Rattle.alw_answers.proofs.Refused.{no_image}
use Rattle.alw_builds.specs.ReadingBack.{ReadsBack}
use Rattle.alw_builds.proofs.Words.{has_words, all_bytes}
use Rattle.alw_builds.proofs.reading_back.read_back.Goals as goal

pub returns-in_err-image : goal.returns-in_err-image
returns-in_err-image c =
    let stop = err_from_is_err_and c.from_residual.result c.from_residual.ensures.1 in
    rw (stop.1, stop.2) (no_image (ReadsBack c.args.bytes.now) (IsNoImage c.args.bytes.now) c.in_err-image.field-0.0 c.in_err-image.ensures.fault)

pub returns : goal.returns
returns c =
    let read = c.in_ok-image.ensures in
    record {
      accepted = read.accepted;
      spelled = read.found ∙ ap spelling read.parts;
      image = subst IsImage (c.image.view_is ∙ read.parts) c.image.invariant;
      words = has_words c.args.bytes.now (all_bytes c.args.bytes.now (λ k. omega (arith, c.type_inv.bytes k)));
      text = record {
        text_is = c.of_text.ensures.text_is ∙ (c.in_ok-text.ensures ∙ ap source_of read.parts);
        ending_is = c.of_text.ensures.ending_is;
        no_journal = c.of_text.ensures.no_journal;
        no_merged = c.of_text.ensures.no_merged;
      };
    }
