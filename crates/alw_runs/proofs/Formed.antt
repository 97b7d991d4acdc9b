-- What a machine's run is told as, in each form.
use Rattle.std.proofs.Common.{◌≡◌, ℕ, List, ap, ◌∙◌}
use Rattle.alw_msg.specs.declared.events.Entry.{Entry}
use Rattle.alw_image.specs.declared.parts.Parts.{Parts}
use Rattle.alw_image.specs.Parameters.{Parameters}
use Rattle.alw_model.specs.declared.ends.Ended.{Ended}
use Rattle.alw_model.specs.Counts.{memory_words}
use Rattle.alw_model.specs.Runs.{turns_of, prints_of}
use Rattle.alw_mesh.specs.Histories.{History, state_of}
use Rattle.alw_report.specs.declared.values.Report.{Report}
use Rattle.alw_report.specs.Reports.{report_text, summary_text, head_text, sizes_line, told_of}
use Rattle.alw_report.specs.Json.{json_text}
use Rattle.alw_told.specs.Heads.{head_of}
use Rattle.alw_trace.specs.declared.values.Claim.{Claim}
use Rattle.alw_trace.specs.Texts.{trace_text, claim_text}
use Rattle.alw_config.specs.declared.commands.Form.TheVariants as forms
use Rattle.alw_answers.specs.declared.outputs.Ending.{Ending}
use Rattle.alw_answers.specs.declared.outputs.Output.{Output}
use Rattle.alw_answers.specs.Outputs.{ending_of}
use Rattle.alw_runs.specs.Forms.{run_text, output_with, output_of}

module _ (h : History) (e : Ended) where
  module _ (output : Output) (told : Report) (text : List ℕ) (is : output ≡ output_with h e text) where
    pub told_report : text ≡ report_text told → told ≡ told_of h.image h.parameters h.journal e → output ≡ output_of h e forms.Report
    unfolding run_text
    told_report same whole = is ∙ ap (output_with h e) (same ∙ ap report_text whole)

    pub told_json : text ≡ json_text told → told ≡ told_of h.image h.parameters h.journal e → output ≡ output_of h e forms.Json
    unfolding run_text
    told_json same whole = is ∙ ap (output_with h e) (same ∙ ap json_text whole)

    pub told_summary : text ≡ summary_text told → told ≡ head_of (told_of h.image h.parameters h.journal e) → output ≡ output_of h e forms.Summary
    unfolding run_text summary_text head_text sizes_line
    told_summary same whole = is ∙ ap (output_with h e) (same ∙ ap summary_text whole)

  module _ (end : Ending) (ends : end ≡ ending_of e) (image : Parts) (i : image ≡ h.image) (entries : List Entry) (j : entries ≡ h.journal) (text : List ℕ) where
    abbrev made : Output
    made = record { text = text; ending = end; journal = entries; merged = 0 }

    pub same_end : made ≡ output_with h e text
    same_end = λ x. record { text = text; ending = ends x; journal = j x; merged = 0 }

    pub told_trace : (params : Parameters) → params ≡ h.parameters → text ≡ trace_text (record { image = image; params = params; journal = entries }) →
        made ≡ output_of h e forms.Trace
    unfolding run_text
    told_trace params p is = same_end ∙ ap (output_with h e) (is ∙ (λ x. trace_text (record { image = i x; params = p x; journal = j x })))

    pub told_claim : (claim : Claim) → claim.image ≡ image → claim.turns ≡ turns_of h.image h.parameters h.journal → claim.prints ≡ prints_of h.image h.parameters h.journal →
        claim.memory ≡ memory_words h.image h.parameters (state_of h) → text ≡ claim_text claim → made ≡ output_of h e forms.Claim
    unfolding run_text
    told_claim claim c t p m is =
        same_end ∙ ap (output_with h e) (is ∙ (λ x. claim_text (record { image = (c ∙ i) x; turns = t x; prints = p x; memory = m x })))
