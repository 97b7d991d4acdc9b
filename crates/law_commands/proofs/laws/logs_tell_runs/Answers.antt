-- Runs with one log have one journal.
use Rattle.std.proofs.Common.{sym, ◌∙◌}
use Rattle.alw_runs.specs.Forms.{run_text}
use Rattle.law_logs.proofs.Logs.{journal_told}
use Rattle.law_commands.proofs.laws.logs_tell_runs.Goals as goal

pub returns : goal.returns
unfolding run_text
returns c = λ image other_image parameters other_parameters one other a b e.
    (journal_told image other_image a.image_is b.image_is parameters other_parameters a.parameters_are b.parameters_are
    one.journal other.journal a.ended b.ended a.run.legal b.run.legal (sym a.text ∙ e ∙ b.text)).0
