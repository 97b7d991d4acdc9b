-- That a source that is accepted is assembled, an image is read back, and a workload is made.
use Rattle.std.proofs.Common.{◌≡◌, ℕ, List, None, Some, sym, ◌∙◌}
use Rattle.alw_config.specs.declared.commands.AsmForm.{AsmForm}
use Rattle.alw_answers.specs.declared.answers.InputErr.{InputErr}
use Rattle.alw_answers.specs.declared.answers.InputErr.TheVariants as reason
use Rattle.alw_answers.specs.Refusals.{IsNoImage}
use Rattle.alw_builds.specs.Assembling.{IsNoSource, asm_task}
use Rattle.alw_builds.specs.Making.{Asked, gen_task}
use Rattle.alw_builds.specs.ReadingBack.{dis_task}
use Rattle.alw_answers.proofs.Kept.{IsKept, fine}

-- ---- asm

asm_unrefused : (form : AsmForm) (bytes : List ℕ) (fault : InputErr) → IsNoSource bytes fault → (asm_task form).Accepts bytes → ⊥
asm_unrefused form bytes (reason.Asm fault) refused accepted = accepted fault refused.1
asm_unrefused form bytes _ refused accepted = refused

pub asm_kept : (form : AsmForm) → IsKept (asm_task form)
asm_kept form = record {
  finished = λ bytes output made accepted. fine output.ending made.text.ending_is;
  unrefused = λ bytes fault refused accepted. asm_unrefused form bytes fault refused accepted;
}

-- ---- gen

pub gen_kept : (asked : Asked) → IsKept (gen_task asked)
gen_kept asked = record {
  finished = λ bytes output made accepted. fine output.ending made.text.ending_is;
  unrefused = λ bytes fault refused accepted. refused;
}

-- ---- dis

dis_unrefused : (bytes : List ℕ) (fault : InputErr) → IsNoImage bytes fault → dis_task.Accepts bytes → ⊥
dis_unrefused bytes (reason.Image fault) refused accepted = absurd (let e : Some fault ≡ None = sym refused ∙ accepted in cc)
dis_unrefused bytes _ refused accepted = refused

pub dis_kept : IsKept dis_task
dis_kept = record {
  finished = λ bytes output made accepted. fine output.ending made.text.ending_is;
  unrefused = λ bytes fault refused accepted. dis_unrefused bytes fault refused accepted;
}
