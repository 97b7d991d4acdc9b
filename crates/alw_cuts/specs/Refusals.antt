-- Why a command isn't carried out, of what a cut or a restoring answers.
use Rattle.alw_save.specs.declared.faults.CutErr.{CutErr}
use Rattle.alw_save.specs.declared.faults.CutErr.TheVariants as cuts
use Rattle.alw_save.specs.declared.faults.RestoreErr.{RestoreErr}
use Rattle.alw_save.specs.declared.faults.RestoreErr.TheVariants as restore
use Rattle.alw_answers.specs.declared.answers.InputErr.TheVariants as reason
use Rattle.alw_answers.specs.declared.outputs.Refusal.{Refusal}
use Rattle.alw_answers.specs.declared.outputs.Refusal.TheVariants.{NoMemory, Fault}

abbrev pub refusal_of_cut : CutErr → Refusal
refusal_of_cut (cuts.DoesNotFit number most) = Fault (reason.LimitDoesNotFit number most)
refusal_of_cut (cuts.NotLegal k) = Fault (reason.NotLegal k)
refusal_of_cut cuts.NoMemory = NoMemory

abbrev pub refusal_of_restore : RestoreErr → Refusal
refusal_of_restore (restore.Text fault) = Fault (reason.Text fault)
refusal_of_restore (restore.DoesNotFit number most) = Fault (reason.LimitDoesNotFit number most)
refusal_of_restore (restore.NotLegal k) = Fault (reason.NotLegal k)
refusal_of_restore (restore.StateDiffers line) = Fault (reason.StateDiffers line)
refusal_of_restore restore.NoMemory = NoMemory
