-- What is kept of a command: what it accepts is carried out. It has no fault, and its output ends so.
use Rattle.std.proofs.Common.{◌≡◌, ℕ, List, refl, sym, subst, IsTrue}
use Rattle.alw_model.specs.declared.ends.Ended.{Ended}
use Rattle.alw_model.specs.declared.ends.Ended.TheVariants as ended
use Rattle.alw_answers.specs.declared.answers.InputErr.{InputErr}
use Rattle.alw_answers.specs.declared.outputs.Ending.{Ending}
use Rattle.alw_answers.specs.declared.outputs.Ending.TheVariants.{Fine}
use Rattle.alw_answers.specs.declared.outputs.Output.{Output}
use Rattle.alw_answers.specs.Outputs.{cause_of, ending_of, is_fine, is_run}
use Rattle.alw_answers.specs.Tasks.{Task}

pub record IsKept (t : Task) : Type 0 where
  pub finished : (bytes : List ℕ) (output : Output) → t.Makes bytes output → t.Accepts bytes → IsTrue (t.is_done (cause_of output.ending))
  pub unrefused : (bytes : List ℕ) (fault : InputErr) → t.Refuses bytes fault → t.Accepts bytes → ⊥

-- an end that is fine, and that of a run
pub fine : (end : Ending) → end ≡ Fine → IsTrue (is_fine (cause_of end))
fine end is = subst (λ (e : Ending). IsTrue (is_fine (cause_of e))) (sym is) refl

run_end : (ended : Ended) → IsTrue (is_run (cause_of (ending_of ended)))
run_end ended.Halted = refl
run_end (ended.Trapped at) = refl
run_end (ended.Limit event) = refl

pub ran : (end : Ending) (ended : Ended) → end ≡ ending_of ended → IsTrue (is_run (cause_of end))
ran end ended is = subst (λ (e : Ending). IsTrue (is_run (cause_of e))) (sym is) (run_end ended)
