-- Where the words ask for something, its input is accepted and nothing outside fails, it is carried out.
use Rattle.std.proofs.Common.{◌≡◌, ℕ, ◌<◌, Bool, true, false, List, ◌++◌, Option, Some, None, length, refl, sym, ap, subst, ◌∙◌, ◌⊎◌, inl, inr, IsTrue, length-append, arith}
use Rattle.std.proofs.lemmas.List.{append-nil}
use Rattle.std.proofs.lemmas.Bool.{false≢true}
use Rattle.std.specs.Io.KnownBytes.{Consumes, IsAtEnd}
use Rattle.alw_msg.specs.declared.events.Entry.{Entry}
use Rattle.alw_config.specs.declared.commands.Asked.{Asked}
use Rattle.alw_config.specs.Places.{AskFor}
use Rattle.alw_config.proofs.Laws.{not_both, one_asked}
use Rattle.alw_answers.specs.declared.answers.Cause.{Cause}
use Rattle.alw_answers.specs.declared.answers.Cause.TheVariants as cause
use Rattle.alw_answers.specs.declared.answers.InputErr.TheVariants as reason
use Rattle.alw_answers.specs.declared.answers.InputErr.{InputErr}
use Rattle.alw_answers.specs.Outputs.{cause_of}
use Rattle.alw_cli.specs.Streams.{Stream, IsRead, IsInput, TookTooMany, HadNoFault, Gained}
use Rattle.alw_answers.specs.Tasks.{Task}
use Rattle.alw_cli.specs.Answered.{Reads, Answered, Outputs}
use Rattle.alw_cli.specs.Answers.{task_for, Performed, Answers, IsComplete}
use Rattle.alw_answers.proofs.Kept.{IsKept}
use Rattle.alw_cli.proofs.Each.{all_kept}

-- no more bytes are taken than a source has
longer : (before after : Option (List ℕ)) (bytes taken : List ℕ) → before ≡ Some bytes → Consumes before after taken → length bytes < length taken → ⊥
longer None after bytes taken all consumed more = absurd cc
longer (Some rest) None bytes taken all consumed more = absurd consumed
longer (Some rest) (Some left) bytes taken all consumed more =
    let same : rest ≡ bytes = cc in
    absurd (omega (arith, ap length same, ap length consumed, length-append taken left))

-- what is read to the end is the whole
whole : (before after : Option (List ℕ)) (bytes taken : List ℕ) → before ≡ Some bytes → Consumes before after taken → IsAtEnd after → taken ≡ bytes
whole None after bytes taken all consumed end = absurd cc
whole (Some rest) None bytes taken all consumed end = absurd consumed
whole (Some rest) (Some left) bytes taken all consumed end =
    let same : rest ≡ bytes = cc in
    sym (append-nil taken) ∙ ap (λ (ys : List ℕ). taken ++ ys) (sym end) ∙ sym consumed ∙ same

-- what is handed out is what was to be read
same_bytes : (reads : Bool) (input input' : Stream) (bytes given : List ℕ) → IsInput reads input given → IsRead reads input input' bytes → bytes ≡ given
same_bytes true input input' bytes given known read = whole input.known input'.known given bytes known.0 read.0 read.1
same_bytes false input input' bytes given none read = read.1 ∙ sym none

-- more bytes were taken than an input may have
too_long : (reads : Bool) (input input' : Stream) (bytes : List ℕ) → IsInput reads input bytes → reads ≡ true → TookTooMany input input' → ⊥
too_long true input input' bytes given is took =
    longer input.known input'.known bytes took.taken given.0 took.read (let many = took.many in omega (arith, given.1))
too_long false input input' bytes given is took = absurd (false≢true is)

-- what is answered to bytes that are accepted
module _ (task : Task) (kept : IsKept task) (input input' out out' : Stream) (bytes : List ℕ) (given : IsInput task.reads input bytes) (accepted : task.Accepts bytes) where
  same : (Holds : List ℕ → Type 0) → (read : Reads task input input' Holds) → Holds bytes
  same Holds read = subst Holds (same_bytes task.reads input input' read.bytes bytes given read.read) read.holds

  not_refused : (fault : InputErr) → Reads task input input' (λ bs. task.Refuses bs fault) ⊎ ((task.reads ≡ true) × (fault ≡ reason.TooLong) × TookTooMany input input') → ⊥
  not_refused fault (inl refused) = kept.unrefused bytes fault (same (λ bs. task.Refuses bs fault) refused) accepted
  not_refused fault (inr many) = too_long task.reads input input' bytes given many.0 many.2

  ended : (c : Cause) (journal : List Entry) (merged : ℕ) → Outputs task input input' journal merged (λ end text. (c ≡ cause_of end) × Gained out out' text) →
      IsTrue (task.is_done c) ⊎ (c ≡ cause.NoMemory)
  ended c journal merged made =
      inl (subst (λ (x : Cause). IsTrue (task.is_done x)) (sym made.written.0)
      (kept.finished bytes made.output (same (λ bs. task.Makes bs made.output) made.reads) accepted))

  done : HadNoFault input input' → HadNoFault out out' → (c : Cause) (journal : List Entry) (merged : ℕ) → Answered task input input' out out' c journal merged →
      IsTrue (task.is_done c) ⊎ (c ≡ cause.NoMemory)
  done quiet quiet_out (cause.Words e) journal merged answer = absurd answer
  done quiet quiet_out (cause.Input fault) journal merged answer = absurd (not_refused fault answer.2)
  done quiet quiet_out cause.ReadFault journal merged answer = absurd (quiet answer.4)
  done quiet quiet_out cause.NoMemory journal merged answer = inr refl
  done quiet quiet_out cause.WriteFault journal merged answer = absurd (quiet_out answer.written.1)
  done quiet quiet_out cause.Fine journal merged answer = ended cause.Fine journal merged answer
  done quiet quiet_out (cause.Trapped at) journal merged answer = ended (cause.Trapped at) journal merged answer
  done quiet quiet_out (cause.Limit event) journal merged answer = ended (cause.Limit event) journal merged answer
  done quiet quiet_out (cause.Differs place claimed real) journal merged answer = ended (cause.Differs place claimed real) journal merged answer
  done quiet quiet_out cause.MayTrap journal merged answer = ended cause.MayTrap journal merged answer
  done quiet quiet_out cause.MayNotEnd journal merged answer = ended cause.MayNotEnd journal merged answer

-- what was answered is answered to each thing that the words ask for
pub answered_to : (words : List (List ℕ)) (input input' out out' : Stream) (c : Cause) (journal : List Entry) (merged : ℕ) →
    Performed words input input' out out' c journal merged → (it : Asked) → AskFor words it → Answered (task_for it) input input' out out' c journal merged
answered_to words input input' out out' c journal merged p it asked =
    subst (λ (one : Asked). Answered (task_for one) input input' out out' c journal merged) (one_asked words p.it it p.asked asked) p.answer

-- every answer is complete
pub completes : (words : List (List ℕ)) (input input' out out' : Stream) (c : Cause) (journal : List Entry) (merged : ℕ) →
    Answers words input input' out out' c journal merged → IsComplete words input input' out out' c
completes words input input' out out' (cause.Words e) journal merged answer = λ it bytes asked given accepted quiet quiet_out.
    absurd (not_both words e.at it answer.0 asked)
completes words input input' out out' c journal merged answer = λ it bytes asked given accepted quiet quiet_out.
    done (task_for it) (all_kept it) input input' out out' bytes given accepted quiet quiet_out c journal merged
    (answered_to words input input' out out' c journal merged answer it asked)
