-- What is so after every legal run: the line invariant and what it gives.
use Rattle.std.proofs.Common.{◌≡◌, ◌≢◌, ℕ, ◌+◌, ◌<◌, ◌≤◌, false, Some, None, IsTrue, List, [], ◌∷◌, length}
use Rattle.std.specs.Prelude.{IsSome}
use Rattle.std.specs.List.{list_all}
use Rattle.alw_num.specs.declared.addresses.Line.{Line}
use Rattle.alw_num.specs.declared.states.Mode.{Mode}
use Rattle.alw_num.specs.Weights.{sum_below}
use Rattle.alw_msg.specs.Contents.{ToMemory, ToCache, is_reply, is_repm}
use Rattle.alw_model.specs.LimitLess.{Directory}
use Rattle.alw_model.specs.Lines.{LineState, line_value}
use Rattle.alw_model.specs.LineInvariant as words
use Rattle.alw_model.specs.LineInvariant.{LineInvariant, reads, writes, software_fits}
use Rattle.law_line.specs.Protocol.{start, run, last_stored, AfterEveryRun}
use Rattle.law_line.specs.Combinations.{IsListed}
use Rattle.law_line.specs.Sound.{Sound}
use Rattle.law_line.proofs.Clauses.{invariant_holds, value_is}
use Rattle.law_line.proofs.Unlisted.{listed}
use Rattle.law_line.proofs.Consequences.{one_writer, no_reader, copy_value, reply_meets, all_owed, moves, rests, one_left}
use Rattle.law_line.proofs.Steps.{always_sound}

-- what soundness gives is so after every legal run
after_run : (Fact : ℕ → Line → LineState → Type 0) → ((n : ℕ) (x : Line) (s : LineState) → Sound n x s → Fact n x s) → AfterEveryRun Fact
after_run Fact gives n first es legal = gives n (last_stored first es) (run (start first) es) (always_sound n first es legal)

pub always_invariant : AfterEveryRun (λ n value s. (entry : Directory) → (pending : ℕ) → IsTrue (software_fits entry pending) → LineInvariant n s entry pending)
always_invariant = after_run _ invariant_holds

pub always_value : AfterEveryRun (λ n value s. line_value n s ≡ value)
always_value = after_run _ value_is

pub always_one_writer : AfterEveryRun (λ n value s. (i j : ℕ) → IsTrue (writes (s.node i)) → IsTrue (writes (s.node j)) → i ≡ j)
always_one_writer = after_run _ one_writer

pub always_no_reader : AfterEveryRun (λ n value s. (i j : ℕ) → IsTrue (writes (s.node i)) → i ≢ j → reads (s.node j) ≡ false)
always_no_reader = after_run _ no_reader

pub always_copy_value : AfterEveryRun (λ n value s. (i : ℕ) → (mode : Mode) → (body : Line) → (s.node i).copy ≡ Some (mode, body) → body ≡ value)
always_copy_value = after_run _ copy_value

pub always_listed : AfterEveryRun (λ n value s. (i : ℕ) → (message : ToMemory) → (rest : List ToMemory) → (s.node i).up ≡ message ∷ rest → IsListed s.home i message)
always_listed = after_run _ listed

pub always_meets : AfterEveryRun (λ n value s. (i : ℕ) → (message : ToCache) → (rest : List ToCache) → (s.node i).down ≡ message ∷ rest → IsTrue (is_reply message) → IsSome (s.node i).transaction)
always_meets = after_run _ reply_meets

pub always_owed : AfterEveryRun (λ n value s. sum_below n (λ i. words.owes (s.node i)) ≡ s.home.acks)
always_owed = after_run _ all_owed

pub always_moves : AfterEveryRun (λ n value s. (i : ℕ) → IsSome (s.node i).transaction → (k : ℕ) × ((k < n) × (1 ≤ length (s.node k).up + length (s.node k).down)))
always_moves = after_run _ moves

pub always_rests : AfterEveryRun (λ n value s. ((i : ℕ) → (s.node i).transaction ≡ None) → (i : ℕ) → ((s.node i).down ≡ []) × IsTrue (list_all is_repm (s.node i).up))
always_rests = after_run _ rests

pub always_one_left : AfterEveryRun (λ n value s. ((i : ℕ) → (s.node i).transaction ≡ None) → sum_below n (λ i. length (s.node i).up + length (s.node i).down) ≤ 1)
always_one_left = after_run _ one_left
