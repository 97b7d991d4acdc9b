use Rattle.std.proofs.Common.{arith}
use Rattle.alw_trace.proofs.PairReads.{no_short_word, no_word, no_stop}
use Rattle.alw_trace.proofs.readers.word_before.Goals as goal

pub returns-then-text-lt-WORD-clause-none : goal.returns-then-text-lt-WORD-clause-none
returns-then-text-lt-WORD-clause-none c = no_short_word _ _ (omega arith)

pub returns-in_err-word-clause-none : goal.returns-in_err-word-clause-none
returns-in_err-word-clause-none c = rw c.from_residual.ensures (no_word _ _ _ c.split_at.ensures.front c.in_err-word.ensures.none)

pub returns-in_err-rest-clause-none : goal.returns-in_err-rest-clause-none
returns-in_err-rest-clause-none c = rw c.from_residual-in_err-rest.ensures (no_stop _ _ _ c.split_at.ensures.back c.in_err-rest.ensures)
