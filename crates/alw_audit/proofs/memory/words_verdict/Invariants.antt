-- No word so far differs, and the rest lists all that is to come.
use Rattle.std.proofs.Common.{◌≡◌, ℕ, ◌≤◌, ◌+◌, ◌-◌, ◌*◌}
use Rattle.alw_num.specs.Limits.{shared_base}
use Rattle.alw_audit.specs.Verdicts.{WordsAreFrom, claimed_word, words_verdict}
use Rattle.alw_audit.proofs.memory.words_verdict.Given as goal

abbrev pub invariant-loop-number : goal.invariant-loop-number
invariant-loop-number l = record {
  verdict : words_verdict l.memory l.flat.flat (shared_base + 4 * l.number) (4 * l.lines - l.number) ≡ words_verdict l.memory l.flat.flat shared_base (4 * l.lines);
  words : WordsAreFrom (shared_base + 4 * l.number) l.rest;
  same : (addr : ℕ) → shared_base + 4 * l.number ≤ addr → claimed_word l.rest addr ≡ claimed_word l.memory addr;
}
