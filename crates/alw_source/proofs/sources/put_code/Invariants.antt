-- What is written so far, and what is left to write, is the whole. The address is that of the next word.
use Rattle.std.proofs.Common.{◌≡◌, ◌++◌, ◌*◌, drop}
use Rattle.alw_source.specs.Sources.{code_from}
use Rattle.alw_source.proofs.sources.put_code.Given as goal

abbrev pub invariant-loop-word : goal.invariant-loop-word
invariant-loop-word l = record {
  address : l.address ≡ 4 * l.word-index;
  written : l.text ++ code_from l.address (drop l.word-index l.code) ≡ l.fn.text ++ code_from 0 l.code;
}
