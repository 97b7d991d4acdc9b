-- What is written so far, and what is left to write, is the whole.
use Rattle.std.proofs.Common.{◌≡◌, ◌++◌, drop}
use Rattle.std.specs.List.{flat_map}
use Rattle.alw_trace.specs.Texts.{byte_digits}
use Rattle.alw_trace.proofs.images.put_digits.Given as goal

abbrev pub invariant-loop-byte : goal.invariant-loop-byte
invariant-loop-byte l = l.text ++ flat_map byte_digits (drop l.byte-index l.row) ≡ l.fn.text ++ flat_map byte_digits l.row
