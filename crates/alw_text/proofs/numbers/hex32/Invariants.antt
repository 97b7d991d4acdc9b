use Rattle.std.proofs.Common.{◌≡◌, ◌<◌, ◌^◌, take}
use Rattle.alw_text.specs.Numbers.{low_digits}
use Rattle.alw_text.proofs.numbers.hex32.Given as goal

abbrev pub invariant-loop-byte : goal.invariant-loop-byte
invariant-loop-byte l = record {
  read : take l.byte-index l.digits ≡ low_digits l.byte-index l.word;
  range : l.word < 16 ^ l.byte-index;
}
