use Rattle.std.proofs.Common.{arith}
use Rattle.alw_text.proofs.Numerals.{read_all, other_length, no_digit, more_digits, next_power}
use Rattle.alw_text.proofs.numbers.hex32.Goals as goal

pub returns-then-digits-ne8-clause-none : goal.returns-then-digits-ne8-clause-none
returns-then-digits-ne8-clause-none c = other_length c.args.bytes.now c.in_ok-digits.digits.now c.in_ok-digits.ensures c.if-digits-ne8.true

pub returns-in-None-clause-none : goal.returns-in-None-clause-none
returns-in-None-clause-none c = no_digit c.args.bytes.now c.in_ok-digits.digits.now c.loop-byte.byte-index c.in_ok-digits.ensures (omega arith) c.in-None.ensures.none

pub loop-byte-preserved : goal.loop-byte-preserved
loop-byte-preserved c = record {
  read = more_digits c.in_ok-digits.digits.now c.loop-byte.byte-index c.loop-byte.word c.in-Some.value c.loop-byte-test.true c.in-Some.ensures.range c.in-Some.ensures.found c.loop-byte.invariant.read;
  range = next_power c.loop-byte.word c.in-Some.value c.loop-byte.byte-index c.loop-byte.invariant.range c.in-Some.ensures.range;
}

pub returns-clause-found : goal.returns-clause-found
returns-clause-found c = read_all c.args.bytes.now c.in_ok-digits.digits.now c.loop-byte.byte-index c.loop-byte.word c.in_ok-digits.ensures (omega arith) (omega arith) c.loop-byte.invariant.read
