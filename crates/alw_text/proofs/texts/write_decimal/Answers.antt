use Rattle.std.proofs.Common.{◌≤◌, arith}
use Rattle.std.proofs.lemmas.Fmt.{length-decimal-le, decimal_nonempty}
use Rattle.alw_text.proofs.Numerals.{write_first, write_more, write_last, shorter}
use Rattle.alw_text.proofs.texts.write_decimal.Goals as goal

pub loop-rest-init : goal.loop-rest-init
loop-rest-init c = record {
  written = write_first c.args.n c.args.buffer.now c.told-buffer;
  room = length-decimal-le 20 c.args.n (omega arith) (omega arith) (omega arith);
  within = omega arith;
}

pub overflow_sub-at : goal.overflow_sub-at
overflow_sub-at c = omega (arith, decimal_nonempty c.loop-rest.rest (omega arith))

pub returns-then-rest-eq0-clause-spelled : goal.returns-then-rest-eq0-clause-spelled
returns-then-rest-eq0-clause-spelled c = write_last c.args.n c.loop-rest.rest c.loop-rest.at c.loop-rest.buffer (omega arith) (omega (arith, decimal_nonempty c.loop-rest.rest (omega arith))) (omega (arith, c.told-buffer)) c.loop-rest.invariant.written

pub loop-rest-smaller : goal.loop-rest-smaller
loop-rest-smaller c = omega (arith, decimal_nonempty c.loop-rest.rest (omega arith))

pub loop-rest-preserved : goal.loop-rest-preserved
loop-rest-preserved c =
    let some : 10 ≤ c.loop-rest.rest = omega arith in
    let room = shorter c.loop-rest.rest some (omega arith) in
    record {
      written = write_more c.args.n c.loop-rest.rest c.loop-rest.at c.loop-rest.buffer (omega arith) (omega arith) some (omega arith) (omega (arith, c.told-buffer)) c.loop-rest.invariant.written;
      room = omega arith;
      within = omega arith;
    }
