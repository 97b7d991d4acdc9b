use Rattle.std.specs.Char.{digit_value}
use Rattle.std.proofs.Common.{get_or, ap, ◌∙◌, ◌+◌, ◌*◌, ◌<◌, sym, length, arith}
use Rattle.std.proofs.lemmas.Int.Digits.{digits_more, digits_value_more}
use Rattle.alw_text.proofs.Numerals.{stops, whole}
use Rattle.alw_text.proofs.numbers.digits.Goals as goal

pub returns-in-None : goal.returns-in-None
returns-in-None c = stops c.args.base c.args.bytes.now c.loop-byte.byte-index c.loop-byte.number c.requires.low (omega arith) c.loop-byte.invariant.number c.in-None.ensures

pub loop-byte-preserved : goal.loop-byte-preserved
loop-byte-preserved c =
    let at : c.loop-byte.byte-index < length c.args.bytes.now = c.loop-byte-test.true in
    record {
      digits = digits_more c.args.base c.args.bytes.now c.loop-byte.byte-index at c.loop-byte.invariant.digits c.in-Some.ensures.0.0;
      number = c.in-Some.ensures.1 ∙ ap (λ n. n * c.args.base + digit_value (get_or c.args.bytes.now c.loop-byte.byte-index 0)) c.loop-byte.invariant.number ∙ sym (digits_value_more c.args.base c.args.bytes.now c.loop-byte.byte-index at);
      range = omega (arith, c.in-Some.ensures.0.1, c.in-Some.ensures.1);
    }

pub returns : goal.returns
returns c = whole c.args.base c.args.bytes.now c.loop-byte.byte-index c.loop-byte.number (sym c.if-is_empty.ensures) c.loop-byte-test.false c.loop-byte.invariant.digits c.loop-byte.invariant.number c.loop-byte.invariant.range
