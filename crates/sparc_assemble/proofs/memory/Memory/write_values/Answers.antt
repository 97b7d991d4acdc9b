use Rattle.std.proofs.Common.{◌∙◌, ap, arith, ◌+◌, slice_index}
use Rattle.sparc_assemble.proofs.Spellings.{more_written, more_length}
use Rattle.sparc_assemble.proofs.memory.Memory.write_values.Goals as goal

pub loop-i-preserved : goal.loop-i-preserved
loop-i-preserved c = record {
  written = λ place. more_written c.args.width c.args.values.now c.loop-i.i c.at.result c.args.from c.loop-i.at (slice_index c.args.self.now) (slice_index c.loop-i.self) (slice_index c.write_value.new.self) c.at.ensures c.loop-i.invariant.next c.loop-i.invariant.written c.in_ok-write_value.ensures place;
  next = ap (λ n. c.loop-i.at + n) c.bytes-size.ensures.bytes ∙ more_length c.args.width c.args.values.now c.loop-i.i c.at.result c.args.from c.loop-i.at c.at.ensures c.loop-i.invariant.next;
  bound = omega (arith, c.bytes-size.ensures.few);
}
