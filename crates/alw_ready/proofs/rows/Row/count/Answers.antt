use Rattle.std.proofs.Common.{arith}
use Rattle.alw_num.proofs.Weigh.{digit_le}
use Rattle.alw_ready.proofs.RowEvents.{few_senders}
use Rattle.alw_ready.proofs.rows.Row.count.Goals as goal

pub overflow_cast-result : goal.overflow_cast-result
overflow_cast-result c = omega (arith, few_senders c.args.self.now)

pub overflow_add-result-then-self : goal.overflow_add-result-then-self
overflow_add-result-then-self c = omega (arith, few_senders c.args.self.now, digit_le c.args.self.now.instr, digit_le c.args.self.now.handle)
