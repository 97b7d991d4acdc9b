use Rattle.std.proofs.Common.{arith}
use Rattle.alw_num.proofs.Quotients.{quotient_is}
use Rattle.alw_num.proofs.divisors.Divisor.quotient.Goals as goal

pub returns : goal.returns
returns c =
    let d = c.self.inside in
    rw (c.from.ensures, c.from-2.ensures, ← c.self.view_is) (quotient_is d.divisor d.inverse c.args.number c.self.invariant.0 (omega arith) (omega arith) c.self.invariant.1)
