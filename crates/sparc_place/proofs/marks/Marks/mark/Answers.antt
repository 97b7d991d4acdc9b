use Rattle.std.proofs.Common.{◌∙◌, arith}
use Rattle.sparc_place.specs.Marks.{is_marked}
use Rattle.sparc_place.proofs.Sets.{whole_range}
use Rattle.sparc_place.proofs.marks.Marks.mark.Goals as goal

pub returns-clause-ok : goal.returns-clause-ok
returns-clause-ok c = λ n. c.loop-n.invariant.marked n ∙ whole_range c.args.from c.args.to c.loop-n.n n (is_marked c.args.self.now) (omega arith) (omega arith) c.loop-n.invariant.stop
