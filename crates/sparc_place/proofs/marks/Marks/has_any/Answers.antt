use Rattle.std.proofs.Common.{sym, ◌+◌}
use Rattle.sparc_place.specs.Marks.{is_marked}
use Rattle.sparc_place.proofs.Sets.{any_found}
use Rattle.sparc_place.proofs.marks.Marks.has_any.Goals as goal

pub returns-then-has : goal.returns-then-has
returns-then-has c = sym (any_found c.args.count c.loop-i.i (λ i. is_marked c.args.self.now (c.args.from + i)) c.loop-i-test.true (sym c.if-has.ensures))
