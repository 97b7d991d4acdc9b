use Rattle.std.proofs.Common.{arith}
use Rattle.sparc_place.proofs.Sets.{more_contexts}
use Rattle.sparc_place.proofs.marks.Marks.mark_context.Goals as goal

pub returns : goal.returns
returns c =
    let marked = rw (c.from.ensures, c.from-2.ensures) at c.in_ok-mark.ensures.ok in
    record { ok = λ n s. more_contexts c.args.self.now c.mark.new.self c.args.node c.args.slot n s (omega arith) (omega arith) marked }
