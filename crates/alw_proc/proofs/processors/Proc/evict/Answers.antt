-- A copy leaves.
use Rattle.std.proofs.Common.{refl}
use Rattle.alw_proc.proofs.Keeping.{holds_without}
use Rattle.alw_proc.proofs.Standing.{stands}
use Rattle.alw_proc.proofs.processors.Proc.evict.Goals as goal

pub invariant_of-self : goal.invariant_of-self
invariant_of-self c =
    let inside = c.self.inside in
    record {
      stands = rw c.evict.ensures.cache
          (stands _ _ _ _ inside.contexts inside.contexts inside.shared.cache _ inside.openings inside.openings c.self.invariant.stands refl (holds_without _ inside.shared.cache.copies c.args.set c.self.invariant.stands.cached) c.self.invariant.stands.opened);
      lines_are = c.self.invariant.lines_are;
    }
