-- A copy comes or leaves, and a transaction ends.
use Rattle.std.proofs.Common.{◌<◌, ◌*◌, true, false, refl}
use Rattle.alw_num.specs.Maps.{value_at}
use Rattle.alw_num.specs.declared.states.Mode.TheVariants.{Read, Write}
use Rattle.alw_cache.specs.Places.{copy_of}
use Rattle.alw_model.specs.Caches.{copy_at}
use Rattle.alw_proc.proofs.Keeping.{holds_with, awaits_ended, length_after}
use Rattle.alw_proc.proofs.Standing.{stands, invalidated}
use Rattle.alw_proc.proofs.processors.Proc.cache_msg.Goals as goal

pub invariant_of-self : goal.invariant_of-self
invariant_of-self c =
    let inside = c.self.inside in
    let line = c.args.msg.now.line.0 in
    let exists : line < inside.width * inside.height * inside.per_node = rw (← c.self.view_is) at c.requires.line in
    record {
      stands = rw (c.fill.ensures.cache, c.end.ensures.contexts, c.end.ensures.openings)
          (stands _ _ _ _ inside.contexts _ inside.shared.cache _ inside.openings _ c.self.invariant.stands (length_after inside.contexts.slots line true (value_at inside.openings line))
          (holds_with _ inside.shared.cache.copies _ (copy_of line Read c.args.msg.now.body) exists c.self.invariant.stands.cached) (awaits_ended inside.contexts.slots inside.openings line true (value_at inside.openings line) c.self.invariant.stands.opened));
      lines_are = c.self.invariant.lines_are;
    }

pub invariant_of-self-in-WDATA : goal.invariant_of-self-in-WDATA
invariant_of-self-in-WDATA c =
    let inside = c.self.inside in
    let line = c.args.msg.now.line.0 in
    let exists : line < inside.width * inside.height * inside.per_node = rw (← c.self.view_is) at c.requires.line in
    record {
      stands = rw (c.fill-in-WDATA.ensures.cache, c.end-in-WDATA.ensures.contexts, c.end-in-WDATA.ensures.openings)
          (stands _ _ _ _ inside.contexts _ inside.shared.cache _ inside.openings _ c.self.invariant.stands (length_after inside.contexts.slots line true (value_at inside.openings line))
          (holds_with _ inside.shared.cache.copies _ (copy_of line Write c.args.msg.now.body) exists c.self.invariant.stands.cached) (awaits_ended inside.contexts.slots inside.openings line true (value_at inside.openings line) c.self.invariant.stands.opened));
      lines_are = c.self.invariant.lines_are;
    }

pub invariant_of-self-in-BUSY : goal.invariant_of-self-in-BUSY
invariant_of-self-in-BUSY c =
    let inside = c.self.inside in
    let line = c.args.msg.now.line.0 in
    record {
      stands = rw (c.end-in-BUSY.ensures.contexts, c.end-in-BUSY.ensures.openings)
          (stands _ _ _ _ inside.contexts _ inside.shared.cache inside.shared.cache inside.openings _ c.self.invariant.stands (length_after inside.contexts.slots line false (value_at inside.openings line))
          c.self.invariant.stands.cached (awaits_ended inside.contexts.slots inside.openings line false (value_at inside.openings line) c.self.invariant.stands.opened));
      lines_are = c.self.invariant.lines_are;
    }

pub invariant_of-self-in-INV : goal.invariant_of-self-in-INV
invariant_of-self-in-INV c =
    let inside = c.self.inside in
    let line = c.args.msg.now.line.0 in
    record {
      stands = rw c.invalidate.ensures.cache
          (stands _ _ _ _ inside.contexts inside.contexts inside.shared.cache _ inside.openings inside.openings c.self.invariant.stands refl
          (invalidated _ inside.shared.cache.sets inside.shared.cache.copies line (copy_at inside.shared.cache.sets inside.shared.cache.copies line) c.self.invariant.stands.cached) c.self.invariant.stands.opened);
      lines_are = c.self.invariant.lines_are;
    }
