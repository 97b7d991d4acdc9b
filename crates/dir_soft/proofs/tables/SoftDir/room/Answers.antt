-- No place is in use yet, and there is room for each line.
use Rattle.std.proofs.Common.{arith}
use Rattle.dir_soft.proofs.Rooms.{new_table}
use Rattle.dir_soft.proofs.tables.SoftDir.room.Goals as goal

pub invariant_of-result : goal.invariant_of-result
invariant_of-result c = (new_table _ _ _ _ c.in_ok-places.ensures.items (c.in_ok-heads.ensures.items_if_clones_equal (λ y h. h)) (omega (arith, c.ranges.lines)) c.requires.buckets, c.in_ok-places.ensures.capacity)
