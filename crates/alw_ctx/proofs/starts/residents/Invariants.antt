-- The places so far are the contexts at the start.
use Rattle.std.proofs.Common.{◌≡◌, length, map}
use Rattle.std.specs.List.{range_with_len}
use Rattle.alw_model.specs.Contexts.{slot_start}
use Rattle.alw_ctx.specs.Residents.{slots_of}
use Rattle.alw_ctx.proofs.starts.residents.Given as goal

abbrev pub invariant-loop-slot : goal.invariant-loop-slot
invariant-loop-slot l = (length l.places ≡ 4) × (slots_of l.slot l.places ≡ map (slot_start l.image l.node.0) (range_with_len 0 l.slot))
