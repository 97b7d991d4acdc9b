-- One place more is filled.
use Rattle.std.proofs.Common.{arith}
use Rattle.std.proofs.lemmas.List.{length-set}
use Rattle.alw_model.specs.Contexts.{slot_start}
use Rattle.alw_ctx.proofs.Slots.{filled_more}
use Rattle.alw_ctx.proofs.starts.residents.Goals as goal

pub loop-slot-preserved : goal.loop-slot-preserved
loop-slot-preserved c = (
  rw length-set c.loop-slot.invariant.0,
  filled_more (slot_start c.args.image.now c.args.node.0) c.loop-slot.slot c.loop-slot.places c.resident.result (omega arith) c.loop-slot.invariant.1 c.resident.ensures,
)
