-- One context more.
use Rattle.std.proofs.Common.{arith}
use Rattle.std.proofs.lemmas.List.{length-map}
use Rattle.alw_model.specs.Flat.{context_start}
use Rattle.alw_flat.specs.Contexts.{context_of, contexts_of}
use Rattle.alw_flat.proofs.Starts.{long, goes_on, contexts-push, started}
use Rattle.alw_flat.proofs.machines.contexts_at_start.Goals as goal

pub push_reserved-requires : goal.push_reserved-requires
push_reserved-requires c = omega (arith, long _ _ _ _ _ c.loop-context.invariant, length-map c.loop-context.contexts.items context_of, c.loop-context.invariant.fits, c.loop-context-test.true, c.loop-context.contexts.ok.0)

pub loop-context-preserved : goal.loop-context-preserved
loop-context-preserved c = goes_on (context_start c.args.image.now) (contexts_of c.loop-context.contexts.items) _ c.loop-context.context _ _ _ _ c.loop-context.invariant
    (contexts-push c.loop-context.contexts.items _ _ c.push_reserved.ensures.items)
    (started c.args.image.now c.loop-context.context c.args.count c.start-start.result c.start-regs.result c.status_of-status.result c.start-start.ensures (rw c.unwrap_or.ensures at c.start-regs.ensures) c.requires c.status_of-status.ensures)
    c.push_reserved.ensures.capacity
