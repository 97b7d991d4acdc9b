use Rattle.std.proofs.Common.{sym, ◌∙◌, arith}
use Rattle.alw_cells.proofs.Moves.{senders_popped}
use Rattle.alw_cells.proofs.cells.take.Goals as goal

pub returns-then-is_empty-clause-senders : goal.returns-then-is_empty-clause-senders
returns-then-is_empty-clause-senders c = senders_popped _ _ _ c.in-Deliver.from.0 c.index_mut-list.result.now _ c.requires (omega arith) c.index_mut-list.ensures.value c.pop-msg.ensures.left c.without.ensures
    (sym c.is_empty.ensures ∙ c.if-is_empty.true)
