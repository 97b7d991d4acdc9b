use Rattle.std.proofs.Common.{ℕ, List, sym, subst}
use Rattle.alw_msg.specs.declared.messages.Msg.{Msg}
use Rattle.alw_cells.specs.Keeping.{CellIsKept}
use Rattle.alw_cells.proofs.Moves.{keeps_giving}
use Rattle.alw_cells.proofs.cells.NodeCell.give_out.Goals as goal

pub invariant_of-self : goal.invariant_of-self
invariant_of-self c = record {
  kept = subst (λ (xs : List (ℕ × Msg)). CellIsKept c.self.inside.node c.self.inside.log.entries c.self.inside.come.items c.self.inside.senders xs
      c.self.inside.sent c.self.inside.dids.list) (sym c.take_first.ensures.left)
      (keeps_giving _ _ _ _ _ _ _ c.args.to.0 c.self.invariant.kept);
  own = c.self.invariant.own;
}
