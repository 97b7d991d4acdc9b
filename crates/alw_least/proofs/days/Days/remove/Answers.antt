use Rattle.std.proofs.Common.{◌≡◌, ℕ, false, List, ap, ◌∙◌, arith}
use Rattle.alw_num.specs.NodeSets.{Nodes, has_node}
use Rattle.alw_num.proofs.Sets.{has-drop}
use Rattle.alw_least.proofs.Standing.{put_at, empty_there, some_stays, filled_less, filled_still}
use Rattle.alw_least.proofs.days.Days.remove.Goals as goal

pub invariant_of-self : goal.invariant_of-self
invariant_of-self c = filled_less c.self.inside.places c.self.inside.filled _ c.from-at.result c.from-then-is_empty.result _ (omega arith) (omega arith) c.self.invariant (empty_there c.self.inside.places c.from-at.result _ _ (omega arith) c.if-is_empty.true c.is_empty.ensures) c.remove-then-is_empty.ensures

pub invariant_of-self-else-is_empty : goal.invariant_of-self-else-is_empty
invariant_of-self-else-is_empty c = filled_still c.self.inside.places c.self.inside.filled c.from-at.result c.from.result _ (omega arith) c.self.invariant c.remove.ensures (some_stays c.self.inside.places c.from-at.result _ _ (omega arith) c.if-is_empty.false c.is_empty.ensures)

pub returns-then-is_empty : goal.returns-then-is_empty
returns-then-is_empty c = rw (← c.self.view_is) (put_at false c.self.inside.places c.args.day c.from-at.result c.args.place c.from.result _ (omega arith) (omega arith) (omega arith)
    (λ p. ap (λ (s : Nodes). has_node s p) c.remove.ensures ∙ has-drop _ c.from.result p))

pub returns-else-is_empty : goal.returns-else-is_empty
returns-else-is_empty c = rw (← c.self.view_is) (put_at false c.self.inside.places c.args.day c.from-at.result c.args.place c.from.result _ (omega arith) (omega arith) (omega arith)
    (λ p. ap (λ (s : Nodes). has_node s p) c.remove.ensures ∙ has-drop _ c.from.result p))
