use Rattle.std.proofs.Common.{◌≡◌, ℕ, true, List, ap, ◌∙◌, arith}
use Rattle.alw_num.specs.NodeSets.{Nodes, has_node}
use Rattle.alw_num.proofs.Sets.{has-add}
use Rattle.alw_least.proofs.Standing.{put_at, filled_more}
use Rattle.alw_least.proofs.days.Days.add.Goals as goal

pub invariant_of-self : goal.invariant_of-self
invariant_of-self c = filled_more c.self.inside.places c.self.inside.filled _ c.from.result c.from-3.result c.from-2.result _ (omega arith) (omega arith) c.self.invariant c.add.ensures c.add-2.ensures

pub returns : goal.returns
returns c = rw (← c.self.view_is) (put_at true c.self.inside.places c.args.day c.from.result c.args.place c.from-2.result _ (omega arith) (omega arith) (omega arith)
    (λ p. ap (λ (s : Nodes). has_node s p) c.add.ensures ∙ has-add _ c.from-2.result p))
