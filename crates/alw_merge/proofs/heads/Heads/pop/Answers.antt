-- The head that comes first is the least, and goes.
use Rattle.std.proofs.Common.{◌≤◌, ℕ, [], ◌∷◌, ◌++◌, sym, subst, ◌∙◌, arith}
use Rattle.std.specs.List.{AllByRecursion}
use Rattle.std.specs.BinaryHeap.{heap_items}
use Rattle.alw_merge.specs.Heads.{Waiting, IsLeast, HaveJoined, IsInOrder, heads_in}
use Rattle.alw_merge.proofs.Leasts.{due_popped, heap_popped, left_order}
use Rattle.alw_merge.proofs.heads.Heads.pop.Goals as goal

pub invariant_of-self : goal.invariant_of-self
invariant_of-self c =
    let was = c.self.invariant in
    let left = left_order c.self.inside.latest c.self.inside.due.items was.latest_is was.in_order in
    record {
      in_order = subst IsInOrder (sym c.pop_front-first.ensures.rest) left.0;
      latest_is = subst (AllByRecursion (λ (one : ℕ). one ≤ c.self.inside.latest)) (sym c.pop_front-first.ensures.rest) left.1;
      heap_order = was.heap_order;
      top_is = was.top_is;
      top_first = was.top_first;
      due_room = omega (arith, was.due_room, c.pop_front-first.ensures.capacity);
      heap_room = was.heap_room;
    }

pub returns-then-is_due-clause-rest : goal.returns-then-is_due-clause-rest
returns-then-is_due-clause-rest c =
    let due = c.self.inside.due.items in
    let others = heads_in (heap_items c.self.inside.heap) in
    let rest = c.pop_front-first.new.self.items in
    let least = subst (λ (w : Waiting). IsLeast c.args.head w.heads) (sym c.self.view_is) c.requires in
    subst (λ (w : Waiting). HaveJoined (rest ++ others) (c.args.head ∷ []) w.heads) c.self.view_is
    (due_popped due others rest c.front_of-first.result c.self.inside.top c.args.head c.self.invariant.in_order c.front_of-first.ensures c.self.invariant.top_is
    c.self.invariant.top_first least (sym c.is_due.ensures ∙ c.if-is_due.true) c.pop_front-first.ensures.rest)

pub returns-clause-rest : goal.returns-clause-rest
returns-clause-rest c =
    let due = c.self.inside.due.items in
    let others = heads_in (heap_items c.self.inside.heap) in
    let rest = heads_in (heap_items c.take_top-top.new.heap) in
    let least = subst (λ (w : Waiting). IsLeast c.args.head w.heads) (sym c.self.view_is) c.requires in
    subst (λ (w : Waiting). HaveJoined (due ++ rest) (c.args.head ∷ []) w.heads) c.self.view_is
    (heap_popped due others rest c.front_of-first.result c.self.inside.top c.args.head c.self.invariant.in_order c.front_of-first.ensures c.self.invariant.top_is
    c.self.invariant.top_first least c.take_top-top.result (sym c.is_due.ensures ∙ c.if-is_due.false) c.take_top-top.ensures.top c.take_top-top.ensures.rest)
