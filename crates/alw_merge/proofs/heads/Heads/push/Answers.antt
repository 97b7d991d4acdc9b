-- One head more joins the heap, or stands behind those that are due.
use Rattle.std.proofs.Common.{ℕ, List, ◌<◌, ◌≤◌, ◌++◌, ◌∷◌, [], length, sym, subst, arith, length-append}
use Rattle.std.specs.BinaryHeap.{heap_items}
use Rattle.std.proofs.lemmas.List.{length-map}
use Rattle.std.specs.List.{AllByRecursion}
use Rattle.alw_merge.specs.Heads.{Waiting, HaveJoined, IsInOrder, heads_in}
use Rattle.alw_merge.proofs.Leasts.{due_more, heap_more, joined_order}
use Rattle.alw_merge.proofs.heads.Heads.push.Goals as goal

pub put-requires : goal.put-requires
put-requires c =
    let due = c.self.inside.due.items in
    let heap = heap_items c.self.inside.heap in
    let here : length (due ++ heads_in heap) < c.self.inside.most = subst (λ (w : Waiting). length w.heads < w.most) (sym c.self.view_is) c.requires in
    omega (arith, here, length-append due (heads_in heap), length-map heap (λ r. r.0), c.self.invariant.heap_room)

pub returns-then-head-self-clause-joins : goal.returns-then-head-self-clause-joins
returns-then-head-self-clause-joins c =
    let due = c.self.inside.due.items in
    let more = heads_in (heap_items c.put.new.heap) in
    subst (λ (w : Waiting). HaveJoined w.heads (c.args.head ∷ []) (due ++ more)) c.self.view_is
    (heap_more c.args.head due (heads_in (heap_items c.self.inside.heap)) more c.put.ensures.joins)

pub invariant_of-self-2 : goal.invariant_of-self-2
invariant_of-self-2 c =
    let was = c.self.invariant in
    let above : c.self.inside.latest ≤ c.args.head = omega arith in
    let order = joined_order c.self.inside.latest c.args.head c.self.inside.due.items above was.latest_is was.in_order in
    record {
      in_order = subst IsInOrder (sym c.push_back_reserved.ensures.items) order.0;
      latest_is = subst (AllByRecursion (λ (one : ℕ). one ≤ c.args.head)) (sym c.push_back_reserved.ensures.items) order.1;
      heap_order = was.heap_order;
      top_is = was.top_is;
      top_first = was.top_first;
      due_room = omega (arith, was.due_room, c.push_back_reserved.ensures.capacity);
      heap_room = was.heap_room;
    }

pub returns-clause-joins : goal.returns-clause-joins
returns-clause-joins c =
    let due = c.self.inside.due.items in
    let others = heads_in (heap_items c.self.inside.heap) in
    subst (λ (y : Waiting × List ℕ). HaveJoined y.0.heads (c.args.head ∷ []) (y.1 ++ others)) (λ i. (c.self.view_is i, sym c.push_back_reserved.ensures.items i))
    (due_more c.args.head due others)
