-- The first of those that are due, or the top of the heap.
use Rattle.std.proofs.Common.{sym, ap, subst, cond, ◌∙◌}
use Rattle.std.specs.Prelude.{IfSome, IfNone, ◌≡◌, []}
use Rattle.std.specs.BinaryHeap.{heap_items}
use Rattle.alw_merge.specs.Heads.{Waiting, IsLeast, heads_in}
use Rattle.alw_merge.proofs.Leasts.{least_is}
use Rattle.alw_merge.proofs.heads.Heads.least.Goals as goal

pub returns-then-is_due-clause-none : goal.returns-then-is_due-clause-none
returns-then-is_due-clause-none c =
    let first = c.front_of-first.result in
    let top = c.self.inside.top in
    let is = sym (ap (λ b. cond b first top) (sym c.is_due.ensures ∙ c.if-is_due.true)) in
    subst (λ (w : Waiting). IfNone first (w.heads ≡ [])) c.self.view_is
    (least_is c.self.inside.due.items (heads_in (heap_items c.self.inside.heap)) first top first c.self.invariant.in_order c.front_of-first.ensures c.self.invariant.top_is
    c.self.invariant.top_first is).1

pub returns-then-is_due-clause-least : goal.returns-then-is_due-clause-least
returns-then-is_due-clause-least c =
    let first = c.front_of-first.result in
    let top = c.self.inside.top in
    let is = sym (ap (λ b. cond b first top) (sym c.is_due.ensures ∙ c.if-is_due.true)) in
    subst (λ (w : Waiting). IfSome first (λ head. IsLeast head w.heads)) c.self.view_is
    (least_is c.self.inside.due.items (heads_in (heap_items c.self.inside.heap)) first top first c.self.invariant.in_order c.front_of-first.ensures c.self.invariant.top_is
    c.self.invariant.top_first is).0

pub returns-clause-none : goal.returns-clause-none
returns-clause-none c =
    let first = c.front_of-first.result in
    let top = c.self.inside.top in
    let is = sym (ap (λ b. cond b first top) (sym c.is_due.ensures ∙ c.if-is_due.false)) in
    subst (λ (w : Waiting). IfNone top (w.heads ≡ [])) c.self.view_is
    (least_is c.self.inside.due.items (heads_in (heap_items c.self.inside.heap)) first top top c.self.invariant.in_order c.front_of-first.ensures c.self.invariant.top_is
    c.self.invariant.top_first is).1

pub returns-clause-least : goal.returns-clause-least
returns-clause-least c =
    let first = c.front_of-first.result in
    let top = c.self.inside.top in
    let is = sym (ap (λ b. cond b first top) (sym c.is_due.ensures ∙ c.if-is_due.false)) in
    subst (λ (w : Waiting). IfSome top (λ head. IsLeast head w.heads)) c.self.view_is
    (least_is c.self.inside.due.items (heads_in (heap_items c.self.inside.heap)) first top top c.self.invariant.in_order c.front_of-first.ensures c.self.invariant.top_is
    c.self.invariant.top_first is).0
