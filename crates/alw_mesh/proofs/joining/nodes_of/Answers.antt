-- One node more from the end.
use Rattle.std.proofs.Common.{◌++◌, [], ◌∷◌, List, length, reverse, sym, ap, ◌∙◌, append-nil, append_assoc, length-append, arith}
use Rattle.std.proofs.lemmas.List.{reverse-append}
use Rattle.alw_node.specs.Nodes.{Whole}
use Rattle.alw_mesh.proofs.joining.nodes_of.Goals as goal

pub loop-node-init : goal.loop-node-init
loop-node-init c = (
  ap (λ (xs : List Whole). c.args.nodes ++ reverse xs) c.in_ok-items.ensures.items ∙ append-nil c.args.nodes,
  omega (arith, ap length c.in_ok-items.ensures.items, c.in_ok-items.ensures.capacity, c.len.ensures),
)

pub push_reserved-requires : goal.push_reserved-requires
push_reserved-requires c =
    let long = ap length c.in-Some.ensures ∙ length-append c.pop.new.self (c.in-Some.node ∷ []) in
    omega (arith, long, c.loop-node.invariant.1, c.loop-node.items.ok)

pub loop-node-smaller : goal.loop-node-smaller
loop-node-smaller c = omega (arith, ap length c.in-Some.ensures ∙ length-append c.pop.new.self (c.in-Some.node ∷ []))

pub loop-node-preserved : goal.loop-node-preserved
loop-node-preserved c =
    let long = ap length c.in-Some.ensures ∙ length-append c.pop.new.self (c.in-Some.node ∷ []) in
    let more = ap length c.push_reserved.ensures.items ∙ length-append c.loop-node.items.items (c.in-Some.node ∷ []) in (
      ap (λ (xs : List Whole). c.pop.new.self ++ reverse xs) c.push_reserved.ensures.items
          ∙ (ap (λ (xs : List Whole). c.pop.new.self ++ xs) (reverse-append c.loop-node.items.items (c.in-Some.node ∷ []))
          ∙ (sym (append_assoc c.pop.new.self (c.in-Some.node ∷ []) (reverse c.loop-node.items.items))
          ∙ (ap (λ (xs : List Whole). xs ++ reverse c.loop-node.items.items) (sym c.in-Some.ensures) ∙ c.loop-node.invariant.0))),
      omega (arith, long, more, c.loop-node.invariant.1, c.push_reserved.ensures.capacity),
    )

pub returns : goal.returns
returns c =
    c.reverse.ensures.items ∙ (ap (λ (xs : List Whole). xs ++ reverse c.loop-node.items.items) (sym c.in_default.ensures.0) ∙ c.loop-node.invariant.0)
