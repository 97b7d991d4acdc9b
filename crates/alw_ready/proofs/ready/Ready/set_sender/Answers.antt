use Rattle.std.proofs.Common.{◌≡◌, ◌<◌, not, length, refl, sym, ap, ◌∙◌}
use Rattle.alw_num.specs.NodeSets.{has_node, nodes_of}
use Rattle.alw_ready.specs.declared.rows.Row.{Row}
use Rattle.alw_ready.proofs.RowEvents.{same_bits, other_bits, at_counted, counts_few, counts_some, read_again, sender_set, sender_looked, sender_stays}
use Rattle.alw_ready.proofs.Renewing.{is_put}
use Rattle.alw_ready.proofs.ready.Ready.set_sender.Goals as goal

pub count_with-count-requires-clause-few : goal.count_with-count-requires-clause-few
count_with-count-requires-clause-few c =
    let here : c.from-place.result < length c.self.inside.rows.items = rw (c.self.view_is, c.from-place.ensures) c.requires.here in
    counts_few c.index_mut-row.result.now c.put.new.self c.args.from.0 c.args.may c.at.result
    (at_counted c.self.inside.rows.items c.self.inside.tally c.self.invariant.0 c.from-place.result c.at.result c.index_mut-row.result.now here c.index_mut-row.ensures.value c.at.ensures)

pub count_with-count-requires-clause-some : goal.count_with-count-requires-clause-some
count_with-count-requires-clause-some c =
    let here : c.from-place.result < length c.self.inside.rows.items = rw (c.self.view_is, c.from-place.ensures) c.requires.here in
    let same : c.index.result.now ≡ c.index_mut-row.result.now = read_again c.self.inside.rows.items c.from-place.result _ _ here c.index.ensures c.index_mut-row.ensures.value in
    let other : has_node (nodes_of c.index_mut-row.result.now.senders) c.args.from.0 ≡ not c.args.may =
    sym (ap (λ (row : Row). has_node (nodes_of row.senders) c.args.from.0) same) ∙ (sym c.has.ensures ∙ other_bits _ _ c.if-has-may.false) in
    counts_some c.index_mut-row.result.now c.put.new.self c.args.from.0 c.args.may c.at.result
    (at_counted c.self.inside.rows.items c.self.inside.tally c.self.invariant.0 c.from-place.result c.at.result c.index_mut-row.result.now here c.index_mut-row.ensures.value c.at.ensures)
    (is_put (nodes_of c.index_mut-row.result.now.senders) (nodes_of c.put.new.self) c.args.from.0 _ _ c.put.ensures refl) other

pub invariant_of-self : goal.invariant_of-self
invariant_of-self c =
    let here : c.from-place.result < length c.self.inside.rows.items = rw (c.self.view_is, c.from-place.ensures) c.requires.here in
    let same : c.index.result.now ≡ c.index_mut-row.result.now = read_again c.self.inside.rows.items c.from-place.result _ _ here c.index.ensures c.index_mut-row.ensures.value in
    let other : has_node (nodes_of c.index_mut-row.result.now.senders) c.args.from.0 ≡ not c.args.may =
    sym (ap (λ (row : Row). has_node (nodes_of row.senders) c.args.from.0) same) ∙ (sym c.has.ensures ∙ other_bits _ _ c.if-has-may.false) in
    let counted = at_counted c.self.inside.rows.items c.self.inside.tally c.self.invariant.0 c.from-place.result c.at.result c.index_mut-row.result.now here c.index_mut-row.ensures.value c.at.ensures in (
      sender_set c.self.inside.rows.items c.self.inside.tally c.self.invariant.0 c.from-place.result c.at.result c.count_with-count.result c.args.from.0 c.args.may c.index_mut-row.result.now c.put.new.self c.set.new.self
          (is_put (nodes_of c.index_mut-row.result.now.senders) (nodes_of c.put.new.self) c.args.from.0 _ _ c.put.ensures refl) other counted c.count_with-count.ensures c.set.ensures,
      c.self.invariant.1,
    )

pub returns-then-has-may : goal.returns-then-has-may
returns-then-has-may c =
    let here : c.from-place.result < length c.self.inside.rows.items = rw (c.self.view_is, c.from-place.ensures) c.requires.here in
    rw (← c.self.view_is, ← c.from-place.ensures) (sender_stays c.self.inside.rows.items c.from-place.result c.args.from.0 c.args.may c.index.result.now here c.index.ensures (sym c.has.ensures ∙ same_bits _ _ c.if-has-may.true))

pub returns : goal.returns
returns c =
    let here : c.from-place.result < length c.self.inside.rows.items = rw (c.self.view_is, c.from-place.ensures) c.requires.here in
    rw (← c.self.view_is, ← c.from-place.ensures) (sender_looked c.self.inside.rows.items c.from-place.result c.args.from.0 c.args.may c.index_mut-row.result.now c.put.new.self here c.index_mut-row.ensures.value
    (is_put (nodes_of c.index_mut-row.result.now.senders) (nodes_of c.put.new.self) c.args.from.0 _ _ c.put.ensures refl))
