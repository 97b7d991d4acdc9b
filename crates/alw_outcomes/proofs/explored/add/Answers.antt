-- The place is there already, or one place more.
use Rattle.std.proofs.Common.{ℕ, List, ◌++◌, inl, inr, refl, arith, ap, ◌∙◌, subst}
use Rattle.alw_outcomes.specs.declared.explored.Explored.{Explored}
use Rattle.alw_outcomes.specs.Explored.{IsPlaceRow}
use Rattle.alw_outcomes.proofs.Rows.{row_put, digests_as_places}
use Rattle.alw_outcomes.proofs.Storing.{IsAdded, already, places_added, stored_added}
use Rattle.alw_outcomes.proofs.explored.add.Goals as goal

pub returns-in-Some-clause-adds : goal.returns-in-Some-clause-adds
returns-in-Some-clause-adds c = λ _.
    let row = c.deref-2.ensures.value ∙ c.in_ok-row.ensures in
    let there = subst (λ (row : List ℕ). IsPlaceRow c.args.found.now c.in-Some._at c.args.to.memory row) row c.in-Some.ensures.some in
    inl (already c.args.image.now c.args.found.now c.args.at c.args.context c.args.to c.requires.stored c.requires.at c.requires.to c.in-Some._at there, refl)

pub returns-clause-stored : goal.returns-clause-stored
returns-clause-stored c =
    let before = c.args.found.now in
    let after : Explored = record before { memories = c.push.new.self; rows = c.extend_from_slice.new.self; by_row = c.add.new.self; origins = c.push-2.new.self } in
    let added : IsAdded before after c.args.at c.args.context c.args.to c.in_ok-row.row.items = record {
      rest = refl;
      memories = c.in_ok-push.ensures.items;
      rows = c.in_ok-extend_from_slice.ensures.items ∙ ap (λ (l : List ℕ). before.rows.items ++ l) c.deref-3.ensures.value;
      row_is = c.in_ok-row.ensures;
    } in
    let digest = c.digest_of-digest.ensures in
    let put = row_put before.by_row c.add.new.self c.digest_of-digest.result c.args.to.memory c.deref.result.now c.in_ok-row.row.items c.in_ok-add.ensures digest c.deref.ensures.value in
    stored_added c.args.image.now before c.args.at c.args.context c.args.to c.requires.stored c.requires.at c.requires.to after c.in_ok-row.row.items added c.requires.context put
    (rw c.deref-2.ensures.value at c.in-None.ensures.none)

pub returns-clause-adds : goal.returns-clause-adds
returns-clause-adds c = λ _.
    let before = c.args.found.now in
    let after : Explored = record before { memories = c.push.new.self; rows = c.extend_from_slice.new.self; by_row = c.add.new.self; origins = c.push-2.new.self } in
    let added : IsAdded before after c.args.at c.args.context c.args.to c.in_ok-row.row.items = record {
      rest = refl;
      memories = c.in_ok-push.ensures.items;
      rows = c.in_ok-extend_from_slice.ensures.items ∙ ap (λ (l : List ℕ). before.rows.items ++ l) c.deref-3.ensures.value;
      row_is = c.in_ok-row.ensures;
    } in
    let places = places_added c.args.image.now before c.args.at c.args.context c.args.to c.requires.stored c.requires.at c.requires.to after c.in_ok-row.row.items added in
    inr (λ i. record { places = places i; origins = c.in_ok-push-2.ensures.items i; halted = before.halted.items; trapped = before.trapped.items; broken = before.broken.items })

pub add-requires : goal.add-requires
add-requires c =
    let long = digests_as_places c.args.found.now c.requires.stored.indexed in
    let less = c.if-len-most.false in
    let most = c.ranges.most.fits in
    omega (arith, long, less, most, c.len.ensures, c.args.found.now.memories.ok.0)
