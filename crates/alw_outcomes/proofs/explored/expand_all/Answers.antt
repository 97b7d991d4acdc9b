-- One place more, and all at the end.
use Rattle.std.proofs.Common.{List, arith, sym, ◌∙◌, subst}
use Rattle.std.proofs.lemmas.Bool.{eqb-true}
use Rattle.alw_outcomes.specs.Explored.{found_in}
use Rattle.alw_outcomes.proofs.Storing.{places_length}
use Rattle.alw_places.specs.declared.classes.Class.{Class}
use Rattle.alw_outcomes.proofs.Steps.{IsExploredTo, explored_more, all_closed}
use Rattle.alw_outcomes.proofs.explored.expand_all.Goals as goal

pub returns-then-next-len-clause-closed : goal.returns-then-next-len-clause-closed
returns-then-next-len-clause-closed c = λ _.
    all_closed c.args.image.now c.loop-next.found.classes.items (found_in c.loop-next.found) c.loop-next.next c.loop-next.invariant.explored
    (omega (arith, c.if-next-len.true, c.len.ensures, places_length c.loop-next.found))
    (let none = eqb-true _ 0 (sym c.is_empty.ensures ∙ c.if-not-is_empty.false) in omega (arith, none, c.loop-next.found.broken.ok.0))

pub returns-then-not-branch-clause-real : goal.returns-then-not-branch-clause-real
returns-then-not-branch-clause-real c = c.in_ok-expand.ensures.goes.real

pub loop-next-preserved : goal.loop-next-preserved
loop-next-preserved c = record {
  explored =
      let one = found_in c.loop-next.found in
      let so_far = subst (λ (l : List Class). IsExploredTo c.args.image.now l one c.loop-next.next) (sym c.in_ok-expand.ensures.hint) c.loop-next.invariant.explored in
      explored_more c.args.image.now c.expand.new.found.classes.items one (found_in c.expand.new.found) c.loop-next.next so_far
      (omega (arith, c.if-next-len.false, c.len.ensures, places_length c.loop-next.found)) c.in_ok-expand.ensures.goes (c.in_ok-expand.ensures.expanded c.if-not-branch.false);
  hint = c.in_ok-expand.ensures.hint ∙ c.loop-next.invariant.hint;
  stored = c.in_ok-expand.ensures.stored;
  few = let one = c.loop-next.invariant.few in let two = c.in_ok-expand.ensures.few in omega arith;
}

pub returns-clause-closed : goal.returns-clause-closed
returns-clause-closed c = λ yes'.
    all_closed c.args.image.now c.loop-next.found.classes.items (found_in c.loop-next.found) c.loop-next.next c.loop-next.invariant.explored
    (omega (arith, c.if-len-most.false, c.len-2.ensures, c.loop-next-test.false, places_length c.loop-next.found))
    (let none = eqb-true _ 0 (sym c.is_empty-2.ensures ∙ yes') in omega (arith, none, c.loop-next.found.broken.ok.0))
