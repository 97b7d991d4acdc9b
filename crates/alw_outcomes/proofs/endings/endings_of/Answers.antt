-- The different endings, in order.
use Rattle.std.proofs.Common.{ℕ, List, [], ◌∷◌, ◌++◌, slice_index_or, arith, sym, ◌∙◌, subst}
use Rattle.alw_outcomes.specs.Explored.{found_in}
use Rattle.alw_outcomes.specs.Keys.{end_key, trap_key, no_turn, AreOneOfEach}
use Rattle.alw_outcomes.proofs.Pooling.{at_place}
use Rattle.alw_outcomes.proofs.Keying.{traps_listed, are_different}
use Rattle.alw_outcomes.proofs.Telling.{map_more, map_all, traps_of, turn_within}
use Rattle.alw_outcomes.proofs.endings.endings_of.Goals as goal

pub loop-turn-init : goal.loop-turn-init
loop-turn-init c = c.new-traps.ensures.items

pub index-requires : goal.index-requires
index-requires c =
    let within = turn_within c.args.found.now.trapped.items c.in_ok-turns.turns.items c.deref-turn-items.result.now c.loop-turn.turn-index
    (traps_of c.args.found.now.trapped.items c.deref.result.now _ c.in_ok-turns.turns.items c.deref.ensures.value c.in_ok-keyed_traps.ensures.numbers
    (c.in_ok-turns.ensures (trap_key c.deref.result.now) c.in_ok-keyed_traps.ensures.keys))
    c.deref-turn-items.ensures.value c.loop-turn-test.true in
    omega (arith, within, c.args.found.now.trapped.ok.0)

pub loop-turn-preserved : goal.loop-turn-preserved
loop-turn-preserved c =
    let within = turn_within c.args.found.now.trapped.items c.in_ok-turns.turns.items c.deref-turn-items.result.now c.loop-turn.turn-index
    (traps_of c.args.found.now.trapped.items c.deref.result.now _ c.in_ok-turns.turns.items c.deref.ensures.value c.in_ok-keyed_traps.ensures.numbers
    (c.in_ok-turns.ensures (trap_key c.deref.result.now) c.in_ok-keyed_traps.ensures.keys))
    c.deref-turn-items.ensures.value c.loop-turn-test.true in
    let here = at_place c.args.found.now.trapped.items (slice_index_or c.deref-turn-items.result.now c.loop-turn.turn-index 0) no_turn c.index.result.now within c.index.ensures in
    map_more (λ (k : ℕ). slice_index_or c.args.found.now.trapped.items k no_turn) c.deref-turn-items.result.now c.loop-turn.traps.items c.push.new.self.items c.loop-turn.turn-index
    c.loop-turn-test.true c.loop-turn.invariant
    (c.in_ok-push.ensures.items ∙ (λ j. c.loop-turn.traps.items ++ sym here j ∷ []))

pub returns-clause-ends : goal.returns-clause-ends
returns-clause-ends c =
    (subst (λ (l : List ℕ). AreOneOfEach (end_key (found_in c.args.found.now)) l c.in_ok-ends.ends.items) c.in_ok-keyed_ends.ensures.numbers
    (c.in_ok-ends.ensures (end_key (found_in c.args.found.now)) c.in_ok-keyed_ends.ensures.keys)).within

pub returns-clause-traps : goal.returns-clause-traps
returns-clause-traps c =
    traps_listed c.args.image.now (found_in c.args.found.now) (record { ends = c.in_ok-ends.ends; traps = c.loop-turn.traps }) c.in_ok-turns.turns.items c.requires.real
    (subst (λ (l : List ℕ). AreOneOfEach (end_key (found_in c.args.found.now)) l c.in_ok-ends.ends.items) c.in_ok-keyed_ends.ensures.numbers
    (c.in_ok-ends.ensures (end_key (found_in c.args.found.now)) c.in_ok-keyed_ends.ensures.keys))
    (traps_of c.args.found.now.trapped.items c.deref.result.now _ c.in_ok-turns.turns.items c.deref.ensures.value c.in_ok-keyed_traps.ensures.numbers
    (c.in_ok-turns.ensures (trap_key c.deref.result.now) c.in_ok-keyed_traps.ensures.keys))
    (map_all (λ (k : ℕ). slice_index_or c.args.found.now.trapped.items k no_turn) c.deref-turn-items.result.now c.in_ok-turns.turns.items c.loop-turn.traps.items c.loop-turn.turn-index
    c.deref-turn-items.ensures.value (omega (arith, c.loop-turn-test.false)) c.loop-turn.invariant)

pub returns-clause-different : goal.returns-clause-different
returns-clause-different c =
    are_different c.args.image.now (found_in c.args.found.now) (record { ends = c.in_ok-ends.ends; traps = c.loop-turn.traps }) c.in_ok-turns.turns.items c.requires.real
    (subst (λ (l : List ℕ). AreOneOfEach (end_key (found_in c.args.found.now)) l c.in_ok-ends.ends.items) c.in_ok-keyed_ends.ensures.numbers
    (c.in_ok-ends.ensures (end_key (found_in c.args.found.now)) c.in_ok-keyed_ends.ensures.keys))
    (traps_of c.args.found.now.trapped.items c.deref.result.now _ c.in_ok-turns.turns.items c.deref.ensures.value c.in_ok-keyed_traps.ensures.numbers
    (c.in_ok-turns.ensures (trap_key c.deref.result.now) c.in_ok-keyed_traps.ensures.keys))
    (map_all (λ (k : ℕ). slice_index_or c.args.found.now.trapped.items k no_turn) c.deref-turn-items.result.now c.in_ok-turns.turns.items c.loop-turn.traps.items c.loop-turn.turn-index
    c.deref-turn-items.ensures.value (omega (arith, c.loop-turn-test.false)) c.loop-turn.invariant)
