-- The bound on what is left to do once every context has halted, and what it says of clocks.
use Rattle.std.proofs.Common.{◌≡◌, ℕ, ◌+◌, ◌-◌, ◌*◌, ◌^◌, ◌<◌, ◌≤◌, ◌==◌, ◌||◌, Bool, true, false, T, List, [], ◌∷◌, length, IsTrue, refl, subst, ap, arith}
use Rattle.std.specs.List.{AllByRecursion, list_any}
use Rattle.std.proofs.lemmas.Bool.{eqb-true, false≢true}
use Rattle.std.proofs.lemmas.Bool.Decides.{nat_tests}
use Rattle.std.proofs.lemmas.Nat.{mul-le}
use Rattle.law_machine.proofs.Vocabulary.{ascends_from, Event, Parts, node_count, IsImage, Parameters, AreParameters, set_counts, Copy, Cache, set_of, NodeState, MachineState, no_node, node_at}
use Rattle.law_machine.proofs.Vocabulary.{is_enabled, step, has_halted, left_to_do, most_to_do, IsCache}
use Rattle.law_machine.proofs.ContextRuns.{HasContexts}
use Rattle.law_machine.proofs.Timing.{HasTimes}
use Rattle.law_machine.proofs.Stores.{each_entry}
use Rattle.law_machine.proofs.Sums.{weigh_most}
use Rattle.law_machine.proofs.AtRest.{few_left}
use Rattle.law_machine.proofs.Wear.{cached_of, event_wears}
use Rattle.law_machine.proofs.Greatest.{clock_below, greatest_most, greatest_grows}

-- ---- ranges

any_within : (low high x : ℕ) (xs : List ℕ) → AllByRecursion (λ n. (low ≤ n) × (n ≤ high)) xs → list_any (λ n. x == n) xs ≡ true → (low ≤ x) × (x ≤ high)
any_within low high x [] all is = absurd (false≢true is)
any_within low high x (n ∷ rest) all is = go (x == n) refl is (any_within low high x rest all.1)
  where
    go : (b : Bool) → (x == n) ≡ b → (b || list_any (λ n. x == n) rest) ≡ true → (list_any (λ n. x == n) rest ≡ true → (low ≤ x) × (x ≤ high)) → (low ≤ x) × (x ≤ high)
    go true e is more = let same = eqb-true x n e in (omega (arith, all.0.0), omega (arith, all.0.1))
    go false e is more = more is

pub sets_range : (parameters : Parameters) → AreParameters parameters → (1 ≤ parameters.sets) × (parameters.sets ≤ 4096)
sets_range parameters are = any_within 1 4096 parameters.sets set_counts
    ((omega arith, omega arith), ((omega arith, omega arith), ((omega arith, omega arith), ((omega arith, omega arith), ((omega arith, omega arith), ((omega arith, omega arith), ((omega arith, omega arith), ((omega arith, omega arith), ((omega arith, omega arith), ((omega arith, omega arith), ((omega arith, omega arith), tt)))))))))))
    are.sets

-- ---- caches

few_from : {X : Type 0} (low most : ℕ) (entries : List (ℕ × X)) → T (ascends_from low entries) → AllByRecursion (λ (entry : ℕ × X). entry.0 < most) entries → length entries ≤ most - low
few_from low most [] a all = omega arith
few_from low most (entry ∷ rest) a all = grind (arith, nat_tests, few_from (entry.0 + 1) most rest)

module _ (parts : Parts) (parameters : Parameters) where
  -- a cache has no more copies than sets
  cache_few : (cache : Cache) → IsCache parts parameters cache → 1 ≤ parameters.sets → length cache.entries ≤ parameters.sets
  cache_few cache each some = within (few_from 0 parameters.sets cache.entries cache.ascending (each_entry (λ (entry : ℕ × Copy). entry.0 < parameters.sets) cache (λ set copy e.
      let at = (each set copy e).1 in subst (λ k. k < parameters.sets) at (small copy.line))))
    where
      within : length cache.entries ≤ parameters.sets - 0 → length cache.entries ≤ parameters.sets
      within l = omega arith

      small : (line : ℕ) → set_of parameters.sets line < parameters.sets
      small line = omega arith

  module _ (s : MachineState) (has : HasContexts parts parameters s) (times : HasTimes parts parameters s) where
    pub cached_few : 1 ≤ parameters.sets → cached_of s ≤ node_count parts * parameters.sets
    cached_few some =
        let all = weigh_most (λ (node : NodeState). length node.cache.entries) parameters.sets s.nodes no_node (λ i l. cache_few (node_at s i).cache (has.sound.standing.each i (subst (λ n. i < n) has.sound.standing.nodes l)).caches some) in
        let size = ap (λ n. n * parameters.sets) has.sound.standing.nodes in
        omega arith

    -- once every context has halted, while clocks are within the limit
    pub left_fits : has_halted s ≡ true → 1 ≤ parameters.sets → ((n : ℕ) → n < node_count parts → (node_at s n).clock ≤ parameters.limit) → left_to_do s ≤ most_to_do parts parameters
    left_fits halted some clocks =
        let greatest = greatest_most parts parameters s has.sound.standing parameters.limit clocks in
        let cached = cached_few some in
        let few = few_left parts parameters s has halted times in
        omega arith

    -- then each event leaves no more
    pub left_falls : has_halted s ≡ true → (event : Event) → IsTrue (is_enabled parts parameters s event) → left_to_do (step parts parameters s event) ≤ left_to_do s
    left_falls halted event enabled =
        let w = event_wears parts parameters s has halted event enabled in
        let g = greatest_grows parts parameters s has.sound.standing times event enabled in
        omega (arith, w.less)

    -- ---- clocks

    most_small : IsImage parts → AreParameters parameters → most_to_do parts parameters ≤ 6291456
    most_small image are =
        let nodes = mul-le parts.width parts.height 16 16 image.width.1 image.height.1 in
        let sets = mul-le (node_count parts) parameters.sets 256 4096 (omega arith) (sets_range parameters are).1 in
        let lines = mul-le (node_count parts) parts.per_node 256 4096 (omega arith) image.per_node.1 in
        omega (arith, are.limit)

    pub clock_small : IsImage parts → AreParameters parameters → (has_halted s ≡ true → left_to_do s ≤ most_to_do parts parameters) → (n : ℕ) → n < node_count parts → (node_at s n).clock < 2 ^ 32 - 1
    clock_small image are bound n here = go (has_halted s) refl
      where
        go : (b : Bool) → has_halted s ≡ b → (node_at s n).clock < 2 ^ 32 - 1
        go true e = omega (arith, bound e, clock_below parts parameters s has.sound.standing n here, most_small image are)
        go false e = omega (arith, times.clocks e n here, are.limit)
