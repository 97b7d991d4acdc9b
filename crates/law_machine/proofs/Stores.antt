-- Of the machine invariant: pointers are nodes, cached lines exist and stand in their sets, and the machine has its nodes and links.
use Rattle.std.proofs.Common.{◌≡◌, ℕ, ◌+◌, ◌*◌, ◌<◌, ◌≤◌, ◌==◌, nat_lt, ◌&&◌, ◌||◌, Bool, true, T, Some, List, [], ◌∷◌, length, IsTrue, refl, ap, ◌∙◌, arith}
use Rattle.std.specs.List.{AllByRecursion, list_all}
use Rattle.std.proofs.Math.Bool.{or-true}
use Rattle.std.proofs.lemmas.Bool.{eq-eqb, lt-ltb, le-leb}
use Rattle.std.proofs.lemmas.Bool.Decides.{nat_tests}
use Rattle.law_machine.proofs.Vocabulary.{Nodes, has_node, members, count_nodes, Line, Parts, node_count, line_count, Parameters, Map, ascends_from, found, value_at, Cache, set_of, home_node}
use Rattle.law_machine.proofs.Vocabulary.{MachineState, node_at, entry_of, points_rightly, caches_rightly, IsCache}
use Rattle.alw_num.proofs.Sets.{each_member, has-join}
use Rattle.alw_model.proofs.Journals.{and_is}
use Rattle.law_lines.proofs.Following.{home_below}
use Rattle.law_machine.specs.Values.{MachineIsSoundWith}

pub all_of : {X : Type 0} (test : X → Bool) (xs : List X) → AllByRecursion (λ x. IsTrue (test x)) xs → IsTrue (list_all test xs)
all_of test [] all = refl
all_of test (x ∷ rest) all = and_is (test x) (list_all test rest) all.0 (all_of test rest all.1)

-- ---- pointers

members_below : (n : ℕ) (P : Nodes) → ((k : ℕ) → has_node P k ≡ true → k < n) → IsTrue (list_all (λ i. nat_lt i n) (members P))
members_below n P below = all_of (λ i. nat_lt i n) (members P) (each_member P (λ k. IsTrue (nat_lt k n)) (λ k has. lt-ltb k n (below k has)))

-- ---- caches

module _ {X : Type 0} where
  found_from : (key low : ℕ) (value : X) (entries : List (ℕ × X)) → T (ascends_from low entries) → found key entries ≡ Some value → low ≤ key
  found_from key low value [] a e = absurd (cc)
  found_from key low value (entry ∷ rest) a e = grind (arith, nat_tests, found_from key (entry.0 + 1) value rest)

  each_found : (P : ℕ × X → Type 0) (low : ℕ) (entries : List (ℕ × X)) → T (ascends_from low entries) → ((key : ℕ) (value : X) → found key entries ≡ Some value → P (key, value)) → AllByRecursion P entries
  each_found P low [] a each = tt
  each_found P low (entry ∷ rest) a each = (each entry.0 entry.1 (grind (arith, nat_tests)), each_found P (entry.0 + 1) rest (grind (arith, nat_tests)) (λ key value e. each key value (behind key value e (found_from key (entry.0 + 1) value rest (grind (arith, nat_tests)) e))))
    where
      behind : (key : ℕ) (value : X) → found key rest ≡ Some value → entry.0 + 1 ≤ key → found key (entry ∷ rest) ≡ Some value
      behind key value e l = grind (arith, nat_tests)

  -- each entry of a map is what the map answers
  pub each_entry : (P : ℕ × X → Type 0) (m : Map X) → ((key : ℕ) (value : X) → value_at m key ≡ Some value → P (key, value)) → AllByRecursion P m.entries
  unfolding value_at
  each_entry P m each = each_found P 0 m.entries m.ascending each

module _ (parts : Parts) (parameters : Parameters) where
  cache_rightly : (cache : Cache) → IsCache parts parameters cache → IsTrue (list_all (caches_rightly parts parameters) cache.entries)
  cache_rightly cache each = all_of (caches_rightly parts parameters) cache.entries (each_entry (λ entry. IsTrue (caches_rightly parts parameters entry)) cache (λ set copy e.
      let at = each set copy e in
      and_is (nat_lt copy.line (line_count parts)) (set_of parameters.sets copy.line == set) (lt-ltb copy.line (line_count parts) at.0) (eq-eqb (set_of parameters.sets copy.line) set at.1)))

  module _ (s : MachineState) (values : ℕ → Line) (sound : MachineIsSoundWith parts parameters values s) where
    pub entry_points : (line : ℕ) → line < line_count parts → IsTrue (points_rightly parts parameters (entry_of parts s line))
    entry_points line exists =
        let d = entry_of parts s line in
        let joined = (sound.lines line exists).members in
        let few = ((sound.standing.each (home_node parts line) (home_below parts line exists)).entries line exists refl).few in
        and_is _ _ (members_below (node_count parts) d.hardware (λ k has. joined k (has-join d.hardware d.software k ∙ ap (λ b. b || has_node d.software k) has)))
        (and_is _ _ (members_below (node_count parts) d.software (λ k has. joined k (has-join d.hardware d.software k ∙ (ap (λ b. has_node d.hardware k || b) has ∙ or-true (has_node d.hardware k)))))
        (le-leb (count_nodes d.hardware) parameters.pointers few))

    pub caches_stand : (n : ℕ) → n < node_count parts → IsTrue (list_all (caches_rightly parts parameters) (node_at s n).cache.entries)
    caches_stand n here = cache_rightly (node_at s n).cache (sound.standing.each n here).caches

    pub sizes_are : IsTrue (length s.nodes == node_count parts && (length s.links == node_count parts * node_count parts))
    sizes_are = and_is _ _ (eq-eqb (length s.nodes) (node_count parts) sound.standing.nodes) (eq-eqb (length s.links) (node_count parts * node_count parts) sound.standing.links)
