-- Places on days: one that is put there, or taken off, and the first that stands.
use Rattle.std.proofs.Common.{◌≡◌, ◌≢◌, ℕ, ◌<◌, ◌≤◌, ◌==◌, ◌&&◌, Bool, true, false, cond, ◌⊎◌, inl, inr, ◌↔◌, IsTrue, List, [], ◌∷◌, length, replicate, slice_index_or, slice_set, refl, sym, ap, subst, ◌∙◌, arith}
use Rattle.std.proofs.lemmas.List.{get_or-set_same, get_or-set_other, get_or-replicate, get_or_past, length-replicate}
use Rattle.std.proofs.lemmas.Bool.{cases_lt, cases_eq, eq-eqb, ne_eqb, false≢true}
use Rattle.alw_num.specs.declared.node_sets.NodeSet.{NodeSet}
use Rattle.alw_num.specs.NodeSets.{Nodes, has_node, no_nodes, add_node, drop_node, members, nodes_of}
use Rattle.alw_num.proofs.Sets.{AscendsFrom, same_nodes, has-none, has-add, has-drop, has_front, member, members-ascend, times_before}
use Rattle.alw_num.specs.Weights.{digit, times}
use Rattle.alw_least.specs.Days.{places_on, stands_on, NothingStands, IsPut, StandsFirst, AreFilled}

-- ---- one day changes

there : (days : List NodeSet) (day : ℕ) (set : NodeSet) → day < length days → places_on (slice_set days day set) day ≡ set
there days day set within = get_or-set_same days day set (record { words = [] }) within

elsewhere : (days : List NodeSet) (day d : ℕ) (set : NodeSet) → d ≢ day → places_on (slice_set days day set) d ≡ places_on days d
elsewhere days day d set apart = get_or-set_other days day d set (record { words = [] }) apart

-- the set of a day has or hasn't a place, and all else as before
pub put_is : (here : Bool) (days : List NodeSet) (day place : ℕ) (set : NodeSet) → day < length days → ((p : ℕ) → has_node (nodes_of set) p ≡ cond (p == place) here (stands_on days day p)) →
    IsPut here day place days (slice_set days day set)
put_is here days day place set within has d p = by_day (cases_eq d day)
  where
    by_day : (d ≡ day) ⊎ (d ≢ day) → stands_on (slice_set days day set) d p ≡ cond (d == day && p == place) here (stands_on days d p)
    by_day (inl same) = subst (λ (k : ℕ). stands_on (slice_set days day set) k p ≡ cond (k == day && p == place) here (stands_on days k p)) (sym same)
        (ap (λ (s : NodeSet). has_node (nodes_of s) p) (there days day set within) ∙ (has p ∙ ap (λ b. cond (b && p == place) here (stands_on days day p)) (sym (eq-eqb day day refl))))
    by_day (inr apart) =
        ap (λ (s : NodeSet). has_node (nodes_of s) p) (elsewhere days day d set apart)
        ∙ ap (λ b. cond (b && p == place) here (stands_on days d p)) (sym (ne_eqb d day apart))

-- the same of numbers that are those
pub put_at : (here : Bool) (days : List NodeSet) (day at place one : ℕ) (set : NodeSet) → at ≡ day → one ≡ place → at < length days →
    ((p : ℕ) → has_node (nodes_of set) p ≡ cond (p == one) here (stands_on days at p)) → IsPut here day place days (slice_set days at set)
put_at here days day at place one set same alike within has =
    subst (λ (k : ℕ). IsPut here k place days (slice_set days at set)) same
    (put_is here days at place set within (λ p. has p ∙ ap (λ (k : ℕ). cond (p == k) here (stands_on days at p)) alike))

-- what is there, once it was put there, is or isn't empty
pub empty_there : (days : List NodeSet) (day : ℕ) (set : NodeSet) (empty : Bool) → day < length days → empty ≡ true → (IsTrue empty ↔ (nodes_of (places_on (slice_set days day set) day) ≡ no_nodes)) → nodes_of set ≡ no_nodes
empty_there days day set empty within is says = ap nodes_of (sym (there days day set within)) ∙ says.0 is

pub some_stays : (days : List NodeSet) (day : ℕ) (set : NodeSet) (empty : Bool) → day < length days → empty ≡ false → (IsTrue empty ↔ (nodes_of (places_on (slice_set days day set) day) ≡ no_nodes)) → nodes_of set ≢ no_nodes
some_stays days day set empty within is says none = false≢true (sym is ∙ says.1 (ap nodes_of (there days day set within) ∙ none))

-- ---- days that are filled

some_there : (set : Nodes) (place : ℕ) → has_node set place ≡ true → set ≢ no_nodes
some_there set place has none = false≢true (sym (has-none place) ∙ (ap (λ (s : Nodes). has_node s place) (sym none) ∙ has))

-- a day on which something stands now is filled
pub filled_more : (days : List NodeSet) (filled filled' : NodeSet) (day flag place : ℕ) (set : NodeSet) → flag ≡ day → day < length days → AreFilled days filled →
    nodes_of set ≡ add_node (nodes_of (places_on days day)) place → nodes_of filled' ≡ add_node (nodes_of filled) flag → AreFilled (slice_set days day set) filled'
filled_more days filled filled' day flag place set flags within are is more d = by_day (cases_eq d day)
  where
    now : (k : ℕ) → has_node (nodes_of filled') k ≡ cond (k == day) true (has_node (nodes_of filled) k)
    now k = ap (λ (s : Nodes). has_node s k) more ∙ (has-add (nodes_of filled) flag k ∙ ap (λ (j : ℕ). cond (k == j) true (has_node (nodes_of filled) k)) flags)

    by_day : (d ≡ day) ⊎ (d ≢ day) → (has_node (nodes_of filled') d ≡ false) ↔ (nodes_of (places_on (slice_set days day set) d) ≡ no_nodes)
    by_day (inl same) = (
      λ none. absurd (false≢true (sym none ∙ (now d ∙ ap (λ b. cond b true (has_node (nodes_of filled) d)) (eq-eqb d day same)))),
      λ none. absurd (some_there (add_node (nodes_of (places_on days day)) place) place
          (has-add (nodes_of (places_on days day)) place place ∙ ap (λ b. cond b true (has_node (nodes_of (places_on days day)) place)) (eq-eqb place place refl))
          (sym is ∙ (ap nodes_of (sym (ap (λ (k : ℕ). places_on (slice_set days day set) k) same ∙ there days day set within)) ∙ none))),
    )
    by_day (inr apart) =
        let same_set = ap nodes_of (elsewhere days day d set apart) in
        let same_flag = now d ∙ ap (λ b. cond b true (has_node (nodes_of filled) d)) (ne_eqb d day apart) in
        (λ none. same_set ∙ (are d).0 (sym same_flag ∙ none), λ none. same_flag ∙ (are d).1 (sym same_set ∙ none))

-- a day from which something was taken is filled as long as something is left there
pub filled_less : (days : List NodeSet) (filled filled' : NodeSet) (day flag : ℕ) (set : NodeSet) → flag ≡ day → day < length days → AreFilled days filled →
    nodes_of set ≡ no_nodes → nodes_of filled' ≡ drop_node (nodes_of filled) flag → AreFilled (slice_set days day set) filled'
filled_less days filled filled' day flag set flags within are is less d = by_day (cases_eq d day)
  where
    now : (k : ℕ) → has_node (nodes_of filled') k ≡ cond (k == day) false (has_node (nodes_of filled) k)
    now k = ap (λ (s : Nodes). has_node s k) less ∙ (has-drop (nodes_of filled) flag k ∙ ap (λ (j : ℕ). cond (k == j) false (has_node (nodes_of filled) k)) flags)

    by_day : (d ≡ day) ⊎ (d ≢ day) → (has_node (nodes_of filled') d ≡ false) ↔ (nodes_of (places_on (slice_set days day set) d) ≡ no_nodes)
    by_day (inl same) = (
      λ none. ap nodes_of (ap (λ (k : ℕ). places_on (slice_set days day set) k) same ∙ there days day set within) ∙ is,
      λ none. now d ∙ ap (λ b. cond b false (has_node (nodes_of filled) d)) (eq-eqb d day same),
    )
    by_day (inr apart) =
        let same_set = ap nodes_of (elsewhere days day d set apart) in
        let same_flag = now d ∙ ap (λ b. cond b false (has_node (nodes_of filled) d)) (ne_eqb d day apart) in
        (λ none. same_set ∙ (are d).0 (sym same_flag ∙ none), λ none. same_flag ∙ (are d).1 (sym same_set ∙ none))

pub filled_still : (days : List NodeSet) (filled : NodeSet) (day place : ℕ) (set : NodeSet) → day < length days → AreFilled days filled →
    nodes_of set ≡ drop_node (nodes_of (places_on days day)) place → nodes_of set ≢ no_nodes → AreFilled (slice_set days day set) filled
filled_still days filled day place set within are is some d = by_day (cases_eq d day)
  where
    by_day : (d ≡ day) ⊎ (d ≢ day) → (has_node (nodes_of filled) d ≡ false) ↔ (nodes_of (places_on (slice_set days day set) d) ≡ no_nodes)
    by_day (inl same) = (
      λ none. absurd (some (is ∙ (ap (λ (s : Nodes). drop_node s place) ((are day).0 (ap (λ (k : ℕ). has_node (nodes_of filled) k) (sym same) ∙ none)) ∙ drop_none place))),
      λ none. absurd (some (ap nodes_of (sym (ap (λ (k : ℕ). places_on (slice_set days day set) k) same ∙ there days day set within)) ∙ none)),
    )
      where
        drop_none : (k : ℕ) → drop_node no_nodes k ≡ no_nodes
        drop_none k = same_nodes (drop_node no_nodes k) no_nodes (λ j. has-drop no_nodes k j ∙ by_test (j == k) (has_node no_nodes j) (has-none j))
          where
            by_test : (b has : Bool) → has ≡ false → cond b false has ≡ has
            by_test true has is = sym is
            by_test false has is = refl
    by_day (inr apart) =
        let same_set = ap nodes_of (elsewhere days day d set apart) in
        (λ none. same_set ∙ (are d).0 none, λ none. (are d).1 (sym same_set ∙ none))

-- ---- none, and the first

no_words : nodes_of (record { words = [] }) ≡ no_nodes
unfolding nodes_of no_nodes
no_words = refl

past_none : (k : ℕ) → has_node (nodes_of (record { words = [] })) k ≡ false
past_none k = ap (λ (s : Nodes). has_node s k) no_words ∙ has-none k

pub none_stand : (count : ℕ) (set : NodeSet) → nodes_of set ≡ no_nodes → NothingStands (replicate count set)
none_stand count set none day place = by_day (cases_lt day count)
  where
    by_day : (day < count) ⊎ (count ≤ day) → stands_on (replicate count set) day place ≡ false
    by_day (inl lt) = ap (λ (s : NodeSet). has_node (nodes_of s) place) (get_or-replicate count day set (record { words = [] }) lt) ∙ (ap (λ (s : Nodes). has_node s place) none ∙ has-none place)
    by_day (inr le) =
        let long : length (replicate count set) ≡ count = length-replicate count set in
        ap (λ (s : NodeSet). has_node (nodes_of s) place) (get_or_past (replicate count set) day (record { words = [] }) (omega (arith, long, le))) ∙ past_none place

pub all_none : (count : ℕ) (set filled : NodeSet) → nodes_of set ≡ no_nodes → nodes_of filled ≡ no_nodes → AreFilled (replicate count set) filled
all_none count set filled none also day = (
  λ is. same_nodes (nodes_of (places_on (replicate count set) day)) no_nodes (λ k. none_stand count set none day k ∙ sym (has-none k)),
  λ is. ap (λ (s : Nodes). has_node s day) also ∙ has-none day,
)

pub nothing_of : (days : List NodeSet) → ((day : ℕ) → nodes_of (places_on days day) ≡ no_nodes) → NothingStands days
nothing_of days none day place = ap (λ (s : Nodes). has_node s place) (none day) ∙ has-none place

pub none_filled : (days : List NodeSet) (filled : NodeSet) → AreFilled days filled → nodes_of filled ≡ no_nodes → NothingStands days
none_filled days filled are none = nothing_of days (λ day. (are day).0 (ap (λ (s : Nodes). has_node s day) none ∙ has-none day))

-- below the least member of a set there is none
below_least : (set : Nodes) (least k : ℕ) → members set ≡ least ∷ members (drop_node set least) → k < least → has_node set k ≡ false
below_least set least k is below = by_test (has_node set k) refl
  where
    by_test : (b : Bool) → has_node set k ≡ b → has_node set k ≡ false
    by_test false has = has
    by_test true has =
        let rest = members (drop_node set least) in
        let ascends : AscendsFrom 0 (least ∷ rest) = subst (λ (xs : List ℕ). AscendsFrom 0 xs) is (members-ascend set) in
        let none : times k (least ∷ rest) ≡ 0 = times_before least (least ∷ rest) k (omega arith, ascends.1) below in
        let one : times k (members set) ≡ 1 = member set k ∙ ap digit has in
        absurd (omega (arith, one, none, ap (λ (xs : List ℕ). times k xs) is))

module _ (days : List NodeSet) (filled : NodeSet) (day at : ℕ) where
  -- the lowest place of the first day that is filled
  pub stands_first : (place : ℕ) → at ≡ day → AreFilled days filled → members (nodes_of filled) ≡ day ∷ members (drop_node (nodes_of filled) day) →
      members (nodes_of (places_on days at)) ≡ place ∷ members (drop_node (nodes_of (places_on days at)) place) → StandsFirst days place
  stands_first place same are first lowest = record {
    day = at;
    stands = has_front (nodes_of (places_on days at)) place _ lowest;
    first = λ d p before. ap (λ (s : Nodes). has_node s p) ((are d).0 (below_least (nodes_of filled) day d first (omega (arith, same, before)))) ∙ has-none p;
    lowest = λ p before. below_least (nodes_of (places_on days at)) place p lowest before;
  }

  -- a day that is filled has a place
  pub filled_some : at ≡ day → AreFilled days filled → members (nodes_of filled) ≡ day ∷ members (drop_node (nodes_of filled) day) → nodes_of (places_on days at) ≢ no_nodes
  filled_some same are first none = false≢true (sym ((are day).1 (ap (λ (k : ℕ). nodes_of (places_on days k)) (sym same) ∙ none)) ∙ has_front (nodes_of filled) day _ first)
