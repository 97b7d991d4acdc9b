-- Two lists of the same entries that both ascend are one list; so a legal journal's state is that of its entries, in whatever legal order.
use Rattle.std.proofs.Common.{◌≡◌, ℕ, ◌≤◌, ◌==◌, ◌&&◌, Bool, true, false, List, [], ◌∷◌, IsTrue, refl, sym, subst, ap, ◌∙◌, arith}
use Rattle.std.specs.List.{AllByRecursion, sum_by}
use Rattle.std.specs.List.Sorted.{IsPermutation}
use Rattle.std.proofs.lemmas.List.Sums.{sum_by-cons}
use Rattle.std.proofs.lemmas.List.Sorted.{sum_by-IsPermutation, IsPermutation-trans}
use Rattle.std.proofs.lemmas.Bool.{eqb-true, eq-eqb, false≢true}
use Rattle.alw_num.specs.Weights.{digit, weigh}
use Rattle.alw_num.specs.declared.addresses.NodeNo.{NodeNo}
use Rattle.alw_msg.specs.declared.events.Event.{Event}
use Rattle.alw_msg.specs.declared.events.Event.TheVariants.{Instr, Handle, Deliver, Evict}
use Rattle.alw_msg.specs.declared.events.Entry.{Entry}
use Rattle.alw_image.specs.declared.parts.Parts.{Parts}
use Rattle.alw_image.specs.Parameters.{Parameters}
use Rattle.alw_model.specs.Machine.{state, IsLegal}
use Rattle.alw_model.specs.Threads.{is_before, in_order}
use Rattle.alw_model.proofs.Journals.{and_parts, and_is}
use Rattle.law_order.specs.Orders.{Ascends}
use Rattle.law_order.proofs.Keys.{never_both}
use Rattle.law_order.proofs.Orders.{sorted_same}
use Rattle.law_order.proofs.Reached.{in_order_ascends, in_order_state}

-- ---- entries by test

same_event : Event → Event → Bool
same_event (Instr node) (Instr other) = node.0 == other.0
same_event (Handle node) (Handle other) = node.0 == other.0
same_event (Deliver from to) (Deliver source target) = from.0 == source.0 && (to.0 == target.0)
same_event (Evict node at) (Evict other place) = node.0 == other.0 && (at == place)
same_event event other = false

is_same : Entry → Entry → Bool
is_same one other = one.stamp == other.stamp && same_event one.event other.event

node_of_number : (node other : NodeNo) → node.0 ≡ other.0 → node ≡ other
node_of_number node other same = λ x. record { 0 = same x }

event_is : (one other : Event) → IsTrue (same_event one other) → one ≡ other
unfolding same_event
event_is (Instr node) (Instr other) is = ap Instr (node_of_number node other (eqb-true node.0 other.0 is))
event_is (Handle node) (Handle other) is = ap Handle (node_of_number node other (eqb-true node.0 other.0 is))
event_is (Deliver from to) (Deliver source target) is =
    let p = and_parts (from.0 == source.0) (to.0 == target.0) is in
    λ x. Deliver (node_of_number from source (eqb-true from.0 source.0 p.0) x) (node_of_number to target (eqb-true to.0 target.0 p.1) x)
event_is (Evict node at) (Evict other place) is =
    let p = and_parts (node.0 == other.0) (at == place) is in
    λ x. Evict (node_of_number node other (eqb-true node.0 other.0 p.0) x) (eqb-true at place p.1 x)
event_is (Instr node) (Handle other) is = absurd (false≢true is)
event_is (Instr node) (Deliver source target) is = absurd (false≢true is)
event_is (Instr node) (Evict other place) is = absurd (false≢true is)
event_is (Handle node) (Instr other) is = absurd (false≢true is)
event_is (Handle node) (Deliver source target) is = absurd (false≢true is)
event_is (Handle node) (Evict other place) is = absurd (false≢true is)
event_is (Deliver from to) (Instr other) is = absurd (false≢true is)
event_is (Deliver from to) (Handle other) is = absurd (false≢true is)
event_is (Deliver from to) (Evict other place) is = absurd (false≢true is)
event_is (Evict node at) (Instr other) is = absurd (false≢true is)
event_is (Evict node at) (Handle other) is = absurd (false≢true is)
event_is (Evict node at) (Deliver source target) is = absurd (false≢true is)

same_itself : (event : Event) → IsTrue (same_event event event)
unfolding same_event
same_itself (Instr node) = eq-eqb node.0 node.0 refl
same_itself (Handle node) = eq-eqb node.0 node.0 refl
same_itself (Deliver from to) = and_is (from.0 == from.0) (to.0 == to.0) (eq-eqb from.0 from.0 refl) (eq-eqb to.0 to.0 refl)
same_itself (Evict node at) = and_is (node.0 == node.0) (at == at) (eq-eqb node.0 node.0 refl) (eq-eqb at at refl)

entry_is : (one other : Entry) → IsTrue (is_same one other) → one ≡ other
unfolding is_same
entry_is one other is =
    let p = and_parts (one.stamp == other.stamp) (same_event one.event other.event) is in
    λ x. record { stamp = eqb-true one.stamp other.stamp p.0 x; event = event_is one.event other.event p.1 x }

is_itself : (entry : Entry) → IsTrue (is_same entry entry)
unfolding is_same
is_itself entry = and_is (entry.stamp == entry.stamp) (same_event entry.event entry.event) (eq-eqb entry.stamp entry.stamp refl) (same_itself entry.event)

-- ---- lists that count alike

-- whatever is counted over entries, both lists count the same
abbrev pub CountAlike : List Entry → List Entry → Type 0
CountAlike one other = (value : Entry → ℕ) → weigh value one ≡ weigh value other

weigh_sum : (value : Entry → ℕ) (entries : List Entry) → weigh value entries ≡ sum_by value entries
weigh_sum value [] = refl
weigh_sum value (entry ∷ rest) = omega (arith, weigh_sum value rest, sum_by-cons value entry rest)

pub count_alike : (one other : List Entry) → IsPermutation one other → CountAlike one other
count_alike one other same value = weigh_sum value one ∙ (sym (sum_by-IsPermutation value one other same) ∙ sym (weigh_sum value other))

-- what holds of all entries holds of one that stands among them
found_among : (P : Entry → Type 0) (e : Entry) (entries : List Entry) → AllByRecursion P entries → 1 ≤ weigh (λ g. digit (is_same e g)) entries → P e
found_among P e [] all some = absurd (omega arith)
found_among P e (first ∷ rest) all some = go (is_same e first) refl (found_among P e rest all.1)
  where
    go : (b : Bool) → is_same e first ≡ b → (1 ≤ weigh (λ g. digit (is_same e g)) rest → P e) → P e
    go true is deep = subst P (sym (entry_is e first is)) all.0
    go false is deep = deep (omega (arith, ap digit is))

-- an entry that another list counts too is its first one, or comes after that
first_or_after : (e f : Entry) (rest others : List Entry) → CountAlike (e ∷ rest) (f ∷ others) → AllByRecursion (λ later. IsTrue (is_before f later)) others → is_same e f ≡ false → IsTrue (is_before f e)
first_or_after e f rest others alike before is =
    found_among (λ later. IsTrue (is_before f later)) e others before (omega (arith, alike (λ g. digit (is_same e g)), ap digit (is_itself e), ap digit is))

heads_same : (e f : Entry) (rest others : List Entry) → CountAlike (e ∷ rest) (f ∷ others) → Ascends (e ∷ rest) → Ascends (f ∷ others) → e ≡ f
heads_same e f rest others alike one other = go (is_same e f) (is_same f e) refl refl
  where
    go : (b c : Bool) → is_same e f ≡ b → is_same f e ≡ c → e ≡ f
    go true c is also = entry_is e f is
    go false true is also = sym (entry_is f e also)
    go false false is also =
        let after : IsTrue (is_before f e) = first_or_after e f rest others alike other.0 is in
        let ahead : IsTrue (is_before e f) = first_or_after f e others rest (λ value. sym (alike value)) one.0 also in
        absurd (false≢true (sym (never_both f e after) ∙ ahead))

pub one_list : (one other : List Entry) → CountAlike one other → Ascends one → Ascends other → one ≡ other
one_list [] [] alike first second = refl
one_list [] (f ∷ others) alike first second = absurd (omega (arith, alike (λ g. 1)))
one_list (e ∷ rest) [] alike first second = absurd (omega (arith, alike (λ g. 1)))
one_list (e ∷ rest) (f ∷ others) alike first second =
    let head = heads_same e f rest others alike first second in
    let tail = one_list rest others (λ value. omega (arith, alike value, ap value head)) first.1 second.1 in
    λ x. head x ∷ tail x

module _ (parts : Parts) (parameters : Parameters) where
  -- a list that ascends and has a legal journal's entries is that journal sorted
  pub only_sort : (journal other : List Entry) → IsLegal parts parameters journal → IsPermutation journal other → Ascends other → other ≡ in_order journal
  only_sort journal other legal same ascends =
      one_list other (in_order journal) (λ value. sym (count_alike journal other same value) ∙ count_alike journal (in_order journal) (sorted_same journal) value) ascends (in_order_ascends parts parameters journal legal)

  -- two legal journals with the same entries leave the same
  pub same_state : (one other : List Entry) → IsLegal parts parameters one → IsLegal parts parameters other → IsPermutation one other → state parts parameters one ≡ state parts parameters other
  same_state one other legal also same =
      sym (in_order_state parts parameters one legal)
      ∙ (ap (state parts parameters) (sym (only_sort one (in_order other) legal (IsPermutation-trans one other (in_order other) same (sorted_same other)) (in_order_ascends parts parameters other also)))
      ∙ in_order_state parts parameters other also)
