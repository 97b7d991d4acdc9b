-- Lists that are gathered node by node, and which links have messages about a line.
use Rattle.std.proofs.Common.{◌≡◌, ◌≢◌, ℕ, zero, suc, ◌+◌, ◌<◌, ◌≤◌, ◌==◌, nat_lt, ◌^◌, ◌-◌, Bool, true, false, cond, Option, Some, None, List, [], ◌∷◌, ◌++◌, length, map, filter, take, slice_get, option_to_list, IsTrue}
use Rattle.std.proofs.Common.{refl, sym, ap, ◌∙◌, append_assoc, arith}
use Rattle.std.specs.List.{flat_map, range_with_len, list_all}
use Rattle.std.specs.Option.{option_map}
use Rattle.std.proofs.lemmas.Bool.{eqb-true, ne_eqb}
use Rattle.std.proofs.lemmas.List.{append-nil, length-append, take_more}
use Rattle.std.proofs.lemmas.List.Elements.{filter-append}
use Rattle.std.proofs.lemmas.Option.{same_Some, slice_get_within, get_or_from_slice_get}
use Rattle.alw_num.specs.declared.states.Mode.{Mode}
use Rattle.alw_num.proofs.Weigh.{is_node}
use Rattle.alw_msg.specs.declared.messages.Msg.{Msg}
use Rattle.alw_msg.specs.Contents.{Content, ForMemory, ForCache, content}
use Rattle.alw_msg.specs.Lists.{front}
use Rattle.alw_image.specs.declared.parts.Parts.{Parts}
use Rattle.alw_image.specs.Images.{node_count, line_count}
use Rattle.alw_image.specs.Parameters.{Parameters}
use Rattle.alw_model.specs.Caches.{Transaction}
use Rattle.alw_model.specs.Messages.{home_node, is_at_home, is_fit}
use Rattle.alw_model.specs.Machine.{MachineState, link_at}
use Rattle.alw_model.specs.MachineInvariant.{MachineInvariant, links_rightly}
use Rattle.alw_model.proofs.Journals.{and_parts}
use Rattle.law_machine.proofs.MachineFacts.{always_invariant}
use Rattle.alw_mesh.specs.Histories.{History, IsRun, state_of}
use Rattle.alw_laws.specs.Views.{Opened}
use Rattle.alw_laws.specs.Shown.{of_line, by_node, link_of, message_shown, transaction_shown}

-- ---- node by node

module _ {X : Type 0} (own : ℕ → List X) where
  -- one node more
  pub node_more : (low count n : ℕ) → low + count ≡ n → flat_map own (range_with_len low (count + 1)) ≡ flat_map own (range_with_len low count) ++ own n
  node_more low zero n is = append-nil (own low) ∙ ap own (omega (arith, is))
  node_more low (suc count) n is =
      let more : suc count + 1 ≡ suc (count + 1) = omega arith in
      ap (λ (k : ℕ). flat_map own (range_with_len low k)) more
      ∙ (ap (λ (rest : List X). own low ++ rest) (node_more (low + 1) count n (omega (arith, is)))
      ∙ sym (append_assoc (own low) (flat_map own (range_with_len (low + 1) count)) (own n)))

  pub gathers : (n : ℕ) (so_far more : List X) → so_far ≡ flat_map own (range_with_len 0 n) → more ≡ own n → so_far ++ more ≡ flat_map own (range_with_len 0 (n + 1))
  gathers n so_far more is also = (λ i. is i ++ also i) ∙ sym (node_more 0 n n (omega arith))

  -- a node that has nothing
  pub passes_by : (n : ℕ) (so_far : List X) → so_far ≡ flat_map own (range_with_len 0 n) → [] ≡ own n → so_far ≡ flat_map own (range_with_len 0 (n + 1))
  passes_by n so_far is also = sym (append-nil so_far) ∙ gathers n so_far [] is also

  -- at most one of each node
  pub few_more : (n : ℕ) (before after : List X) (x : X) → after ≡ before ++ x ∷ [] → length before ≤ n → length after ≤ n + 1
  few_more n before after x is few = rw is (omega (arith, length-append before (x ∷ []), few))

  -- the same behind a list that stood before
  pub gathers_behind : (n : ℕ) (before so_far more after : List X) → so_far ≡ before ++ flat_map own (range_with_len 0 n) → after ≡ so_far ++ more → more ≡ own n → after ≡ before ++ flat_map own (range_with_len 0 (n + 1))
  gathers_behind n before so_far more after is pushed also =
      pushed ∙ (ap (λ (xs : List X). xs ++ more) is ∙ (append_assoc before (flat_map own (range_with_len 0 n)) more
      ∙ ap (λ (xs : List X). before ++ xs) (gathers n (flat_map own (range_with_len 0 n)) more refl also)))

  none_of : (low count : ℕ) → ((n : ℕ) → low ≤ n → n < low + count → own n ≡ []) → flat_map own (range_with_len low count) ≡ []
  none_of low zero none = refl
  none_of low (suc count) none = rw (none low (omega arith) (omega arith)) (none_of (low + 1) count (λ n l m. none n (omega arith) (omega arith)))

  -- of all nodes one alone has something
  pub one_of : (low count i : ℕ) → low ≤ i → i < low + count → ((n : ℕ) → n < low + count → n ≢ i → own n ≡ []) → flat_map own (range_with_len low count) ≡ own i
  one_of low zero i l m none = absurd (omega arith)
  one_of low (suc count) i l m none = is_node _ i low here (later (λ p q. one_of (low + 1) count i p q (λ n b. none n (omega arith))))
    where
      here : i ≡ low → own low ++ flat_map own (range_with_len (low + 1) count) ≡ own i
      here same =
          let nothing = none_of (low + 1) count (λ n h k. none n (omega arith) (λ e. omega arith)) in
          ap (λ (rest : List X). own low ++ rest) nothing ∙ (append-nil (own low) ∙ ap own (sym same))

      later : (low + 1 ≤ i → i < low + 1 + count → flat_map own (range_with_len (low + 1) count) ≡ own i) → i ≢ low
          → own low ++ flat_map own (range_with_len (low + 1) count) ≡ own i
      later rest other = rw (none low (omega arith) (λ e. other (sym e))) (rest (omega arith) (omega arith))

-- ---- what a node has of a line

-- a transaction is shown where there is one
pub transaction_there : (n : ℕ) (o : Option Transaction) (mode : Mode) → option_map (λ (t : Transaction). t.mode) o ≡ Some mode → (record { 0 = n }, mode) ∷ [] ≡ option_to_list (option_map (transaction_shown n) o)
transaction_there n None mode e = absurd (cc)
transaction_there n (Some transaction) mode e = ap (λ (m : Mode). let opened : Opened = (record { 0 = n }, m) in opened ∷ []) (sym (same_Some transaction.mode mode e))

pub transaction_absent : (n : ℕ) (o : Option Transaction) → option_map (λ (t : Transaction). t.mode) o ≡ None → [] ≡ option_to_list (option_map (transaction_shown n) o)
transaction_absent n None e = refl
transaction_absent n (Some transaction) e = absurd (cc)

-- ---- what a link has of a line

-- a message more of a link
pub of_line_more : (line : ℕ) (msgs : List Msg) (msg : Msg) → of_line line (msgs ++ msg ∷ []) ≡ of_line line msgs ++ cond (msg.line.0 == line) (msg ∷ []) []
of_line_more line msgs msg = filter-append (λ (m : Msg). m.line.0 == line) msgs (msg ∷ [])

-- a packet that isn't about it is passed by
pub passes_packet : (line : ℕ) (msgs : List Msg) (i : ℕ) (msg : Msg) → slice_get msgs i ≡ Some msg → of_line line (take i msgs) ≡ [] → false ≡ (msg.line.0 == line) → of_line line (take (i + 1) msgs) ≡ []
passes_packet line msgs i msg at none other =
    let here = get_or_from_slice_get msgs i msg msg at in
    let more = take_more msgs i msg (slice_get_within msgs i msg at) ∙ ap (λ (m : Msg). take i msgs ++ m ∷ []) here in
    ap (of_line line) more ∙ (of_line_more line (take i msgs) msg ∙ rw (none, ← other) refl)

-- the first packet about it
pub first_packet : (line : ℕ) (msgs : List Msg) (i : ℕ) (msg : Msg) → slice_get msgs i ≡ Some msg → of_line line (take i msgs) ≡ [] → true ≡ (msg.line.0 == line) → Some msg ≡ front (of_line line msgs)
first_packet line [] i msg at none here = absurd (cc)
first_packet line (m ∷ rest) zero msg at none here = rw (same_Some m msg at, ← here) refl
first_packet line (m ∷ rest) (suc i) msg at none here = go (m.line.0 == line) none (λ left. first_packet line rest i msg at left here)
  where
    go : (b : Bool) → cond b (m ∷ of_line line (take i rest)) (of_line line (take i rest)) ≡ [] → (of_line line (take i rest) ≡ [] → Some msg ≡ front (of_line line rest))
        → Some msg ≡ front (cond b (m ∷ of_line line rest) (of_line line rest))
    go true some later = absurd (cc)
    go false left later = later left

module _ (parts : Parts) (parameters : Parameters) (machine : MachineState) (invariant : MachineInvariant parts parameters machine) (line : ℕ) where
  abbrev home : ℕ
  home = home_node parts line

  -- a message about the line stands on a link from or to its home
  stranger : (from to : ℕ) → from ≢ home → to ≢ home → (msgs : List Msg) → IsTrue (list_all (links_rightly parts machine from to) msgs) → of_line line msgs ≡ []
  stranger from to apart also [] right = refl
  stranger from to apart also (msg ∷ rest) right =
      let both = and_parts (links_rightly parts machine from to msg) _ right in
      rw (ne_eqb msg.line.0 line (other both.0)) (stranger from to apart also rest both.1)
    where
      at_end : (said : Content) (at : ℕ) → at ≡ home → is_at_home said at from to ≡ true → ⊥
      at_end (ForMemory said) at is ends = also (sym (eqb-true at to ends) ∙ is)
      at_end (ForCache said) at is ends = apart (sym (eqb-true at from ends) ∙ is)

      other : IsTrue (links_rightly parts machine from to msg) → msg.line.0 ≢ line
      other fits same =
          let fit = and_parts (is_fit parts from to msg) _ fits in
          let exists = and_parts (msg.src.0 == from) _ fit.0 in
          let early = and_parts (nat_lt msg.line.0 (line_count parts)) _ exists.1 in
          let ends = and_parts (nat_lt msg.stamp (2 ^ 32 - 1)) _ early.1 in
          at_end (content msg) (home_node parts msg.line.0) (ap (home_node parts) same) ends.1

  -- so a node that isn't the home has messages about it on its link to the home alone
  pub home_link : (from : ℕ) → from < node_count parts → from ≢ home → home < node_count parts
      → by_node parts (link_of parts machine line from) ≡ link_of parts machine line from home
  home_link from here apart there = one_of (link_of parts machine line from) 0 (node_count parts) home (omega arith) (omega arith)
      (λ to l other. ap (map (message_shown from to)) (stranger from to apart other (link_at parts machine from to) (invariant.links from to here (omega (arith, l)))))

-- every machine meets the invariant
pub run_invariant : (h : History) → IsRun h → MachineInvariant h.image h.parameters (state_of h)
run_invariant h run = always_invariant h.image run.image h.parameters run.parameters h.journal run.legal
