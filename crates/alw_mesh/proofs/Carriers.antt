-- The one carrier of a line: wherever it is found, it has the line's current value; and where none is found, the home has it.
use Rattle.std.proofs.Common.{◌≡◌, ℕ, zero, suc, ◌+◌, ◌<◌, ◌≤◌, ◌==◌, nat_le, Bool, true, false, cond, Some, None, List, [], ◌∷◌, ◌++◌, length, IsTrue, refl, sym, ap, subst, ◌∙◌, ◌⊎◌, inl, inr, ⊎_elim, arith}
use Rattle.std.specs.List.{range_with_len, flat_map, AllByRecursion}
use Rattle.std.proofs.lemmas.Bool.{eqb-true, leb-true, eq-eqb, ne_eqb, lt-ltb}
use Rattle.std.proofs.lemmas.List.Concat.{flat_map-append}
use Rattle.alw_num.specs.declared.addresses.Line.{Line}
use Rattle.alw_num.specs.declared.states.State.{State}
use Rattle.alw_num.specs.declared.states.State.TheVariants.{RO, RW, RT, WT}
use Rattle.alw_num.proofs.Weigh.{sum_none, cases_lt_then}
use Rattle.alw_num.specs.Maps.{passes}
use Rattle.alw_num.specs.Weights.{digit}
use Rattle.alw_msg.specs.declared.messages.Msg.{Msg}
use Rattle.alw_msg.specs.Lists.{front}
use Rattle.alw_image.specs.declared.parts.Parts.{Parts}
use Rattle.alw_image.specs.Images.{node_count}
use Rattle.alw_image.specs.Parameters.{Parameters}
use Rattle.alw_model.specs.FullMap.{only}
use Rattle.alw_model.specs.LimitLess.{Directory}
use Rattle.alw_model.specs.Messages.{home_node}
use Rattle.alw_model.specs.Machine.{MachineState, node_at, link_at}
use Rattle.alw_model.specs.Lines.{LineState, ups, sent_by, entry_of, packets_at, line_node, absent, line_of, up_carried, carried, carriers, value_by, line_value, current_value}
use Rattle.alw_model.specs.LineInvariant.{LineInvariant, carries, all_carried, carrier_by, is_sole}
use Rattle.alw_model.proofs.Journals.{and_parts}
use Rattle.law_line.proofs.Tests.{carriers_length}
use Rattle.alw_mesh.proofs.Finding.{home_more}
use Rattle.alw_mesh.specs.Values.{brought_home, all_brought_home, all_brought_out, owned_by, shown_at, OnlyBetween, FirstAlone}

-- ---- members of a list

-- a list has this member
abbrev pub Has : {X : Type 0} → X → List X → Type 0
Has x [] = ⊥
Has x (y ∷ rest) = (y ≡ x) ⊎ Has x rest

module _ {X : Type 0} where
  pub has_left : (x : X) (one other : List X) → Has x one → Has x (one ++ other)
  has_left x [] other none = absurd none
  has_left x (y ∷ rest) other (inl same) = inl same
  has_left x (y ∷ rest) other (inr more) = inr (has_left x rest other more)

  pub has_right : (x : X) (one other : List X) → Has x other → Has x (one ++ other)
  has_right x [] other has = has
  has_right x (y ∷ rest) other has = inr (has_right x rest other has)

  pub has_front : (x : X) (xs : List X) → front xs ≡ Some x → Has x xs
  has_front x [] e = absurd (cc)
  has_front x (y ∷ rest) e = inl (cc)

  -- without a first member there is none
  pub none_is_empty : (xs : List X) → front xs ≡ None → xs ≡ []
  none_is_empty [] e = refl
  none_is_empty (y ∷ rest) e = absurd (cc)

  -- of at most one member it is the one
  pub has_alone : (x : X) (xs : List X) → Has x xs → length xs ≤ 1 → xs ≡ x ∷ []
  has_alone x [] none few = absurd none
  has_alone x (y ∷ []) (inl same) few = ap (λ z. z ∷ []) same
  has_alone x (y ∷ []) (inr none) few = absurd none
  has_alone x (y ∷ z ∷ rest) has few = absurd (omega arith)

  -- a list made of those of numbers in a range
  pub has_at : (x : X) (f : ℕ → List X) (a n i : ℕ) → i < n → Has x (f (a + i)) → Has x (flat_map f (range_with_len a n))
  has_at x f a zero i l has = absurd (omega arith)
  has_at x f a (suc n) zero l has = has_left x (f a) _ (subst (λ k. Has x (f k)) (omega arith) has)
  has_at x f a (suc n) (suc i) l has = has_right x (f a) _ (has_at x f (a + 1) n i (omega (arith, l)) (subst (λ k. Has x (f k)) (omega arith) has))

  pub none_at : (f : ℕ → List X) (a n : ℕ) → ((i : ℕ) → i < n → f (a + i) ≡ []) → flat_map f (range_with_len a n) ≡ []
  none_at f a zero each = refl
  none_at f a (suc n) each =
      let first : f a ≡ [] = subst (λ k. f k ≡ []) (omega arith) (each 0 (omega arith)) in
      rw first (none_at f (a + 1) n (λ i l. subst (λ k. f k ≡ []) (omega arith) (each (suc i) (omega (arith, l)))))

-- ---- packets

module _ (line : ℕ) where
  abbrev returned : Msg → List Line
  returned = brought_home line

  abbrev returned_all : List Msg → List Line
  returned_all = all_brought_home line

  returned_more : (msg : Msg) (rest : List Msg) → returned_all (msg ∷ rest) ≡ returned msg ++ returned_all rest
  returned_more msg rest = home_more line msg rest

  -- what packets carry is carried by packets of a sender
  pub packet_of : (n : ℕ) (x : Line) (packets : List Msg) → AllByRecursion (λ (packet : Msg). packet.src.0 < n) packets → Has x (returned_all packets)
      → (i : ℕ) × (i < n) × Has x (returned_all (sent_by i packets))
  packet_of n x [] below has = absurd has
  packet_of n x (packet ∷ rest) below has = either (split x (returned packet) (returned_all rest) (subst (Has x) (returned_more packet rest) has)) (packet_of n x rest below.1)
    where
      split : (x : Line) (one other : List Line) → Has x (one ++ other) → Has x one ⊎ Has x other
      split x [] other has = inr has
      split x (y ∷ one) other (inl same) = inl (inl same)
      split x (y ∷ one) other (inr more) = ⊎_elim (λ h. inl (inr h)) (λ h. inr h) (split x one other more)

      own : (packet : Msg) (rest : List Msg) → sent_by packet.src.0 (packet ∷ rest) ≡ packet ∷ sent_by packet.src.0 rest
      own packet rest = rw (eq-eqb packet.src.0 packet.src.0 refl) refl

      more : (i : ℕ) (x : Line) (packet : Msg) (rest : List Msg) → (b : Bool) → Has x (returned_all (sent_by i rest)) → Has x (returned_all (cond b (packet ∷ sent_by i rest) (sent_by i rest)))
      more i x packet rest true has = subst (Has x) (sym (returned_more packet (sent_by i rest))) (has_right x (returned packet) _ has)
      more i x packet rest false has = has

      either : Has x (returned packet) ⊎ Has x (returned_all rest) → (Has x (returned_all rest) → (i : ℕ) × (i < n) × Has x (returned_all (sent_by i rest)))
          → (i : ℕ) × (i < n) × Has x (returned_all (sent_by i (packet ∷ rest)))
      either (inl here) next = (
        packet.src.0,
        below.0,
        subst (λ (msgs : List Msg). Has x (returned_all msgs)) (sym (own packet rest))
            (subst (Has x) (sym (returned_more packet (sent_by packet.src.0 rest))) (has_left x (returned packet) _ here)),
      )
      either (inr there) next = let found = next there in (found.0, found.1, more found.0 x packet rest (packet.src.0 == found.0) found.2)

  -- packets that carry nothing carry nothing of any sender
  pub packets_none : (i : ℕ) (packets : List Msg) → returned_all packets ≡ [] → returned_all (sent_by i packets) ≡ []
  packets_none i [] none = refl
  packets_none i (packet ∷ rest) none = go (packet.src.0 == i) (packets_none i rest)
    where
      none_left : (one other : List Line) → one ++ other ≡ [] → one ≡ []
      none_left [] other is = refl
      none_left (x ∷ one) other is = absurd (cc)

      none_right : (one other : List Line) → one ++ other ≡ [] → other ≡ []
      none_right [] other is = is
      none_right (x ∷ one) other is = absurd (cc)

      both : returned packet ++ returned_all rest ≡ []
      both = sym (returned_more packet rest) ∙ none

      go : (b : Bool) → (returned_all rest ≡ [] → returned_all (sent_by i rest) ≡ []) → returned_all (cond b (packet ∷ sent_by i rest) (sent_by i rest)) ≡ []
      go true next = returned_more packet (sent_by i rest) ∙ (rw (none_left (returned packet) (returned_all rest) both) (next (none_right (returned packet) (returned_all rest) both)))
      go false next = next (none_right (returned packet) (returned_all rest) both)

-- ---- the value

-- there is at most one carrier
pub few_carriers : (n : ℕ) (s : LineState) (entry : Directory) (pending : ℕ) → 1 ≤ n → LineInvariant n s entry pending → length (carriers n s) ≤ 1
few_carriers n s entry pending some is = rw (carriers_length n s) (few s.home.state is.carrier)
  where
    few : (state : State) → ((i : ℕ) → i < n → IsTrue (carrier_by state (is_sole s i) s.home.acks (s.node i) (all_carried n s))) → all_carried n s ≤ 1
    few RO each = rw (sum_none n (λ i. carries (s.node i)) (λ i l. eqb-true (carries (s.node i)) 0 (each i l))) (omega arith)
    few RW each = let one = eqb-true (all_carried n s) 1 (and_parts (all_carried n s == 1) _ (each 0 some)).0 in omega arith
    few RT each = leb-true (all_carried n s) 1 (and_parts (nat_le (all_carried n s) 1) _ (each 0 some)).0
    few WT each = leb-true (all_carried n s) 1 (and_parts (nat_le (all_carried n s) 1) _ (each 0 some)).0

none_carried : (bodies : List Line) → length bodies ≡ 0 → bodies ≡ []
none_carried [] none = refl
none_carried (body ∷ rest) none = absurd (omega (arith, none))

-- a line whose home is Read-Only has none
pub shared_carriers : (n : ℕ) (s : LineState) (entry : Directory) (pending : ℕ) → LineInvariant n s entry pending → s.home.state ≡ RO → carriers n s ≡ []
shared_carriers n s entry pending is shared = none_at (λ k. carried (s.node k)) 0 n (λ i l. subst (λ k. carried (s.node k) ≡ []) (omega arith) (none_carried (carried (s.node i)) (calm i l)))
  where
    calm : (i : ℕ) → i < n → carries (s.node i) ≡ 0
    calm i l = eqb-true (carries (s.node i)) 0 (subst (λ (state : State). IsTrue (carrier_by state (is_sole s i) s.home.acks (s.node i) (all_carried n s))) shared (is.carrier i l))

-- where the home is Read-Write, the first node that it points to alone has one
pub owned_carriers : (n : ℕ) (s : LineState) (entry : Directory) (pending : ℕ) → LineInvariant n s entry pending → s.home.state ≡ RW → FirstAlone n s
owned_carriers n s entry pending is owned owner others pointers i l apart =
    let fits = subst (λ (state : State). IsTrue (carrier_by state (is_sole s i) s.home.acks (s.node i) (all_carried n s))) owned (is.carrier i l) in
    let few = eqb-true (carries (s.node i)) (digit (is_sole s i)) (and_parts (all_carried n s == 1) _ fits).1 in
    let stranger = ap (λ (nodes : List ℕ). passes (λ j. i == j) (only nodes)) pointers ∙ not_sole others in
    none_carried (carried (s.node i)) (few ∙ ap digit stranger)
  where
    not_sole : (others : List ℕ) → passes (λ j. i == j) (only (owner ∷ others)) ≡ false
    not_sole [] = ne_eqb i owner (λ same. ⊎_elim (λ l. absurd (omega arith)) (λ l. absurd (omega arith)) apart)
    not_sole (k ∷ rest) = refl

module _ (n : ℕ) (s : LineState) (few : length (carriers n s) ≤ 1) where
  -- what is carried at a node is the current value
  pub found_is : (x : Line) (i : ℕ) → i < n → Has x (carried (s.node i)) → line_value n s ≡ x
  found_is x i l has = ap (λ (bodies : List Line). value_by bodies s.home.body) (has_alone x (carriers n s) (has_at x (λ k. carried (s.node k)) 0 n i l (subst (λ k. Has x (carried (s.node k))) (omega arith) has)) few)

  -- where nothing is carried, the home's is
  pub none_is : ((i : ℕ) → i < n → carried (s.node i) ≡ []) → line_value n s ≡ s.home.body
  none_is each = ap (λ (bodies : List Line). value_by bodies s.home.body) (none_at (λ k. carried (s.node k)) 0 n (λ i l. subst (λ k. carried (s.node k) ≡ []) (omega arith) (each i l)))

-- ---- in a machine

module _ (parts : Parts) (parameters : Parameters) (machine : MachineState) (line : ℕ) where
  abbrev home : ℕ
  home = home_node parts line

  abbrev state : LineState
  state = line_of parts parameters machine line

  abbrev in_packets : ℕ → List Line
  in_packets i = all_brought_home line (sent_by i (packets_at parts machine line))

  -- what a node carries: its copy, what is on its way to it, and what is on its way home, in packets and on the link
  carried_is : (i : ℕ) → i < node_count parts → carried (state.node i)
      ≡ owned_by parameters.sets (node_at machine i) line ++ (all_brought_out line (link_at parts machine home i) ++ (in_packets i ++ all_brought_home line (link_at parts machine i home)))
  carried_is i here =
      ap (λ b. carried (cond b (line_node parts parameters machine line i) absent)) (lt-ltb i (node_count parts) here)
      ∙ ap (λ more. owned_by parameters.sets (node_at machine i) line ++ (all_brought_out line (link_at parts machine home i) ++ more))
      (flat_map-append up_carried (ups line (sent_by i (packets_at parts machine line))) (ups line (link_at parts machine i home)))

  pub packet_has : (x : Line) (i : ℕ) → i < node_count parts → Has x (in_packets i) → Has x (carried (state.node i))
  packet_has x i here has = subst (Has x) (sym (carried_is i here))
      (has_right x (owned_by parameters.sets (node_at machine i) line) _ (has_right x (all_brought_out line (link_at parts machine home i)) _ (has_left x (in_packets i) _ has)))

  -- without packets it is what is shown
  pub shown_is : (i : ℕ) → i < node_count parts → in_packets i ≡ [] → carried (state.node i) ≡ shown_at parts parameters machine i home line
  shown_is i here none = carried_is i here
      ∙ ap (λ first. owned_by parameters.sets (node_at machine i) line ++ (all_brought_out line (link_at parts machine home i) ++ (first ++ all_brought_home line (link_at parts machine i home)))) none

  module _ (few : length (carriers (node_count parts) state) ≤ 1) where
    -- a packet with the value
    pub value_in_packet : (x : Line) → AllByRecursion (λ (packet : Msg). packet.src.0 < node_count parts) (packets_at parts machine line)
        → front (all_brought_home line (packets_at parts machine line)) ≡ Some x → x ≡ current_value parts parameters machine line
    value_in_packet x below found =
        let at = packet_of line (node_count parts) x (packets_at parts machine line) below (has_front x _ found) in
        sym (found_is (node_count parts) state few x at.0 at.1 (packet_has x at.0 at.1 at.2))

    module _ (none : front (all_brought_home line (packets_at parts machine line)) ≡ None) where
      no_packet : (i : ℕ) → in_packets i ≡ []
      no_packet i = packets_none line i (packets_at parts machine line) (none_is_empty _ none)

      -- a node with the value
      pub value_shown : (x : Line) (i : ℕ) → i < node_count parts → front (shown_at parts parameters machine i home line) ≡ Some x → x ≡ current_value parts parameters machine line
      value_shown x i here found = sym (found_is (node_count parts) state few x i here (subst (Has x) (sym (shown_is i here (no_packet i))) (has_front x _ found)))

      -- the home with the value
      pub value_at_home : ((i : ℕ) → i < node_count parts → front (shown_at parts parameters machine i home line) ≡ None) → (entry_of parts machine line).body ≡ current_value parts parameters machine line
      value_at_home each = sym (none_is (node_count parts) state few (λ i here. shown_is i here (no_packet i) ∙ none_is_empty _ (each i here)))

      -- the home with the value, where only nodes that were looked at may have it
      pub value_between : (first end n : ℕ) → OnlyBetween (node_count parts) state first end
          → ((i : ℕ) → first ≤ i → i < n → front (shown_at parts parameters machine i home line) ≡ None)
          → ((i : ℕ) → i < node_count parts → n ≤ i → end ≤ i) → (entry_of parts machine line).body ≡ current_value parts parameters machine line
      value_between first end n between each past = value_at_home (λ i here. cases_lt_then first i
          (λ l. outside i here (inl l))
          (λ m. cases_lt_then n i (λ l. each i m l) (λ p. outside i here (inr (past i here p)))))
        where
          outside : (i : ℕ) → i < node_count parts → (i < first) ⊎ (end ≤ i) → front (shown_at parts parameters machine i home line) ≡ None
          outside i here out = ap front (sym (shown_is i here (no_packet i)) ∙ between i here out)
