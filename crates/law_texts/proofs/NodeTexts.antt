-- The text of a node is read in one way, and so are those of all nodes.
use Rattle.std.proofs.Common.{◌≡◌, ℕ, ◌+◌, ◌*◌, ◌<◌, ◌≤◌, false, List, ◌++◌, length, refl, sym, ap, subst, ◌∙◌, arith, append_assoc}
use Rattle.std.specs.List.{flat_map, range_with_len, AllByRecursion}
use Rattle.std.proofs.lemmas.List.{ext_get_or}
use Rattle.std.proofs.lemmas.Nat.{div-mul-add, mod-mul-add}
use Rattle.alw_num.specs.Maps.{Map, found, value_at}
use Rattle.alw_num.proofs.MapLaws.{same_maps}
use Rattle.alw_msg.specs.declared.messages.Msg.{Msg}
use Rattle.alw_image.specs.declared.parts.Parts.{Parts}
use Rattle.alw_image.specs.Images.{node_count, zero_line}
use Rattle.alw_model.specs.Caches.{Cache, Transactions}
use Rattle.alw_model.specs.Contexts.{Slot, slot_at, no_slot}
use Rattle.alw_model.specs.LimitLess.{Directory, directory_start}
use Rattle.alw_model.specs.Lines.{entry_of}
use Rattle.alw_model.specs.NodeStates.{NodeState}
use Rattle.alw_model.specs.Sides.{entry_at}
use Rattle.alw_model.specs.Machine.{MachineState, node_at}
use Rattle.alw_trace.specs.Lines.{IsNumber}
use Rattle.alw_save.specs.Lines.{node_line, pending_line, cache_line, packet_line}
use Rattle.alw_save.specs.States.{slot_in, context_text, contexts_text, homes_text, maps_text, memory_text, node_text}
use Rattle.law_texts.proofs.Runs.{rank, run_rank, one_run, IsRead, one_range}
use Rattle.law_texts.proofs.Homes.{EachLine, IsHomeLine, homes_rank, one_homes}
use Rattle.law_texts.proofs.NodeLines.{IsSlot, IsPending, IsCopy, one_node, one_context, one_pending, one_copy, pending-ranks, copy-ranks}
use Rattle.law_texts.proofs.MessageLines.{IsMessage, one_packet, packet-ranks}

-- what a node has is told without loss
pub record IsNode (parts : Parts) (machine : MachineState) (n : ℕ) : Type 0 where
  pub clock : IsNumber (node_at machine n).clock
  pub current : IsNumber (node_at machine n).current
  pub slot_count : length (node_at machine n).slots ≡ parts.contexts
  pub slots : (slot : ℕ) → slot < parts.contexts → IsSlot (slot_at (node_at machine n).slots slot)
  pub transactions : AllByRecursion IsPending (node_at machine n).transactions.entries
  pub copies : AllByRecursion IsCopy (node_at machine n).cache.entries
  pub home_count : length (node_at machine n).homes ≡ parts.per_node
  pub homes : EachLine parts n (IsHomeLine parts machine)
  pub packets : AllByRecursion IsMessage (node_at machine n).packets

map_is : {X : Type 0} (one other : Map X) → one.entries ≡ other.entries → one ≡ other
unfolding value_at
map_is one other e = same_maps one other (λ at. ap (found at) e)

module _ (parts : Parts) (n : ℕ) where
  -- ---- the parts of a node

  -- a context by its slot
  slot-is : (machine : MachineState) (slot : ℕ) → slot < parts.contexts
      → slot_in parts machine (n * parts.contexts + slot) ≡ slot_at (node_at machine n).slots slot
  slot-is machine slot within = λ i. slot_at (node_at machine (div-mul-add n parts.contexts slot within i)).slots (mod-mul-add n parts.contexts slot within i)

  abbrev Any : List ℕ → Type 0
  Any text = Unit {0}

  abbrev SameSlot : MachineState → MachineState → ℕ → Type 0
  SameSlot one other slot = slot_at (node_at one n).slots slot ≡ slot_at (node_at other n).slots slot

  module _ (one other : MachineState) (is : IsNode parts one n) (also : IsNode parts other n) where
    slot_read : (slot : ℕ) → slot < parts.contexts → IsRead Any (SameSlot one other) (context_text parts one n) (context_text parts other n) slot
    slot_read slot within = record {
      one = λ u may. tt;
      other = λ u may. tt;
      read = λ u v may same e.
          let first = slot-is one slot within in
          let second = slot-is other slot within in
          let r = (one_context (n * parts.contexts + slot) (slot_in parts one (n * parts.contexts + slot)) (slot_in parts other (n * parts.contexts + slot))
          (subst IsSlot (sym first) (is.slots slot within)) (subst IsSlot (sym second) (also.slots slot within))).read u v e in
          (sym first ∙ r.0 ∙ second, r.1);
    }

    contexts_read : (u v : List ℕ) → contexts_text parts one n ++ u ≡ contexts_text parts other n ++ v
        → ((node_at one n).slots ≡ (node_at other n).slots) × (u ≡ v)
    contexts_read u v e =
        let range = one_range Any (SameSlot one other) (context_text parts one n) (context_text parts other n) 0 parts.contexts u v
        (λ slot l m. slot_read slot (omega (arith, m))) tt tt e in (
          ext_get_or no_slot (node_at one n).slots (node_at other n).slots (is.slot_count ∙ sym also.slot_count)
              (λ slot l. range.0 slot (omega arith) (omega (arith, l, is.slot_count))),
          range.1,
        )

    maps_read : (u v : List ℕ) → 2 < rank u → 2 < rank v → maps_text (node_at one n) ++ u ≡ maps_text (node_at other n) ++ v
        → ((node_at one n).transactions ≡ (node_at other n).transactions) × (((node_at one n).cache ≡ (node_at other n).cache) × (u ≡ v))
    maps_read u v l k e =
        let a = (node_at one n).transactions.entries in
        let b = (node_at other n).transactions.entries in
        let c = (node_at one n).cache.entries in
        let d = (node_at other n).cache.entries in
        let ranks = run_rank IsCopy cache_line 2 copy-ranks c u (omega (arith, l)) in
        let too = run_rank IsCopy cache_line 2 copy-ranks d v (omega (arith, k)) in
        let first = one_run IsPending pending_line 1 pending-ranks one_pending a b (flat_map cache_line c ++ u) (flat_map cache_line d ++ v)
        is.transactions also.transactions
        (omega (arith, ranks)) (omega (arith, too))
        (sym (append_assoc (flat_map pending_line a) (flat_map cache_line c) u) ∙ e ∙ append_assoc (flat_map pending_line b) (flat_map cache_line d) v) in
        let second = one_run IsCopy cache_line 2 copy-ranks one_copy c d u v is.copies also.copies l k first.1 in
        (map_is (node_at one n).transactions (node_at other n).transactions first.0, (map_is (node_at one n).cache (node_at other n).cache second.0, second.1))

    -- a home line of the node is at its place
    home-is : (machine : MachineState) (place : ℕ) → place < parts.per_node
        → entry_of parts machine (n * parts.per_node + place) ≡ entry_at (node_at machine n).homes place
    home-is machine place within =
        λ i. entry_at (node_at machine (div-mul-add n parts.per_node place within i)).homes (mod-mul-add n parts.per_node place within i)

    memory_read : (u v : List ℕ) → 4 < rank u → 4 < rank v → memory_text parts one n ++ u ≡ memory_text parts other n ++ v
        → ((node_at one n).homes ≡ (node_at other n).homes) × (((node_at one n).packets ≡ (node_at other n).packets) × (u ≡ v))
    memory_read u v l k e =
        let a = (node_at one n).packets in
        let b = (node_at other n).packets in
        let ranks = run_rank IsMessage packet_line 4 packet-ranks a u (omega (arith, l)) in
        let too = run_rank IsMessage packet_line 4 packet-ranks b v (omega (arith, k)) in
        let first = one_homes parts n one other is.homes also.homes (flat_map packet_line a ++ u) (flat_map packet_line b ++ v)
        (omega (arith, ranks)) (omega (arith, too))
        (sym (append_assoc (homes_text parts one n) (flat_map packet_line a) u) ∙ e ∙ append_assoc (homes_text parts other n) (flat_map packet_line b) v) in
        let second = one_run IsMessage packet_line 4 packet-ranks one_packet a b u v is.packets also.packets l k first.1 in (
          ext_get_or (directory_start zero_line false) (node_at one n).homes (node_at other n).homes (is.home_count ∙ sym also.home_count)
              (λ place m. let within : place < parts.per_node = omega (arith, m, is.home_count) in
              sym (home-is one place within) ∙ first.0 (n * parts.per_node + place) (omega arith) (omega (arith, within)) ∙ home-is other place within),
          (second.0, second.1),
        )

    -- ---- a node

    same_node : (a b : NodeState) → a.clock ≡ b.clock → a.current ≡ b.current → a.slots ≡ b.slots → a.transactions ≡ b.transactions → a.cache ≡ b.cache
        → a.homes ≡ b.homes → a.packets ≡ b.packets → a ≡ b
    same_node a b e1 e2 e3 e4 e5 e6 e7 =
        same a.slots b.slots a.current b.current a.cache b.cache a.transactions b.transactions a.homes b.homes a.packets b.packets
        a.clock b.clock e3 e2 e5 e4 e6 e7 e1
      where
        same : (s s' : List Slot) (c c' : ℕ) (k k' : Cache) (t t' : Transactions) (h h' : List Directory) (p p' : List Msg) (o o' : ℕ)
            → s ≡ s' → c ≡ c' → k ≡ k' → t ≡ t' → h ≡ h' → p ≡ p' → o ≡ o'
            → ◌≡◌ {A = NodeState} (record { slots = s; current = c; cache = k; transactions = t; homes = h; packets = p; clock = o })
            (record { slots = s'; current = c'; cache = k'; transactions = t'; homes = h'; packets = p'; clock = o' })
        same s s' c c' k k' t t' h h' p p' o o' e1 e2 e3 e4 e5 e6 e7 = cc

    abbrev behind_line : MachineState → List ℕ → List ℕ
    behind_line machine u = contexts_text parts machine n ++ (maps_text (node_at machine n) ++ (memory_text parts machine n ++ u))

    node-is : (machine : MachineState) (u : List ℕ)
        → node_text parts machine n ++ u ≡ node_line n (node_at machine n).clock (node_at machine n).current ++ behind_line machine u
    unfolding node_text
    node-is machine u =
        let line = node_line n (node_at machine n).clock (node_at machine n).current in
        let contexts = contexts_text parts machine n in
        let maps = maps_text (node_at machine n) in
        let memory = memory_text parts machine n in
        append_assoc line (contexts ++ (maps ++ memory)) u
        ∙ ap (λ (t : List ℕ). line ++ t) (append_assoc contexts (maps ++ memory) u ∙ ap (λ (t : List ℕ). contexts ++ t) (append_assoc maps memory u))

    memory_rank : (machine : MachineState) (u : List ℕ) → 4 < rank u → 3 ≤ rank (memory_text parts machine n ++ u)
    memory_rank machine u l =
        let packets = (node_at machine n).packets in
        let ranks = run_rank IsMessage packet_line 4 packet-ranks packets u (omega (arith, l)) in
        let homes = homes_rank parts n machine (flat_map packet_line packets ++ u) (omega (arith, ranks)) in
        let same = ap rank (append_assoc (homes_text parts machine n) (flat_map packet_line packets) u) in
        omega (arith, homes, same)

    pub node_read : (u v : List ℕ) → 4 < rank u → 4 < rank v
        → node_text parts one n ++ u ≡ node_text parts other n ++ v → (node_at one n ≡ node_at other n) × (u ≡ v)
    node_read u v l k e =
        let line = (one_node n (node_at one n).clock (node_at other n).clock (node_at one n).current (node_at other n).current
        is.clock also.clock is.current also.current).read
        (behind_line one u) (behind_line other v) (sym (node-is one u) ∙ e ∙ node-is other v) in
        let contexts = contexts_read (maps_text (node_at one n) ++ (memory_text parts one n ++ u))
        (maps_text (node_at other n) ++ (memory_text parts other n ++ v)) line.1 in
        let maps = maps_read (memory_text parts one n ++ u) (memory_text parts other n ++ v)
        (omega (arith, memory_rank one u l)) (omega (arith, memory_rank other v k)) contexts.1 in
        let memory = memory_read u v l k maps.1.1 in
        (same_node (node_at one n) (node_at other n) line.0.0 line.0.1 contexts.0 maps.0 maps.1.0 memory.0 memory.1.0, memory.1.1)

  -- a node's text begins with its line
  pub node-ranks : (machine : MachineState) (u : List ℕ) → rank (node_text parts machine n ++ u) ≡ 5
  unfolding node_text node_line
  node-ranks machine u = refl

-- ---- all nodes

abbrev pub May : List ℕ → Type 0
May text = 4 < rank text

module _ (parts : Parts) (one other : MachineState) (is : (n : ℕ) → n < node_count parts → IsNode parts one n)
    (also : (n : ℕ) → n < node_count parts → IsNode parts other n) where
  abbrev SameNode : ℕ → Type 0
  SameNode n = node_at one n ≡ node_at other n

  pub nodes_read : (u v : List ℕ) → May u → May v
      → flat_map (node_text parts one) (range_with_len 0 (node_count parts)) ++ u ≡ flat_map (node_text parts other) (range_with_len 0 (node_count parts)) ++ v
      → ((n : ℕ) → n < node_count parts → node_at one n ≡ node_at other n) × (u ≡ v)
  nodes_read u v may too e =
      let range = one_range May SameNode (node_text parts one) (node_text parts other) 0 (node_count parts) u v
      (λ n l m. record {
        one = λ u may. omega (arith, node-ranks parts n one u);
        other = λ u may. omega (arith, node-ranks parts n other u);
        read = λ u v may too e. node_read parts n one other (is n (omega (arith, m))) (also n (omega (arith, m))) u v may too e;
      }) may too e in
      (λ n here. range.0 n (omega arith) (omega (arith, here)), range.1)
