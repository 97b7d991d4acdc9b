-- What a machine has is told without loss where it meets the machine invariant, has words of 32 bits and small clocks.
use Rattle.std.proofs.Common.{◌≡◌, ℕ, zero, suc, ◌+◌, ◌-◌, ◌*◌, ◌%◌, ◌^◌, ◌<◌, ◌≤◌, ◌==◌, nat_lt, nat_le, Bool, Option, None, Some, IsTrue, List, [], ◌∷◌, length, refl, arith}
use Rattle.std.specs.Prelude.{IsSome}
use Rattle.std.specs.List.{list_all, AllByRecursion}
use Rattle.std.proofs.lemmas.Bool.Decides.{nat_tests}
use Rattle.std.proofs.lemmas.Bool.{eqb-true}
use Rattle.std.proofs.lemmas.Nat.{mul-le}
use Rattle.std.proofs.Math.Nat.{mod-le}
use Rattle.alw_num.specs.Maps.{passes_if_some}
use Rattle.alw_num.specs.NodeSets.{members}
use Rattle.alw_num.specs.Weights.{sum_below}
use Rattle.alw_msg.specs.declared.contexts.Status.{Status}
use Rattle.alw_msg.specs.declared.contexts.Status.TheVariants.{Ready, Waiting, Halted, Trapped}
use Rattle.alw_msg.specs.declared.messages.Msg.{Msg}
use Rattle.alw_msg.specs.Contents.{content, is_to_memory}
use Rattle.alw_msg.specs.Statuses.{waited}
use Rattle.alw_image.specs.declared.parts.Parts.{Parts}
use Rattle.alw_image.specs.Images.{node_count, line_count, IsImage}
use Rattle.alw_image.specs.Parameters.{Parameters}
use Rattle.alw_model.specs.Caches.{Copy, Transaction, set_of}
use Rattle.alw_model.specs.Contexts.{slot_at, no_slot}
use Rattle.alw_model.specs.LineInvariant.{owes, counter_by}
use Rattle.alw_model.specs.FullMap.{sole}
use Rattle.alw_model.specs.Lines.{entry_of, line_of}
use Rattle.alw_model.specs.Messages.{home_node, is_fit}
use Rattle.alw_model.specs.Machine.{MachineState, node_at, link_at}
use Rattle.alw_model.specs.MachineInvariant.{MachineInvariant, slot_fits, waits_rightly, holds_rightly, trapped_rightly, transaction_stands, opens_rightly, caches_rightly, packed_rightly, links_rightly}
use Rattle.alw_model.proofs.Journals.{and_parts}
use Rattle.law_machine.proofs.Ended.{all_at}
use Rattle.alw_trace.specs.Lines.{IsNumber}
use Rattle.law_texts.specs.Words.{MachineHasWords, AreWords}
use Rattle.law_texts.proofs.Homes.{IsHomeLine}
use Rattle.law_texts.proofs.NodeTexts.{IsNode}
use Rattle.law_texts.proofs.States.{IsMachineTold}
use Rattle.law_texts.proofs.Doings.{StatusStands}
use Rattle.law_texts.proofs.NodeLines.{IsSlot, IsPending, IsCopy}
use Rattle.law_texts.proofs.MessageLines.{IsMessage}

module _ {X : Type 0} (test : X → Bool) (P : X → Type 0) where
  -- what a test gives of each member, beside what else is known of it
  both_give : (Q : X → Type 0) → ((x : X) → IsTrue (test x) → Q x → P x) → (xs : List X) → IsTrue (list_all test xs)
      → AllByRecursion Q xs → AllByRecursion P xs
  both_give Q gives [] all more = tt
  both_give Q gives (x ∷ rest) all more =
      let parts = and_parts (test x) (list_all test rest) all in
      (gives x parts.0 more.0, both_give Q gives rest parts.1 more.1)

  tests_give : ((x : X) → IsTrue (test x) → P x) → (xs : List X) → IsTrue (list_all test xs) → AllByRecursion P xs
  tests_give gives [] all = tt
  tests_give gives (x ∷ rest) all =
      let parts = and_parts (test x) (list_all test rest) all in
      (gives x parts.0, tests_give gives rest parts.1)

-- at most one each
few_owed : (count : ℕ) (f : ℕ → ℕ) → ((i : ℕ) → i < count → f i ≤ 1) → sum_below count f ≤ count
few_owed zero f each = omega arith
few_owed (suc count) f each = omega (arith, each count (omega arith), few_owed count f (λ i l. each i (omega (arith, l))))

module _ (parts : Parts) (image : IsImage parts) where
  pub few_nodes : node_count parts ≤ 256
  few_nodes = mul-le parts.width parts.height 16 16 image.width.1 image.height.1

  few_lines : line_count parts ≤ 1048576
  few_lines = mul-le (node_count parts) parts.per_node 256 4096 few_nodes image.per_node.1

  below : (line : ℕ) → IsTrue (nat_lt line (line_count parts)) → IsNumber line
  below line e = let lines = few_lines in grind (arith, nat_tests)

  slot_stands : (pc : ℕ) (hold : Option ℕ) (status : Status) → IsTrue (passes_if_some (λ line. nat_lt line (line_count parts)) (waited status))
      → IsTrue (passes_if_some (λ line. nat_lt line (line_count parts)) hold) → ((at type : ℕ) → status ≡ Trapped at type → (at ≡ pc) × (type < 256))
      → (IsSome hold → status ≡ Ready) → StatusStands pc hold status
  slot_stands pc (Some line) status waits holds trapped held = (below line holds, held refl)
  slot_stands pc None Ready waits holds trapped held = tt
  slot_stands pc None (Waiting line) waits holds trapped held = below line.0 waits
  slot_stands pc None Halted waits holds trapped held = tt
  slot_stands pc None (Trapped at type) waits holds trapped held = trapped at type refl

  module _ (parameters : Parameters) (machine : MachineState) (invariant : MachineInvariant parts parameters machine) (has : MachineHasWords parts machine)
      (small : (n : ℕ) → n < node_count parts → (node_at machine n).clock < 2 ^ 32 - 1) where
    module _ (n : ℕ) (here : n < node_count parts) where
      slot_is : (slot : ℕ) → slot < parts.contexts → IsSlot (slot_at (node_at machine n).slots slot)
      slot_is slot within =
          let s = slot_at (node_at machine n).slots slot in
          let words = has.slots n slot here within in
          let fits : IsTrue (slot_fits parts parameters (node_at machine n) s) =
          all_at (slot_fits parts parameters (node_at machine n)) no_slot (node_at machine n).slots refl (invariant.slots n here) slot in
          let p = and_parts (waits_rightly (node_at machine n) s) _ fits in
          let q = and_parts (holds_rightly parts parameters (node_at machine n) s) _ p.1 in
          let r = and_parts (trapped_rightly s.regs.pc s.status) _ q.1 in
          let t = and_parts (passes_if_some (λ line. nat_lt line (line_count parts)) (waited s.status)) _ r.1 in
          record { regs = words.regs; stands = slot_stands s.regs.pc s.hold s.status t.0 t.1 words.trapped words.held }

      pending_is : (entry : ℕ × Transaction) → IsTrue (transaction_stands parts (node_at machine n) entry) → IsPending entry
      pending_is entry stands =
          let p = and_parts (opens_rightly parts (node_at machine n) entry) _ stands in
          let q = and_parts (nat_lt entry.0 (line_count parts)) _ p.1 in
          let few = image.contexts.1 in
          let opener : IsTrue (nat_lt entry.1.opener parts.contexts) = q.1 in
          (below entry.0 q.0, grind (arith, nat_tests))

      copy_is : (entry : ℕ × Copy) → IsTrue (caches_rightly parts parameters entry) → AreWords entry.1.body → IsCopy entry
      copy_is entry stands words =
          let p = and_parts (nat_lt entry.1.line (line_count parts)) _ stands in
          let line = below entry.1.line p.0 in
          let set : entry.1.line % parameters.sets ≡ entry.0 = eqb-true (set_of parameters.sets entry.1.line) entry.0 p.1 in
          (omega (arith, line, set, mod-le entry.1.line parameters.sets), (line, words))

      packet_is : (packet : Msg) → IsTrue (packed_rightly parts n (node_at machine n) packet) → AreWords packet.body → IsMessage packet
      packet_is packet packed words =
          let p = and_parts (is_to_memory (content packet)) _ packed in
          let q = and_parts (nat_lt packet.src.0 (node_count parts)) _ p.1 in
          let r = and_parts (nat_lt packet.line.0 (line_count parts)) _ q.1 in
          let s = and_parts (home_node parts packet.line.0 == n) _ r.1 in
          let nodes = few_nodes in
          let clock = small n here in
          let src : IsTrue (nat_lt packet.src.0 (node_count parts)) = q.0 in
          let stamp : IsTrue (nat_le packet.stamp (node_at machine n).clock) = s.1 in
          record { line = below packet.line.0 r.0; src = grind (arith, nat_tests); stamp = grind (arith, nat_tests); body = words }

      -- a line of the node exists
      line_exists : (line : ℕ) → line < n * parts.per_node + parts.per_node → line < line_count parts
      line_exists line l =
          let most : (n + 1) * parts.per_node ≤ node_count parts * parts.per_node =
          mul-le (n + 1) parts.per_node (node_count parts) parts.per_node (omega arith) (omega arith) in
          let whole : (n + 1) * parts.per_node ≡ n * parts.per_node + parts.per_node = omega arith in
          omega (arith, most, whole, l)

      numbers : (nodes : List ℕ) → IsTrue (list_all (λ i. nat_lt i (node_count parts)) nodes) → AllByRecursion IsNumber nodes
      numbers = tests_give (λ i. nat_lt i (node_count parts)) IsNumber (λ i l. let few = few_nodes in grind (arith, nat_tests))

      acks_few : (line : ℕ) → line < line_count parts → IsNumber (entry_of parts machine line).acks
      acks_few line exists =
          let s = line_of parts parameters machine line in
          let counter = (invariant.lines line exists).counter in
          let p = and_parts (counter_by s.home.state (sole s.home.pointers) s.home.acks) _ counter.0 in
          let sum : sum_below (node_count parts) (λ i. owes (s.node i)) ≡ s.home.acks = eqb-true _ s.home.acks p.1 in
          let few = few_owed (node_count parts) (λ i. owes (s.node i))
          (λ i l. let q = and_parts (nat_le (owes (s.node i)) 1) _ (counter.1 i l) in grind (arith, nat_tests)) in
          omega (arith, sum, few, few_nodes)

      home_is : (line : ℕ) → line < n * parts.per_node + parts.per_node → IsHomeLine parts machine line
      home_is line l =
          let exists = line_exists line l in
          let points = invariant.entries line exists in
          let p = and_parts (list_all (λ i. nat_lt i (node_count parts)) (members (entry_of parts machine line).hardware)) _ points in
          let q = and_parts (list_all (λ i. nat_lt i (node_count parts)) (members (entry_of parts machine line).software)) _ p.1 in (
            omega (arith, exists, few_lines),
            record {
              hardware = numbers (members (entry_of parts machine line).hardware) p.0;
              software = numbers (members (entry_of parts machine line).software) q.0;
              acks = acks_few line exists;
              body = has.homes line exists;
              always = has.always line exists;
            },
          )

      node_is : IsNode parts machine n
      node_is =
          let sizes = invariant.nodes n here in
          let p = and_parts (length (node_at machine n).slots == parts.contexts) _ sizes in
          let q = and_parts (length (node_at machine n).homes == parts.per_node) _ p.1 in
          let few = image.contexts.1 in
          let current : IsTrue (nat_lt (node_at machine n).current parts.contexts) = q.1 in
          record {
            clock = omega (arith, small n here);
            current = grind (arith, nat_tests);
            slot_count = eqb-true _ parts.contexts p.0;
            slots = slot_is;
            transactions = tests_give (transaction_stands parts (node_at machine n)) IsPending pending_is (node_at machine n).transactions.entries
                (invariant.transactions n here);
            copies = both_give (caches_rightly parts parameters) IsCopy (λ (entry : ℕ × Copy). AreWords entry.1.body) copy_is (node_at machine n).cache.entries
                (invariant.caches n here) (has.copies n here);
            home_count = eqb-true _ parts.per_node q.0;
            homes = λ line low high. home_is line high;
            packets = both_give (packed_rightly parts n (node_at machine n)) IsMessage (λ (packet : Msg). AreWords packet.body) packet_is
                (node_at machine n).packets
                (invariant.packets n here) (has.packets n here);
          }

    sent_is : (from to : ℕ) → from < node_count parts → (msg : Msg) → IsTrue (links_rightly parts machine from to msg) → AreWords msg.body → IsMessage msg
    sent_is from to f msg links words =
        let p = and_parts (is_fit parts from to msg) _ links in
        let q = and_parts (msg.src.0 == from) _ p.0 in
        let r = and_parts (nat_lt msg.line.0 (line_count parts)) _ q.1 in
        let s = and_parts (nat_lt msg.stamp (2 ^ 32 - 1)) _ r.1 in
        let src : msg.src.0 ≡ from = eqb-true msg.src.0 from q.0 in
        let stamp : IsTrue (nat_lt msg.stamp (2 ^ 32 - 1)) = s.0 in
        record { line = below msg.line.0 r.0; src = omega (arith, src, f, few_nodes); stamp = grind (arith, nat_tests); body = words }

    pub machine_told : IsMachineTold parts machine
    machine_told =
        let sizes = and_parts (length machine.nodes == node_count parts) _ invariant.sizes in
        record {
          node_size = eqb-true _ (node_count parts) sizes.0;
          link_size = eqb-true _ (node_count parts * node_count parts) sizes.1;
          each = node_is;
          sent = λ from to f t. both_give (links_rightly parts machine from to) IsMessage (λ (msg : Msg). AreWords msg.body) (sent_is from to f)
              (link_at parts machine from to)
              (invariant.links from to f t) (has.links from to f t);
        }
