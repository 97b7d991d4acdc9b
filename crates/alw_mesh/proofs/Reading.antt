-- What readers tell of a machine is what the flat machine has after the turns.
use Rattle.std.proofs.Common.{◌≡◌, ℕ, ◌+◌, ◌*◌, ◌/◌, ◌%◌, ◌^◌, ◌<◌, ◌≤◌, ◌==◌, nat_lt, IsTrue, List, [], ◌∷◌, length, refl, sym, ap, subst, ◌∙◌, arith}
use Rattle.std.specs.List.{list_all, AllByRecursion}
use Rattle.std.proofs.lemmas.Bool.{eqb-true, ltb-true}
use Rattle.std.proofs.lemmas.List.FromFn.{get_or-map-range_with_len}
use Rattle.std.proofs.lemmas.Nat.{mul-le}
use Rattle.std.proofs.Math.Nat.{div-lt_iff_lt-mul}
use Rattle.alw_num.specs.declared.states.State.TheVariants.{RO, RW}
use Rattle.alw_num.specs.Maps.{passes}
use Rattle.alw_num.specs.Weights.{digit, weigh}
use Rattle.alw_num.proofs.Weigh.{digit_le}
use Rattle.alw_image.specs.declared.parts.Parts.{Parts}
use Rattle.alw_msg.specs.declared.events.Entry.{Entry}
use Rattle.alw_msg.specs.declared.messages.Msg.{Msg}
use Rattle.alw_msg.specs.Contents.{content, is_to_memory}
use Rattle.alw_msg.specs.Sending.{Sending}
use Rattle.alw_image.specs.Images.{node_count, line_count, context_count, zero_line}
use Rattle.alw_model.specs.Contexts.{slot_at}
use Rattle.alw_model.specs.NodeStates.{NodeState}
use Rattle.alw_model.specs.declared.steps.Counts.{Counts}
use Rattle.alw_model.specs.Machine.{MachineState, node_at}
use Rattle.alw_model.specs.Flat.{Flat, context_at, line_at}
use Rattle.alw_model.specs.Lines.{carriers, current_value, entry_of, packets_at, ups}
use Rattle.alw_model.specs.Lines as lines
use Rattle.alw_model.specs.MachineInvariant.{packed_rightly}
use Rattle.alw_model.specs.Messages.{home_node}
use Rattle.alw_model.specs.Runs.{Moment, moments, flat_context, flat_view}
use Rattle.alw_model.specs.Counts.{is_data, count_holds}
use Rattle.alw_model.proofs.Journals.{and_parts}
use Rattle.law_machine.proofs.FlatStarts.{flat_view_is}
use Rattle.law_machine.proofs.FlatViews.{HaveSlots, context_read}
use Rattle.law_machine.proofs.MachineFacts.{always_invariant}
use Rattle.law_machine.proofs.RunFacts.{always_used}
use Rattle.law_order.proofs.Reached.{state_aimed}
use Rattle.alw_tally.specs.Told.{Told}
use Rattle.alw_tally.specs.Tallies.{Tallied}
use Rattle.alw_ready.specs.declared.rows.Row.{Row}
use Rattle.alw_node.specs.Nodes.{Whole}
use Rattle.alw_mesh.specs.Histories.{History, state_of, IsRun}
use Rattle.alw_mesh.specs.Readings.{slot_of, counts_in, flat_in}
use Rattle.alw_mesh.specs.Grids.{Grid, IsSlotOf}
use Rattle.alw_mesh.specs.Keeping.{IsMachine}
use Rattle.alw_mesh.proofs.OneNode.{home_exists}
use Rattle.alw_mesh.proofs.Journals.{journal_fits, moments_long}
use Rattle.alw_mesh.specs.Values.{FirstAlone}
use Rattle.alw_mesh.proofs.Carriers.{few_carriers, shared_carriers, owned_carriers}

module _ (h : History) (run : IsRun h) where
  abbrev here : MachineState
  here = state_of h

  flat_is : flat_view h.image h.parameters here ≡ flat_in h
  flat_is = flat_view_is h.image h.parameters run.parameters.some_pointer h.journal run.legal

  nodes_are : length here.nodes ≡ node_count h.image
  nodes_are = (state_aimed h.image h.parameters h.journal run.legal).nodes

  have_slots : HaveSlots h.image.contexts here.nodes
  have_slots n l =
      let fits = (always_invariant h.image run.image h.parameters run.parameters h.journal run.legal).nodes n (rw (← nodes_are) l) in
      eqb-true (length (node_at here n).slots) h.image.contexts (and_parts (length (node_at here n).slots == h.image.contexts) _ fits).0

  -- ---- contexts

  -- a context is that of its slot and its node
  pub context_is : (context : ℕ) → context < context_count h.image → context_at (flat_in h) context ≡ flat_context (slot_of h context)
  context_is context exists =
      let some = run.image.contexts.0 in
      let node = context / h.image.contexts in
      let slot = context % h.image.contexts in
      let node_exists : node < node_count h.image = (div-lt_iff_lt-mul some).1 exists in
      let slot_exists : slot < h.image.contexts = omega arith in
      let place : context ≡ node * h.image.contexts + slot = omega arith in
      ap (λ (f : Flat). context_at f context) (sym flat_is)
      ∙ (ap (context_at (flat_view h.image h.parameters here)) place
      ∙ context_read h.image.contexts here.nodes node slot _ have_slots (rw nodes_are node_exists) slot_exists)

  -- ---- lines

  pub line_is : (line : ℕ) → line < line_count h.image → current_value h.image h.parameters here line ≡ line_at (flat_in h) line
  line_is line exists =
      sym (get_or-map-range_with_len (current_value h.image h.parameters here) 0 (line_count h.image) line line zero_line exists (omega arith))
      ∙ ap (λ (f : Flat). line_at f line) flat_is

  -- at most one node, message or packet carries a line
  pub one_carrier : (line : ℕ) → line < line_count h.image → length (carriers (node_count h.image) (lines.line_of h.image h.parameters here line)) ≤ 1
  one_carrier line exists =
      let invariant = (always_invariant h.image run.image h.parameters run.parameters h.journal run.legal).lines line exists in
      let some = mul-le 1 1 h.image.width h.image.height run.image.width.0 run.image.height.0 in
      few_carriers (node_count h.image) (lines.line_of h.image h.parameters here line) (entry_of h.image here line) (length (ups line (packets_at h.image here line))) (omega arith) invariant

-- packets were sent by nodes that exist
senders_of : (parts : Parts) (n : ℕ) (node : NodeState) (packets : List Msg) → IsTrue (list_all (packed_rightly parts n node) packets) → AllByRecursion (λ (packet : Msg). packet.src.0 < node_count parts) packets
senders_of parts n node [] are = tt
senders_of parts n node (packet ∷ rest) are =
    let split = and_parts (packed_rightly parts n node packet) _ are in
    let right = and_parts (is_to_memory (content packet)) _ split.0 in
    (ltb-true packet.src.0 (node_count parts) (and_parts (nat_lt packet.src.0 (node_count parts)) _ right.1).0, senders_of parts n node rest split.1)

replies_few : (run : List Moment) → weigh (λ (moment : Moment). digit (passes (λ (msg : Msg). is_data (content msg)) moment.taken)) run ≤ length run
replies_few [] = omega arith
replies_few (moment ∷ rest) = omega (arith, digit_le (passes (λ (msg : Msg). is_data (content msg)) moment.taken), replies_few rest)

module _ {grid : Grid} {journal : List Entry} {joined : ℕ} {sent : Sending} {tally : Tallied} {ready : List Row} (is : IsMachine grid journal joined sent tally ready) where
  abbrev history : History
  history = record { image = grid.image; parameters = grid.parameters; journal = journal; joined = joined }

  -- a slot of a node is its context of the flat machine
  pub flat_slot : (context : ℕ) (whole : Whole) (slot : ℕ) → context < context_count grid.image → IsSlotOf grid context whole slot
      → flat_context (slot_at whole.state.slots slot) ≡ context_at (flat_in history) context
  flat_slot context whole slot exists of =
      let slots = ap (λ (n : NodeState). n.slots) (of.node.state ∙ ap (λ (m : MachineState). node_at m (context / grid.image.contexts)) is.state_is) in
      (λ i. flat_context (slot_at (slots i) (of.slot_is i))) ∙ sym (context_is history is.run context exists)

  -- no line has two carriers
  pub one_here : (line : ℕ) → line < line_count grid.image → length (carriers (node_count grid.image) (lines.line_of grid.image grid.parameters grid.machine line)) ≤ 1
  one_here line exists = subst (λ (m : MachineState). length (carriers (node_count grid.image) (lines.line_of grid.image grid.parameters m line)) ≤ 1) (sym is.state_is) (one_carrier history is.run line exists)

  -- a line whose home is Read-Only has none
  pub shared_here : (line : ℕ) → line < line_count grid.image → (entry_of grid.image grid.machine line).state ≡ RO
      → carriers (node_count grid.image) (lines.line_of grid.image grid.parameters grid.machine line) ≡ []
  shared_here line exists =
      let image = grid.image in
      subst (λ (m : MachineState). (entry_of image m line).state ≡ RO → carriers (node_count image) (lines.line_of image grid.parameters m line) ≡ []) (sym is.state_is)
      (shared_carriers (node_count image) (lines.line_of image grid.parameters (state_of history) line) (entry_of image (state_of history) line)
      (length (ups line (packets_at image (state_of history) line)))
      ((always_invariant image is.run.image grid.parameters is.run.parameters journal is.run.legal).lines line exists))

  -- of a line whose home is Read-Write the first node that it points to alone has one
  pub owned_here : (line : ℕ) → line < line_count grid.image → (entry_of grid.image grid.machine line).state ≡ RW
      → FirstAlone (node_count grid.image) (lines.line_of grid.image grid.parameters grid.machine line)
  owned_here line exists =
      let image = grid.image in
      subst (λ (m : MachineState). (entry_of image m line).state ≡ RW → FirstAlone (node_count image) (lines.line_of image grid.parameters m line)) (sym is.state_is)
      (owned_carriers (node_count image) (lines.line_of image grid.parameters (state_of history) line) (entry_of image (state_of history) line)
      (length (ups line (packets_at image (state_of history) line)))
      ((always_invariant image is.run.image grid.parameters is.run.parameters journal is.run.legal).lines line exists))

  -- a line's current value is that of the flat machine
  pub value_here : (line : ℕ) → line < line_count grid.image → current_value grid.image grid.parameters grid.machine line ≡ line_at (flat_in history) line
  value_here line exists = ap (λ (m : MachineState). current_value grid.image grid.parameters m line) is.state_is ∙ line_is history is.run line exists

  -- the packets at a line's home were sent by nodes
  pub senders_here : (line : ℕ) → line < line_count grid.image → AllByRecursion (λ (packet : Msg). packet.src.0 < node_count grid.image) (packets_at grid.image grid.machine line)
  senders_here line exists =
      let image = grid.image in
      let s = state_of history in
      let home = home_node image line in
      let is_node = home_exists image is.run.image line image.per_node home refl refl exists in
      let packets = (always_invariant image is.run.image grid.parameters is.run.parameters journal is.run.legal).packets home is_node in
      subst (λ (m : MachineState). AllByRecursion (λ (packet : Msg). packet.src.0 < node_count grid.image) (packets_at grid.image m line)) (sym is.state_is) (senders_of image home (node_at s home) (node_at s home).packets packets)

  -- replies are used, or held
  pub replies_are : (counts_in history).replies ≡ (counts_in history).used + count_holds (state_of history)
  replies_are = always_used grid.image is.run.image grid.parameters is.run.parameters journal is.run.legal

  -- the same of what the tally tells
  pub replies_told : (counts : Counts) → counts ≡ tally.told.counts → counts.replies ≡ counts.used + count_holds (state_of history)
  replies_told counts told = subst (λ (k : Counts). k.replies ≡ k.used + count_holds (state_of history)) (sym (told ∙ ap (λ (t : Told). t.counts) is.told)) replies_are

  -- slots with a hold are no more than entries
  pub few_holds : count_holds (state_of history) < 2 ^ 32
  few_holds =
      let run = moments grid.image grid.parameters journal in
      omega (arith, replies_are, replies_few run, moments_long grid.image grid.parameters journal, journal_fits history is.run)
