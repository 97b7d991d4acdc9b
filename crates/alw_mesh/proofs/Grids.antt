-- The nodes and links that a machine keeps, after an event.
use Rattle.std.proofs.Common.{◌≡◌, ℕ, ◌-◌, ◌<◌, ◌≤◌, Bool, true, false, ◌&&◌, IsTrue, Option, None, List, [], set, get_or, slice_index_or, length, refl, sym, ap, subst, ◌∙◌, arith}
use Rattle.std.proofs.lemmas.List.{get_or-set_same, get_or_read, length-set, map-set}
use Rattle.alw_num.proofs.Weigh.{at_nodes}
use Rattle.alw_msg.specs.declared.messages.Msg.{Msg}
use Rattle.alw_msg.specs.declared.events.Event.{Event}
use Rattle.alw_msg.specs.Events.{node_of}
use Rattle.alw_msg.specs.Sending.{Sending}
use Rattle.alw_image.specs.declared.parts.Parts.{Parts}
use Rattle.alw_image.specs.Images.{node_count}
use Rattle.alw_image.specs.Parameters.{Parameters}
use Rattle.sparc_table.specs.declared.outcomes.Outcome.TheVariants.{Done}
use Rattle.alw_model.specs.declared.steps.Did.{Did}
use Rattle.alw_model.specs.declared.steps.Did.TheVariants.{Turn}
use Rattle.alw_model.specs.Contexts.{Slot}
use Rattle.alw_model.specs.Counts.{is_turn}
use Rattle.alw_model.specs.NodeStates.{is_enabled_at}
use Rattle.alw_model.specs.NodeSteps.{Stepped, node_step}
use Rattle.alw_model.specs.Machine.{MachineState, node_at, taken_by, links_sent, is_enabled, stepped_by, step}
use Rattle.law_lines.specs.Links.{GoBelow}
use Rattle.law_lines.proofs.Links.{read_set}
use Rattle.law_lines.proofs.Steps.{enabled_is}
use Rattle.law_order.specs.Aims.{IsAimed}
use Rattle.law_order.proofs.Aimed.{sends_below, step_aimed}
use Rattle.alw_links.specs.Traffic.{Traffic, after_sends}
use Rattle.alw_ready.specs.Changes.{changes_holds}
use Rattle.alw_tally.specs.declared.remains.Remains.{Remains}
use Rattle.alw_tally.specs.Remaining.{remains_of, remains_after, MayFollow, AreFew}
use Rattle.alw_tally.proofs.Following.{remains_are, may_follow}
use Rattle.alw_node.specs.Nodes.{Whole, MessageIsGiven}
use Rattle.alw_mesh.specs.declared.stepping.Acted.{Acted}
use Rattle.alw_mesh.specs.declared.stepping.Happening.{Happening}
use Rattle.alw_mesh.specs.Grids.{IsQuietTurn, Happens}
use Rattle.alw_mesh.specs.Keeping.{machine_of, no_whole, whole_in, NodeIsOf, IsGrid, NodesAreWithin, taken_from, after_taking, HasTrapPc, may_act, acted_by, NodeActs}
use Rattle.alw_mesh.proofs.Turning.{left_step, used_is, pc_is}
use Rattle.alw_mesh.proofs.Quiet.{takes_none, sends_none, uses_none, traps_not}
use Rattle.alw_mesh.proofs.OneNode.{state_at, enabled_there, step_there}
use Rattle.alw_mesh.proofs.Moves.{taken_is, links_are_taken, taking_keeps_nodes, taking_keeps_room, links_are_sent, goes_below, named, given}

module _ {image : Parts} {parameters : Parameters} {nodes : List Whole} {traffic : Traffic} {remains : Remains} (grid : IsGrid image parameters nodes traffic remains)
    (event : Event) (enabled : IsTrue (is_enabled image parameters (machine_of nodes traffic.links) event)) where
  abbrev here : MachineState
  here = machine_of nodes traffic.links

  abbrev at : ℕ
  at = node_of event

  -- the node that the event is of
  abbrev own : Whole
  own = whole_in nodes at

  abbrev head : Option Msg
  head = taken_from traffic event

  pub exists : at < node_count image
  exists = (enabled_is image parameters here event enabled).here

  pub is_kept : at < length nodes
  is_kept = rw grid.nodes_are.counted exists

  own_of : NodeIsOf image parameters at own
  own_of = grid.nodes_are.each at exists

  own_state : own.state ≡ node_at here at
  own_state = sym (state_at nodes traffic.links at)

  head_is : head ≡ taken_by image here event
  head_is = taken_is image here traffic grid.links_are refl event

  pub node_may : may_act own event head ≡ true
  node_may = enabled_there image parameters at own own_of event head ∙ ((λ i. is_enabled_at image parameters at (own_state i) event (head_is i)) ∙ enabled)

  pub nodes_named : NodesAreWithin traffic.nodes event
  nodes_named = rw grid.links_are (named image parameters here event enabled)

  pub node_given : MessageIsGiven event head
  node_given = subst (MessageIsGiven event) (sym head_is) (given image here event)

  pub nodes_counted : node_count own.parts ≡ node_count image
  nodes_counted = ap node_count own_of.share

  -- the node's step is the machine's
  abbrev stepped : Stepped
  stepped = acted_by own event head

  stepped_is : stepped ≡ stepped_by image parameters here event
  stepped_is = step_there image parameters at own own_of event head ∙ (λ i. node_step image parameters at (own_state i) event (head_is i))

  sends_go : GoBelow (node_count image) stepped.sends
  sends_go = subst (λ (s : Stepped). GoBelow (node_count image) s.sends) (sym stepped_is) (sends_below image parameters here event enabled grid.aimed)

  abbrev next : Whole
  next = record own { state = stepped.node }

  abbrev traffic_next : Traffic
  traffic_next = after_sends (after_taking traffic event) at stepped.sends

  taken_nodes : (after_taking traffic event).nodes ≡ node_count image
  taken_nodes = taking_keeps_nodes traffic event ∙ grid.links_are

  machine_is : machine_of (set nodes at next) traffic_next.links ≡ step image parameters here event
  machine_is =
      let nodes_are = map-set (λ (w : Whole). w.state) nodes at next ∙ ap (λ (s : Stepped). set here.nodes at s.node) stepped_is in
      let links_are = links_are_sent image (after_taking traffic event).nodes (after_taking traffic event).links at stepped.sends taken_nodes
      ∙ (λ i. links_sent image (links_are_taken image here traffic grid.links_are refl event i) at (stepped_is i).sends) in
      λ i. record { nodes = nodes_are i; links = links_are i }

  remains_next : remains_after remains event stepped.did ≡ remains_of (machine_of (set nodes at next) traffic_next.links).nodes
  remains_next = (λ i. remains_after (grid.remains_are i) event (stepped_is i).did)
      ∙ (sym (remains_are image parameters here event grid.aimed.nodes enabled) ∙ sym (ap (λ (m : MachineState). remains_of m.nodes) machine_is))

  next_of : NodeIsOf image parameters at next
  next_of = record { number = own_of.number; share = own_of.share; parameters_are = own_of.parameters_are }

  grid_next : IsGrid image parameters (set nodes at next) traffic_next (remains_after remains event stepped.did)
  grid_next = record {
    image_is = grid.image_is;
    nodes_are = record {
      counted = length-set nodes at next ∙ grid.nodes_are.counted;
      each = λ n l. subst (NodeIsOf image parameters n) (sym (read_set nodes at next no_whole n is_kept))
          (at_nodes (λ j w. j < node_count image → NodeIsOf image parameters j w) (whole_in nodes) at next (λ _. next_of) (λ j other. grid.nodes_are.each j) n l);
    };
    links_are = taken_nodes;
    aimed = subst (IsAimed image) (sym machine_is) (step_aimed image parameters here event enabled grid.aimed);
    remains_are = remains_next;
  }

  -- ---- with what the code has at hand

  module _ {nodes' : List Whole} {place : ℕ} {taken : Option Msg} {traffic' : Traffic} {sent sent' : Sending} {acted : Acted}
      (place_is : place ≡ at) (taken_at : taken ≡ head) (traffic_is : traffic' ≡ after_taking traffic event) (acts : NodeActs nodes nodes' place event taken sent sent' acted) where
    -- the node has acted at its place, with its message
    acts_so : NodeActs nodes nodes' at event head sent sent' acted
    acts_so = subst (λ (p : ℕ × Option Msg). NodeActs nodes nodes' p.0 event p.1 sent sent' acted) (λ i. (place_is i, taken_at i)) acts

    pub sends_exist : (k : ℕ) (d : ℕ × Msg) → k < length sent'.messages → (slice_index_or sent'.messages k d).0 < traffic'.nodes
    sends_exist k d l =
        let below : GoBelow (node_count image) sent'.messages = rw acts_so.sends sends_go in
        rw (traffic_is, taken_nodes) (goes_below (node_count image) sent'.messages below k d l)

    pub sends_fit : sent.room ≤ traffic.room → length sent'.messages ≤ traffic'.room
    sends_fit room = rw traffic_is (let kept = taking_keeps_room traffic event in let few = acts_so.few in omega arith)

    pub sender_exists : at < traffic'.nodes
    sender_exists = rw (traffic_is, taken_nodes) exists

    pub remains_may : AreFew (remains_of here.nodes) → MayFollow remains event acted.did
    remains_may few =
        let did_is = acts_so.did ∙ ap (λ (s : Stepped). s.did) stepped_is in
        subst (λ (p : Remains × Did). MayFollow p.0 event p.1) (λ i. (sym grid.remains_are i, sym did_is i)) (may_follow image parameters here event grid.aimed.nodes enabled few)

    -- the node that stands at the place now
    pub acted_there : (whole : Whole) → whole ≡ get_or nodes' place whole → whole.state ≡ stepped.node
    acted_there whole read =
        let is : nodes' ≡ set nodes place (record (whole_in nodes place) { state = (acted_by (whole_in nodes place) event taken).node }) = acts.nodes_are in
        let room : place < length nodes = rw place_is is_kept in
        let there : place < length nodes' = rw (is, length-set nodes place (record (whole_in nodes place) { state = (acted_by (whole_in nodes place) event taken).node })) room in
        ap (λ (w : Whole). w.state) (get_or_read nodes' place whole there read no_whole ∙ ((λ i. get_or (is i) place no_whole) ∙ get_or-set_same nodes place _ no_whole room))
        ∙ (λ i. (acted_by (whole_in nodes (place_is i)) event (taken_at i)).node)

    -- a quiet turn leaves the links as they are
    pub links_stay : IsQuietTurn event acted.did acted.changes_holds → traffic' ≡ after_sends traffic' at sent'.messages
    links_stay turn =
        let none = acts_so.sends ∙ sends_none event acted.did acted.changes_holds turn own.parts own.parameters own.number own.state head acts_so.did in
        let room_is : traffic'.room ≡ traffic'.room - 0 = omega arith in
        let stays : traffic' ≡ after_sends traffic' at [] = λ i. record { nodes = traffic'.nodes; room = room_is i; links = traffic'.links } in
        stays ∙ sym (ap (after_sends traffic' at) none)

    module _ {traffic_after : Traffic} (moved : traffic_after ≡ after_sends traffic' at sent'.messages) where
      moved_so : traffic_after ≡ traffic_next
      moved_so = moved ∙ (λ i. after_sends (traffic_is i) at (acts_so.sends i))

      pub grid_kept : {remains' : Remains} → remains' ≡ remains_after remains event acted.did → IsGrid image parameters nodes' traffic_after remains'
      grid_kept changed =
          let remains_is = changed ∙ ap (remains_after remains event) acts_so.did in
          subst (λ (p : List Whole × (Traffic × Remains)). IsGrid image parameters p.0 p.1.0 p.1.1) (sym (λ i. (acts_so.nodes_are i, (moved_so i, remains_is i)))) grid_next

      pub happens : (stamp : ℕ) (used quiet : Bool) (pc : ℕ) → (quiet ≡ true → IsQuietTurn event acted.did acted.changes_holds) → sent.room ≡ node_count image → used ≡ (is_turn acted.did && acted.changes_holds)
          → HasTrapPc stepped.node.slots pc acted.did
          → Happens (record { image = image; parameters = parameters; machine = here; room = traffic.room })
          (record { image = image; parameters = parameters; machine = machine_of nodes' traffic_after.links; room = traffic_after.room }) (record { stamp = stamp; event = event }) sent'
          (record { moment = record { entry = record { stamp = stamp; event = event }; taken = taken; did = acted.did; quiet = quiet }; used = used; pc = pc; changes_holds = acted.changes_holds })
      happens stamp used quiet pc turn room used_of has =
          let before = node_at here at in
          let left = left_step image parameters at before event (taken_by image here event) in
          let did_is : acted.did ≡ (stepped_by image parameters here event).did = acts_so.did ∙ ap (λ (s : Stepped). s.did) stepped_is in
          let holds_are : acted.changes_holds ≡ changes_holds before (stepped_by image parameters here event).node = acts_so.holds ∙ (λ i. changes_holds (own_state i) (stepped_is i).node) in
          record {
            image = refl;
            parameters = refl;
            machine = (λ i. machine_of (acts_so.nodes_are i) (moved_so i).links) ∙ machine_is;
            room = acts_so.room ∙ room;
            few = rw (sym room) acts_so.few;
            entry_is = refl;
            did = did_is;
            taken = taken_at ∙ head_is;
            used = used_of ∙ ((λ i. is_turn (did_is i) && holds_are i) ∙ used_is before _ _ left);
            pc = pc_is before _ _ pc left (subst (λ (p : List Slot × Did). HasTrapPc p.0 pc p.1) (λ i. ((stepped_is i).node.slots, did_is i)) has);
            sends = acts_so.sends ∙ ap (λ (s : Stepped). s.sends) stepped_is;
            quiet = turn;
            holds = holds_are;
          }

      -- and so it is told
      pub happens_quietly : (stamp slot : ℕ) → acted.did ≡ Turn slot Done → IsQuietTurn event acted.did acted.changes_holds → sent.room ≡ node_count image
          → Happens (record { image = image; parameters = parameters; machine = here; room = traffic.room })
          (record { image = image; parameters = parameters; machine = machine_of nodes' traffic_after.links; room = traffic_after.room }) (record { stamp = stamp; event = event }) sent'
          (record { moment = record { entry = record { stamp = stamp; event = event }; taken = None; did = Turn slot Done; quiet = true }; used = false; pc = 0; changes_holds = false })
      happens_quietly stamp slot did_is turn room =
          let none : taken ≡ None = taken_at ∙ takes_none event acted.did acted.changes_holds turn traffic in
          let told_is : ◌≡◌ {A = Happening} (record { moment = record { entry = record { stamp = stamp; event = event }; taken = taken; did = acted.did; quiet = true }; used = false; pc = 0; changes_holds = acted.changes_holds })
          (record { moment = record { entry = record { stamp = stamp; event = event }; taken = None; did = Turn slot Done; quiet = true }; used = false; pc = 0; changes_holds = false })
          = λ i. record { moment = record { entry = record { stamp = stamp; event = event }; taken = none i; did = did_is i; quiet = true }; used = false; pc = 0; changes_holds = turn.stays i } in
          subst (λ (h : Happening). Happens (record { image = image; parameters = parameters; machine = here; room = traffic.room })
          (record { image = image; parameters = parameters; machine = machine_of nodes' traffic_after.links; room = traffic_after.room }) (record { stamp = stamp; event = event }) sent' h) told_is
          (happens stamp false true 0 (λ _. turn) room (uses_none event acted.did acted.changes_holds turn) (traps_not event acted.did acted.changes_holds turn stepped.node.slots))
