-- A log that holds a trapping turn leaves its node with a trapped context.
use Rattle.std.proofs.Common.{◌≡◌, ℕ, ◌≤◌, ◌<◌, Bool, true, false, ◌||◌, ◌==◌, nat_lt, not, Option, List, [], ◌∷◌, length, refl, sym, ap, ◌∙◌, arith, ◌^◌, ◌-◌}
use Rattle.std.proofs.lemmas.Bool.{true≢false, ne_eqb}
use Rattle.sparc_table.specs.declared.outcomes.Outcome.TheVariants.{Trap}
use Rattle.alw_msg.specs.declared.messages.Msg.{Msg}
use Rattle.alw_msg.specs.declared.events.Event.{Event}
use Rattle.alw_msg.specs.declared.events.Entry.{Entry}
use Rattle.alw_msg.specs.declared.events.Event.TheVariants.{Instr, Handle, Deliver, Evict}
use Rattle.alw_msg.specs.Contents.{Content, ForMemory, ForCache, content}
use Rattle.alw_msg.specs.Events.{node_of}
use Rattle.alw_image.specs.declared.parts.Parts.{Parts}
use Rattle.alw_image.specs.Images.{node_count}
use Rattle.alw_image.specs.Parameters.{Parameters}
use Rattle.alw_model.specs.declared.steps.Did.{Did}
use Rattle.alw_model.specs.declared.steps.Did.TheVariants.{Turn}
use Rattle.alw_model.specs.NodeStates.{NodeState, stamp_of, may, is_enabled_at}
use Rattle.alw_model.specs.NodeSteps.{handle_by, handle_front, node_step}
use Rattle.alw_model.specs.Machine.{no_node, node_at, any_trapped, state, IsLegal}
use Rattle.alw_model.specs.Threads.{Logged, IsRunFrom, node_after}
use Rattle.alw_model.proofs.Journals.{and_parts}
use Rattle.law_order.proofs.Reached.{state_aimed}
use Rattle.alw_tally.specs.Remaining.{trapped_in, remains_of}
use Rattle.alw_tally.proofs.Sums.{weigh_at}
use Rattle.alw_tally.proofs.Ending.{trapped_is}
use Rattle.alw_tally.proofs.Following.{change_by, change_of, step_changes}
use Rattle.alw_work.specs.Works.{is_trap, traps_from}

counted : (did : Did) → is_trap did ≡ true → (change_by did).traps ≡ 1
counted (Turn slot (Trap type)) is = refl
counted _ is = absurd (true≢false (sym is))

module _ (parts : Parts) (parameters : Parameters) (number : ℕ) where
  -- the handler isn't a turn
  by_content : (stamp : ℕ) (node : NodeState) (packet : Msg) (said : Content) → is_trap (handle_by parts parameters number stamp node packet said).did ≡ false
  by_content stamp node packet (ForMemory said) = refl
  by_content stamp node packet (ForCache said) = refl

  no_turn : (stamp : ℕ) (node : NodeState) (packets : List Msg) → is_trap (handle_front parts parameters number stamp node packets).did ≡ false
  no_turn stamp node [] = refl
  no_turn stamp node (packet ∷ rest) = by_content stamp (record node { packets = rest }) packet (content packet)

  trap_counts : (node : NodeState) (event : Event) (taken : Option Msg) → let did = (node_step parts parameters number node event taken).did in
      is_trap did ≡ true → (change_of event did).traps ≡ 1
  trap_counts node (Instr at) taken is = counted (node_step parts parameters number node (Instr at) taken).did is
  trap_counts node (Handle at) taken is = absurd (true≢false (sym is ∙ no_turn (stamp_of node.clock taken) node node.packets))
  trap_counts node (Deliver from to) taken is = counted (node_step parts parameters number node (Deliver from to) taken).did is
  trap_counts node (Evict at set) taken is = counted (node_step parts parameters number node (Evict at set) taken).did is

  may_of : (node : NodeState) (event : Event) (taken : Option Msg) → is_enabled_at parts parameters number node event taken ≡ true → may parts parameters node event taken ≡ true
  may_of node event taken is =
      (and_parts (nat_lt node.clock (2 ^ 32 - 1)) _ (and_parts (nat_lt number (node_count parts)) _ (and_parts (node_of event == number) _ is).1).1).1

  -- trapped contexts stay trapped
  stays : (node : NodeState) (log : List Logged) → IsRunFrom parts parameters number node log → trapped_in node ≤ trapped_in (node_after parts parameters number node log)
  stays node [] run = omega arith
  stays node (logged ∷ rest) run =
      let c = step_changes parts parameters number node logged.entry.event logged.taken (may_of node logged.entry.event logged.taken run.0.enabled) in
      let more = stays (node_step parts parameters number node logged.entry.event logged.taken).node rest run.1 in
      omega (arith, c.trapped)

  pub trapped_after : (node : NodeState) (log : List Logged) → IsRunFrom parts parameters number node log → traps_from parts parameters number node log ≡ true →
      1 ≤ trapped_in (node_after parts parameters number node log)
  trapped_after node [] run traps = absurd (true≢false (sym traps))
  trapped_after node (logged ∷ rest) run traps =
      go (is_trap (node_step parts parameters number node logged.entry.event logged.taken).did) refl traps
      (trapped_after (node_step parts parameters number node logged.entry.event logged.taken).node rest run.1)
    where
      go : (b : Bool) → is_trap (node_step parts parameters number node logged.entry.event logged.taken).did ≡ b →
          (b || traps_from parts parameters number (node_step parts parameters number node logged.entry.event logged.taken).node rest) ≡ true →
          (traps_from parts parameters number (node_step parts parameters number node logged.entry.event logged.taken).node rest ≡ true →
          1 ≤ trapped_in (node_after parts parameters number (node_step parts parameters number node logged.entry.event logged.taken).node rest)) →
          1 ≤ trapped_in (node_after parts parameters number (node_step parts parameters number node logged.entry.event logged.taken).node rest)
      go true is held later =
          let c = step_changes parts parameters number node logged.entry.event logged.taken (may_of node logged.entry.event logged.taken run.0.enabled) in
          let one = trap_counts node logged.entry.event logged.taken is in
          let more = stays (node_step parts parameters number node logged.entry.event logged.taken).node rest run.1 in
          omega (arith, c.trapped, one, more)
      go false is held later = later held

-- a machine with a node of a trapped context has one
pub any_of : (parts : Parts) (parameters : Parameters) (journal : List Entry) → IsLegal parts parameters journal → (n : ℕ) → n < node_count parts →
    1 ≤ trapped_in (node_at (state parts parameters journal) n) → any_trapped (state parts parameters journal) ≡ true
any_of parts parameters journal legal n below some =
    let machine = state parts parameters journal in
    let size : length machine.nodes ≡ node_count parts = (state_aimed parts parameters journal legal).nodes in
    let most = weigh_at trapped_in machine.nodes n no_node (omega (arith, size)) in
    sym (trapped_is (remains_of machine.nodes) machine refl) ∙ ap not (ne_eqb (remains_of machine.nodes).trapped 0 (λ none. absurd (omega (arith, none))))
