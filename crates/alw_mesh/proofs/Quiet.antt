-- A quiet turn is Done, ends no hold, and comes before the limit. All but its own slot, clock and copies stays: which main events may happen, and the end that holds, are as they were.
use Rattle.std.proofs.Common.{◌≡◌, ℕ, ◌+◌, ◌-◌, ◌^◌, ◌<◌, ◌≤◌, ◌==◌, nat_lt, nat_le, Bool, true, false, ◌&&◌, ◌||◌, not, cond, Option, Some, None, is_some, List, [], length, IsTrue, refl, sym, ap, subst, ◌∙◌, arith}
use Rattle.std.specs.List.{list_any}
use Rattle.std.proofs.lemmas.Bool.{eq-eqb, lt-ltb, le-leb}
use Rattle.std.proofs.lemmas.List.{get_or-set_same, set-get_or, length-set}
use Rattle.alw_num.specs.declared.addresses.NodeNo.{NodeNo}
use Rattle.alw_num.specs.declared.states.Mode.{Mode}
use Rattle.sparc_table.specs.declared.outcomes.Need.{Need}
use Rattle.sparc_table.specs.declared.outcomes.Need.TheVariants as needs
use Rattle.sparc_table.specs.declared.outcomes.Outcome.TheVariants.{Done}
use Rattle.sparc_table.specs.Turns.{need_of}
use Rattle.alw_msg.specs.declared.messages.Msg.{Msg}
use Rattle.alw_msg.specs.declared.events.Event.{Event}
use Rattle.alw_msg.specs.declared.events.Event.TheVariants.{Instr, Handle}
use Rattle.alw_msg.specs.Events.{node_of}
use Rattle.alw_msg.specs.Lists.{is_nonempty}
use Rattle.alw_msg.specs.Statuses.{is_ready}
use Rattle.alw_image.specs.declared.parts.Parts.{Parts}
use Rattle.alw_image.specs.Images.{node_count, line_count}
use Rattle.alw_image.specs.Parameters.{Parameters}
use Rattle.alw_model.specs.declared.steps.Did.{Did}
use Rattle.alw_model.specs.declared.steps.Did.TheVariants.{Turn}
use Rattle.alw_model.specs.Caches.{Copy, granted_copy}
use Rattle.alw_model.specs.Contexts.{Slot, slot_at, no_slot, running}
use Rattle.alw_model.specs.Counts.{is_turn}
use Rattle.alw_model.specs.NodeStates.{NodeState, stamp_of}
use Rattle.alw_model.specs.NodeSteps.{Stepped, access, instr_by, instr, node_step}
use Rattle.alw_model.specs.Machine.{MachineState, node_at, no_node, taken_by, links_taken, links_sent, is_enabled, has_halted, any_trapped, is_settled, end_of, stamp_at, stepped_by, step}
use Rattle.alw_model.specs.Machine as machine
use Rattle.alw_model.proofs.Journals.{and_parts}
use Rattle.law_lines.proofs.Steps.{enabled_is}
use Rattle.law_order.specs.Aims.{IsAimed}
use Rattle.law_machine.proofs.MainEvents.{ready_runs}
use Rattle.alw_tally.specs.declared.remains.Remains.{Remains}
use Rattle.alw_tally.specs.Remaining.{remains_of, remains_after}
use Rattle.alw_tally.proofs.Ending.{trapped_is, halted_is, handled_is}
use Rattle.alw_tally.proofs.Following.{remains_are}
use Rattle.alw_ready.specs.declared.rows.Row.{Row}
use Rattle.alw_ready.specs.Rows.{no_row, row_at}
use Rattle.alw_ready.specs.Fits.{may_happen, is_in_time, RowsFit}
use Rattle.alw_ready.specs.Changes.{changes_holds, is_wide, is_wide_event, RowsFitBut}
use Rattle.alw_ready.proofs.MainEvents.{may_in_time, goes_on_is}
use Rattle.alw_ready.proofs.Leaves.{rows_left}
use Rattle.alw_ready.proofs.Renewing.{sent_all}
use Rattle.alw_links.specs.Traffic.{Traffic}
use Rattle.alw_mesh.specs.Grids.{IsQuietTurn}
use Rattle.alw_mesh.specs.Keeping.{taken_from, after_taking, HasTrapPc}
use Rattle.alw_mesh.proofs.Turning.{Left, left_step}

-- a turn sends nothing, and its slot is the current one after it
abbrev Alone : List (ℕ × Msg) → ℕ → Did → Type 0
Alone sends current (Turn slot outcome) = (sends ≡ []) × (current ≡ slot)
Alone sends current _ = Unit {0}

module _ (parts : Parts) (parameters : Parameters) (number stamp : ℕ) (node : NodeState) where
  alone_by_copy : (slot line : ℕ) (mode : Mode) (o : Option Copy) → let s = access parts parameters number stamp node slot line mode o in Alone s.sends s.node.current s.did
  alone_by_copy slot line mode None = tt
  alone_by_copy slot line mode (Some copy) = (refl, refl)

  alone_by_need : (slot : ℕ) (need : Need) → let s = instr_by parts parameters number stamp node slot need in Alone s.sends s.node.current s.did
  alone_by_need slot (needs.Copy line mode) = alone_by_copy slot line.0 mode (granted_copy parameters.sets node.cache line.0 mode)
  alone_by_need slot needs.Nothing = (refl, refl)
  alone_by_need slot (needs.Trap type) = (refl, refl)

  alone : (o : Option ℕ) → let s = instr parts parameters number stamp node o in Alone s.sends s.node.current s.did
  alone None = tt
  alone (Some slot) = alone_by_need slot (need_of parts.code (slot_at node.slots slot).regs (line_count parts))

-- where as much remains as in another machine, a machine has halted and trapped as that one has; and settled, with the same links
module _ (s next : MachineState) (kept : remains_of next.nodes ≡ remains_of s.nodes) where
  halts_alike : has_halted next ≡ has_halted s
  halts_alike = sym (halted_is (remains_of next.nodes) next refl) ∙ (ap (λ (r : Remains). r.live == 0) kept ∙ halted_is (remains_of s.nodes) s refl)

  traps_alike : any_trapped next ≡ any_trapped s
  traps_alike = sym (trapped_is (remains_of next.nodes) next refl) ∙ (ap (λ (r : Remains). not (r.trapped == 0)) kept ∙ trapped_is (remains_of s.nodes) s refl)

  settles_alike : next.links ≡ s.links → is_settled next ≡ is_settled s
  settles_alike links =
      let handled = sym (handled_is (remains_of next.nodes) next refl) ∙ (ap (λ (r : Remains). r.packets == 0) kept ∙ handled_is (remains_of s.nodes) s refl) in
      λ i. not (list_any is_nonempty (links i)) && handled i

-- a node whose clock is below the limit is in time
in_time_by : (clock limit : ℕ) (halted : Bool) → clock < limit → limit ≤ 1048576 → (nat_lt clock (2 ^ 32 - 1) && (nat_lt clock limit || halted)) ≡ true
in_time_by clock limit halted early small = λ x. lt-ltb clock (2 ^ 32 - 1) (omega arith) x && (lt-ltb clock limit early x || halted)

and_true : (b : Bool) → (b && true) ≡ b
and_true true = refl
and_true false = refl

-- and an event of its own happens where it is wanted
wanted : (at count clock limit : ℕ) (wants halted : Bool) → at < count → clock < limit → limit ≤ 1048576
    → ((at == at && (nat_lt at count && (nat_lt clock (2 ^ 32 - 1) && wants))) && (nat_le (clock + 1) limit || halted)) ≡ wants
wanted at count clock limit wants halted here early small =
    (λ x. (eq-eqb at at refl x && (lt-ltb at count here x && (lt-ltb clock (2 ^ 32 - 1) (omega arith) x && wants))) && (le-leb (clock + 1) limit (omega arith) x || halted)) ∙ and_true wants

module _ (parts : Parts) (parameters : Parameters) (s : MachineState) (at : NodeNo) (slot : ℕ) (aimed : IsAimed parts s) (may : IsTrue (may_happen parts parameters s (Instr at)))
    (did : (stepped_by parts parameters s (Instr at)).did ≡ Turn slot Done) (holds : changes_holds (node_at s at.0) (stepped_by parts parameters s (Instr at)).node ≡ false)
    (early : (node_at s at.0).clock + 1 < parameters.limit) (small : parameters.limit ≤ 1048576) where
  abbrev own : NodeState
  own = node_at s at.0

  abbrev stepped : Stepped
  stepped = stepped_by parts parameters s (Instr at)

  abbrev next : MachineState
  next = step parts parameters s (Instr at)

  enabled : IsTrue (is_enabled parts parameters s (Instr at))
  enabled = (and_parts _ _ may).0

  here : at.0 < node_count parts
  here = (enabled_is parts parameters s (Instr at) enabled).here

  -- it halts no context
  goes_on : has_halted next ≡ has_halted s
  goes_on =
      let kept : remains_of next.nodes ≡ remains_of s.nodes = remains_are parts parameters s (Instr at) aimed.nodes enabled ∙ ap (remains_after (remains_of s.nodes) (Instr at)) did in
      halts_alike s next kept

  node_after : node_at next at.0 ≡ stepped.node
  node_after = let room : at.0 < length s.nodes = rw aimed.nodes here in get_or-set_same s.nodes at.0 stepped.node no_node room

  timely_after : is_in_time parameters next at.0 ≡ true
  timely_after = ap (λ (node : NodeState). nat_lt node.clock (2 ^ 32 - 1) && (nat_lt node.clock parameters.limit || has_halted next)) node_after
      ∙ in_time_by (own.clock + 1) parameters.limit (has_halted next) early small

  -- its slot is Ready, so that it runs again
  runs_again : is_some (running stepped.node.slots stepped.node.current) ≡ true
  runs_again =
      let left = subst (Left own stepped.node.slots) did (left_step parts parameters at.0 own (Instr at) None) in
      let turn = subst (Alone stepped.sends stepped.node.current) did (alone parts parameters at.0 (own.clock + 1) own (running own.slots own.current)) in
      let size = ap length left.slots ∙ length-set own.slots slot _ in
      let ready = ap (λ (slots : List Slot). is_ready (slot_at slots slot).status) left.slots ∙ ap (λ (u : Slot). is_ready u.status) (get_or-set_same own.slots slot _ no_slot left.within) in
      ready_runs stepped.node.slots stepped.node.current slot (omega (arith, size, turn.1, left.within)) ready

  instr_after : may_happen parts parameters next (Instr at) ≡ true
  instr_after =
      ap (λ (node : NodeState). (at.0 == at.0 && (nat_lt at.0 (node_count parts) && (nat_lt node.clock (2 ^ 32 - 1) && is_some (running node.slots node.current)))) && (nat_le (node.clock + 1) parameters.limit || has_halted next)) node_after
      ∙ (wanted at.0 (node_count parts) (own.clock + 1) parameters.limit _ (has_halted next) here early small ∙ runs_again)

  handle_after : may_happen parts parameters next (Handle at) ≡ may_happen parts parameters s (Handle at)
  handle_after =
      ap (λ (node : NodeState). (at.0 == at.0 && (nat_lt at.0 (node_count parts) && (nat_lt node.clock (2 ^ 32 - 1) && is_nonempty node.packets))) && (nat_le (node.clock + 1) parameters.limit || has_halted next)) node_after
      ∙ (wanted at.0 (node_count parts) (own.clock + 1) parameters.limit (is_nonempty own.packets) (has_halted next) here early small
      ∙ sym (wanted at.0 (node_count parts) own.clock parameters.limit (is_nonempty own.packets) (has_halted s) here (omega arith) small))

  pub quiet_keeps : (rows : List Row) → RowsFit parts parameters s rows → RowsFit parts parameters next rows
  quiet_keeps rows fit =
      let fits = fit.each at.0 here in
      let timely = may_in_time parts parameters s (Instr at) may in
      let says = fits.events (fits.in_time ∙ timely) in
      let silent = (subst (Alone stepped.sends stepped.node.current) did (alone parts parameters at.0 (own.clock + 1) own (running own.slots own.current))).0 in
      let narrow : is_wide_event parts parameters s (Instr at) ≡ false = ap (λ (d : Did). is_wide d None (changes_holds own stepped.node)) did ∙ holds in
      let left = rows_left parts parameters s (Instr at) aimed enabled goes_on false (λ none. narrow) rows (row_at rows at.0) fit (fits.in_time ∙ (timely ∙ sym timely_after))
      (record { instr = says.instr ∙ (may ∙ sym instr_after); handle = says.handle ∙ sym handle_after; senders = λ from. refl }) in
      sent_all parts parameters next at.0 rows (subst (λ (p : List (ℕ × Msg) × List Row). RowsFitBut parts parameters next at.0 p.0 p.1) (λ x. (silent x, set-get_or rows at.0 no_row x)) left)

-- an event that is one
module _ (event : Event) (did : Did) (changes : Bool) (turn : IsQuietTurn event did changes) where
  -- it takes no message, sends none, uses no hold and traps not, and what remains to be done stays
  pub takes_none : (traffic : Traffic) → taken_from traffic event ≡ None
  takes_none traffic = ap (taken_from traffic) turn.event_is

  pub takes_off_none : (traffic : Traffic) → traffic ≡ after_taking traffic event
  takes_off_none traffic = sym (ap (after_taking traffic) turn.event_is)

  pub sends_none : (parts : Parts) (parameters : Parameters) (number : ℕ) (node : NodeState) (head : Option Msg) → did ≡ (node_step parts parameters number node event head).did
      → (node_step parts parameters number node event head).sends ≡ []
  sends_none parts parameters number node head so =
      let did_is = ap (λ (e : Event). (node_step parts parameters number node e head).did) (sym turn.event_is) ∙ (sym so ∙ turn.did_is) in
      let stepped = node_step parts parameters number node (Instr turn.at) head in
      ap (λ (e : Event). (node_step parts parameters number node e head).sends) turn.event_is
      ∙ (subst (Alone stepped.sends stepped.node.current) did_is (alone parts parameters number (stamp_of node.clock head) node (running node.slots node.current))).0

  pub uses_none : false ≡ (is_turn did && changes)
  uses_none = sym (λ i. is_turn (turn.did_is i) && turn.stays i)

  pub traps_not : (slots : List Slot) → HasTrapPc slots 0 did
  traps_not slots = subst (HasTrapPc slots 0) (sym turn.did_is) tt

  pub remains_stay : (remains : Remains) → remains ≡ remains_after remains event did
  remains_stay remains = sym (λ i. remains_after remains (turn.event_is i) (turn.did_is i))

  -- which main events may happen stays
  pub quiet_rows : (parts : Parts) (parameters : Parameters) (s : MachineState) (rows : List Row) → IsAimed parts s → IsTrue (may_happen parts parameters s event)
      → did ≡ (stepped_by parts parameters s event).did → changes ≡ changes_holds (node_at s (node_of event)) (stepped_by parts parameters s event).node
      → stamp_at parts s event < parameters.limit → parameters.limit ≤ 1048576 → RowsFit parts parameters s rows → RowsFit parts parameters (step parts parameters s event) rows
  quiet_rows parts parameters s rows aimed may so holds early small fit =
      let stepped_is = ap (stepped_by parts parameters s) turn.event_is in
      let holds_are : changes_holds (node_at s (node_of event)) (stepped_by parts parameters s event).node ≡ changes_holds (node_at s turn.at.0) (stepped_by parts parameters s (Instr turn.at)).node
      = λ i. changes_holds (node_at s (node_of (turn.event_is i))) (stepped_is i).node in
      subst (λ (e : Event). RowsFit parts parameters (step parts parameters s e) rows) (sym turn.event_is)
      (quiet_keeps parts parameters s turn.at turn.slot aimed (subst (λ (e : Event). IsTrue (may_happen parts parameters s e)) turn.event_is may)
      (ap (λ (t : Stepped). t.did) (sym stepped_is) ∙ (sym so ∙ turn.did_is)) (sym holds_are ∙ (sym holds ∙ turn.stays))
      (subst (λ (e : Event). stamp_at parts s e < parameters.limit) turn.event_is early) small rows fit)

  -- and so does the end that holds, where rows fit before and after
  pub quiet_end : (parts : Parts) (parameters : Parameters) (s : MachineState) (rows : List Row) → IsAimed parts s → IsTrue (is_enabled parts parameters s event)
      → did ≡ (stepped_by parts parameters s event).did → RowsFit parts parameters s rows → RowsFit parts parameters (step parts parameters s event) rows
      → end_of parts parameters (step parts parameters s event) ≡ end_of parts parameters s
  quiet_end parts parameters s rows aimed enabled so fit fit_after =
      let next = step parts parameters s event in
      let at = node_of event in
      let stepped = stepped_by parts parameters s event in
      let kept : remains_of next.nodes ≡ remains_of s.nodes = remains_are parts parameters s event aimed.nodes enabled ∙ (ap (remains_after (remains_of s.nodes) event) (sym so) ∙ sym (remains_stay (remains_of s.nodes))) in
      let silent : stepped.sends ≡ [] = sends_none parts parameters at (node_at s at) (taken_by parts s event) so in
      let links : next.links ≡ s.links = λ i. links_sent parts (links_taken parts s.links (turn.event_is i)) at (silent i) in
      let on = goes_on_is parts parameters next rows fit_after ∙ sym (goes_on_is parts parameters s rows fit) in
      λ i. cond (traps_alike s next kept i) (Some machine.Trapped) (cond (halts_alike s next kept i && settles_alike s next kept links i) (Some machine.Halted) (cond (on i) None (Some machine.Limit)))
