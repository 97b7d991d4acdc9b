-- What an event leaves: which events may happen at other nodes, and which deliveries at its own.
use Rattle.std.proofs.Common.{◌≡◌, ◌≢◌, ℕ, ◌+◌, ◌-◌, ◌^◌, ◌<◌, ◌==◌, nat_lt, nat_le, max, Bool, true, false, cond, ◌&&◌, ◌||◌, Option, Some, None, List, [], ◌∷◌, ◌++◌, length, get_or, slice_get, set, IsTrue, refl, sym, ap, subst, ◌∙◌, append-nil, arith}
use Rattle.std.proofs.lemmas.Bool.{true≢false, eq-eqb, ne_eqb, ltb-true, lt-ltb}
use Rattle.std.proofs.lemmas.Bool.Decides.{nat_tests}
use Rattle.std.proofs.lemmas.List.{get_or-set_same, get_or-set_other, length-set}
use Rattle.std.proofs.lemmas.Option.{get_or_from_slice_get}
use Rattle.alw_num.specs.Maps.{passes}
use Rattle.alw_num.specs.NodeSets.{has_node, nodes_of}
use Rattle.alw_num.proofs.Weigh.{is_node}
use Rattle.alw_msg.specs.declared.messages.Msg.{Msg}
use Rattle.alw_msg.specs.declared.events.Event.{Event}
use Rattle.alw_msg.specs.declared.events.Event.TheVariants.{Instr, Handle, Deliver, Evict}
use Rattle.alw_msg.specs.Contents.{content}
use Rattle.alw_msg.specs.Events.{node_of}
use Rattle.alw_msg.specs.Lists.{is_nonempty, front, behind}
use Rattle.alw_image.specs.declared.parts.Parts.{Parts}
use Rattle.alw_image.specs.Images.{node_count}
use Rattle.alw_image.specs.Parameters.{Parameters}
use Rattle.alw_model.specs.Messages.{is_fit}
use Rattle.alw_model.specs.NodeStates.{NodeState, stamp_of, may_deliver}
use Rattle.alw_model.specs.Machine.{MachineState, node_at, no_node, link_at, taken_by, is_enabled, has_halted, stepped_by, step}
use Rattle.alw_model.proofs.Journals.{and_parts, and_is}
use Rattle.law_lines.specs.Links.{msgs_to}
use Rattle.law_lines.proofs.Steps.{enabled_is}
use Rattle.law_order.specs.Orders.{SeesAlike, takes_from}
use Rattle.law_order.proofs.Local.{enabled_alike, stamp_alike, node_kept}
use Rattle.law_order.proofs.LinksAfter.{link_is}
use Rattle.law_order.specs.Aims.{IsAimed}
use Rattle.alw_ready.specs.declared.rows.Row.{Row}
use Rattle.alw_ready.specs.Rows.{instr_at, handle_at, delivery, no_row, row_at}
use Rattle.alw_ready.specs.Fits.{may_happen, is_in_time, RowFitsBut, RowsFit}
use Rattle.alw_ready.specs.declared.changes.Happened.{Happened}
use Rattle.alw_ready.specs.Changes.{is_wide_event, is_fed, is_fed_for, RowIsRenewed, RowsFitBut, EventIsTold}
use Rattle.alw_ready.proofs.Reach.{KeepsReach, event_keeps, reach_kept}
use Rattle.law_order.proofs.Clocks.{stamp_above}

-- ---- a delivery at a node in time

module _ (parts : Parts) (parameters : Parameters) where
  -- the head of the link can be delivered, and its own stamp is within the limit, unless every context has halted
  abbrev is_due : ℕ → ℕ → NodeState → Bool → Option Msg → Bool
  is_due from at node halted head = nat_lt from (node_count parts) && passes (λ msg. may_deliver parts parameters from at node msg && (nat_lt msg.stamp parameters.limit || halted)) head

  on_time : (clock : ℕ) (early fits due halted : Bool) (stamp : ℕ) → (nat_lt clock parameters.limit || halted) ≡ true
      → ((fits && due) && (nat_le (max clock stamp + 1) parameters.limit || halted)) ≡ (fits && (due && (nat_lt stamp parameters.limit || halted)))
  on_time clock early fits due true stamp timely = grind (arith, nat_tests)
  on_time clock early fits due false stamp timely = grind (arith, nat_tests)

  head_due : (clock from at : ℕ) (node : NodeState) (halted : Bool) (head : Option Msg) → (nat_lt clock parameters.limit || halted) ≡ true
      → ((nat_lt from (node_count parts) && passes (may_deliver parts parameters from at node) head) && (nat_le (stamp_of clock head) parameters.limit || halted)) ≡ is_due from at node halted head
  head_due clock from at node halted None timely = none (nat_lt from (node_count parts)) (nat_le (clock + 1) parameters.limit || halted)
    where
      none : (a b : Bool) → ((a && false) && b) ≡ (a && false)
      none true b = refl
      none false b = refl
  head_due clock from at node halted (Some msg) timely = on_time clock true (nat_lt from (node_count parts)) (may_deliver parts parameters from at node msg) halted msg.stamp timely

  may_is_due : (s : MachineState) (from at : ℕ) → at < node_count parts → is_in_time parameters s at ≡ true
      → may_happen parts parameters s (delivery from at) ≡ is_due from at (node_at s at) (has_halted s) (front (link_at parts s from at))
  may_is_due s from at here timely =
      let p = and_parts (nat_lt (node_at s at).clock (2 ^ 32 - 1)) _ timely in
      let head = front (link_at parts s from at) in
      (λ x. (eq-eqb at at refl x && (lt-ltb at (node_count parts) here x && (p.0 x && (nat_lt from (node_count parts) && passes (may_deliver parts parameters from at (node_at s at)) (front (link_at parts s from at))))))
      && (nat_le (stamp_of (node_at s at).clock (front (link_at parts s from at))) parameters.limit || has_halted s))
      ∙ head_due (node_at s at).clock from at (node_at s at) (has_halted s) (front (link_at parts s from at)) p.1

module _ (parts : Parts) (parameters : Parameters) (s : MachineState) (event : Event) (aimed : IsAimed parts s) (enabled : IsTrue (is_enabled parts parameters s event)) (same : has_halted (step parts parameters s event) ≡ has_halted s) where
  abbrev next : MachineState
  next = step parts parameters s event

  abbrev sends : List (ℕ × Msg)
  sends = (stepped_by parts parameters s event).sends

  abbrev n : ℕ
  n = node_of event

  -- a link from which the event takes nothing, and to which its node sends nothing
  link_stays : (from to : ℕ) → to < node_count parts → takes_from event from to ≡ false → is_fed n sends from to ≡ false → link_at parts next from to ≡ link_at parts s from to
  link_stays from to here takes fed =
      link_is parts parameters s aimed event from to here enabled
      ∙ (ap (λ b. cond b (behind (link_at parts s from to)) (link_at parts s from to) ++ cond (from == n) (msgs_to to sends) []) takes
      ∙ (ap (λ (more : List Msg). link_at parts s from to ++ more) (unfed (from == n) (msgs_to to sends) fed) ∙ append-nil (link_at parts s from to)))
    where
      unfed : (b : Bool) (msgs : List Msg) → (b && is_nonempty msgs) ≡ false → cond b msgs [] ≡ []
      unfed false msgs none = refl
      unfed true [] none = refl
      unfed true (msg ∷ rest) none = absurd (true≢false none)

  takes_elsewhere : (e : Event) (from to : ℕ) → to ≢ node_of e → takes_from e from to ≡ false
  takes_elsewhere (Instr at) from to other = refl
  takes_elsewhere (Handle at) from to other = refl
  takes_elsewhere (Evict at emptied) from to other = refl
  takes_elsewhere (Deliver source target) from to other = ap (λ b. from == source.0 && b) (ne_eqb to target.0 other) ∙ go (from == source.0)
    where
      go : (b : Bool) → (b && false) ≡ false
      go true = refl
      go false = refl

  -- ---- other nodes

  taken_stays : (f : Event) → node_of f ≢ n → node_of f < node_count parts → is_fed_for n sends f ≡ false → taken_by parts next f ≡ taken_by parts s f
  taken_stays (Instr at) other here fed = refl
  taken_stays (Handle at) other here fed = refl
  taken_stays (Evict at emptied) other here fed = refl
  taken_stays (Deliver from to) other here fed = ap front (link_stays from.0 to.0 here (takes_elsewhere event from.0 to.0 other) fed)

  pub other_stays : (f : Event) → node_of f ≢ n → node_of f < node_count parts → is_fed_for n sends f ≡ false → may_happen parts parameters next f ≡ may_happen parts parameters s f
  other_stays f other here fed =
      let alike : SeesAlike parts f next s = record { node = node_kept parts parameters s event (stepped_by parts parameters s event) (node_of f) other; taken = taken_stays f other here fed } in
      λ x. enabled_alike parts parameters next s f alike x && (nat_le (stamp_alike parts parameters next s f alike x) parameters.limit || same x)

  pub others_in_time : (m : ℕ) → m ≢ n → is_in_time parameters next m ≡ is_in_time parameters s m
  others_in_time m other =
      let kept = node_kept parts parameters s event (stepped_by parts parameters s event) m other in
      λ x. nat_lt (kept x).clock (2 ^ 32 - 1) && (nat_lt (kept x).clock parameters.limit || same x)

  -- ---- its own node

  node_after : node_at next n ≡ (stepped_by parts parameters s event).node
  node_after =
      let here : n < length s.nodes = rw aimed.nodes (enabled_is parts parameters s event enabled).here in
      get_or-set_same s.nodes n (stepped_by parts parameters s event).node no_node here

  -- its clock only grows
  pub was_in_time : is_in_time parameters next n ≡ true → is_in_time parameters s n ≡ true
  was_in_time timely =
      let later : (node_at next n).clock ≡ stamp_of (node_at s n).clock (taken_by parts s event) = ap (λ (node : NodeState). node.clock) node_after in
      let rises : (node_at s n).clock < (node_at next n).clock = rw later (stamp_above (node_at s n).clock (taken_by parts s event)) in
      let p = and_parts (nat_lt (node_at next n).clock (2 ^ 32 - 1)) _ timely in
      and_is (nat_lt (node_at s n).clock (2 ^ 32 - 1)) (nat_lt (node_at s n).clock parameters.limit || has_halted s)
      (lt-ltb (node_at s n).clock (2 ^ 32 - 1) (omega (arith, ltb-true (node_at next n).clock (2 ^ 32 - 1) p.0)))
      (early (has_halted next) (has_halted s) same rises p.1)
    where
      early : {clock later : ℕ} (a b : Bool) → a ≡ b → clock < later → IsTrue (nat_lt later parameters.limit || a) → IsTrue (nat_lt clock parameters.limit || b)
      early a true is rises timely = or_true _
        where
          or_true : (b : Bool) → (b || true) ≡ true
          or_true true = refl
          or_true false = refl
      early {clock = clock} {later = later} a false is rises timely =
          let below : nat_lt later parameters.limit ≡ true = or_none (nat_lt later parameters.limit) (ap (λ c. nat_lt later parameters.limit || c) (sym is) ∙ timely) in
          rw (lt-ltb clock parameters.limit (omega (arith, ltb-true later parameters.limit below))) refl
        where
          or_none : (b : Bool) → (b || false) ≡ true → b ≡ true
          or_none true is = refl
          or_none false is = is

  module _ (narrow : is_wide_event parts parameters s event ≡ false) where
    reach_stays : KeepsReach parts parameters (node_at s n) (node_at next n)
    reach_stays =
        let k = event_keeps parts parameters n (stamp_of (node_at s n).clock (taken_by parts s event)) (node_at s n) (taken_by parts s event) event (enabled_is parts parameters s event enabled).may_be narrow in
        subst (KeepsReach parts parameters (node_at s n)) (sym node_after) (record { homes = k.homes; held = k.held; guarded = k.guarded })

    pub own_stays : (from : ℕ) → takes_from event from n ≡ false → is_fed n sends from n ≡ false → is_in_time parameters next n ≡ true → may_happen parts parameters next (delivery from n) ≡ may_happen parts parameters s (delivery from n)
    own_stays from takes fed timely =
        let here = (enabled_is parts parameters s event enabled).here in
        let link = link_stays from n here takes fed in
        let reach = reach_kept parts parameters (node_at s n) (node_at next n) reach_stays in
        may_is_due parts parameters next from n here timely
        ∙ ((λ x. nat_lt from (node_count parts) && passes (λ msg. (is_fit parts from n msg && reach msg.line.0 (content msg) x) && (nat_lt msg.stamp parameters.limit || same x)) (front (link x)))
        ∙ sym (may_is_due parts parameters s from n here (was_in_time timely)))

  -- ---- the rows

  other_row : (m : ℕ) → m ≢ n → m < node_count parts → (row : Row) → RowFitsBut parts parameters s m (λ from. false) row → RowFitsBut parts parameters next m (λ from. is_fed n sends from m) row
  other_row m other here row fits = record {
    in_time = fits.in_time ∙ sym (others_in_time m other);
    events = λ timely.
        let says = fits.events timely in
        record {
          instr = says.instr ∙ sym (other_stays (instr_at m) other here refl);
          handle = says.handle ∙ sym (other_stays (handle_at m) other here refl);
          senders = λ from fed. says.senders from refl ∙ sym (other_stays (delivery from m) other here fed);
        };
  }

  own_row : (wide : Bool) → (wide ≡ false → is_wide_event parts parameters s event ≡ false) → (row own : Row) → RowFitsBut parts parameters s n (λ from. false) row
      → own.in_time ≡ is_in_time parameters next n → RowIsRenewed (may_happen parts parameters next) n (λ from. wide || takes_from event from n) row own → RowFitsBut parts parameters next n (λ from. is_fed n sends from n) own
  own_row wide narrow row own fits timely renewed = record {
    in_time = timely;
    events = λ is. record {
      instr = renewed.instr;
      handle = renewed.handle;
      senders = λ from fed. go (sym timely ∙ is) from fed (wide || takes_from event from n) refl;
    };
  }
    where
      both : (a b : Bool) → (a || b) ≡ false → (a ≡ false) × (b ≡ false)
      both true b none = absurd (true≢false none)
      both false b none = (refl, none)

      looked : (from : ℕ) (b : Bool) → (wide || takes_from event from n) ≡ b → has_node (nodes_of own.senders) from ≡ cond b (may_happen parts parameters next (delivery from n)) (has_node (nodes_of row.senders) from)
      looked from b is = renewed.senders from ∙ ap (λ again. cond again (may_happen parts parameters next (delivery from n)) (has_node (nodes_of row.senders) from)) is

      go : is_in_time parameters next n ≡ true → (from : ℕ) → is_fed n sends from n ≡ false → (b : Bool) → (wide || takes_from event from n) ≡ b → has_node (nodes_of own.senders) from ≡ may_happen parts parameters next (delivery from n)
      go early from fed true is = looked from true is
      go early from fed false is =
          let p = both wide (takes_from event from n) is in
          looked from false is ∙ ((fits.events (fits.in_time ∙ was_in_time early)).senders from refl ∙ sym (own_stays (narrow p.0) from p.1 fed early))

  -- with the row of the event's node renewed all rows fit, but for deliveries of what was sent
  pub rows_left : (wide : Bool) → (wide ≡ false → is_wide_event parts parameters s event ≡ false) → (rows : List Row) (own : Row) → RowsFit parts parameters s rows
      → own.in_time ≡ is_in_time parameters next n → RowIsRenewed (may_happen parts parameters next) n (λ from. wide || takes_from event from n) (row_at rows n) own → RowsFitBut parts parameters next n sends (set rows n own)
  rows_left wide narrow rows own fit timely renewed = record {
    counted = length-set rows n own ∙ fit.counted;
    each = λ m here. is_node _ m n
        (λ same_node. at_own m same_node)
        (λ other. subst (RowFitsBut parts parameters next m (λ from. is_fed n sends from m)) (sym (get_or-set_other rows n m own no_row other)) (other_row m other here (row_at rows m) (fit.each m here)));
  }
    where
      here : n < node_count parts
      here = (enabled_is parts parameters s event enabled).here

      at_own : (m : ℕ) → m ≡ n → RowFitsBut parts parameters next m (λ from. is_fed n sends from m) (row_at (set rows n own) m)
      at_own m is =
          let P : ℕ → Type 0 = λ k. RowFitsBut parts parameters next k (λ from. is_fed n sends from k) (row_at (set rows n own) k) in
          let fits : n < length rows = rw fit.counted here in
          subst P (sym is) (subst (RowFitsBut parts parameters next n (λ from. is_fed n sends from n)) (sym (get_or-set_same rows n own no_row fits)) (own_row wide narrow (row_at rows n) own (fit.each n here) timely renewed))

-- the same by what is told of an event
pub told_left : (parts : Parts) (parameters : Parameters) (before after : MachineState) (happened : Happened) (told_sends : List (ℕ × Msg)) (rows next : List Row) (node : ℕ) (row own : Row) → IsAimed parts before
    → EventIsTold parts parameters before after happened told_sends → happened.halted ≡ false → RowsFit parts parameters before rows → node ≡ node_of happened.event → slice_get rows node ≡ Some row → next ≡ set rows node own
    → own.in_time ≡ is_in_time parameters after (node_of happened.event) → RowIsRenewed (may_happen parts parameters after) (node_of happened.event) (λ from. happened.wide || takes_from happened.event from (node_of happened.event)) row own
    → RowsFitBut parts parameters after node told_sends next
told_left parts parameters before after happened told_sends rows next node row own aimed told going fit node_is read next_is timely renewed =
    let row_is : row_at rows (node_of happened.event) ≡ row = rw (← node_is) (get_or_from_slice_get rows node row no_row read) in
    let same = rw told.after_is at (told.goes_on going) in
    let early = rw told.after_is at timely in
    let fresh = rw (told.after_is, ← row_is) at renewed in
    rw (next_is, node_is, told.sends_are, told.after_is) (rows_left parts parameters before happened.event aimed told.enabled same happened.wide told.narrow rows own fit early fresh)
