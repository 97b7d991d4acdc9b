-- The events of a node by its row: the handler, deliveries and an instruction.
use Rattle.std.proofs.Common.{◌≡◌, ℕ, true, false, Option, None, ◌⊎◌, inl, inr, refl, sym, ap, ◌∙◌}
use Rattle.alw_num.specs.NodeSets.{Nodes, no_nodes, has_node, nodes_of}
use Rattle.alw_num.proofs.Sets.{has-none}
use Rattle.alw_msg.specs.declared.events.Event.{Event}
use Rattle.alw_msg.specs.declared.events.Event.TheVariants.{Instr, Handle, Deliver, Evict}
use Rattle.alw_msg.specs.Events.{node_of, is_evict}
use Rattle.alw_ready.specs.declared.rows.Row.{Row}
use Rattle.alw_ready.specs.Rows.{instr_at, handle_at, delivery}
use Rattle.alw_ready.specs.Fits.{is_in_time, RowFits}
use Rattle.alw_ready.proofs.MainEvents.{may_in_time}
use Rattle.alw_mesh.specs.Histories.{History, state_of, may_be_next}
use Rattle.alw_times.specs.declared.costs.Costs.{Costs}
use Rattle.alw_times.specs.Times.{Times}
use Rattle.alw_due.specs.declared.keys.Due.{Due}
use Rattle.alw_due.specs.Picks.{earlier, IsBestOf}
use Rattle.alw_due.specs.Bests.{IsOf, IsEvent, IsDeliveryTo}
use Rattle.alw_due.proofs.Best.{of_none, of_both, none_may}
use Rattle.alw_due.proofs.Deliveries.{no_delivery}

module _ (h : History) (costs : Costs) (times : Times) (n : ℕ) where
  -- a node that isn't in time has none
  pub none_in_time : (row : Row) → RowFits h.image h.parameters (state_of h) n row → row.in_time ≡ false → IsBestOf h costs times (IsOf h n) None
  none_in_time row fits late = of_none h costs times (IsOf h n) (λ other of.
      let timely : is_in_time h.parameters (state_of h) n ≡ true = ap (is_in_time h.parameters (state_of h)) (sym of.2) ∙ may_in_time h.image h.parameters (state_of h) other of.0 in
      let isnt = sym fits.in_time ∙ late in absurd (cc))

  -- ---- three kinds

  abbrev IsHandlerOrDelivery : Event → Type 0
  IsHandlerOrDelivery event = IsEvent h (handle_at n) event ⊎ IsDeliveryTo h n event

  by_kind : (event : Event) → IsOf h n event → IsHandlerOrDelivery event ⊎ IsEvent h (instr_at n) event
  by_kind (Instr at) of = let same = of.2 in inr (λ i. instr_at (same i), of.0)
  by_kind (Handle at) of = let same = of.2 in inl (inl (λ i. handle_at (same i), of.0))
  by_kind (Deliver from to) of = let same = of.2 in inl (inr (record { from = from.0; event_is = λ i. delivery from.0 (same i); may = of.0 }))
  by_kind (Evict at set) of = absurd (cc)

  -- an event of the node that isn't an eviction
  is_of : (one event : Event) → is_evict one ≡ false → node_of one ≡ n → event ≡ one → may_be_next h event ≡ true → IsOf h n event
  is_of one event main node same may = (may, ap is_evict same ∙ main, ap node_of same ∙ node)

  of_two : (event : Event) → IsHandlerOrDelivery event → IsOf h n event
  of_two event (inl one) = is_of (handle_at n) event refl refl one.0 one.1
  of_two event (inr one) = is_of (delivery one.from n) event refl refl one.event_is one.may

  pub of_all : (handler taken instr : Option Due) → IsBestOf h costs times (IsEvent h (handle_at n)) handler → IsBestOf h costs times (IsDeliveryTo h n) taken →
      IsBestOf h costs times (IsEvent h (instr_at n)) instr → IsBestOf h costs times (IsOf h n) (earlier (earlier handler taken) instr)
  of_all handler taken instr a b c =
      let two = of_both h costs times (IsEvent h (handle_at n)) (IsDeliveryTo h n) IsHandlerOrDelivery handler taken (λ e of. (of_two e of).1) (λ e of. inl of) (λ e of. inr of) (λ e of. of) a b in
      of_both h costs times IsHandlerOrDelivery (IsEvent h (instr_at n)) (IsOf h n) (earlier handler taken) instr (λ e of. of.1) of_two
      (λ e of. is_of (instr_at n) e refl refl of.0 of.1) by_kind two c

  -- where no packet waits and no message, it is an instruction or none
  pub instr_alone : (row : Row) (instr : Option Due) → RowFits h.image h.parameters (state_of h) n row → row.in_time ≡ true → row.handle ≡ false → nodes_of row.senders ≡ no_nodes →
      IsBestOf h costs times (IsEvent h (instr_at n)) instr → IsBestOf h costs times (IsOf h n) instr
  instr_alone row instr fits timely idle silent best =
      let says = fits.events timely in
      let handler = none_may h costs times (handle_at n) (sym says.handle ∙ idle) in
      let taken = no_delivery h costs times n (nodes_of row.senders) (λ from. says.senders from refl) (λ from. ap (λ (P : Nodes). has_node P from) silent ∙ has-none from) in
      of_all None None instr handler taken best
