use Rattle.std.proofs.Common.{◌≡◌, true, false, Ok, length, sym, subst, ap, ◌∙◌, arith}
use Rattle.alw_num.specs.Rooms.{Roomed}
use Rattle.alw_msg.specs.Sending.{Sending}
use Rattle.alw_model.specs.declared.steps.Did.{Did}
use Rattle.alw_msg.specs.Events.{is_evict}
use Rattle.alw_model.specs.NodeStates.{node_start}
use Rattle.alw_cells.specs.Logs.{Written}
use Rattle.alw_cells.specs.Cells.{Cell}
use Rattle.alw_cells.specs.Choice.{may_happen, Happens}
use Rattle.alw_cells.specs.declared.cells.Stepped.TheVariants as result
use Rattle.alw_cells.proofs.Runs.{dids_length}
use Rattle.alw_node.specs.Nodes.{Whole}
use Rattle.alw_cells.proofs.Moves.{kept, happens}
use Rattle.alw_cells.proofs.Filing.{filed, rises}
use Rattle.alw_cells.proofs.cells.NodeCell.happen.Goals as goal

pub push-requires-clause-room : goal.push-requires-clause-room
push-requires-clause-room c =
    let same = ap (λ (s : Sending). s.room) c.local-did.ensures.sends in
    let places = ap (λ (w : Written). w.room) c.in_ok-reserve.ensures.ok in
    omega (arith, same, places, c.self.invariant.kept.room, c.self.invariant.kept.replayed.ins)

pub append-requires : goal.append-requires
append-requires c =
    let same = ap (λ (s : Sending). s.room) c.local-did.ensures.sends in
    omega (arith, same, c.self.invariant.kept.room, c.self.invariant.kept.replayed.ins, c.in_ok-reserve-2.ensures.ok)

pub invariant_of-self-2 : goal.invariant_of-self-2
invariant_of-self-2 c =
    let v : Cell = record {
      node = c.self.inside.node;
      log = c.self.inside.log.entries;
      come = c.self.inside.come.items;
      pending =
          c.self.inside.pending.items;
      dids = c.self.inside.dids.list;
    } in
    record {
      kept = kept v c.args.event c.take-taken.result c.self.inside.sent c.local-did.new.sent c.local-did.new.self c.local-did.result c.clock.result
          c.reserve.new.self.entries c.push.new.self.entries c.take-taken.new.come.items
          c.reserve-2.new.self.items c.append.new.pending.items c.reserve-3.new.self.list c.push-2.new.self.list c.take-taken.ensures.message
          (rw c.as_ref.ensures.value at c.local-did.ensures) c.clock.ensures (ap (λ (w : Written). w.entries) c.in_ok-reserve.ensures.ok)
          (ap (λ (w : Written). w.entries) c.push.ensures) c.take-taken.ensures.left c.reserve-2.ensures.items c.append.ensures
          (ap (λ (r : Roomed Did). r.list) c.in_ok-reserve-3.ensures.ok)
          (ap (λ (r : Roomed Did). r.list) c.push-2.ensures) c.self.inside.senders c.take-taken.new.senders c.self.invariant.kept
          (subst (λ (cell : Cell). may_happen cell c.args.event ≡ true) (sym c.self.view_is) c.requires.may)
          (subst (λ (cell : Cell). cell.node.parameters.evict ≡ 0 → is_evict c.args.event ≡ false) (sym c.self.view_is) c.requires.evicts)
          c.take-taken.ensures.senders;
      own = ap (λ (w : Written). w.number) c.push.ensures ∙ (ap (λ (w : Written). w.number) c.in_ok-reserve.ensures.ok
          ∙ (c.self.invariant.own ∙ sym (ap (λ (w : Whole). w.number) c.local-did.ensures.node)));
    }

pub returns : goal.returns
returns c =
    let v : Cell = record {
      node = c.self.inside.node;
      log = c.self.inside.log.entries;
      come = c.self.inside.come.items;
      pending =
          c.self.inside.pending.items;
      dids = c.self.inside.dids.list;
    } in
    subst (λ (cell : Cell). Happens cell c.args.event
    (record {
      node = c.local-did.new.self;
      log = c.push.new.self.entries;
      come = c.take-taken.new.come.items;
      pending = c.append.new.pending.items;
      dids =
          c.push-2.new.self.list;
    })
    (Ok (result.Did (record { stamp = c.clock.result; event = c.args.event }) c.local-did.result))) c.self.view_is
    (happens v c.args.event c.take-taken.result c.self.inside.sent c.local-did.new.sent c.local-did.new.self c.local-did.result c.clock.result
    c.reserve.new.self.entries c.push.new.self.entries c.take-taken.new.come.items
    c.reserve-2.new.self.items c.append.new.pending.items c.reserve-3.new.self.list c.push-2.new.self.list c.take-taken.ensures.message (rw c.as_ref.ensures.value at c.local-did.ensures)
    c.clock.ensures (ap (λ (w : Written). w.entries) c.in_ok-reserve.ensures.ok)
    (ap (λ (w : Written). w.entries) c.push.ensures) c.take-taken.ensures.left c.reserve-2.ensures.items c.append.ensures
    (ap (λ (r : Roomed Did). r.list) c.in_ok-reserve-3.ensures.ok) (ap (λ (r : Roomed Did). r.list) c.push-2.ensures))

pub reserve-requires-3 : goal.reserve-requires-3
reserve-requires-3 c =
    let node = c.self.inside.node in
    omega (
      arith,
      c.in_ok-reserve.ensures.few,
      ap length c.self.invariant.kept.replayed.answers,
      dids_length node.parts node.parameters node.number
          (node_start node.parts node.number) c.self.inside.log.entries,
    )

pub push-requires-clause-record : goal.push-requires-clause-record
push-requires-clause-record c =
    let v : Cell = record {
      node = c.self.inside.node;
      log = c.self.inside.log.entries;
      come = c.self.inside.come.items;
      pending =
          c.self.inside.pending.items;
      dids = c.self.inside.dids.list;
    } in
    let same = ap (λ (s : Sending). s.room) c.local-did.ensures.sends in
    filed v c.args.event c.take-taken.result c.self.inside.sent c.local-did.new.sent c.local-did.new.self c.local-did.result c.clock.result
    c.reserve.new.self.number
    (subst (λ (cell : Cell). may_happen cell c.args.event ≡ true) (sym c.self.view_is) c.requires.may) c.take-taken.ensures.message c.take-taken.ensures.plain
    (rw c.as_ref.ensures.value at c.local-did.ensures) c.clock.ensures
    (ap (λ (w : Written). w.number) c.in_ok-reserve.ensures.ok ∙ c.self.invariant.own)
    (omega (arith, same, c.free-fits.ensures.left, c.self.invariant.kept.room, c.self.invariant.kept.few, c.self.invariant.kept.replayed.ins))

pub push-requires-clause-stamp : goal.push-requires-clause-stamp
push-requires-clause-stamp c =
    let v : Cell = record {
      node = c.self.inside.node;
      log = c.self.inside.log.entries;
      come = c.self.inside.come.items;
      pending =
          c.self.inside.pending.items;
      dids = c.self.inside.dids.list;
    } in
    rises v c.args.event c.take-taken.result c.self.inside.sent c.local-did.new.sent c.local-did.new.self c.local-did.result c.clock.result
    c.reserve.new.self.entries
    c.self.invariant.kept.replayed (ap (λ (w : Written). w.entries) c.in_ok-reserve.ensures.ok) (rw c.as_ref.ensures.value at c.local-did.ensures) c.clock.ensures
