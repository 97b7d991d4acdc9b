use Rattle.std.proofs.Common.{[], ◌∷◌, ◌++◌, sym, subst, ap, ◌∙◌, arith}
use Rattle.alw_model.specs.Threads.{Logged}
use Rattle.alw_cells.specs.Logs.{Written}
use Rattle.alw_cells.specs.Records.{IsRecord, StampsAreBelow}
use Rattle.alw_cells.proofs.Unpacking.{packed_more, read_more}
use Rattle.alw_cells.proofs.logs.Log.push.Goals as goal

pub invariant_of-self : goal.invariant_of-self
invariant_of-self c =
    let one : Logged = record { entry = c.args.entry; taken = c.args.taken; sent = c.args.sent.now.messages } in
    let is : IsRecord c.self.inside.node.0 one = subst (λ (w : Written). IsRecord w.number one) (sym c.self.view_is) c.requires.record in
    let room = ap (λ (w : Written). w.room) c.self.view_is in
    packed_more c.self.inside.node.0 c.self.inside.events c.self.inside.bytes.items c.put_record.new.bytes.items c.self.inside.room _ _ one c.self.invariant is
    c.put_record.ensures.fits c.put_record.ensures.items
    (subst (λ (w : Written). StampsAreBelow c.args.entry.stamp w.entries) (sym c.self.view_is) c.requires.stamp) (omega (arith, room, c.requires.room))
    (omega (
      arith,
      room,
      c.requires.room,
      c.self.invariant.place,
      c.put_record.ensures.len,
      c.put_record.ensures.room,
    ))

pub returns : goal.returns
returns c =
    let one : Logged = record { entry = c.args.entry; taken = c.args.taken; sent = c.args.sent.now.messages } in
    let is : IsRecord c.self.inside.node.0 one = subst (λ (w : Written). IsRecord w.number one) (sym c.self.view_is) c.requires.record in
    let read = read_more c.self.inside.node.0 c.self.inside.events c.self.inside.bytes.items c.self.invariant.packed c.self.invariant.records one
    c.put_record.new.bytes.items is c.put_record.ensures.fits c.put_record.ensures.items in
    λ x. record { number = (c.self.view_is x).number; entries = (read ∙ ap (λ (w : Written). w.entries ++ one ∷ []) c.self.view_is) x; room = 0 }
