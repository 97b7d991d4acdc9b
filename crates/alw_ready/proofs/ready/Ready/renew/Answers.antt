use Rattle.std.proofs.Common.{refl}
use Rattle.std.proofs.lemmas.Option.{slice_get-get_or}
use Rattle.alw_msg.specs.Events.{node_of}
use Rattle.alw_model.specs.Machine.{state}
use Rattle.law_order.proofs.Reached.{state_aimed}
use Rattle.alw_ready.specs.Rows.{no_row, row_at}
use Rattle.alw_ready.proofs.Leaves.{told_left}
use Rattle.alw_ready.proofs.ready.Ready.renew.Goals as goal

pub returns : goal.returns
returns g c =
    let v = c.args.view.now in
    let n = node_of c.args.happened.now.event in
    let own = c.renew_own.ensures in
    λ journal legal told fit. c.renew_sent.ensures (rw c.node.ensures (told_left (g.V.View.image v) (g.V.View.parameters v) (state (g.V.View.image v) (g.V.View.parameters v) journal) (g.V.View.state v) c.args.happened.now c.args.sends.now.messages
    c.args.self.now c.renew_own.new.self n (row_at c.args.self.now n) own.own (state_aimed (g.V.View.image v) (g.V.View.parameters v) journal legal) told c.if-happened.false fit refl (slice_get-get_or c.args.self.now n no_row c.requires.here)
    own.rows_are own.in_time own.renewed))
