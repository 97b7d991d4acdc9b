use Rattle.std.proofs.Common.{List, ℕ, true, sym, subst}
use Rattle.alw_cli.specs.Streams.{stream_of, IsRead}
use Rattle.alw_threads.specs.Working.{work_task}
use Rattle.alw_cli.proofs.Answering.{put}
use Rattle.alw_cli.proofs.top.carry_out_by.Goals as goal

pub returns-clause-answered : goal.returns-clause-answered
returns-clause-answered g c =
    let work = c.args.work.now in
    let before = stream_of (g.S.Source.left c.args.input.now) (g.S.Source.faults c.args.input.now) in
    let after = stream_of (g.S.Source.left c.bytes_for.new.input) (g.S.Source.faults c.bytes_for.new.input) in
    let still = stream_of (g.K.Sink.held c.args.out.now) (g.K.Sink.faults c.args.out.now) in
    let gained = stream_of (g.K.Sink.held c.write_made.new.out) (g.K.Sink.faults c.write_made.new.out) in
    put (work_task work.workers work.params work.write) before after still gained c.bytes-2.result.now
    (subst (λ (bs : List ℕ). IsRead true before after bs) (sym c.bytes-2.ensures) c.in-Ok.ensures.hands)
    c.work_bytes-made.result c.work_bytes-made.ensures c.write_made.result.cause c.write_made.result.journal c.write_made.result.merged c.write_made.ensures.puts
