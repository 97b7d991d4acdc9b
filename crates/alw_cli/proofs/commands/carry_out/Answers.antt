use Rattle.std.proofs.Common.{Bool, List, ℕ, sym, subst}
use Rattle.alw_cli.specs.Answers.{task_of}
use Rattle.alw_cli.specs.Streams.{stream_of, IsRead}
use Rattle.alw_cli.proofs.Answering.{put}
use Rattle.alw_cli.proofs.commands.carry_out.Goals as goal

pub returns-clause-answered : goal.returns-clause-answered
returns-clause-answered g c =
    let task = task_of c.args.command in
    let before = stream_of (g.S.Source.left c.args.input.now) (g.S.Source.faults c.args.input.now) in
    let after = stream_of (g.S.Source.left c.bytes_for.new.input) (g.S.Source.faults c.bytes_for.new.input) in
    let still = stream_of (g.K.Sink.held c.args.out.now) (g.K.Sink.faults c.args.out.now) in
    let gained = stream_of (g.K.Sink.held c.write_made.new.out) (g.K.Sink.faults c.write_made.new.out) in
    put task before after still gained c.bytes-2.result.now
    (subst (λ (bs : List ℕ). IsRead task.reads before after bs) (sym c.bytes-2.ensures)
    (subst (λ (reads : Bool). IsRead reads before after c.in-Ok.bytes) c.reads.ensures c.in-Ok.ensures.hands))
    c.make.result c.make.ensures c.write_made.result.cause c.write_made.result.journal c.write_made.result.merged c.write_made.ensures.puts
