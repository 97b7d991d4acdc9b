use Rattle.alw_config.specs.declared.commands.Asked.TheVariants.{Workers}
use Rattle.alw_cli.specs.Streams.{stream_of}
use Rattle.alw_cli.proofs.Answering.{answers_to}
use Rattle.alw_cli.proofs.Completing.{completes}
use Rattle.alw_cli.proofs.Headlines.{headline}
use Rattle.alw_cli.proofs.top.alewife_by_workers.Goals as goal

pub returns-clause-answers : goal.returns-clause-answers
returns-clause-answers g c = λ words asked.
    let done = c.carry_out_by-done.result in
    answers_to words (Workers c.args.work.now) asked
    (stream_of (g.S.Source.left c.args.input.now) (g.S.Source.faults c.args.input.now)) (stream_of (g.S.Source.left c.carry_out_by-done.new.input) (g.S.Source.faults c.carry_out_by-done.new.input))
    (stream_of (g.K.Sink.held c.args.out.now) (g.K.Sink.faults c.args.out.now)) (stream_of (g.K.Sink.held c.carry_out_by-done.new.out) (g.K.Sink.faults c.carry_out_by-done.new.out)) done.cause done.journal done.merged
    c.carry_out_by-done.ensures.answered

pub returns-clause-headline : goal.returns-clause-headline
returns-clause-headline g c = λ words asked.
    let done = c.carry_out_by-done.result in
    headline words _ _ _ _ done.cause done.journal done.merged (returns-clause-answers g c words asked)

pub returns-clause-complete : goal.returns-clause-complete
returns-clause-complete g c = λ words asked.
    let done = c.carry_out_by-done.result in
    completes words _ _ _ _ done.cause done.journal done.merged (returns-clause-answers g c words asked)
