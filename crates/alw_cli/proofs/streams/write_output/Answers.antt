use Rattle.std.proofs.Common.{List, ℕ, subst, inl, inr, ◌∙◌}
use Rattle.alw_cli.specs.Streams.{stream_of, Gained, GainedPart}
use Rattle.alw_cli.proofs.streams.write_output.Goals as goal
use Rattle.alw_cli.proofs.streams.write_output.Goals.{in-Ok, in-Err}

pub returns-clause-writes : goal.returns-clause-writes
returns-clause-writes g c =
    let before = stream_of (g.K.Sink.held c.args.out.now) (g.K.Sink.faults c.args.out.now) in
    let after = stream_of (g.K.Sink.held c.write_whole.new.sink) (g.K.Sink.faults c.write_whole.new.sink) in
    rw c.after.ensures.cause (elim c.match-write_whole.branch [
      | in-Ok w ↦
          inl (w.cause-is ∙ c.cause_of-whole.ensures, subst (λ (text : List ℕ). Gained before after text) c.bytes.ensures w.in-Ok.ensures.ok)
      | in-Err w ↦
          inr (w.cause-is, subst (λ (text : List ℕ). GainedPart before after text) c.bytes.ensures (w.in-Err.ensures.err, w.in-Err.ensures.cause.failed))
    ])
