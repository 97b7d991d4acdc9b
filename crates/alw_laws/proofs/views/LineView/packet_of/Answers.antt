-- The packet is the node's, and is about the line.
use Rattle.std.proofs.Common.{[], sym, ◌∙◌, rules}
use Rattle.alw_laws.proofs.Links.{packet_said}
use Rattle.alw_laws.proofs.views.LineView.packet_of.Goals as goal

pub returns-then-eq-2-clause-up : goal.returns-then-eq-2-clause-up
returns-then-eq-2-clause-up c =
    let said = packet_said c.args.self.now.line.0 c.args.number.0 c.in-Some.packet (sym c.eq.ensures ∙ c.if-eq.true) (sym c.eq-2.ensures ∙ c.if-eq-2.true) in
    rw (c.in-Some.is, said) (c.gains.ensures.sums [] (search rules))
