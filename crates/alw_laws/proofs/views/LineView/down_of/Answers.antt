-- Each message of the link is accounted for in its turn.
use Rattle.std.proofs.Common.{[], sym, ◌∙◌, arith}
use Rattle.alw_msg.specs.Contents.{reply_in}
use Rattle.alw_laws.specs.Traffic.{IsTrafficDown}
use Rattle.alw_laws.specs.Views.{node_in}
use Rattle.alw_laws.proofs.Links.{goes_on, stays, ends}
use Rattle.alw_laws.proofs.views.LineView.down_of.Goals as goal
use Rattle.alw_laws.proofs.views.LineView.down_of.Goals.{then-is_on, else-is_on}

pub loop-place-preserved : goal.loop-place-preserved
loop-place-preserved c =
    let view = c.args.self.now in
    let sent = c.at_ref-sent.ensures in
    elim c.if-is_on.branch [
      | then-is_on w ↦
          let said = w.gains.ensures.sums _ c.loop-place.invariant.0 in
          let on = sym c.is_on.ensures ∙ w.if-is_on.true in
          let next = goes_on reply_in view.line.0 view.at.0 c.args.number.0 view.links c.loop-place.place _ sent (IsTrafficDown w.gains.new.self) [] on said in
          rw w.down-is (next, omega arith)
      | else-is_on w ↦
          let off = sym c.is_on.ensures ∙ w.if-is_on.false in
          let said = c.loop-place.invariant.0 in
          let next = stays reply_in view.line.0 view.at.0 c.args.number.0 view.links c.loop-place.place _ sent (IsTrafficDown c.loop-place.down) [] off said in
          rw w.down-is (next, omega arith)
    ]

pub returns-clause-down : goal.returns-clause-down
unfolding node_in
returns-clause-down c =
    let view = c.args.self.now in
    ends reply_in view.line.0 view.at.0 c.args.number.0 view.links c.loop-place.place (IsTrafficDown c.loop-place.down) [] (omega arith) c.loop-place.invariant.0
