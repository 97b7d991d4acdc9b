-- One move more goes over the links.
use Rattle.std.proofs.Common.{drop, ap, ◌∙◌}
use Rattle.alw_links.specs.Traffic.{Traffic}
use Rattle.alw_merge.specs.Spans.{links_moved}
use Rattle.alw_merge.proofs.Moving.{no_move, move_within, takes_on, sends_on}
use Rattle.alw_merge.proofs.walks.carry.Goals.{in-None, in-Some+in_ok-reserve-in-Some}
use Rattle.alw_merge.proofs.walks.carry.Goals as goal

pub take-taken-requires-clause-from : goal.take-taken-requires-clause-from
take-taken-requires-clause-from c = rw c.loop-i.invariant.nodes (move_within c.args.links.now.nodes c.args.moves.now c.loop-i.i no_move c.requires c.loop-i-test.true).0

pub take-taken-requires-clause-to : goal.take-taken-requires-clause-to
take-taken-requires-clause-to c = rw c.loop-i.invariant.nodes (move_within c.args.links.now.nodes c.args.moves.now c.loop-i.i no_move c.requires c.loop-i-test.true).1

pub send-requires-clause-from : goal.send-requires-clause-from
send-requires-clause-from c =
    rw (ap (λ (t : Traffic). t.nodes) c.in_ok-reserve-in-Some.ensures.ok ∙ c.loop-i.invariant.nodes)
    (move_within c.args.links.now.nodes c.args.moves.now c.loop-i.i no_move c.requires c.loop-i-test.true).0

pub send-requires-clause-to : goal.send-requires-clause-to
send-requires-clause-to c =
    rw (ap (λ (t : Traffic). t.nodes) c.in_ok-reserve-in-Some.ensures.ok ∙ c.loop-i.invariant.nodes)
    (move_within c.args.links.now.nodes c.args.moves.now c.loop-i.i no_move c.requires c.loop-i-test.true).1

pub loop-i-preserved : goal.loop-i-preserved
loop-i-preserved c = elim c.match-sent.branch [
  | in-None w ↦
      let is = w.links-is ∙ w.take-taken.ensures.links in
      record {
        nodes = ap (λ (t : Traffic). t.nodes) is ∙ c.loop-i.invariant.nodes;
        links = takes_on c.args.links.now.nodes c.loop-i.links c.match-sent.links c.args.moves.now c.loop-i.i c.loop-i.invariant.nodes c.loop-i-test.true w.in-None.is is ∙ c.loop-i.invariant.links;
      }
  | in-Some+in_ok-reserve-in-Some w ↦
      let is = w.links-is ∙ w.send.ensures in
      let room = w.in_ok-reserve-in-Some.ensures.ok in
      let nodes = ap (λ (t : Traffic). t.nodes) room ∙ c.loop-i.invariant.nodes in
      record {
        nodes = ap (λ (t : Traffic). t.nodes) is ∙ nodes;
        links = sends_on c.args.links.now.nodes w.reserve.new.self c.match-sent.links c.args.moves.now c.loop-i.i nodes c.loop-i-test.true w.in-Some.msg w.in-Some.is is
            ∙ (ap (λ (t : Traffic). links_moved c.args.links.now.nodes t.links (drop c.loop-i.i c.args.moves.now)) room ∙ c.loop-i.invariant.links);
      }
]
