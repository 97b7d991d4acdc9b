-- What is left of one node more.
use Rattle.std.proofs.Common.{◌≡◌, ◌-◌, length, take, drop, ◌∙◌, arith}
use Rattle.std.proofs.lemmas.List.{length-drop, take_all}
use Rattle.alw_model.specs.Threads.{log_at}
use Rattle.alw_merge.proofs.Behind.{rests_more, rests_end}
use Rattle.alw_merge.proofs.spans.rests_of.Goals as goal

pub loop-n-preserved : goal.loop-n-preserved
loop-n-preserved c =
    let logs = c.args.events.now in
    let n = c.loop-n.n in
    let all = c.members-all.result.now in
    let own = c.at_ref.result.now in
    let at = length all - c.left.result in
    let rest : take (length all - at) (drop at all) ≡ drop (length own - length (log_at logs n)) own =
    take_all (length all - at) (drop at all) (omega (arith, length-drop at all)) ∙ (λ x. drop (length (c.members-all.ensures x) - c.left.ensures x) (c.members-all.ensures x)) in
    c.in_ok-push.ensures.items
    ∙ rests_more logs c.args.dids.now c.loop-n.rests.items n own _ c.requires.as_many (omega (arith, c.loop-n-test.true, c.len-n-end.ensures)) c.at_ref.ensures c.loop-n.invariant rest

pub returns : goal.returns
returns c = rests_end c.args.events.now c.args.dids.now c.loop-n.rests.items c.loop-n.n c.requires.as_many (omega (arith, c.loop-n-test.false, c.len-n-end.ensures)) c.loop-n.invariant
