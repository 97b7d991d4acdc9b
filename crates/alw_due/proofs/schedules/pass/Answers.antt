-- Where no context halts with it, the event leaves the other nodes, but for deliveries of what it sent.
use Rattle.std.proofs.Common.{sym, subst}
use Rattle.alw_image.specs.Images.{node_count}
use Rattle.law_lines.specs.Links.{GoBelow}
use Rattle.alw_mesh.specs.Histories.{History, last_sends}
use Rattle.alw_due.proofs.Left.{goes_below, left_after}
use Rattle.alw_timing.proofs.Keeping.{few_times}
use Rattle.alw_due.proofs.schedules.pass.Goals as goal

pub renew_touched-requires-clause-but : goal.renew_touched-requires-clause-but
renew_touched-requires-clause-but c =
    left_after c.args.machine.now c.args.keeper.now c.args.event c.take.new.machine c.take.new.self
    c.node.result.0 c.args.bests.now c.in_ok-halts.halts c.journal-before.ensures.run c.requires.may c.requires.kept c.requires.bests
    c.in_ok-halts.ensures.machine (c.in_ok-halts.ensures.kept c.args.keeper.now c.requires.kept) c.node.ensures c.if-halts.false c.in_ok-halts.ensures.halts

pub renew_touched-requires-clause-within : goal.renew_touched-requires-clause-within
renew_touched-requires-clause-within c =
    few_times c.args.keeper.now c.take.new.machine c.take.new.self c.journal-after.ensures.run (c.in_ok-halts.ensures.kept c.args.keeper.now c.requires.kept)

pub renew_all-requires-clause-within : goal.renew_all-requires-clause-within
renew_all-requires-clause-within c =
    few_times c.args.keeper.now c.take.new.machine c.take.new.self c.journal-after.ensures.run (c.in_ok-halts.ensures.kept c.args.keeper.now c.requires.kept)

pub renew_touched-requires-clause-sends : goal.renew_touched-requires-clause-sends
renew_touched-requires-clause-sends c =
    subst (λ (h : History). GoBelow (node_count h.image) (last_sends h)) (sym c.in_ok-halts.ensures.machine)
    (goes_below c.args.machine.now c.args.keeper.now.costs c.args.event c.journal-before.ensures.run c.requires.may)
