-- What was given out, or nothing, is behind what was given to the end.
use Rattle.std.proofs.Common.{sym, ◌∙◌}
use Rattle.alw_work.proofs.Tying.{offers_empty, offers_one}
use Rattle.alw_work.proofs.moves.offer_to.Goals as goal

pub returns-in-Some : goal.returns-in-Some
returns-in-Some g c = rw c.give_out.ensures.left
    (offers_one c.args.to.0 c.args.cell.now c.args.out.now c.flush.new.self c.send.new.self c.in-Some.msg c.flush.ensures.link c.flush.ensures.given
    (c.flush.ensures.sent c.if-not-flush.false)
    (sym c.in-Some.is ∙ c.give_out.ensures.message) c.send.ensures.link c.send.ensures.given)

pub returns-in-None : goal.returns-in-None
returns-in-None g c = rw c.give_out.ensures.left
    (offers_empty c.args.to.0 c.args.cell.now c.args.out.now c.flush.new.self c.flush.ensures.link c.flush.ensures.given
    (sym c.in-None.is ∙ c.give_out.ensures.message))
