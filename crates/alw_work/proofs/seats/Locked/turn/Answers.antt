-- A turn ends where messages come, where the cell steps, or once messages are given out.
use Rattle.std.proofs.lemmas.Result.{err_from_is_err_and}
use Rattle.alw_work.proofs.Turned.{turns_none, turns_refused, turns}
use Rattle.alw_work.proofs.seats.Locked.turn.Goals as goal

pub returns-in_err-take_in : goal.returns-in_err-take_in
returns-in_err-take_in g c =
    let stop = err_from_is_err_and c.from_residual.result c.from_residual.ensures.1 in
    rw stop.1 (turns_none c.args.pick c.args.self.now c.take_in.new.self stop.0 c.take_in.ensures.come c.take_in.ensures.rest)

pub returns-in_err-has_acted : goal.returns-in_err-has_acted
returns-in_err-has_acted g c =
    let stop = err_from_is_err_and c.from_residual-in_err-has_acted.result c.from_residual-in_err-has_acted.ensures.1 in
    rw (stop.1, stop.2)
    (turns_refused c.args.pick c.args.self.now c.take_in.new.self c.act.new.self _ c.take_in.ensures.come c.take_in.ensures.rest c.in_err-has_acted.ensures)

pub returns : goal.returns
returns g c =
    turns c.args.pick c.args.self.now c.take_in.new.self c.act.new.self c.give_out.new.self _ c.take_in.ensures.come c.take_in.ensures.rest
    c.in_ok-has_acted.ensures c.give_out.ensures.given c.give_out.ensures.rest
