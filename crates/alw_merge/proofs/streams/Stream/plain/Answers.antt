-- The least head's log goes on, where its next event is an instruction that took and sent nothing.
use Rattle.std.proofs.Common.{sym, ◌∙◌, arith}
use Rattle.alw_merge.proofs.Stepping.{few, here, goes_on, has_room, is_plain_read, plain_is_next}
use Rattle.alw_merge.proofs.streams.Stream.plain.Goals as goal

pub index_mut-reading-requires : goal.index_mut-reading-requires
index_mut-reading-requires c =
    let place = here c.self.invariant c.in_ok-head.ensures.least c.place_in-log.ensures in
    omega (arith, place)

pub go_on-requires-clause-log : goal.go_on-requires-clause-log
go_on-requires-clause-log c = few c.self.invariant c.in_ok-head.ensures.least c.place_in-log.ensures

pub go_on-requires-clause-room : goal.go_on-requires-clause-room
go_on-requires-clause-room c = has_room c.self.inside.readings.items c.self.inside.heads c.pop.new.self c.in_ok-head.head c.self.invariant c.pop.ensures.rest c.pop.ensures.most

pub invariant_of-self-2 : goal.invariant_of-self-2
invariant_of-self-2 c =
    goes_on c.self.invariant c.in_ok-head.ensures.least c.place_in-log.ensures c.index_mut-reading.ensures.value c.pop.ensures.rest c.pop.ensures.most c.go_on.ensures.goes

pub returns-clause-read : goal.returns-clause-read
returns-clause-read c =
    plain_is_next c.self.invariant c.in_ok-head.ensures.least c.place_in-log.ensures c.index_mut-reading.ensures.value (sym c.is_plain.ensures ∙ c.if-not-is_plain.false) c.instr_in.ensures.stamp c.instr_in.ensures.event
    c.pop.ensures.rest c.pop.ensures.most c.go_on.ensures.goes c.self.view_is

pub returns-clause-plain : goal.returns-clause-plain
returns-clause-plain c =
    is_plain_read c.self.invariant c.in_ok-head.ensures.least c.place_in-log.ensures c.index_mut-reading.ensures.value (sym c.is_plain.ensures ∙ c.if-not-is_plain.false) c.instr_in.ensures.stamp c.instr_in.ensures.event
