-- The least head's log is read, and goes on.
use Rattle.std.proofs.Common.{sym, ap, ◌∙◌, arith}
use Rattle.std.specs.Option.{option_map}
use Rattle.alw_model.specs.Threads.{merged}
use Rattle.alw_cells.specs.Logs.{Reading, taken_of, sent_of, entry_of}
use Rattle.alw_merge.proofs.Stepping.{few, here, has_event, same_reading, goes_on, next_is, has_room, at_end}
use Rattle.alw_merge.proofs.streams.Stream.event.Goals as goal

pub returns-in_default : goal.returns-in_default
returns-in_default c = ap merged (sym c.self.view_is) ∙ at_end c.self.inside.readings.items c.self.inside.heads c.self.invariant c.in_default.ensures.none

pub index-reading-requires : goal.index-reading-requires
index-reading-requires c =
    let place = here c.self.invariant c.in-Some.ensures.least c.place_in-log.ensures in
    omega (arith, place)

pub unreachable-requires : goal.unreachable-requires
unreachable-requires c =
    has_event c.self.invariant c.in-Some.ensures.least c.place_in-log.ensures
    c.index-reading.ensures (sym c.entry.ensures ∙ c.in_default-entry.is)

pub index_mut-requires : goal.index_mut-requires
index_mut-requires c =
    let place = here c.self.invariant c.in-Some.ensures.least c.place_in-log.ensures in
    omega (arith, place)

pub go_on-requires-clause-log : goal.go_on-requires-clause-log
go_on-requires-clause-log c = few c.self.invariant c.in-Some.ensures.least c.place_in-log.ensures

pub go_on-requires-clause-room : goal.go_on-requires-clause-room
go_on-requires-clause-room c = has_room c.self.inside.readings.items c.self.inside.heads c.pop.new.self c.in-Some.head c.self.invariant c.pop.ensures.rest c.pop.ensures.most

pub invariant_of-self : goal.invariant_of-self
invariant_of-self c =
    goes_on c.self.invariant c.in-Some.ensures.least c.place_in-log.ensures c.index_mut.ensures.value c.pop.ensures.rest c.pop.ensures.most c.go_on.ensures.goes

pub returns : goal.returns
returns c =
    let same = same_reading c.self.invariant c.in-Some.ensures.least c.place_in-log.ensures c.index-reading.ensures c.index_mut.ensures.value in
    next_is c.self.invariant c.in-Some.ensures.least c.place_in-log.ensures c.index_mut.ensures.value c.pop.ensures.rest c.pop.ensures.most c.go_on.ensures.goes c.self.view_is
    (sym c.in-Some-entry.is ∙ (c.entry.ensures ∙ ap (λ (r : Reading). option_map entry_of r.given) same)) (c.taken-taken.ensures ∙ ap (λ (r : Reading). taken_of r.given) same)
    (c.in_ok-collect.ensures ∙ ap (λ (r : Reading). sent_of r.given) same)
