-- The least head's log goes on.
use Rattle.std.proofs.Common.{ap, sym, ◌∙◌, arith}
use Rattle.alw_msg.specs.Lists.{front, behind}
use Rattle.alw_model.specs.Threads.{merged}
use Rattle.alw_merge.proofs.Stepping.{few, here, entry_is, goes_on, left_is, has_room, at_end}
use Rattle.alw_merge.proofs.streams.Stream.next.Goals as goal

pub returns-in_err-head-clause-entry : goal.returns-in_err-head-clause-entry
returns-in_err-head-clause-entry c =
    let none = at_end c.self.inside.readings.items c.self.inside.heads c.self.invariant c.in_err-head.ensures.none in
    c.from_residual.ensures ∙ (sym (ap front none) ∙ ap (λ logs. front (merged logs)) c.self.view_is)

pub returns-in_err-head-clause-left : goal.returns-in_err-head-clause-left
returns-in_err-head-clause-left c =
    let none = at_end c.self.inside.readings.items c.self.inside.heads c.self.invariant c.in_err-head.ensures.none in
    ap merged (sym c.self.view_is) ∙ (none ∙ (sym (ap behind none) ∙ ap (λ logs. behind (merged logs)) c.self.view_is))

pub index_mut-reading-requires : goal.index_mut-reading-requires
index_mut-reading-requires c =
    let place = here c.self.invariant c.in_ok-head.ensures.least c.place_in-log.ensures in
    omega (arith, place)

pub go_on-requires-clause-log : goal.go_on-requires-clause-log
go_on-requires-clause-log c = few c.self.invariant c.in_ok-head.ensures.least c.place_in-log.ensures

pub go_on-requires-clause-room : goal.go_on-requires-clause-room
go_on-requires-clause-room c = has_room c.self.inside.readings.items c.self.inside.heads c.pop.new.self c.in_ok-head.head c.self.invariant c.pop.ensures.rest c.pop.ensures.most

pub invariant_of-self : goal.invariant_of-self
invariant_of-self c =
    goes_on c.self.invariant c.in_ok-head.ensures.least c.place_in-log.ensures c.index_mut-reading.ensures.value c.pop.ensures.rest c.pop.ensures.most c.go_on.ensures.goes

pub returns-clause-entry : goal.returns-clause-entry
returns-clause-entry c =
    c.entry-entry.ensures
    ∙ (entry_is c.self.invariant c.in_ok-head.ensures.least c.place_in-log.ensures c.index_mut-reading.ensures.value
    ∙ ap (λ logs. front (merged logs)) c.self.view_is)

pub returns-clause-left : goal.returns-clause-left
returns-clause-left c =
    left_is c.self.invariant c.in_ok-head.ensures.least c.place_in-log.ensures c.index_mut-reading.ensures.value c.pop.ensures.rest c.pop.ensures.most c.go_on.ensures.goes
    ∙ ap (λ logs. behind (merged logs)) c.self.view_is
