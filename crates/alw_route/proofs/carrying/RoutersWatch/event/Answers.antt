-- What an event sent is given to the routers.
use Rattle.std.proofs.Common.{◌≡◌, true}
use Rattle.alw_replay.specs.Replays.{may_follow}
use Rattle.alw_replay.proofs.Fronts.{passes}
use Rattle.alw_mesh.specs.Histories.{History, state_of}
use Rattle.alw_model.specs.Machine.{IsNext}
use Rattle.alw_msg.specs.declared.events.Entry.{Entry}
use Rattle.alw_route.proofs.Sending.{node_exists, goals_exist}
use Rattle.alw_route.proofs.Loading.{loaded_nodes, goes_on}
use Rattle.alw_route.proofs.carrying.RoutersWatch.event.Goals as goal

follows : (h : History) (entry : Entry) → IsNext h.image h.parameters (state_of h) entry → may_follow h entry ≡ true
follows h entry next = passes h.image h.parameters (state_of h) entry next

pub inject_all-requires-clause-from : goal.inject_all-requires-clause-from
inject_all-requires-clause-from c =
    let h = c.args.machine.now in
    let (start, so_far) = c.requires.so_far in
    rw (c.node.ensures, loaded_nodes h c.args.self.now.hops so_far.loaded) (node_exists h c.args.entry (follows h c.args.entry c.requires.next))

pub inject_all-requires-clause-goals : goal.inject_all-requires-clause-goals
inject_all-requires-clause-goals c =
    let h = c.args.machine.now in
    let (start, so_far) = c.requires.so_far in
    rw (c.last_sent.ensures, c.in_ok-take.ensures.0.after_is, loaded_nodes h c.args.self.now.hops so_far.loaded)
    (goals_exist h c.args.entry so_far.joined (follows h c.args.entry c.requires.next) so_far.legal)

pub returns-clause-told : goal.returns-clause-told
returns-clause-told c start so_far =
    let h = c.args.machine.now in
    rw (c.in_ok-inject_all.ensures, c.node.ensures, c.last_sent.ensures)
    (goes_on h c.args.self.now.hops c.args.entry so_far (follows h c.args.entry c.requires.next) c.take.new.self c.in_ok-take.ensures.0.after_is)
