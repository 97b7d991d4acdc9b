-- What goes out arrives within the bound, and so do the slots wake.
use Rattle.std.proofs.Common.{rules, ◌≡◌, subst, arith}
use Rattle.alw_msg.specs.Events.{node_of}
use Rattle.alw_times.specs.Times.{time_at, arrivals_taken}
use Rattle.alw_times.specs.Within.{AreWithin, QueuesAreWithin}
use Rattle.alw_times.proofs.Bounds.{leaves_early, taken_within}
use Rattle.alw_times.proofs.clocks.Clocks.leave.Goals as goal

pub returns-clause-arrivals : goal.returns-clause-arrivals
returns-clause-arrivals c = λ most late all.
    let image = c.args.image.now in
    let event = c.args.happened.now.event in
    let taken : arrivals_taken image event c.args.self.now.arrivals ≡ c.take.new.self.arrivals = search rules in
    let port : time_at c.take.new.self.ports c.node-node.result.0 ≡ time_at c.args.self.now.ports (node_of event) = search rules in
    let after : c.send.new.self.arrivals ≡ c.keep.new.self.arrivals = search rules in
    let early = leaves_early event c.args.start c.args.finish c.requires.start in
    let all_taken = subst (QueuesAreWithin most) taken (taken_within most image event c.args.self.now.arrivals all) in
    subst (QueuesAreWithin most) after (c.in_ok-send.ensures.arrivals most (omega (arith, port, late, early, c.leaves_at-leave.ensures)) all_taken)

pub returns-clause-wakes : goal.returns-clause-wakes
returns-clause-wakes c = λ most late all.
    let before : c.args.self.now.wakes ≡ c.give.new.self.wakes = search rules in
    let after : c.wake.new.self.wakes ≡ c.keep.new.self.wakes = search rules in
    subst (AreWithin most) after (c.wake.ensures.within most late (subst (AreWithin most) before all))
