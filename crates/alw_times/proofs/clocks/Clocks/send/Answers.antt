-- No arrival is above the bound.
use Rattle.std.proofs.Common.{rules, ◌≡◌, subst, arith}
use Rattle.alw_times.specs.Times.{time_at}
use Rattle.alw_times.specs.Within.{QueuesAreWithin}
use Rattle.alw_times.proofs.clocks.Clocks.send.Goals as goal

pub returns-clause-arrivals : goal.returns-clause-arrivals
returns-clause-arrivals c = λ most late all.
    let same : c.args.self.now.arrivals ≡ c.self.inside.arrivals.items = search rules in
    let port : c.time_at-port.result ≡ time_at c.args.self.now.ports c.args.from.0 = search rules in
    c.in_ok-port.ensures.within most (omega (arith, port, late)) (subst (QueuesAreWithin most) same all)
