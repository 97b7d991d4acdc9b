-- A run that was refused memory goes on from the draws that it left.
use Rattle.std.proofs.Common.{◌≡◌, ℕ, ◌+◌, ◌-◌, List, [], ◌∷◌, ◌++◌, length, sym, ap, subst, ◌∙◌, arith, length-append}
use Rattle.alw_num.specs.Draws.{drawn, drawn_times}
use Rattle.alw_msg.specs.declared.events.Event.{Event}
use Rattle.alw_mesh.specs.Histories.{History, grown, entry_of}
use Rattle.alw_sched.specs.Schedules.{EventsAreDrawn, MachineIsSeeded}

-- each event took one draw, and is one entry
drawn_count : (h : History) (x : ℕ) (events : List Event) (after : History) (y : ℕ) → EventsAreDrawn h x events after y →
    (length after.journal ≡ length events + length h.journal) × (y ≡ drawn_times (length events) x)
drawn_count h x [] after y are = let same = ap (λ (g : History). length g.journal) (sym are.0) in (omega (arith, same), sym are.1)
drawn_count h x (event ∷ rest) after y are =
    let more = drawn_count (grown h event) (drawn x) rest after y are.1 in
    let one = length-append h.journal (entry_of h event ∷ []) in
    (omega (arith, more.0, one), more.1)

-- events behind others
drawn_behind : (h : History) (x : ℕ) (events : List Event) (mid : History) (y : ℕ) (more : List Event) (after : History) (z : ℕ) →
    EventsAreDrawn h x events mid y → EventsAreDrawn mid y more after z → EventsAreDrawn h x (events ++ more) after z
drawn_behind h x [] mid y more after z are next = rw (are.0, are.1) next
drawn_behind h x (event ∷ rest) mid y more after z are next = (are.0, drawn_behind (grown h event) (drawn x) rest mid y more after z are.1 next)

pub goes_on : (before : History) (seed : ℕ) (refused after : History) → MachineIsSeeded before seed refused →
    MachineIsSeeded refused (drawn_times (length refused.journal - length before.journal) seed) after → MachineIsSeeded before seed after
goes_on before seed refused after first then_on =
    let counted = drawn_count before seed first.events refused first.last first.drawn_are in
    let count : length refused.journal - length before.journal ≡ length first.events = omega (arith, counted.0) in
    let state : drawn_times (length refused.journal - length before.journal) seed ≡ first.last = ap (λ (n : ℕ). drawn_times n seed) count ∙ sym counted.1 in
    record {
      events = first.events ++ then_on.events;
      last = then_on.last;
      drawn_are = drawn_behind before seed first.events refused first.last then_on.events after then_on.last first.drawn_are
          (subst (λ (x : ℕ). EventsAreDrawn refused x then_on.events after then_on.last) state then_on.drawn_are);
    }
