-- Bounds of times.
use Rattle.std.specs.Prelude.{ℕ, ◌≤◌, List}
use Rattle.std.specs.List.{AllByRecursion}
use Rattle.alw_times.specs.Times.{Times}

-- no time is above this one
abbrev pub AreWithin : ℕ → List ℕ → Type 0
AreWithin most times = AllByRecursion (λ time. time ≤ most) times

abbrev pub QueuesAreWithin : ℕ → List (List ℕ) → Type 0
QueuesAreWithin most queues = AllByRecursion (AreWithin most) queues

pub record TimesAreWithin (most : ℕ) (times : Times) : Type 0 where
  pub starts : AreWithin most times.starts
  pub processors : AreWithin most times.processors
  pub controllers : AreWithin most times.controllers
  pub ports : AreWithin most times.ports
  pub wakes : AreWithin most times.wakes
  pub arrivals : QueuesAreWithin most times.arrivals
  pub packets : QueuesAreWithin most times.packets
  pub latest : times.latest ≤ most
