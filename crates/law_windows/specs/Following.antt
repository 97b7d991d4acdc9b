-- Windows that follow one on another, each as wide as the lookahead.
use Rattle.std.specs.Prelude.{◌≡◌, ℕ, ◌+◌, List, [], ◌∷◌}
use Rattle.alw_msg.specs.declared.events.Event.{Event}
use Rattle.alw_mesh.specs.Histories.{History, IsRun}
use Rattle.alw_times.specs.declared.costs.Costs.{Costs}
use Rattle.alw_due.specs.Due.{EventsAreTimed}
use Rattle.law_windows.specs.Windows.{lookahead, grown_by, StartBelow, IsWindow, LiftsNoLimit, NothingIsLeft}

-- The timed schedule takes these events, each of which starts below a bound, and leaves nothing that would. They lift the limit of no node that it holds back.
pub record GoesOnTo (h : History) (costs : Costs) (bound : ℕ) (events : List Event) : Type 0 where
  pub timed : EventsAreTimed h costs events (grown_by h events)
  pub within : StartBelow h costs bound events
  pub left : NothingIsLeft (grown_by h events) costs bound
  pub limit : LiftsNoLimit h (grown_by h events)

-- from a time on it goes on so by the lookahead, once for each of these parts, and leaves a machine
abbrev pub WindowsFollow : History → Costs → ℕ → List (List Event) → History → Type 0
WindowsFollow h costs from [] after = h ≡ after
WindowsFollow h costs from (events ∷ windows) after = GoesOnTo h costs (from + lookahead costs) events × WindowsFollow (grown_by h events) costs (from + lookahead costs) windows after

-- each of these is a window, and begins where the one before it ends
abbrev pub AreWindows : History → Costs → ℕ → List (List Event) → Type 0
AreWindows h costs from [] = Unit {0}
AreWindows h costs from (events ∷ windows) = IsWindow h costs from events (grown_by h events) × AreWindows (grown_by h events) costs (from + lookahead costs) windows

-- a fact of a machine, costs, a time, windows one behind another from there, and the machine that they leave, holds wherever nothing is left below that time
abbrev pub WhereWindowsFollow : (History → Costs → ℕ → List (List Event) → History → Type 0) → Type 0
WhereWindowsFollow Fact = (h : History) → (costs : Costs) → (from : ℕ) → (windows : List (List Event)) → (after : History) → IsRun h → NothingIsLeft h costs from → WindowsFollow h costs from windows after →
    Fact h costs from windows after
