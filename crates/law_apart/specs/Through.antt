-- Windows one behind another, through which nodes go apart: between two of them nothing is handed over but what was sent.
use Rattle.std.specs.Prelude.{◌≡◌, ℕ, ◌+◌, ◌<◌, ◌⊎◌, false, List, [], ◌∷◌, ◌++◌}
use Rattle.std.specs.List.{list_any, range_with_len}
use Rattle.alw_msg.specs.declared.events.Event.{Event}
use Rattle.alw_msg.specs.Statuses.{has_trapped}
use Rattle.alw_image.specs.declared.parts.Parts.{Parts}
use Rattle.alw_image.specs.Images.{node_count}
use Rattle.alw_image.specs.Parameters.{Parameters}
use Rattle.alw_model.specs.Contexts.{all_halted}
use Rattle.alw_model.specs.NodeStates.{NodeState}
use Rattle.alw_model.specs.Machine.{node_at}
use Rattle.alw_mesh.specs.Histories.{History, IsRun}
use Rattle.alw_times.specs.declared.costs.Costs.{Costs}
use Rattle.law_windows.specs.Turns.{in_turn, events_told, sort_by_start}
use Rattle.law_windows.specs.Windows.{lookahead, grown_by, NothingIsLeft, timeline}
use Rattle.law_apart.specs.Pictures.{Picture, picture_of, IsPicture, Shows, all_come}
use Rattle.law_apart.specs.Alone.{after_all, IsWholeIn, told_in, sent_in}
use Rattle.law_apart.specs.Apart.{parts_of}

module _ (image : Parts) (parameters : Parameters) (costs : Costs) where
  -- ---- what a cell knows

  -- a node in its last picture of a window
  abbrev pub node_behind : (ℕ → Picture) → (ℕ → List Event) → ℕ → NodeState
  node_behind pictures own n = node_at (after_all image parameters costs (pictures n) (own n)).state n

  -- the pictures once what was sent in a window has come
  abbrev pub handed_over : (ℕ → Picture) → (ℕ → List Event) → ℕ → Picture
  handed_over pictures own n = all_come image n (λ k. sent_in image parameters costs (pictures k) n (own k)) (range_with_len 0 (node_count image)) (after_all image parameters costs (pictures n) (own n))

  -- and those behind all windows
  abbrev pub pictures_behind : (ℕ → Picture) → List (ℕ → List Event) → ℕ → Picture
  pictures_behind pictures [] = pictures
  pictures_behind pictures (own ∷ windows) = pictures_behind (handed_over pictures own) windows

  -- what is told of a node, window after window
  abbrev pub told_through : (ℕ → Picture) → ℕ → List (ℕ → List Event) → List (ℕ × Event)
  told_through pictures n [] = []
  told_through pictures n (own ∷ windows) = told_in image parameters costs (pictures n) (own n) ++ told_through (handed_over pictures own) n windows

-- Each node takes its whole run of a window in its picture. None comes to have a slot that is trapped; and no node is at the limit, or one has a slot that hasn't halted.
pub record TakeWindow (image : Parts) (parameters : Parameters) (costs : Costs) (from : ℕ) (pictures : ℕ → Picture) (own : ℕ → List Event) : Type 0 where
  pub runs : (n : ℕ) → n < node_count image → IsWholeIn image parameters costs (pictures n) n (from + lookahead costs) (own n)
  pub untrapped : (n : ℕ) → n < node_count image → list_any (λ slot. has_trapped slot.status) (node_behind image parameters costs pictures own n).slots ≡ false
  pub limit : ((n : ℕ) → n < node_count image → (node_behind image parameters costs pictures own n).clock < parameters.limit)
      ⊎ ((n : ℕ) × ((n < node_count image) × (all_halted (node_behind image parameters costs pictures own n).slots ≡ false)))

-- one window after another, each the lookahead behind the last
abbrev pub TakeWindows : Parts → Parameters → Costs → ℕ → (ℕ → Picture) → List (ℕ → List Event) → Type 0
TakeWindows image parameters costs from pictures [] = Unit {0}
TakeWindows image parameters costs from pictures (own ∷ windows) =
    TakeWindow image parameters costs from pictures own × TakeWindows image parameters costs (from + lookahead costs) (handed_over image parameters costs pictures own) windows

-- ---- the machine beside them

-- the events of a window, by start and then by node
abbrev pub window_of : History → Costs → (ℕ → List Event) → List Event
window_of h costs own = events_told (sort_by_start (timeline h costs (in_turn (parts_of h own))))

abbrev pub windows_of : History → Costs → List (ℕ → List Event) → List (List Event)
windows_of h costs [] = []
windows_of h costs (own ∷ windows) = window_of h costs own ∷ windows_of (grown_by h (window_of h costs own)) costs windows

-- the machine behind all of them
abbrev pub machine_behind : History → Costs → List (ℕ → List Event) → History
machine_behind h costs [] = h
machine_behind h costs (own ∷ windows) = machine_behind (grown_by h (window_of h costs own)) costs windows

-- the pictures are such, and each shows its node of a machine in which nothing is left below a time
pub record AreShown (h : History) (costs : Costs) (from : ℕ) (pictures : ℕ → Picture) : Type 0 where
  pub run : IsRun h
  pub nothing_left : NothingIsLeft h costs from
  pub are : (n : ℕ) → n < node_count h.image → IsPicture h.image (pictures n)
  pub show : (n : ℕ) → n < node_count h.image → Shows h.image n (picture_of h costs) (pictures n)

-- a fact of a machine, costs, a time, pictures and what nodes did in them window after window holds wherever nodes take windows so
abbrev pub WhereWindowsAreTaken : (History → Costs → ℕ → (ℕ → Picture) → List (ℕ → List Event) → Type 0) → Type 0
WhereWindowsAreTaken Fact = (h : History) → (costs : Costs) → (from : ℕ) → (pictures : ℕ → Picture) → (windows : List (ℕ → List Event)) → AreShown h costs from pictures →
    TakeWindows h.image h.parameters costs from pictures windows → Fact h costs from pictures windows
