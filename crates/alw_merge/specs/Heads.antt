-- Heads of logs as numbers: some are due, in order, the others wait in a heap, and the least of all comes first.
use Rattle.std.specs.Prelude.{◌≡◌, ℕ, ◌≤◌, ◌+◌, ◌==◌, nat_lt, nat_le, ⊤, Bool, true, false, cond, Option, Some, None, IfSome, List, [], ◌∷◌, map}
use Rattle.std.specs.List.{AllByRecursion}
use Rattle.std.specs.BinaryHeap.{IsHeap}
use Rattle.std.specs.Ordering.{nat_cmp}
use Rattle.std.specs.declared.cmp.Ordering.{Ordering}
use Rattle.std.specs.declared.cmp.Reverse.{Reverse}
use Rattle.alw_num.specs.Weights.{digit, weigh}
use Rattle.alw_msg.specs.Lists.{front}

-- the heads, in an order that says nothing, and how many there may be
pub record Waiting : Type 0 where
  pub heads : List ℕ
  pub most : ℕ

-- none of some heads comes before one
abbrev pub NoneBefore : ℕ → List ℕ → Type 0
NoneBefore least heads = AllByRecursion (λ (head : ℕ). nat_lt head least ≡ false) heads

-- one of the heads, before which none comes
pub record IsLeast (least : ℕ) (heads : List ℕ) : Type 0 where
  pub among : 1 ≤ weigh (λ (head : ℕ). digit (head == least)) heads
  pub first : NoneBefore least heads

-- heads with more of them: all that can be counted of them is as it was, and what is counted of those
abbrev pub HaveJoined : List ℕ → List ℕ → List ℕ → Type 0
HaveJoined before more after = (f : ℕ → ℕ) → weigh f after ≡ weigh f before + weigh f more

-- ---- the heads that are due, and the others

-- the order of heads in the heap, which has the least first
abbrev pub heap_cmp : Reverse ℕ → Reverse ℕ → Ordering
heap_cmp one other = nat_cmp other.0 one.0

-- the heads in a heap
abbrev pub heads_in : List (Reverse ℕ) → List ℕ
heads_in heap = map (λ (reverse : Reverse ℕ). reverse.0) heap

-- no head is above one behind it
abbrev pub IsInOrder : List ℕ → Type 0
IsInOrder [] = ⊤
IsInOrder (head ∷ rest) = AllByRecursion (λ (later : ℕ). head ≤ later) rest × IsInOrder rest

-- those that are due are in order, and none is above the latest of them; the others are a heap, whose top is kept, before which none of them
-- comes; and there is room for all in either
pub record HeadsAreKept (most latest : ℕ) (due : List ℕ) (room : ℕ) (top : Option ℕ) (heap : List (Reverse ℕ)) (capacity : ℕ) : Type 0 where
  pub in_order : IsInOrder due
  pub latest_is : AllByRecursion (λ (head : ℕ). head ≤ latest) due
  pub heap_order : IsHeap heap_cmp heap
  pub top_is : top ≡ front (heads_in heap)
  pub top_first : IfSome top (λ top. NoneBefore top (heads_in heap))
  pub due_room : most ≤ room
  pub heap_room : most ≤ capacity

-- whether the first of those that are due comes before the top of the heap
abbrev pub is_due : Option ℕ → Option ℕ → Bool
is_due None top = false
is_due (Some first) None = true
is_due (Some first) (Some top) = nat_le first top

-- the one of the two that comes first
abbrev pub first_of : Option ℕ → Option ℕ → Option ℕ
first_of first top = cond (is_due first top) first top
