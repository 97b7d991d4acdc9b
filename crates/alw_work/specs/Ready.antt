-- A ready queue of node numbers: what its rule keeps, and what a pass holds.
use Rattle.std.specs.Prelude.{◌≡◌, ℕ, ◌+◌, ◌≤◌, ◌==◌, nat_lt, Option, None, Some, List}
use mathlib.Core.Option.{some}
use lib.ListN.{get_elem?}
use Rattle.atomic_table.specs.Seated.{TableId}
use Rattle.alw_num.specs.Weights.{digit, weigh, times}
use Rattle.alw_work.specs.declared.ready.Hand.{Hand}
use Rattle.alw_work.specs.declared.ready.Hand.TheVariants.{Has, Fills}

-- which queue it is: no other one has its name
abbrev pub QueueName : Type 0
QueueName = TableId

-- a pass: the queue that it is of, and the number that it holds
pub record Holder : Type 0 where
  pub queue : QueueName
  pub node : Option ℕ

-- the pass that filled a queue: which queue it is of, and how many numbers it put in, from 0 on
pub record Filled : Type 0 where
  pub queue : QueueName
  pub count : ℕ

abbrev pub filled_by : Hand → ℕ
filled_by (Has _) = 0
filled_by (Fills next) = next

-- a number is with a pass: 1 where it is
abbrev pub holds : ℕ → Hand → ℕ
holds k (Has None) = 0
holds k (Has (Some number)) = digit (k == number)
holds k (Fills next) = 0

-- the pass that fills the queue has put in the numbers below this one
abbrev pub HasFilled : ℕ → Hand → Type 0
HasFilled filled (Has None) = filled ≡ 0
HasFilled filled (Has (Some number)) = ⊥
HasFilled filled (Fills next) = filled ≡ next

-- the first pass has put in the numbers below some number, which is at most the number of nodes; each of them stands once over the
-- queue and the passes, and no other number stands there
pub record IsFair (nodes : ℕ) (items : List ℕ) (views : List Hand) : Type 0 where
  pub filled : ℕ
  pub within : filled ≤ nodes
  pub filler : (hand : Hand) × ((get_elem? views 0 ≡ some hand) × HasFilled filled hand)
  pub once : (k : ℕ) → times k items + weigh (holds k) views ≡ digit (nat_lt k filled)
