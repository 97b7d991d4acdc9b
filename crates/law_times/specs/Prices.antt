-- What the events of a run cost at most, so that no finish is later than a number of cycles for each stamp.
use Rattle.std.specs.Prelude.{◌≡◌, ℕ, ◌+◌, ◌-◌, ◌*◌, ◌≤◌, cond, max, List}
use Rattle.std.specs.List.{AllByRecursion}
use Rattle.alw_num.specs.Maps.{passes}
use Rattle.alw_num.specs.Weights.{weigh}
use Rattle.alw_msg.specs.declared.messages.Msg.{Msg}
use Rattle.alw_msg.specs.declared.events.Entry.{Entry}
use Rattle.alw_image.specs.declared.parts.Parts.{Parts}
use Rattle.alw_image.specs.Parameters.{Parameters}
use Rattle.alw_image.specs.Images.{hops_between}
use Rattle.alw_model.specs.Runs.{Moment, number_of, moments}
use Rattle.alw_times.specs.declared.costs.Costs.{Costs}
use Rattle.alw_times.specs.Happening.{happened_of}
use Rattle.alw_times.specs.Times.{work_before, cost_of, length_of, is_busy}

-- all lengths of what is sent
abbrev pub lengths_of : Costs → List (ℕ × Msg) → ℕ
lengths_of costs sends = weigh (λ send. length_of costs send.1.kind) sends

-- each way of what a node sends takes at most so long
abbrev pub WaysAre : Parts → Costs → ℕ → ℕ → List (ℕ × Msg) → Type 0
WaysAre parts costs from most sends = AllByRecursion (λ (send : ℕ × Msg). costs.hop * hops_between parts from send.0 ≤ most) sends

-- the work of an event costs at most so much, and what it wakes waits no longer; its messages hold the port at most so long; and each takes its way in at most so long
pub record IsPriced (parts : Parts) (costs : Costs) (most_work most_lengths most_way : ℕ) (moment : Moment) : Type 0 where
  pub work : work_before costs moment.entry.event + cost_of costs (happened_of moment) moment.stepped.sends ≤ most_work
  pub wait : cost_of costs (happened_of moment) moment.stepped.sends + cond (passes is_busy (happened_of moment).taken) (max costs.retry 1 - 1) 0 ≤ most_work
  pub lengths : lengths_of costs moment.stepped.sends ≤ most_lengths
  pub ways : WaysAre parts costs (number_of moment) most_way moment.stepped.sends

-- all events of a journal
abbrev pub ArePriced : Parts → Parameters → Costs → ℕ → ℕ → ℕ → List Entry → Type 0
ArePriced parts parameters costs work lengths way journal = AllByRecursion (IsPriced parts costs work lengths way) (moments parts parameters journal)

-- the costs by which a node does one thing at a time, each in one cycle, and messages take none
pub record AreUnit (costs : Costs) : Type 0 where
  pub hit : costs.hit ≡ 1
  pub switch : costs.switch ≡ 0
  pub hop : costs.hop ≡ 0
  pub send : costs.send ≡ 0
  pub body : costs.data ≡ 0
  pub home : costs.home ≡ 1
  pub fill : costs.fill ≡ 1
  pub trap : costs.trap ≡ 1
  pub inv : costs.inv ≡ 0
  pub retry : costs.retry ≡ 0
