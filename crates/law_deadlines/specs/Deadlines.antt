-- What an event costs at most, by the costs and the mesh alone: so many cycles for each stamp are the deadline of a finish.
use Rattle.std.specs.Prelude.{ℕ, ◌+◌, ◌-◌, ◌*◌, max}
use Rattle.alw_image.specs.declared.parts.Parts.{Parts}
use Rattle.alw_image.specs.Images.{node_count}
use Rattle.alw_times.specs.declared.costs.Costs.{Costs}

-- The greatest of four: an instruction with a switch, a delivery to memory, one to a cache with the longest wait after a BUSY, and the handler with a message to each node, of which the first is free.
abbrev pub most_work : Parts → Costs → ℕ
most_work parts costs = max (max (costs.hit + costs.switch) costs.home) (max (costs.fill + (costs.retry - 1)) (costs.trap + costs.inv * (node_count parts - 1)))

-- how long a port is held for a message to each node, one of them with a line
abbrev pub most_lengths : Parts → Costs → ℕ
most_lengths parts costs = costs.send * node_count parts + costs.data

-- the way from one corner of the mesh to the opposite one
abbrev pub longest_way : Parts → Costs → ℕ
longest_way parts costs = costs.hop * (parts.width + parts.height - 2)

-- the cycles that a stamp is worth
abbrev pub cycles_a_stamp : Parts → Costs → ℕ
cycles_a_stamp parts costs = most_work parts costs + most_lengths parts costs + longest_way parts costs
