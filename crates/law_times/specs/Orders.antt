-- What the laws of orders say of two journals.
use Rattle.std.specs.Prelude.{List}
use Rattle.std.specs.List.Sorted.{IsPermutation}
use Rattle.alw_msg.specs.declared.events.Entry.{Entry}
use Rattle.alw_image.specs.declared.parts.Parts.{Parts}
use Rattle.alw_image.specs.Parameters.{Parameters}
use Rattle.alw_model.specs.Machine.{IsLegal}
use Rattle.alw_times.specs.declared.costs.Costs.{Costs}

-- a fact of two legal journals of the same entries, each as often, for every image, all parameters and all costs
abbrev pub EveryOrder : (Parts → Parameters → Costs → List Entry → List Entry → Type 0) → Type 0
EveryOrder Fact = (parts : Parts) → (parameters : Parameters) → (costs : Costs) → (one other : List Entry) →
    IsLegal parts parameters one → IsLegal parts parameters other → IsPermutation one other → Fact parts parameters costs one other
