-- A delivery to memory at a node is its memory side's.
use Rattle.std.proofs.Common.{◌≡◌, ℕ, Bool, true, false, refl, sym, ap, ◌∙◌}
use Rattle.alw_msg.specs.Kinds.{to_memory}
use Rattle.alw_msg.specs.Contents.{ToMemory, ForMemory, content}
use Rattle.alw_msg.specs.declared.messages.Msg.{Msg}
use Rattle.alw_image.specs.declared.parts.Parts.{Parts}
use Rattle.alw_image.specs.Parameters.{Parameters}
use Rattle.alw_model.specs.LimitLess.{is_trapped}
use Rattle.alw_model.specs.Sides.{Processor, Memory}
use Rattle.alw_model.specs.MemorySteps.{home_at, at_home, takes}
use Rattle.alw_model.specs.NodeStates.{memory_of}
use Rattle.alw_model.specs.NodeSteps.{by_memory, deliver_by}
use Rattle.alw_memory.proofs.Deliveries.{Says, Said, says}
use Rattle.alw_node.specs.Nodes.{SidesAreOfOneNode, whole_of}

-- a memory side, field by field
abbrev same : Memory → Memory
same m = record { number = m.number; nodes = m.nodes; per_node = m.per_node; pointers = m.pointers; homes = m.homes; packets = m.packets }

at_same_home : (stamp : ℕ) (m : Memory) (msg : Msg) (said : ToMemory) (traps : Bool) → at_home stamp m msg said traps ≡ at_home stamp (same m) msg said traps
at_same_home stamp m msg said true = refl
at_same_home stamp m msg said false = refl

pub memory_takes : (share : Parts) (parameters : Parameters) (p : Processor) (m : Memory) (clock stamp : ℕ) (msg : Msg) → SidesAreOfOneNode share parameters p m
    → to_memory msg.kind ≡ true
    → (let whole = whole_of share parameters p m clock in
    deliver_by whole.parts parameters whole.number stamp whole.state msg (content msg) ≡ by_memory whole.state (takes stamp m msg (content msg)))
memory_takes share parameters p m clock stamp msg one goes =
    let whole = whole_of share parameters p m clock in
    by_said (says msg goes)
  where
    by_said : Says msg → (let whole = whole_of share parameters p m clock in
        deliver_by whole.parts parameters whole.number stamp whole.state msg (content msg) ≡ by_memory whole.state (takes stamp m msg (content msg)))
    by_said (Said said is) =
        let whole = whole_of share parameters p m clock in
        let sizes : same m ≡ memory_of whole.parts parameters p.number whole.state =
        λ k. record { number = one.number k; nodes = one.nodes k; per_node = one.per_node k; pointers = one.pointers k; homes = m.homes; packets = m.packets } in
        ap (deliver_by whole.parts parameters whole.number stamp whole.state msg) is
        ∙ sym (ap (λ c. by_memory whole.state (takes stamp m msg c)) is
        ∙ (ap (by_memory whole.state) (at_same_home stamp m msg said (is_trapped m.pointers (home_at m msg.line.0) msg.src.0 said))
        ∙ ap (λ (x : Memory). by_memory whole.state (takes stamp x msg (ForMemory said))) sizes))
