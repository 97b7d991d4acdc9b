-- Whether every context has halted, by nodes.
use Rattle.std.proofs.Common.{◌≡◌, ℕ, zero, suc, ◌<◌, Bool, true, List, [], ◌∷◌, length, slice_index_or, IsTrue, refl, sym, ap, ◌∙◌, arith}
use Rattle.std.specs.List.{list_all}
use Rattle.std.proofs.lemmas.List.{get_or-set_same}
use Rattle.alw_msg.specs.declared.events.Event.{Event}
use Rattle.alw_msg.specs.declared.events.Event.TheVariants.{Instr, Handle, Deliver, Evict}
use Rattle.alw_msg.specs.Events.{node_of}
use Rattle.alw_image.specs.declared.parts.Parts.{Parts}
use Rattle.alw_image.specs.Parameters.{Parameters}
use Rattle.alw_model.specs.Contexts.{all_halted}
use Rattle.alw_model.specs.NodeStates.{NodeState}
use Rattle.alw_model.specs.NodeSteps.{Stepped}
use Rattle.alw_model.specs.Machine.{MachineState, node_at, no_node, taken_by, is_enabled, has_halted, stepped_by, step}
use Rattle.alw_model.proofs.Journals.{and_is}
use Rattle.law_order.specs.Orders.{SeesAlike}
use Rattle.law_order.specs.Aims.{IsAimed}
use Rattle.law_order.proofs.Local.{enabled_alike, stepped_alike}
use Rattle.law_order.proofs.Halting.{all_at, halted_stays}
use Rattle.law_order.proofs.Clocks.{node_stepped}

abbrev test : NodeState → Bool
test node = all_halted node.slots

all_nodes : (nodes : List NodeState) → ((k : ℕ) → test (slice_index_or nodes k no_node) ≡ true) → list_all test nodes ≡ true
all_nodes [] each = refl
all_nodes (node ∷ rest) each = and_is (test node) (list_all test rest) (each 0) (all_nodes rest (λ k. each (suc k)))

-- a machine has halted where each of its nodes has
pub halted_by : (s : MachineState) → ((k : ℕ) → all_halted (node_at s k).slots ≡ true) → has_halted s ≡ true
halted_by s each = all_nodes s.nodes each

-- and each of its nodes has where it has
pub each_halted : (s : MachineState) → has_halted s ≡ true → (k : ℕ) → all_halted (node_at s k).slots ≡ true
each_halted s all k = all_at test s.nodes k no_node all refl

-- ---- a node by itself

-- a node behind others without contexts
abbrev lone : ℕ → NodeState → List NodeState
lone zero node = node ∷ []
lone (suc k) node = no_node ∷ lone k node

lone_at : (k : ℕ) (node : NodeState) → slice_index_or (lone k node) k no_node ≡ node
lone_at zero node = refl
lone_at (suc k) node = lone_at k node

lone_long : (k : ℕ) (node : NodeState) → k < length (lone k node)
lone_long zero node = omega arith
lone_long (suc k) node = let more = lone_long k node in omega (arith, more)

lone_all : (k : ℕ) (node : NodeState) → test node ≡ true → list_all test (lone k node) ≡ true
lone_all zero node is = and_is (test node) true is refl
lone_all (suc k) node is = lone_all k node is

taken_so : (parts : Parts) (s s' : MachineState) (e : Event) → s.links ≡ s'.links → taken_by parts s e ≡ taken_by parts s' e
taken_so parts s s' (Instr at) same = refl
taken_so parts s s' (Handle at) same = refl
taken_so parts s s' (Deliver from to) same = λ x. taken_by parts (record { nodes = s.nodes; links = same x }) (Deliver from to)
taken_so parts s s' (Evict at set) same = refl

module _ (parts : Parts) (parameters : Parameters) (s : MachineState) (e : Event) (aimed : IsAimed parts s) (enabled : IsTrue (is_enabled parts parameters s e)) where
  -- the machine in which the event's node alone has contexts
  abbrev by_itself : MachineState
  by_itself = record { nodes = lone (node_of e) (node_at s (node_of e)); links = s.links }

  sees : SeesAlike parts e by_itself s
  sees = record { node = lone_at (node_of e) (node_at s (node_of e)); taken = taken_so parts by_itself s e refl }

  -- once all of its node's contexts have halted they stay so
  pub node_halted_stays : all_halted (node_at s (node_of e)).slots ≡ true → all_halted (node_at (step parts parameters s e) (node_of e)).slots ≡ true
  node_halted_stays is =
      let n = node_of e in
      let able : IsTrue (is_enabled parts parameters by_itself e) = enabled_alike parts parameters by_itself s e sees ∙ enabled in
      let all = halted_stays parts parameters by_itself e able (lone_all n (node_at s n) is) in
      let there = each_halted (step parts parameters by_itself e) all n in
      let v = stepped_by parts parameters by_itself e in
      let stands = get_or-set_same by_itself.nodes n v.node no_node (lone_long n (node_at s n)) in
      ap test (node_stepped parts parameters s e aimed enabled)
      ∙ (ap (λ (w : Stepped). test w.node) (sym (stepped_alike parts parameters by_itself s e sees))
      ∙ (ap test (sym stands) ∙ there))
