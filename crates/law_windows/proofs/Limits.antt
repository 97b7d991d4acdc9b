-- A limit that isn't lifted from one machine to another isn't lifted between any two machines on the way.
use Rattle.std.proofs.Common.{◌≡◌, ℕ, ◌<◌, ◌≤◌, nat_le, Bool, true, false, IsTrue, Option, Some, None, ◌⊎◌, inl, inr, refl, sym, subst, ◌∙◌, arith}
use Rattle.std.proofs.lemmas.Bool.{le-leb, ltb-true}
use Rattle.alw_num.proofs.Weigh.{is_node}
use Rattle.alw_msg.specs.declared.messages.Msg.{Msg}
use Rattle.alw_msg.specs.declared.events.Event.{Event}
use Rattle.alw_msg.specs.declared.events.Event.TheVariants.{Instr, Handle, Deliver, Evict}
use Rattle.alw_msg.specs.Events.{node_of}
use Rattle.alw_msg.specs.Lists.{front}
use Rattle.alw_image.specs.declared.parts.Parts.{Parts}
use Rattle.alw_image.specs.Images.{node_count}
use Rattle.alw_image.specs.Parameters.{Parameters}
use Rattle.alw_model.specs.Contexts.{all_halted}
use Rattle.alw_model.specs.NodeStates.{NodeState, stamp_of}
use Rattle.alw_model.specs.Machine.{MachineState, node_at, link_at, taken_by, stamp_at, is_enabled, has_halted, stepped_by, step}
use Rattle.alw_model.proofs.Journals.{and_parts}
use Rattle.law_lines.proofs.Steps.{enabled_is}
use Rattle.law_order.specs.Aims.{IsAimed}
use Rattle.law_order.proofs.Clocks.{clock_stepped, stamp_above}
use Rattle.law_order.proofs.Local.{node_kept}
use Rattle.law_machine.proofs.MachineRuns.{always_kept}
use Rattle.law_machine.proofs.Sends.{MsgStands}
use Rattle.law_machine.proofs.Timing.{each_front}
use Rattle.alw_mesh.specs.Histories.{History, IsRun, grown, state_of, may_be_next}
use Rattle.alw_times.specs.declared.costs.Costs.{Costs}
use Rattle.alw_due.proofs.Left as left
use Rattle.law_windows.specs.Windows.{NoneIsAtLimit}
use Rattle.law_windows.proofs.Halted.{halted_by, each_halted, node_halted_stays}

-- ---- a machine and a later one

-- a node that has halted stays so, and no clock falls
pub record NodeLeads (node later : NodeState) : Type 0 where
  pub halted : all_halted node.slots ≡ true → all_halted later.slots ≡ true
  pub clock : node.clock ≤ later.clock

abbrev pub Leads : MachineState → MachineState → Type 0
Leads s later = (k : ℕ) → NodeLeads (node_at s k) (node_at later k)

pub node_leads_itself : (node : NodeState) → NodeLeads node node
node_leads_itself node = record { halted = λ is. is; clock = omega arith }

pub leads_itself : (s : MachineState) → Leads s s
leads_itself s k = node_leads_itself (node_at s k)

pub leads_then : (s next last : MachineState) → Leads s next → Leads next last → Leads s last
leads_then s next last one other k = record {
  halted = λ is. (other k).halted ((one k).halted is);
  clock = let first = (one k).clock in let then = (other k).clock in omega (arith, first, then);
}

leads_step : (parts : Parts) (parameters : Parameters) (s : MachineState) (e : Event) → IsAimed parts s → IsTrue (is_enabled parts parameters s e) → Leads s (step parts parameters s e)
leads_step parts parameters s e aimed enabled k = is_node (NodeLeads (node_at s k) (node_at next k)) k (node_of e)
    (λ same. subst (λ (j : ℕ). NodeLeads (node_at s j) (node_at next j)) (sym same) here)
    (λ other. subst (λ (node : NodeState). NodeLeads (node_at s k) node) (sym (node_kept parts parameters s e (stepped_by parts parameters s e) k other)) (node_leads_itself (node_at s k)))
  where
    next : MachineState
    next = step parts parameters s e

    here : NodeLeads (node_at s (node_of e)) (node_at (step parts parameters s e) (node_of e))
    here = record {
      halted = node_halted_stays parts parameters s e aimed enabled;
      clock = let is = clock_stepped parts parameters s e aimed enabled in let above = stamp_above (node_at s (node_of e)).clock (taken_by parts s e) in omega (arith, is, above);
    }

-- a machine leads to the same with an event more
pub grown_leads : (h : History) (costs : Costs) (event : Event) → IsRun h → may_be_next h event ≡ true → Leads (state_of h) (state_of (grown h event))
grown_leads h costs event run may =
    subst (λ (m : MachineState). Leads (state_of h) m) (sym (left.after_is h costs event run may))
    (leads_step h.image h.parameters (state_of h) event (left.are h costs event run may).aimed (and_parts (is_enabled h.image h.parameters (state_of h) event) _ may).0)

halts_with : (s later : MachineState) → Leads s later → has_halted s ≡ true → has_halted later ≡ true
halts_with s later leads is = halted_by later (λ k. (leads k).halted (each_halted s is k))

-- ---- machines between two

-- no node's clock is at the limit
abbrev pub NoneAt : Parts → Parameters → MachineState → Type 0
NoneAt parts parameters s = (n : ℕ) → n < node_count parts → (node_at s n).clock < parameters.limit

abbrev pub LiftsNone : Parts → Parameters → MachineState → MachineState → Type 0
LiftsNone parts parameters s later = (has_halted later ≡ has_halted s) ⊎ NoneAt parts parameters later

pub record IsBetween (first last s : MachineState) : Type 0 where
  pub since : Leads first s
  pub till : Leads s last

module _ (parts : Parts) (parameters : Parameters) (first last : MachineState) where
  alike_between : (s : MachineState) → IsBetween first last s → has_halted last ≡ has_halted first → has_halted s ≡ has_halted first
  alike_between s between same = go (has_halted first) refl (has_halted s) refl
    where
      go : (a : Bool) → has_halted first ≡ a → (b : Bool) → has_halted s ≡ b → has_halted s ≡ has_halted first
      go true is b also = halts_with first s between.since is ∙ sym is
      go false is false also = also ∙ sym is
      go false is true also = absurd (let all = halts_with s last between.till also in cc)

  -- none is lifted from one to another
  pub none_between : LiftsNone parts parameters first last → (s other : MachineState) → IsBetween first last s → IsBetween first last other → LiftsNone parts parameters s other
  none_between (inl same) s other one two = inl (alike_between other two same ∙ sym (alike_between s one same))
  none_between (inr none) s other one two = inr (λ n here. let le = (two.till n).clock in let below = none n here in omega (arith, le, below))

-- ---- stamps within the limit

-- where no clock is at the limit each event that is enabled has a stamp within it
module _ (h : History) (run : IsRun h) (none : NoneIsAtLimit h) where
  clock_below : (f : Event) → IsTrue (is_enabled h.image h.parameters (state_of h) f) → (node_at (state_of h) (node_of f)).clock < h.parameters.limit
  clock_below f enabled = none (node_of f) (enabled_is h.image h.parameters (state_of h) f enabled).here

  stamp_small : (f : Event) → IsTrue (is_enabled h.image h.parameters (state_of h) f) → stamp_at h.image (state_of h) f ≤ h.parameters.limit
  stamp_small (Instr at) enabled = let below = clock_below (Instr at) enabled in omega (arith, below)
  stamp_small (Handle at) enabled = let below = clock_below (Handle at) enabled in omega (arith, below)
  stamp_small (Evict at set) enabled = let below = clock_below (Evict at set) enabled in omega (arith, below)
  stamp_small (Deliver from to) enabled = go (front (link_at h.image (state_of h) from.0 to.0)) refl
    where
      s : MachineState
      s = state_of h

      below : (node_at (state_of h) to.0).clock < h.parameters.limit
      below = clock_below (Deliver from to) enabled

      sender : from.0 < node_count h.image
      sender = ltb-true from.0 (node_count h.image) (and_parts _ _ (enabled_is h.image h.parameters (state_of h) (Deliver from to) enabled).may_be).0

      go : (head : Option Msg) → front (link_at h.image (state_of h) from.0 to.0) ≡ head → stamp_of (node_at (state_of h) to.0).clock head ≤ h.parameters.limit
      go None is = omega (arith, below)
      go (Some msg) is =
          let kept = always_kept h.image run.image h.parameters run.parameters h.journal run.legal in
          let here = (enabled_is h.image h.parameters (state_of h) (Deliver from to) enabled).here in
          let stands = each_front (MsgStands h.image from.0 to.0 (node_at (state_of h) from.0).clock) (link_at h.image (state_of h) from.0 to.0) msg (kept.times.links from.0 to.0 sender here) is in
          let stamp = stands.stamp in
          let sent = none from.0 sender in
          omega (arith, below, stamp, sent)

  pub stamp_within : (f : Event) → IsTrue (is_enabled h.image h.parameters (state_of h) f) → nat_le (stamp_at h.image (state_of h) f) h.parameters.limit ≡ true
  stamp_within f enabled = le-leb (stamp_at h.image (state_of h) f) h.parameters.limit (stamp_small f enabled)
