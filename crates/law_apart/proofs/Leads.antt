-- Along a node's run in a picture its contexts that have halted stay so, and its clock doesn't fall.
use Rattle.std.proofs.Common.{ℕ, List, [], ◌∷◌, subst, arith}
use Rattle.alw_msg.specs.declared.events.Event.{Event}
use Rattle.alw_msg.specs.Events.{node_of}
use Rattle.alw_image.specs.declared.parts.Parts.{Parts}
use Rattle.alw_image.specs.Parameters.{Parameters}
use Rattle.alw_model.specs.NodeStates.{NodeState}
use Rattle.alw_model.specs.Machine.{node_at, taken_by}
use Rattle.law_order.proofs.Clocks.{clock_stepped, stamp_above}
use Rattle.alw_times.specs.declared.costs.Costs.{Costs}
use Rattle.law_windows.proofs.Halted.{node_halted_stays}
use Rattle.law_windows.proofs.Limits.{NodeLeads, node_leads_itself}
use Rattle.law_apart.specs.Pictures.{Picture, IsPicture}
use Rattle.law_apart.specs.Alone.{after_in, after_all, ComesIn, RunsIn}
use Rattle.law_apart.proofs.Runs.{enabled_in, stays_picture}

node_leads_then : (one next last : NodeState) → NodeLeads one next → NodeLeads next last → NodeLeads one last
node_leads_then one next last first then = record { halted = λ is. then.halted (first.halted is); clock = let low = first.clock in let high = then.clock in omega (arith, low, high) }

module _ (image : Parts) (parameters : Parameters) (costs : Costs) (n bound : ℕ) where
  event_leads : (picture : Picture) (event : Event) → IsPicture image picture → ComesIn image parameters costs picture n bound event →
      NodeLeads (node_at picture.state n) (node_at (after_in image parameters costs picture event).state n)
  event_leads picture event is comes =
      let s = picture.state in
      let enabled = enabled_in image parameters costs n bound picture event comes in
      let next = after_in image parameters costs picture event in
      subst (λ (k : ℕ). NodeLeads (node_at picture.state k) (node_at next.state k)) comes.due.node (record {
        halted = node_halted_stays image parameters s event is.aimed enabled;
        clock = let rises = clock_stepped image parameters s event is.aimed enabled in
            let above = stamp_above (node_at s (node_of event)).clock (taken_by image s event) in omega (arith, rises, above);
      })

  pub run_leads : (picture : Picture) (events : List Event) → IsPicture image picture → RunsIn image parameters costs picture n bound events →
      NodeLeads (node_at picture.state n) (node_at (after_all image parameters costs picture events).state n)
  run_leads picture [] is runs = node_leads_itself (node_at picture.state n)
  run_leads picture (event ∷ rest) is runs =
      let next = after_in image parameters costs picture event in
      node_leads_then (node_at picture.state n) (node_at next.state n) (node_at (after_all image parameters costs next rest).state n)
      (event_leads picture event is runs.0) (run_leads next rest (stays_picture image parameters costs n bound picture event is runs.0) runs.1)
