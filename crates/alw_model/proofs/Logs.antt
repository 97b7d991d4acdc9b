-- Laws of a node's log.
use Rattle.std.proofs.Common.{◌≡◌, ℕ, ◌<◌, Option, Some, None, List, [], ◌∷◌, sym, subst, arith}
use Rattle.std.specs.Prelude.{IfSome}
use Rattle.alw_msg.specs.declared.messages.Msg.{Msg}
use Rattle.alw_image.specs.declared.parts.Parts.{Parts}
use Rattle.alw_image.specs.Parameters.{Parameters}
use Rattle.alw_model.specs.NodeStates.{NodeState, node_start, stamp_of}
use Rattle.alw_model.specs.NodeSteps.{node_step}
use Rattle.alw_model.specs.Threads.{Logged, IsRunFrom, IsLocalRun, StampsRise}

above_clock : (clock stamp : ℕ) (taken : Option Msg) → stamp ≡ stamp_of clock taken → clock < stamp
above_clock clock stamp None e = omega arith
above_clock clock stamp (Some msg) e = omega arith

above_message : (clock stamp : ℕ) (taken : Option Msg) → stamp ≡ stamp_of clock taken → IfSome taken (λ msg. msg.stamp < stamp)
above_message clock stamp None e = tt
above_message clock stamp (Some msg) e = omega arith

module _ (parts : Parts) (parameters : Parameters) (number : ℕ) where
  rise_from : (node : NodeState) (log : List Logged) → IsRunFrom parts parameters number node log → StampsRise node.clock log
  rise_from node [] run = tt
  rise_from node (logged ∷ rest) (next, run) = (
    above_clock node.clock logged.entry.stamp logged.taken next.stamp,
    above_message node.clock logged.entry.stamp logged.taken next.stamp,
    subst (λ clock. StampsRise clock rest) (sym next.stamp) (rise_from (node_step parts parameters number node logged.entry.event logged.taken).node rest run),
  )

  pub stamps_rise : (log : List Logged) → IsLocalRun parts parameters number log → StampsRise 0 log
  stamps_rise log run = rise_from (node_start parts number) log run
