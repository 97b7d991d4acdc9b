-- What a node sends has no bytes that kinds don't carry.
use Rattle.std.proofs.Common.{◌≡◌, ℕ, ◌==◌, Bool, true, false, cond, List, [], ◌∷◌, ◌++◌, map, filter, refl, sym, ap, ◌∙◌}
use Rattle.std.proofs.lemmas.List.{map-append}
use Rattle.alw_num.specs.declared.addresses.Line.{Line}
use Rattle.alw_msg.specs.declared.messages.Msg.{Msg}
use Rattle.alw_image.specs.declared.parts.Parts.{Parts}
use Rattle.alw_image.specs.Parameters.{Parameters}
use Rattle.alw_model.specs.NodeStates.{NodeState, stamp_of}
use Rattle.alw_model.specs.NodeSteps.{node_step}
use Rattle.alw_model.specs.Threads.{Logged, IsRunFrom, sent_to}
use Rattle.alw_cells.specs.Cells.{IsCell, picked, as_carried}
use Rattle.alw_cells.specs.Records.{BodyIsPlain, SendsAreOfEvent}
use Rattle.alw_cells.proofs.Sends.{step_so}
use Rattle.alw_cells.specs.Cells.{Cell}
use Rattle.alw_work.specs.Ties.{all_carried, SendsPlain}

same_msg : (msg : Msg) → BodyIsPlain msg → as_carried msg ≡ msg
same_msg msg plain = ap (λ (body : Line). record msg { body = body }) plain

picked_plain : (to n stamp : ℕ) (sent : List (ℕ × Msg)) → SendsAreOfEvent n stamp sent → all_carried (picked to sent) ≡ picked to sent
picked_plain to n stamp [] are = refl
picked_plain to n stamp (send ∷ rest) are = go (send.0 == to) (picked_plain to n stamp rest are.1)
  where
    go : (b : Bool) → all_carried (picked to rest) ≡ picked to rest
        → all_carried (map (λ (s : ℕ × Msg). s.1) (cond b (send ∷ filter (λ (s : ℕ × Msg). s.0 == to) rest) (filter (λ (s : ℕ × Msg). s.0 == to) rest)))
        ≡ map (λ (s : ℕ × Msg). s.1) (cond b (send ∷ filter (λ (s : ℕ × Msg). s.0 == to) rest) (filter (λ (s : ℕ × Msg). s.0 == to) rest))
    go true more = λ i. same_msg send.1 are.0.plain i ∷ more i
    go false more = more

run_plain : (parts : Parts) (parameters : Parameters) (n : ℕ) (node : NodeState) (log : List Logged) (to : ℕ) → IsRunFrom parts parameters n node log
    → all_carried (sent_to to log) ≡ sent_to to log
run_plain parts parameters n node [] to run = refl
run_plain parts parameters n node (logged ∷ rest) to run =
    let step = node_step parts parameters n node logged.entry.event logged.taken in
    let are : all_carried (picked to step.sends) ≡ picked to step.sends =
    picked_plain to n (stamp_of node.clock logged.taken) step.sends (step_so parts parameters n node logged.entry.event logged.taken) in
    let same : picked to logged.sent ≡ picked to step.sends = ap (picked to) run.0.sent in
    let here : all_carried (picked to logged.sent) ≡ picked to logged.sent = ap all_carried same ∙ (are ∙ sym same) in
    let more = run_plain parts parameters n step.node rest to run.1 in
    map-append as_carried (picked to logged.sent) (sent_to to rest) ∙ (λ i. here i ++ more i)

-- of a cell
pub cell_plain : (cell : Cell) → IsCell cell → SendsPlain cell
cell_plain cell is to = run_plain cell.node.parts cell.node.parameters cell.node.number _ cell.log to is.run
