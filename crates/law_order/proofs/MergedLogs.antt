-- The logs of the journal that logs merge to are these logs.
use Rattle.std.proofs.Common.{◌≡◌, ℕ, ◌<◌, List, [], ◌∷◌, refl, sym, ap, ◌∙◌, arith}
use Rattle.std.proofs.lemmas.List.FromFn.{get_or-map-range_with_len}
use Rattle.alw_msg.specs.declared.events.Entry.{Entry}
use Rattle.alw_image.specs.declared.parts.Parts.{Parts}
use Rattle.alw_image.specs.Images.{node_count}
use Rattle.alw_image.specs.Parameters.{Parameters}
use Rattle.alw_model.specs.NodeSteps.{Stepped}
use Rattle.alw_model.specs.Machine.{MachineState, machine_start, stepped_by, step}
use Rattle.alw_model.specs.Runs.{moments, moments_from}
use Rattle.alw_model.specs.Rows.{log_in, logs_of}
use Rattle.alw_model.specs.Threads.{Logged, Logs, log_at, merged}
use Rattle.law_order.specs.Merges.{AreLocalRuns}
use Rattle.law_order.specs.Aims.{IsAimed}
use Rattle.law_order.proofs.Aimed.{start_aimed, step_aimed}
use Rattle.law_order.proofs.LogOrders.{entries, mine}
use Rattle.law_order.proofs.Leftovers.{IsLeft, next_legal, left_next, taken_right, stepped_is, run}
use Rattle.law_order.proofs.JournalLogs.{logged_run, log_is_mine}
use Rattle.law_order.proofs.Merging.{whole, mine_is, merged_is, left_at_start}

module _ (parts : Parts) (parameters : Parameters) where
  -- what is left runs as it was logged
  runs_alike : (s : MachineState) (left : List Logged) → IsAimed parts s → IsLeft parts parameters s left → logged_run parts parameters s (entries left) ≡ left
  runs_alike s [] aimed is = refl
  runs_alike s (logged ∷ rest) aimed is =
      let legal = next_legal parts parameters s aimed logged rest is in
      let next = step parts parameters s logged.entry.event in
      let deeper = runs_alike next rest (step_aimed parts parameters s logged.entry.event legal.enabled aimed) (left_next parts parameters s aimed logged rest is) in
      let taken = taken_right parts parameters s aimed logged rest is in
      let sends : (stepped_by parts parameters s logged.entry.event).sends ≡ logged.sent =
      ap (λ (v : Stepped). v.sends) (stepped_is parts parameters s aimed logged rest is) ∙ sym (run parts parameters s aimed logged rest is).0.sent in
      λ i. record { entry = logged.entry; taken = taken i; sent = sends i } ∷ deeper i

  module _ (logs : Logs) (are : AreLocalRuns parts parameters logs) where
    -- of each node the journal has its log
    pub log_again : (n : ℕ) → log_in n (moments parts parameters (merged logs)) ≡ log_at logs n
    unfolding moments
    log_again n =
        let all = whole parts parameters logs are in
        let same : logged_run parts parameters (machine_start parts) (entries all) ≡ all =
        runs_alike (machine_start parts) all (start_aimed parts parameters) (left_at_start parts parameters logs are) in
        log_is_mine n (moments_from parts parameters (machine_start parts) (merged logs))
        ∙ (ap (λ (journal : List Entry). mine n (logged_run parts parameters (machine_start parts) journal)) (merged_is parts parameters logs are)
        ∙ (ap (mine n) same ∙ mine_is parts parameters logs are n))

    pub logs_again : (n : ℕ) → n < node_count parts → log_at (logs_of parts parameters (merged logs)) n ≡ log_at logs n
    logs_again n l = get_or-map-range_with_len (λ number. log_in number (moments parts parameters (merged logs))) 0 (node_count parts) n n [] l (omega arith) ∙ log_again n
