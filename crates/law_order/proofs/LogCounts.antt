-- A journal's logs have its entries, each as often; so they merge to the journal sorted.
use Rattle.std.proofs.Common.{◌≡◌, ℕ, zero, suc, ◌+◌, ◌<◌, ◌==◌, Bool, true, false, cond, List, [], ◌∷◌, ◌++◌, map, refl, sym, ap, ◌∙◌, append-nil, arith}
use Rattle.std.specs.List.{AllByRecursion, range_with_len}
use Rattle.std.proofs.lemmas.Bool.{eq-eqb, ne_eqb}
use Rattle.std.proofs.lemmas.Grind.{flat_map-append}
use Rattle.std.proofs.lemmas.List.FromFn.{map-range_with_len_more}
use Rattle.alw_num.specs.Weights.{weigh, sum_below}
use Rattle.alw_num.proofs.Weigh.{is_node, weigh-append, sum_same, sum_both, sum_none}
use Rattle.alw_msg.specs.declared.events.Entry.{Entry}
use Rattle.alw_image.specs.declared.parts.Parts.{Parts}
use Rattle.alw_image.specs.Images.{node_count}
use Rattle.alw_image.specs.Parameters.{Parameters}
use Rattle.alw_msg.specs.Events.{node_of}
use Rattle.alw_model.specs.Machine.{MachineState, machine_start, step, AreLegal, IsLegal}
use Rattle.alw_model.specs.Runs.{moments}
use Rattle.alw_model.specs.Rows.{log_in, logs_of}
use Rattle.alw_model.specs.Threads.{Logged, Logs, in_order, merged}
use Rattle.law_lines.proofs.Steps.{enabled_is}
use Rattle.law_order.specs.Merges.{JournalIsWithin, entries_of}
use Rattle.law_order.proofs.Orders.{sorted_same}
use Rattle.law_order.proofs.Reached.{in_order_ascends}
use Rattle.law_order.proofs.Unique.{count_alike, one_list}
use Rattle.law_order.proofs.LogOrders.{entries, mine, all_logs, entries_all}
use Rattle.law_order.proofs.Merging.{merged_entries, merged_ascends}
use Rattle.law_order.proofs.JournalLogs.{log_is_mine, logged_run, run_entries, whole_run, journal_logs}

-- a number at one place below n, and 0 elsewhere
sum_point : (n k a : ℕ) → k < n → sum_below n (λ i. cond (k == i) a 0) ≡ a
sum_point zero k a l = absurd (omega arith)
sum_point (suc n) k a l = is_node _ k n
    (λ same. omega (arith, ap (λ b. cond b a 0) (eq-eqb k n same), sum_none n (λ i. cond (k == i) a 0) (λ i m. ap (λ b. cond b a 0) (ne_eqb k i (λ e. omega arith)))))
    (λ other. omega (arith, ap (λ b. cond b a 0) (ne_eqb k n other), sum_point n k a (omega arith)))

module _ (value : Logged → ℕ) where
  -- entries of nodes below n, node by node
  by_node : (n : ℕ) (log : List Logged) → AllByRecursion (λ (logged : Logged). node_of logged.entry.event < n) log → sum_below n (λ k. weigh value (mine k log)) ≡ weigh value log
  by_node n [] all = sum_none n (λ k. 0) (λ k l. refl)
  by_node n (logged ∷ rest) all =
      sum_same n (λ k. weigh value (mine k (logged ∷ rest))) (λ k. cond (node_of logged.entry.event == k) (value logged) 0 + weigh value (mine k rest)) (λ k l. split (node_of logged.entry.event == k) (mine k rest))
      ∙ omega (arith, sum_both n (λ k. cond (node_of logged.entry.event == k) (value logged) 0) (λ k. weigh value (mine k rest)), sum_point n (node_of logged.entry.event) (value logged) all.0, by_node n rest all.1)
    where
      split : (b : Bool) (others : List Logged) → weigh value (cond b (logged ∷ others) others) ≡ cond b (value logged) 0 + weigh value others
      split true others = refl
      split false others = omega arith

  -- logs by number, one after the other
  by_log : (f : ℕ → List Logged) (n : ℕ) → weigh value (all_logs (map f (range_with_len 0 n))) ≡ sum_below n (λ k. weigh value (f k))
  by_log f zero = refl
  by_log f (suc n) =
      let more : map f (range_with_len 0 (n + 1)) ≡ map f (range_with_len 0 n) ++ f n ∷ [] = map-range_with_len_more f 0 n n (omega arith) in
      let joined : all_logs (map f (range_with_len 0 n) ++ f n ∷ []) ≡ all_logs (map f (range_with_len 0 n)) ++ f n = flat_map-append (λ (log : List Logged). log) (map f (range_with_len 0 n)) (f n ∷ []) ∙ ap (λ (xs : List Logged). all_logs (map f (range_with_len 0 n)) ++ xs) (append-nil (f n)) in
      let e : suc n ≡ n + 1 = omega arith in
      ap (λ (m : ℕ). weigh value (all_logs (map f (range_with_len 0 m)))) e
      ∙ (ap (λ (logs : Logs). weigh value (all_logs logs)) more ∙ (ap (weigh value) joined ∙ omega (arith, weigh-append value (all_logs (map f (range_with_len 0 n))) (f n), by_log f n)))

weigh_entries : (value : Entry → ℕ) (log : List Logged) → weigh value (entries log) ≡ weigh (λ (logged : Logged). value logged.entry) log
weigh_entries value [] = refl
weigh_entries value (logged ∷ rest) = omega (arith, weigh_entries value rest)

module _ (parts : Parts) (parameters : Parameters) where
  nodes_exist : (s : MachineState) (journal : List Entry) → AreLegal parts parameters s journal → AllByRecursion (λ (logged : Logged). node_of logged.entry.event < node_count parts) (logged_run parts parameters s journal)
  nodes_exist s [] legal = tt
  nodes_exist s (entry ∷ rest) (next, legal) = ((enabled_is parts parameters s entry.event next.enabled).here, nodes_exist (step parts parameters s entry.event) rest legal)

  module _ (journal : List Entry) (legal : IsLegal parts parameters journal) where
    logs_count : (value : Entry → ℕ) → weigh value (entries_of (logs_of parts parameters journal)) ≡ weigh value journal
    unfolding moments
    logs_count value =
        let v : Logged → ℕ = λ logged. value logged.entry in
        let run = moments parts parameters journal in
        ap (weigh value) (entries_all (logs_of parts parameters journal))
        ∙ (weigh_entries value (all_logs (logs_of parts parameters journal))
        ∙ (by_log v (λ number. log_in number run) (node_count parts)
        ∙ (sum_same (node_count parts) (λ k. weigh v (log_in k run)) (λ k. weigh v (mine k (whole_run parts parameters journal legal))) (λ k l. ap (weigh v) (log_is_mine k run))
        ∙ (by_node v (node_count parts) (whole_run parts parameters journal legal) (nodes_exist (machine_start parts) journal legal)
        ∙ (sym (weigh_entries value (whole_run parts parameters journal legal)) ∙ ap (weigh value) (run_entries parts parameters (machine_start parts) journal))))))

    -- the logs of a legal journal within the limit merge to it sorted
    pub logs_merge : JournalIsWithin parameters journal → merged (logs_of parts parameters journal) ≡ in_order journal
    logs_merge within =
        let logs = logs_of parts parameters journal in
        let are = journal_logs parts parameters journal legal within in
        one_list (merged logs) (in_order journal)
        (λ value. sym (count_alike (entries_of logs) (merged logs) (merged_entries parts parameters logs are) value) ∙ (logs_count value ∙ count_alike journal (in_order journal) (sorted_same journal) value))
        (merged_ascends parts parameters logs are) (in_order_ascends parts parameters journal legal)
