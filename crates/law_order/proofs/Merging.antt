-- Logs that are local runs, and whose links agree, merge to a legal journal.
use Rattle.std.proofs.Common.{◌≡◌, ℕ, ◌+◌, ◌*◌, ◌<◌, ◌≤◌, ◌==◌, cond, List, [], ◌∷◌, ◌++◌, get_or, refl, sym, subst, ap, ◌∙◌, append-nil, arith}
use Rattle.std.specs.List.{AllByRecursion}
use Rattle.std.specs.List.Sorted.{IsPermutation}
use Rattle.std.proofs.lemmas.Bool.{eqb-true, eq-eqb, ne_eqb}
use Rattle.std.proofs.lemmas.List.{get_or_past, get_or-replicate, length-replicate}
use Rattle.alw_num.proofs.Weigh.{is_node, cases_lt_then}
use Rattle.alw_msg.specs.declared.messages.Msg.{Msg}
use Rattle.alw_msg.specs.declared.events.Entry.{Entry}
use Rattle.alw_image.specs.declared.parts.Parts.{Parts}
use Rattle.alw_image.specs.Images.{node_count}
use Rattle.alw_image.specs.Parameters.{Parameters}
use Rattle.alw_msg.specs.Events.{node_of}
use Rattle.alw_model.specs.NodeStates.{NodeState, node_start}
use Rattle.alw_model.specs.NodeSteps.{node_step}
use Rattle.alw_model.specs.Machine.{MachineState, machine_start, node_at, link_at, link_place, stepped_by, step, after, state, AreLegal, IsLegal}
use Rattle.alw_model.specs.Threads.{Logged, Logs, IsRunFrom, StampsRise, node_after, took_from, sent_to, log_at, in_order, merged}
use Rattle.alw_model.proofs.Journals.{and_parts}
use Rattle.alw_model.proofs.Logs.{stamps_rise}
use Rattle.law_order.specs.Orders.{Ascends}
use Rattle.law_order.specs.Merges.{AreLocalRuns, entries_of}
use Rattle.law_order.proofs.Local.{node_kept}
use Rattle.law_order.specs.Aims.{IsAimed}
use Rattle.law_order.proofs.Aimed.{start_aimed, step_aimed, node_at_start}
use Rattle.law_order.proofs.Orders.{sorted_same, sorted_ascends}
use Rattle.law_order.proofs.Reached.{rise}
use Rattle.law_order.proofs.LogOrders.{entries, mine, all_logs, in_log_order, entries_in_order, entries_all, order_ascends, mine_in_order, mine_among}
use Rattle.law_order.proofs.LogSends.{took_here, sent_here, took_split, sent_split}
use Rattle.law_order.proofs.LogMoves.{moves_back}
use Rattle.law_order.proofs.Leftovers.{IsLeft, next_legal, left_next, node_next, link_next}

module _ (parts : Parts) (parameters : Parameters) where
  -- what is left runs: its entries are legal, and leave each node and each link as the logs do
  pub record RunsOut (s : MachineState) (left : List Logged) : Type 0 where
    pub legal : AreLegal parts parameters s (entries left)
    pub nodes : (n : ℕ) → node_at (after parts parameters s (entries left)) n ≡ node_after parts parameters n (node_at s n) (mine n left)
    pub links : (a b : ℕ) → b < node_count parts → took_from a (mine b left) ++ link_at parts (after parts parameters s (entries left)) a b ≡ link_at parts s a b ++ sent_to b (mine a left)

  pub runs_out : (s : MachineState) (left : List Logged) → IsAimed parts s → IsLeft parts parameters s left → RunsOut s left
  runs_out s [] aimed is = record { legal = tt; nodes = λ n. refl; links = λ a b m. sym (append-nil (link_at parts s a b)) }
  runs_out s (logged ∷ rest) aimed is =
      let event = logged.entry.event in
      let next = step parts parameters s event in
      let legal = next_legal parts parameters s aimed logged rest is in
      let deeper = runs_out next rest (step_aimed parts parameters s event legal.enabled aimed) (left_next parts parameters s aimed logged rest is) in
      record {
        legal = (legal, deeper.legal);
        nodes = λ n. deeper.nodes n ∙ node_on n;
        links = λ a b m. ap (λ (xs : List Msg). xs ++ link_at parts (after parts parameters next (entries rest)) a b) (took_split a b logged rest)
            ∙ (moves_back (took_here a b logged) (took_from a (mine b rest)) (link_at parts (after parts parameters next (entries rest)) a b) (link_at parts s a b) (sent_here a b logged) (sent_to b (mine a rest)) (link_at parts next a b)
            (link_next parts parameters s aimed logged rest is a b m) (deeper.links a b m)
            ∙ ap (λ (xs : List Msg). link_at parts s a b ++ xs) (sym (sent_split a b logged rest)));
      }
    where
      node_on : (n : ℕ) → node_after parts parameters n (node_at (step parts parameters s logged.entry.event) n) (mine n rest) ≡ node_after parts parameters n (node_at s n) (mine n (logged ∷ rest))
      node_on n = is_node _ n (node_of logged.entry.event)
          (λ same. subst (λ (a : ℕ). node_after parts parameters a (node_at (step parts parameters s logged.entry.event) a) (mine a rest) ≡ node_after parts parameters a (node_at s a) (mine a (logged ∷ rest))) (sym same) own)
          (λ other. ap (λ (node : NodeState). node_after parts parameters n node (mine n rest)) (node_kept parts parameters s logged.entry.event (stepped_by parts parameters s logged.entry.event) n other)
          ∙ ap (λ b. node_after parts parameters n (node_at s n) (cond b (logged ∷ mine n rest) (mine n rest))) (sym (ne_eqb (node_of logged.entry.event) n (λ same. other (sym same)))))
        where
          own : node_after parts parameters (node_of logged.entry.event) (node_at (step parts parameters s logged.entry.event) (node_of logged.entry.event)) (mine (node_of logged.entry.event) rest)
              ≡ node_after parts parameters (node_of logged.entry.event) (node_at s (node_of logged.entry.event)) (mine (node_of logged.entry.event) (logged ∷ rest))
          own =
              let m = node_of logged.entry.event in
              ap (λ (node : NodeState). node_after parts parameters m node (mine m rest)) (node_next parts parameters s aimed logged rest is)
              ∙ ap (λ b. node_after parts parameters m (node_at s m) (cond b (logged ∷ mine m rest) (mine m rest))) (sym (eq-eqb m m refl))

-- ---- from the start

nodes_of_run : (parts : Parts) (parameters : Parameters) (n : ℕ) (node : NodeState) (log : List Logged) → IsRunFrom parts parameters n node log → AllByRecursion (λ (logged : Logged). node_of logged.entry.event ≡ n) log
nodes_of_run parts parameters n node [] run = tt
nodes_of_run parts parameters n node (logged ∷ rest) (next, run) = (
  eqb-true (node_of logged.entry.event) n (and_parts (node_of logged.entry.event == n) _ next.enabled).0,
  nodes_of_run parts parameters n (node_step parts parameters n node logged.entry.event logged.taken).node rest run,
)

pub link_at_start : (parts : Parts) (a b : ℕ) → link_at parts (machine_start parts) a b ≡ []
link_at_start parts a b = cases_lt_then (node_count parts * node_count parts) (link_place parts a b)
    (λ l. get_or-replicate (node_count parts * node_count parts) (link_place parts a b) [] [] l)
    (λ l. get_or_past _ (link_place parts a b) [] (rw (length-replicate {A = List Msg} (node_count parts * node_count parts) []) l))

module _ (parts : Parts) (parameters : Parameters) (logs : Logs) (are : AreLocalRuns parts parameters logs) where
  abbrev pub whole : List Logged
  whole = in_log_order (all_logs logs)

  -- past the last node there is no log
  no_log : (n : ℕ) → node_count parts ≤ n → log_at logs n ≡ []
  no_log n l = get_or_past logs n [] (rw are.count l)

  logs_from : (i : ℕ) → AllByRecursion (λ (logged : Logged). node_of logged.entry.event ≡ 0 + i) (get_or logs i [])
  logs_from i = subst (λ (m : ℕ). AllByRecursion (λ (logged : Logged). node_of logged.entry.event ≡ m) (get_or logs i [])) (let e : i ≡ 0 + i = omega arith in e) (cases_lt_then (node_count parts) i
      (λ l. nodes_of_run parts parameters i (node_start parts i) (log_at logs i) (are.runs i l))
      (λ l. subst (AllByRecursion (λ (logged : Logged). node_of logged.entry.event ≡ i)) (sym (no_log i l)) tt))

  log_rises : (n : ℕ) → StampsRise 0 (log_at logs n)
  log_rises n = cases_lt_then (node_count parts) n
      (λ l. stamps_rise parts parameters n (log_at logs n) (are.runs n l))
      (λ l. subst (StampsRise 0) (sym (no_log n l)) tt)

  pub mine_is : (n : ℕ) → mine n whole ≡ log_at logs n
  mine_is n =
      let among = mine_among n 0 n logs (omega arith) logs_from in
      mine_in_order n 0 (all_logs logs) (subst (StampsRise 0) (sym among) (log_rises n)) ∙ among

  pub left_at_start : IsLeft parts parameters (machine_start parts) whole
  left_at_start = record {
    runs = λ n. subst (IsRunFrom parts parameters n (node_at (machine_start parts) n)) (sym (mine_is n)) (cases_lt_then (node_count parts) n
        (λ l. subst (λ (node : NodeState). IsRunFrom parts parameters n node (log_at logs n)) (sym (node_at_start parts parameters n l)) (are.runs n l))
        (λ l. subst (IsRunFrom parts parameters n (node_at (machine_start parts) n)) (sym (no_log n l)) tt));
    agree = λ a b l m. let agree = are.agree a b (rw are.count l) (rw are.count m) in
        (agree.0, ap (λ (log : List Logged). took_from a log ++ agree.0) (mine_is b) ∙ (agree.1 ∙ sym (λ x. link_at_start parts a b x ++ sent_to b (mine_is a x))));
    ascend = order_ascends (all_logs logs);
  }

  out : RunsOut parts parameters (machine_start parts) whole
  out = runs_out parts parameters (machine_start parts) whole (start_aimed parts parameters) left_at_start

  pub merged_is : merged logs ≡ entries whole
  unfolding merged
  merged_is = ap in_order (entries_all logs) ∙ sym (entries_in_order (all_logs logs))

  pub merged_legal : IsLegal parts parameters (merged logs)
  merged_legal = subst (IsLegal parts parameters) (sym merged_is) out.legal

  pub merged_entries : IsPermutation (entries_of logs) (merged logs)
  unfolding merged
  merged_entries = sorted_same (entries_of logs)

  pub merged_ascends : Ascends (merged logs)
  unfolding merged
  merged_ascends = sorted_ascends (entries_of logs) (rise parts parameters (merged logs) merged_legal)

  pub merged_nodes : (n : ℕ) → n < node_count parts → node_at (state parts parameters (merged logs)) n ≡ node_after parts parameters n (node_start parts n) (log_at logs n)
  unfolding state
  merged_nodes n l = ap (λ (journal : List Entry). node_at (after parts parameters (machine_start parts) journal) n) merged_is
      ∙ (out.nodes n ∙ (λ x. node_after parts parameters n (node_at_start parts parameters n l x) (mine_is n x)))

  pub merged_links : (a b : ℕ) → b < node_count parts → took_from a (log_at logs b) ++ link_at parts (state parts parameters (merged logs)) a b ≡ sent_to b (log_at logs a)
  unfolding state
  merged_links a b m =
      (λ x. took_from a (sym (mine_is b) x) ++ link_at parts (after parts parameters (machine_start parts) (merged_is x)) a b)
      ∙ (out.links a b m ∙ (λ x. link_at_start parts a b x ++ sent_to b (mine_is a x)))
