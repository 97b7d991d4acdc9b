-- What each call leaves of what a cell keeps.
use Rattle.std.proofs.Common.{◌≡◌, ℕ, zero, suc, ◌≤◌, ◌<◌, ◌==◌, Bool, true, false, cond, not, Option, Ok, List, [], ◌∷◌, ◌++◌, length, replicate, get_or, set, refl, sym, subst, ap, ◌∙◌, arith}
use Rattle.std.proofs.lemmas.Bool.{eq-eqb, ne_eqb}
use Rattle.std.proofs.lemmas.List.{get_or_read, get_or-set_same, get_or-set_other, length-set, length-replicate}
use Rattle.alw_num.specs.declared.node_sets.NodeSet.{NodeSet}
use Rattle.alw_num.specs.NodeSets.{Nodes, no_nodes, has_node, add_node, drop_node, nodes_of}
use Rattle.alw_num.proofs.Sets.{has-none, has-add, has-drop}
use Rattle.alw_num.proofs.Weigh.{is_node}
use Rattle.alw_msg.specs.declared.messages.Msg.{Msg}
use Rattle.alw_msg.specs.declared.events.Event.{Event}
use Rattle.alw_msg.specs.declared.events.Event.TheVariants.{Instr, Handle, Deliver, Evict}
use Rattle.alw_msg.specs.Events.{is_evict}
use Rattle.alw_msg.specs.Lists.{is_nonempty, behind}
use Rattle.alw_msg.specs.Sending.{Sending}
use Rattle.alw_image.specs.declared.parts.Parts.{Parts}
use Rattle.alw_image.specs.Images.{node_count}
use Rattle.alw_image.specs.Parameters.{Parameters}
use Rattle.alw_model.specs.declared.steps.Did.{Did}
use Rattle.alw_model.specs.NodeSteps.{node_step}
use Rattle.alw_model.specs.Threads.{Logged, sent_to}
use Rattle.alw_node.specs.Nodes.{Whole, IsNodeStep, whole_start}
use Rattle.alw_node.proofs.KeptMembers.{start_same}
use Rattle.alw_cells.specs.Logs.{Written}
use Rattle.alw_cells.specs.Cells.{Cell, IsBackPart, in_from, picked, without_first}
use Rattle.alw_cells.specs.Choice.{taken_by, come_taken, may_happen, stepped_by, entry_by, logged_by, after_event, Happens}
use Rattle.alw_cells.specs.declared.cells.Stepped.TheVariants as result
use Rattle.alw_cells.specs.Keeping.{AreSenders, CellIsKept, LogIsFiled}
use Rattle.alw_cells.proofs.Receivers.{picked_behind, picked_other}
use Rattle.alw_cells.proofs.Runs.{back_shrinks, grows, is_next}

-- ---- senders

longer : (come : List Msg) (msg : Msg) → is_nonempty (come ++ msg ∷ []) ≡ true
longer [] msg = refl
longer (first ∷ rest) msg = refl

-- one in list is another, and the set follows it
set_follows : (come : List (List Msg)) (senders : NodeSet) (after : Nodes) (from : ℕ) (list : List Msg) → AreSenders come senders → from < length come
    → ((k : ℕ) → has_node after k ≡ cond (k == from) (is_nonempty list) (has_node (nodes_of senders) k)) → (k : ℕ) → has_node after k ≡ is_nonempty (in_from (set come from list) k)
set_follows come senders after from list are here is k = is_node _ k from
    (λ same. is k ∙ (ap (λ b. cond b (is_nonempty list) (has_node (nodes_of senders) k)) (eq-eqb k from same)
    ∙ sym (ap (λ j. is_nonempty (in_from (set come from list) j)) same ∙ ap is_nonempty (get_or-set_same come from list [] here))))
    (λ other. is k ∙ (ap (λ b. cond b (is_nonempty list) (has_node (nodes_of senders) k)) (ne_eqb k from other) ∙ (are k ∙ sym (ap is_nonempty (get_or-set_other come from k list [] other)))))

pub senders_more : (come : List (List Msg)) (senders after : NodeSet) (from : ℕ) (msg : Msg) → AreSenders come senders → from < length come → nodes_of after ≡ add_node (nodes_of senders) from
    → AreSenders (set come from (in_from come from ++ msg ∷ [])) after
senders_more come senders after from msg are here is = set_follows come senders (nodes_of after) from (in_from come from ++ msg ∷ []) are here
    (λ k. ap (λ S. has_node S k) is ∙ (has-add (nodes_of senders) from k ∙ ap (λ b. cond (k == from) b (has_node (nodes_of senders) k)) (sym (longer (in_from come from) msg))))

pub senders_less : (come : List (List Msg)) (senders after : NodeSet) (from : ℕ) → AreSenders come senders → from < length come → nodes_of after ≡ drop_node (nodes_of senders) from
    → is_nonempty (behind (in_from come from)) ≡ false → AreSenders (set come from (behind (in_from come from))) after
senders_less come senders after from are here is empty = set_follows come senders (nodes_of after) from (behind (in_from come from)) are here
    (λ k. ap (λ S. has_node S k) is ∙ (has-drop (nodes_of senders) from k ∙ ap (λ b. cond (k == from) b (has_node (nodes_of senders) k)) (sym empty)))

-- the same, where the list was read and popped
pub senders_popped : (come : List (List Msg)) (senders after : NodeSet) (from : ℕ) (list rest : List Msg) → AreSenders come senders → from < length come → list ≡ get_or come from list → rest ≡ behind list
    → nodes_of after ≡ drop_node (nodes_of senders) from → not (is_nonempty rest) ≡ true → AreSenders (set come from rest) after
senders_popped come senders after from list rest are here read is set_is empty =
    let whole : rest ≡ behind (in_from come from) = is ∙ ap behind (get_or_read come from list here read []) in
    subst (λ (xs : List Msg). AreSenders (set come from xs) after) (sym whole)
    (senders_less come senders after from are here set_is (sym (ap is_nonempty whole) ∙ none (is_nonempty rest) empty))
  where
    none : (b : Bool) → not b ≡ true → b ≡ false
    none true is = absurd (cc)
    none false is = refl

-- ---- the whole

pub keeps_coming : (node : Whole) (log : List Logged) (come : List (List Msg)) (senders after : NodeSet) (pending : List (ℕ × Msg)) (sent : Sending) (dids : List Did) (from : ℕ) (msg : Msg)
    → CellIsKept node log come senders pending sent dids → from < length come → nodes_of after ≡ add_node (nodes_of senders) from
    → CellIsKept node log (set come from (in_from come from ++ msg ∷ [])) after pending sent dids
keeps_coming node log come senders after pending sent dids from msg is here set_is = record {
  replayed = record { run = is.replayed.run; state = is.replayed.state; outs = is.replayed.outs; ins = length-set come from (in_from come from ++ msg ∷ []) ∙ is.replayed.ins; answers = is.replayed.answers };
  sent_by = senders_more come senders after from msg is.sent_by here set_is;
  room = is.room;
  few = omega (arith, is.few, length-set come from (in_from come from ++ msg ∷ []));
}

-- the same, where the list was read and pushed to
pub keeps_pushing : (node : Whole) (log : List Logged) (come : List (List Msg)) (senders after : NodeSet) (pending : List (ℕ × Msg)) (sent : Sending) (dids : List Did) (from : ℕ) (msg : Msg) (list more : List Msg)
    → CellIsKept node log come senders pending sent dids → from < length come → list ≡ get_or come from list → more ≡ list ++ msg ∷ [] → nodes_of after ≡ add_node (nodes_of senders) from
    → CellIsKept node log (set come from more) after pending sent dids
keeps_pushing node log come senders after pending sent dids from msg list more is here read more_is set_is =
    let whole : more ≡ in_from come from ++ msg ∷ [] = more_is ∙ ap (λ (xs : List Msg). xs ++ msg ∷ []) (get_or_read come from list here read []) in
    subst (λ (xs : List Msg). CellIsKept node log (set come from xs) after pending sent dids) (sym whole) (keeps_coming node log come senders after pending sent dids from msg is here set_is)

pub keeps_giving : (node : Whole) (log : List Logged) (come : List (List Msg)) (senders : NodeSet) (pending : List (ℕ × Msg)) (sent : Sending) (dids : List Did) (to : ℕ)
    → CellIsKept node log come senders pending sent dids → CellIsKept node log come senders (without_first to pending) sent dids
keeps_giving node log come senders pending sent dids to is = record {
  replayed = record {
    run = is.replayed.run;
    state = is.replayed.state;
    outs = λ other. is_node _ other to
        (λ same. subst (λ (k : ℕ). IsBackPart (picked k (without_first to pending)) (sent_to k log)) (sym same)
        (subst (λ (xs : List Msg). IsBackPart xs (sent_to to log)) (sym (picked_behind to pending)) (back_shrinks (picked to pending) (sent_to to log) (is.replayed.outs to))))
        (λ differ. subst (λ (xs : List Msg). IsBackPart xs (sent_to other log)) (sym (picked_other to other pending differ)) (is.replayed.outs other));
    ins = is.replayed.ins;
    answers = is.replayed.answers;
  };
  sent_by = is.sent_by;
  room = is.room;
  few = is.few;
}

none_at : (count from : ℕ) → false ≡ is_nonempty (in_from (replicate count []) from)
none_at zero from = refl
none_at (suc count) zero = refl
none_at (suc count) (suc from) = none_at count from

pub keeps_start : (parts : Parts) (parameters : Parameters) (number count : ℕ) (senders : NodeSet) (sent : Sending) → count ≡ node_count parts → count ≤ 256 → nodes_of senders ≡ no_nodes → sent.room ≡ count
    → CellIsKept (whole_start parts parameters number) [] (replicate count []) senders [] sent []
keeps_start parts parameters number count senders sent count_is few none room = record {
  replayed = record { run = tt; state = sym (start_same parts number); outs = λ to. ([], refl); ins = length-replicate count [] ∙ count_is; answers = refl };
  sent_by = λ from. ap (λ S. has_node S from) none ∙ (has-none from ∙ none_at count from);
  room = room ∙ count_is;
  few = omega (arith, length-replicate {A = List Msg} count []);
}

-- a node at its start, as the calls that make it say
pub kept_start : (parts : Parts) (parameters : Parameters) (number count : ℕ) (node : Whole) (log : Written) (come : List (List Msg)) (senders : NodeSet) (pending : List (ℕ × Msg)) (sent : Sending) (dids : List Did)
    → node ≡ whole_start parts parameters number → log ≡ record { number = number; entries = []; room = 0 } → come ≡ replicate count [] → nodes_of senders ≡ no_nodes → pending ≡ [] → sent.room ≡ count → count ≡ node_count parts → count ≤ 256
    → dids ≡ [] → LogIsFiled node log come senders pending sent dids
kept_start parts parameters number count node log come senders pending sent dids node_is log_is come_is none pending_is room count_is few dids_is =
    subst (λ (w : Whole). LogIsFiled w log come senders pending sent dids) (sym node_is)
    (subst (λ (l : Written). LogIsFiled (whole_start parts parameters number) l come senders pending sent dids) (sym log_is)
    (subst (λ (lists : List (List Msg)). LogIsFiled (whole_start parts parameters number) (record { number = number; entries = []; room = 0 }) lists senders pending sent dids) (sym come_is)
    (subst (λ (p : List (ℕ × Msg)). LogIsFiled (whole_start parts parameters number) (record { number = number; entries = []; room = 0 }) (replicate count []) senders p sent dids) (sym pending_is)
    (subst (λ (done : List Did). LogIsFiled (whole_start parts parameters number) (record { number = number; entries = []; room = 0 }) (replicate count []) senders [] sent done) (sym dids_is)
    (record { kept = keeps_start parts parameters number count senders sent count_is few none room; own = refl })))))

-- ---- an event

length_taken : (come : List (List Msg)) (event : Event) → length (come_taken come event) ≡ length come
length_taken come (Instr at) = refl
length_taken come (Handle at) = refl
length_taken come (Deliver from to) = length-set come from.0 (behind (in_from come from.0))
length_taken come (Evict at emptied) = refl

module _ (cell : Cell) (event : Event) (sent sent' : Sending) (after : Whole) (did : Did) (steps : IsNodeStep cell.node after sent sent' did (stepped_by cell event)) where
  -- its record as it was put in the log
  abbrev pub put_in : Logged
  put_in = record { entry = record { stamp = after.state.clock; event = event }; taken = taken_by cell.come event; sent = sent'.messages }

  pub keeps_event : (senders senders' : NodeSet) → may_happen cell event ≡ true → (cell.node.parameters.evict ≡ 0 → is_evict event ≡ false) → CellIsKept cell.node cell.log cell.come senders cell.pending sent cell.dids
      → AreSenders (come_taken cell.come event) senders'
      → CellIsKept after (cell.log ++ put_in ∷ []) (come_taken cell.come event) senders' (cell.pending ++ sent'.messages) sent' (cell.dids ++ did ∷ [])
  keeps_event senders senders' may evicts is are =
      let P : Whole → Sending → Type 0 = λ w s. CellIsKept w (cell.log ++ record { entry = record { stamp = w.state.clock; event = event }; taken = taken_by cell.come event; sent = s.messages } ∷ [])
      (come_taken cell.come event) senders' (cell.pending ++ s.messages) s (cell.dids ++ did ∷ []) in
      let step = stepped_by cell event in
      let replayed = grows cell.node cell.log cell.come (come_taken cell.come event) cell.pending cell.dids (logged_by cell event) step.node did is.replayed (is_next cell event may evicts) refl steps.outcome (length_taken cell.come event) in
      let base : P (record cell.node { state = step.node }) (record { room = sent.room; src = cell.node.number; stamp = step.node.clock; messages = step.sends }) =
      record { replayed = replayed; sent_by = are; room = is.room; few = omega (arith, is.few, length_taken cell.come event) } in
      subst (λ (w : Whole). P w sent') (sym steps.node) (subst (λ (s : Sending). P (record cell.node { state = step.node }) s) (sym steps.sends) base)

  pub happened : (record { node = after; log = cell.log ++ put_in ∷ []; come = come_taken cell.come event; pending = cell.pending ++ sent'.messages; dids = cell.dids ++ did ∷ [] }) ≡ after_event cell event
  happened = λ x. record { node = steps.node x; log = cell.log ++ record { entry = record { stamp = (steps.node x).state.clock; event = event }; taken = taken_by cell.come event; sent = (steps.sends x).messages } ∷ []; come = come_taken cell.come event; pending = cell.pending ++ (steps.sends x).messages; dids = cell.dids ++ steps.outcome x ∷ [] }

  pub stamped : (record { stamp = after.state.clock; event = event }) ≡ entry_by cell event
  stamped = λ x. record { stamp = (steps.node x).state.clock; event = event }

-- what an event leaves, as the calls in it say
module _ (cell : Cell) (event : Event) (taken : Option Msg) (sent sent' : Sending) (after : Whole) (did : Did) (stamp : ℕ) (log log' : List Logged) (come' : List (List Msg)) (pending pending' : List (ℕ × Msg)) (dids dids' : List Did)
    (taken_is : taken ≡ taken_by cell.come event)
    (raw : IsNodeStep cell.node after sent sent' did (node_step cell.node.parts cell.node.parameters cell.node.number cell.node.state event taken))
    (stamp_is : stamp ≡ after.state.clock) (log_is : log ≡ cell.log)
    (put : log' ≡ log ++ record { entry = record { stamp = stamp; event = event }; taken = taken; sent = sent'.messages } ∷ [])
    (come_is : come' ≡ come_taken cell.come event) (pending_is : pending ≡ cell.pending) (more : pending' ≡ pending ++ sent'.messages)
    (dids_is : dids ≡ cell.dids) (answered : dids' ≡ dids ++ did ∷ []) where
  steps : IsNodeStep cell.node after sent sent' did (stepped_by cell event)
  steps = subst (λ (o : Option Msg). IsNodeStep cell.node after sent sent' did (node_step cell.node.parts cell.node.parameters cell.node.number cell.node.state event o)) taken_is raw

  abbrev its_log : List Logged
  its_log = cell.log ++ record { entry = record { stamp = after.state.clock; event = event }; taken = taken_by cell.come event; sent = sent'.messages } ∷ []

  log_whole : log' ≡ its_log
  log_whole = put ∙ (λ x. log_is x ++ record { entry = record { stamp = stamp_is x; event = event }; taken = taken_is x; sent = sent'.messages } ∷ [])

  pending_whole : pending' ≡ cell.pending ++ sent'.messages
  pending_whole = more ∙ ap (λ (xs : List (ℕ × Msg)). xs ++ sent'.messages) pending_is

  dids_whole : dids' ≡ cell.dids ++ did ∷ []
  dids_whole = answered ∙ ap (λ (done : List Did). done ++ did ∷ []) dids_is

  pub kept : (senders senders' : NodeSet) → CellIsKept cell.node cell.log cell.come senders cell.pending sent cell.dids → may_happen cell event ≡ true → (cell.node.parameters.evict ≡ 0 → is_evict event ≡ false)
      → AreSenders come' senders' → CellIsKept after log' come' senders' pending' sent' dids'
  kept senders senders' is may evicts are =
      subst (λ (l : List Logged). CellIsKept after l come' senders' pending' sent' dids') (sym log_whole)
      (subst (λ (come : List (List Msg)). CellIsKept after its_log come senders' pending' sent' dids') (sym come_is)
      (subst (λ (p : List (ℕ × Msg)). CellIsKept after its_log (come_taken cell.come event) senders' p sent' dids') (sym pending_whole)
      (subst (λ (done : List Did). CellIsKept after its_log (come_taken cell.come event) senders' (cell.pending ++ sent'.messages) sent' done) (sym dids_whole)
      (keeps_event cell event sent sent' after did steps senders senders' may evicts is (subst (λ (come : List (List Msg)). AreSenders come senders') come_is are)))))

  pub happens : Happens cell event (record { node = after; log = log'; come = come'; pending = pending'; dids = dids' }) (Ok (result.Did (record { stamp = stamp; event = event }) did))
  happens = (
    (λ x. record { stamp = stamp_is x; event = event }) ∙ stamped cell event sent sent' after did steps,
    steps.outcome,
    (λ x. record { node = after; log = log_whole x; come = come_is x; pending = pending_whole x; dids = dids_whole x }) ∙ happened cell event sent sent' after did steps,
  )
