-- A local run with one event more, what it leaves of a cell, and runs by a node's share of an image.
use Rattle.std.proofs.Common.{◌≡◌, ℕ, suc, ◌-◌, ◌^◌, ◌≤◌, ◌==◌, nat_lt, Bool, true, false, Option, Some, None, List, [], ◌∷◌, ◌++◌, length, IsTrue, refl, sym, subst, ap, ◌∙◌, append_assoc, append-nil, arith}
use Rattle.std.specs.Prelude.{is_some}
use Rattle.std.proofs.lemmas.Bool.{true≢false, leb-true}
use Rattle.std.specs.List.{AllByRecursion}
use Rattle.std.proofs.lemmas.List.Concat.{flat_map-append}
use Rattle.alw_num.specs.Maps.{passes}
use Rattle.alw_msg.specs.declared.messages.Msg.{Msg}
use Rattle.alw_msg.specs.declared.events.Event.{Event}
use Rattle.alw_msg.specs.declared.events.Event.TheVariants.{Instr, Handle, Deliver, Evict}
use Rattle.alw_msg.specs.Events.{node_of, is_evict}
use Rattle.alw_msg.specs.Lists.{front, behind}
use Rattle.alw_image.specs.declared.parts.Parts.{Parts}
use Rattle.alw_image.specs.Images.{node_count}
use Rattle.alw_image.specs.Parameters.{Parameters}
use Rattle.alw_model.specs.declared.steps.Did.{Did}
use Rattle.alw_model.specs.NodeStates.{NodeState, node_start, is_enabled_at, may, may_deliver}
use Rattle.alw_model.specs.NodeSteps.{node_step}
use Rattle.alw_model.specs.Threads.{Logged, IsNextLogged, IsRunFrom, IsLocalRun, node_after, sent_to, takes_rightly}
use Rattle.alw_model.proofs.Journals.{and_parts}
use Rattle.alw_node.specs.Nodes.{Whole, MessageIsGiven}
use Rattle.alw_node.specs.Shares.{share_of}
use Rattle.alw_node.proofs.KeptMembers.{start_same, enabled_same, step_same}
use Rattle.alw_cells.specs.Cells.{Cell, IsReplayed, IsBackPart, picked, in_from, dids_from, dids_of}
use Rattle.alw_cells.specs.Choice.{taken_by, may_happen, logged_by}
use Rattle.alw_cells.proofs.Receivers.{picked-append}
use Rattle.law_order.proofs.Clocks.{stamp_above}

module _ (parts : Parts) (parameters : Parameters) (number : ℕ) where
  -- one event more
  run_push : (node : NodeState) (log : List Logged) (one : Logged) → IsRunFrom parts parameters number node log → IsNextLogged parts parameters number (node_after parts parameters number node log) one
      → IsRunFrom parts parameters number node (log ++ one ∷ [])
  run_push node [] one run next = (next, tt)
  run_push node (first ∷ rest) one (is, run) next = (is, run_push (node_step parts parameters number node first.entry.event first.taken).node rest one run next)

  after_push : (node : NodeState) (log : List Logged) (one : Logged)
      → node_after parts parameters number node (log ++ one ∷ []) ≡ (node_step parts parameters number (node_after parts parameters number node log) one.entry.event one.taken).node
  after_push node [] one = refl
  after_push node (first ∷ rest) one = after_push (node_step parts parameters number node first.entry.event first.taken).node rest one

  dids_push : (node : NodeState) (log : List Logged) (one : Logged) → dids_from parts parameters number node (log ++ one ∷ [])
      ≡ dids_from parts parameters number node log ++ (node_step parts parameters number (node_after parts parameters number node log) one.entry.event one.taken).did ∷ []
  dids_push node [] one = refl
  dids_push node (first ∷ rest) one =
      let stepped = node_step parts parameters number node first.entry.event first.taken in
      ap (λ (dids : List Did). stepped.did ∷ dids) (dids_push stepped.node rest one)

  pub dids_length : (node : NodeState) (log : List Logged) → length (dids_from parts parameters number node log) ≡ length log
  dids_length node [] = refl
  dids_length node (first ∷ rest) = ap suc (dids_length (node_step parts parameters number node first.entry.event first.taken).node rest)

  -- no clock is past the limit
  clock_within : (node : NodeState) (log : List Logged) → IsRunFrom parts parameters number node log → node.clock ≤ parameters.limit → (node_after parts parameters number node log).clock ≤ parameters.limit
  clock_within node [] run within = within
  clock_within node (first ∷ rest) (is, run) within =
      clock_within (node_step parts parameters number node first.entry.event first.taken).node rest run (subst (λ clock. clock ≤ parameters.limit) is.stamp is.within)

  pub clock_most : (log : List Logged) → IsLocalRun parts parameters number log → (node_after parts parameters number (node_start parts number) log).clock ≤ parameters.limit
  clock_most log run = clock_within (node_start parts number) log run (omega arith)

-- stamps rise: those of a log are at most the clock that it leaves
module _ (parts : Parts) (parameters : Parameters) (number : ℕ) where
  clock_rises : (node : NodeState) (log : List Logged) → IsRunFrom parts parameters number node log → node.clock ≤ (node_after parts parameters number node log).clock
  clock_rises node [] run = omega arith
  clock_rises node (first ∷ rest) (is, run) =
      let deeper = clock_rises (node_step parts parameters number node first.entry.event first.taken).node rest run in
      omega (arith, deeper, stamp_above node.clock first.taken)

  pub stamps_within : (node : NodeState) (log : List Logged) → IsRunFrom parts parameters number node log → AllByRecursion (λ (logged : Logged). logged.entry.stamp ≤ (node_after parts parameters number node log).clock) log
  stamps_within node [] run = tt
  stamps_within node (first ∷ rest) (is, run) =
      let next = (node_step parts parameters number node first.entry.event first.taken).node in
      (omega (arith, is.stamp, clock_rises next rest run), stamps_within next rest run)

-- what was sent, and what of it is still to be given out
sent_push : (to : ℕ) (log : List Logged) (one : Logged) → sent_to to (log ++ one ∷ []) ≡ sent_to to log ++ picked to one.sent
sent_push to log one =
    flat_map-append (λ logged. picked to logged.sent) log (one ∷ []) ∙ ap (λ (xs : List Msg). sent_to to log ++ xs) (append-nil (picked to one.sent))

back_grows : (some all more : List Msg) → IsBackPart some all → IsBackPart (some ++ more) (all ++ more)
back_grows some all more (first, is) = (first, sym (append_assoc first some more) ∙ ap (λ (xs : List Msg). xs ++ more) is)

pub back_shrinks : (some all : List Msg) → IsBackPart some all → IsBackPart (behind some) all
back_shrinks [] all is = is
back_shrinks (msg ∷ rest) all (first, is) = (first ++ msg ∷ [], append_assoc first (msg ∷ []) rest ∙ is)

-- a cell after an event
pub grows : (node : Whole) (log : List Logged) (come after : List (List Msg)) (pending : List (ℕ × Msg)) (dids : List Did) (one : Logged) (next : NodeState) (did : Did)
    → IsReplayed node log come pending dids
    → IsNextLogged node.parts node.parameters node.number node.state one → next ≡ (node_step node.parts node.parameters node.number node.state one.entry.event one.taken).node
    → did ≡ (node_step node.parts node.parameters node.number node.state one.entry.event one.taken).did → length after ≡ length come
    → IsReplayed (record node { state = next }) (log ++ one ∷ []) after (pending ++ one.sent) (dids ++ did ∷ [])
grows node log come after pending dids one next did is logged next_is did_is same = record {
  run = run_push node.parts node.parameters node.number (node_start node.parts node.number) log one is.run (subst (λ state. IsNextLogged node.parts node.parameters node.number state one) is.state logged);
  state = next_is ∙ (ap (λ state. (node_step node.parts node.parameters node.number state one.entry.event one.taken).node) is.state
      ∙ sym (after_push node.parts node.parameters node.number (node_start node.parts node.number) log one));
  outs = λ to. subst (λ (xs : List Msg). IsBackPart xs (sent_to to (log ++ one ∷ []))) (sym (picked-append to pending one.sent))
      (subst (λ (ys : List Msg). IsBackPart (picked to pending ++ picked to one.sent) ys) (sym (sent_push to log one)) (back_grows (picked to pending) (sent_to to log) (picked to one.sent) (is.outs to)));
  ins = same ∙ is.ins;
  answers =
      let did_there = did_is ∙ ap (λ state. (node_step node.parts node.parameters node.number state one.entry.event one.taken).did) is.state in
      (λ x. is.answers x ++ did_there x ∷ []) ∙ sym (dids_push node.parts node.parameters node.number (node_start node.parts node.number) log one);
}

-- ---- an event that may happen

given : (come : List (List Msg)) (event : Event) → MessageIsGiven event (taken_by come event)
given come (Instr at) = tt
given come (Handle at) = tt
given come (Deliver from to) = tt
given come (Evict at set) = tt

passes_some : {X : Type 0} (test : X → Bool) (o : Option X) → IsTrue (passes test o) → is_some o ≡ true
passes_some test None is = absurd (true≢false (sym is))
passes_some test (Some x) is = refl

pub takes : (cell : Cell) (event : Event) → may cell.node.parts cell.node.parameters cell.node.state event (taken_by cell.come event) ≡ true → IsTrue (takes_rightly event (taken_by cell.come event))
takes cell (Instr at) is = refl
takes cell (Handle at) is = refl
takes cell (Evict at set) is = refl
takes cell (Deliver from to) is =
    passes_some (may_deliver cell.node.parts cell.node.parameters from.0 to.0 cell.node.state) (front (in_from cell.come from.0)) (and_parts (nat_lt from.0 (node_count cell.node.parts)) _ is).1

module _ (cell : Cell) (event : Event) (is : may_happen cell event ≡ true) where
  pub enabled : is_enabled_at cell.node.parts cell.node.parameters cell.node.number cell.node.state event (taken_by cell.come event) ≡ true
  enabled = (and_parts (is_enabled_at cell.node.parts cell.node.parameters cell.node.number cell.node.state event (taken_by cell.come event)) _ is).0

  pub may_be : may cell.node.parts cell.node.parameters cell.node.state event (taken_by cell.come event) ≡ true
  may_be =
      let own = and_parts (node_of event == cell.node.number) _ enabled in
      let exists = and_parts (nat_lt cell.node.number (node_count cell.node.parts)) _ own.1 in
      (and_parts (nat_lt cell.node.state.clock (2 ^ 32 - 1)) _ exists.1).1

  pub is_next : (cell.node.parameters.evict ≡ 0 → is_evict event ≡ false) → IsNextLogged cell.node.parts cell.node.parameters cell.node.number cell.node.state (logged_by cell event)
  is_next evicts = record {
    taken = takes cell event may_be;
    enabled = enabled;
    stamp = refl;
    within = leb-true _ _ (and_parts (is_enabled_at cell.node.parts cell.node.parameters cell.node.number cell.node.state event (taken_by cell.come event)) _ is).1;
    evicts = evicts;
    sent = refl;
  }

-- ---- runs by a share

module _ (parts : Parts) (parameters : Parameters) (number : ℕ) where
  next_same : (node : NodeState) (one : Logged) → IsNextLogged (share_of parts number) parameters number node one → IsNextLogged parts parameters number node one
  next_same node one is = record {
    taken = is.taken;
    enabled = sym (enabled_same parts number parameters number node one.entry.event one.taken) ∙ is.enabled;
    stamp = is.stamp;
    within = is.within;
    evicts = is.evicts;
    sent = is.sent ∙ ap (λ stepped. stepped.sends) (step_same parts number parameters number node one.entry.event one.taken);
  }

  runs_same : (node : NodeState) (log : List Logged) → IsRunFrom (share_of parts number) parameters number node log → IsRunFrom parts parameters number node log
  runs_same node [] run = tt
  runs_same node (first ∷ rest) (is, run) = (
    next_same node first is,
    runs_same (node_step parts parameters number node first.entry.event first.taken).node rest
        (subst (λ stepped. IsRunFrom (share_of parts number) parameters number stepped.node rest) (step_same parts number parameters number node first.entry.event first.taken) run),
  )

  after_same : (node : NodeState) (log : List Logged) → node_after (share_of parts number) parameters number node log ≡ node_after parts parameters number node log
  after_same node [] = refl
  after_same node (first ∷ rest) =
      ap (λ stepped. node_after (share_of parts number) parameters number stepped.node rest) (step_same parts number parameters number node first.entry.event first.taken)
      ∙ after_same (node_step parts parameters number node first.entry.event first.taken).node rest

  pub local_run : (log : List Logged) → IsLocalRun (share_of parts number) parameters number log → IsLocalRun parts parameters number log
  local_run log run = runs_same (node_start parts number) log (subst (λ node. IsRunFrom (share_of parts number) parameters number node log) (start_same parts number) run)

  pub left_alike : (log : List Logged) → node_after (share_of parts number) parameters number (node_start (share_of parts number) number) log ≡ node_after parts parameters number (node_start parts number) log
  left_alike log = ap (λ node. node_after (share_of parts number) parameters number node log) (start_same parts number) ∙ after_same (node_start parts number) log

  dids_same : (node : NodeState) (log : List Logged) → dids_from (share_of parts number) parameters number node log ≡ dids_from parts parameters number node log
  dids_same node [] = refl
  dids_same node (first ∷ rest) =
      ap (λ stepped. stepped.did ∷ dids_from (share_of parts number) parameters number stepped.node rest) (step_same parts number parameters number node first.entry.event first.taken)
      ∙ ap (λ (dids : List Did). (node_step parts parameters number node first.entry.event first.taken).did ∷ dids) (dids_same (node_step parts parameters number node first.entry.event first.taken).node rest)

  pub answers_alike : (log : List Logged) → dids_of (share_of parts number) parameters number log ≡ dids_of parts parameters number log
  answers_alike log = ap (λ node. dids_from (share_of parts number) parameters number node log) (start_same parts number) ∙ dids_same (node_start parts number) log
