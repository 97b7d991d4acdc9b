-- The induction over a journal: the machine is, at every moment, the flat machine after the same turns.
use Rattle.std.proofs.Common.{◌≡◌, ℕ, ◌<◌, ◌≤◌, ◌&&◌, Bool, true, false, List, [], ◌∷◌, ◌++◌, length, map, set, refl, sym, ap, ◌∙◌, append_assoc, arith}
use Rattle.std.specs.List.{flat_map}
use Rattle.std.proofs.lemmas.List.{map-append, length-set}
use Rattle.std.proofs.lemmas.List.Concat.{flat_map-append}
use Rattle.alw_num.proofs.Weigh.{at_nodes}
use Rattle.law_machine.proofs.Vocabulary.{Line, Outcome, Entry, Parts, Parameters, node_of, NodeState, stamp_of, MachineState, node_at, no_node, taken_by, step, stepped_by, after, AreLegal, Flat}
use Rattle.law_machine.proofs.Vocabulary.{flat_turn, turns_after, turns_ready, turns_print, print_of, context_at, Moment, number_of, moments_from, turn_in, last_stored, line_events}
use Rattle.alw_msg.specs.Statuses as statuses
use Rattle.law_lines.proofs.Links.{read_set}
use Rattle.law_lines.proofs.Steps.{enabled_is}
use Rattle.law_machine.specs.Values.{MachineIsSoundWith, stored_from}
use Rattle.law_machine.specs.FlatRuns.{flat_of, RunsFlat}
use Rattle.law_machine.proofs.Runs.{step_sound}
use Rattle.law_machine.proofs.FlatViews.{HaveSlots}
use Rattle.law_machine.proofs.FlatEvents.{event_seen}

-- ---- turns after turns

module _ (parts : Parts) where
  turns_after-append : (flat : Flat) (one other : List ℕ) → turns_after parts flat (one ++ other) ≡ turns_after parts (turns_after parts flat one) other
  turns_after-append flat [] other = refl
  turns_after-append flat (context ∷ rest) other = turns_after-append (flat_turn parts flat context).0 rest other

  turns_ready-append : (flat : Flat) (one other : List ℕ) → turns_ready parts flat one ≡ true → turns_ready parts (turns_after parts flat one) other ≡ true → turns_ready parts flat (one ++ other) ≡ true
  turns_ready-append flat [] other is more = more
  turns_ready-append flat (context ∷ rest) other is more = go (statuses.is_ready (context_at flat context).status) is (turns_ready-append (flat_turn parts flat context).0 rest other)
    where
      go : (b : Bool) → (b && turns_ready parts (flat_turn parts flat context).0 rest) ≡ true
          → (turns_ready parts (flat_turn parts flat context).0 rest ≡ true → turns_ready parts (turns_after parts (flat_turn parts flat context).0 rest) other ≡ true → turns_ready parts (flat_turn parts flat context).0 (rest ++ other) ≡ true)
          → (b && turns_ready parts (flat_turn parts flat context).0 (rest ++ other)) ≡ true
      go true is tail = tail is more
      go false is tail = is

  turns_print-append : (flat : Flat) (one other : List ℕ) → turns_print parts flat (one ++ other) ≡ turns_print parts flat one ++ turns_print parts (turns_after parts flat one) other
  turns_print-append flat [] other = refl
  turns_print-append flat (context ∷ rest) other =
      let done = flat_turn parts flat context in
      ap (λ (l : List (ℕ × ℕ)). print_of context done.1 ++ l) (turns_print-append done.0 rest other) ∙ sym (append_assoc (print_of context done.1) (turns_print parts done.0 rest) (turns_print parts (turns_after parts done.0 rest) other))

  abbrev named : List (ℕ × Outcome) → List ℕ
  named turns = map (λ (turn : ℕ × Outcome). turn.0) turns

  abbrev printed : List (ℕ × Outcome) → List (ℕ × ℕ)
  printed turns = flat_map (λ (turn : ℕ × Outcome). print_of turn.0 turn.1) turns

  -- runs one after the other
  runs_on : (a b c : Flat) (one other : List (ℕ × Outcome)) → RunsFlat parts a one b → RunsFlat parts b other c → RunsFlat parts a (one ++ other) c
  runs_on a b c one other first second =
      let names : named (one ++ other) ≡ named one ++ named other = map-append (λ (turn : ℕ × Outcome). turn.0) one other in
      record {
        ready = ap (turns_ready parts a) names ∙ turns_ready-append a (named one) (named other) first.ready (ap (λ (f : Flat). turns_ready parts f (named other)) (sym first.state) ∙ second.ready);
        state = second.state ∙ (ap (λ (f : Flat). turns_after parts f (named other)) first.state ∙ (sym (turns_after-append a (named one) (named other)) ∙ sym (ap (turns_after parts a) names)));
        prints = flat_map-append (λ (turn : ℕ × Outcome). print_of turn.0 turn.1) one other
            ∙ ((λ x. first.prints x ++ (second.prints ∙ ap (λ (f : Flat). turns_print parts f (named other)) first.state) x)
            ∙ (sym (turns_print-append a (named one) (named other)) ∙ sym (ap (turns_print parts a) names)));
      }

  module _ (parameters : Parameters) (some : 1 ≤ parameters.pointers) where
    abbrev turns_from : MachineState → List Entry → List (ℕ × Outcome)
    turns_from s journal = flat_map (λ (moment : Moment). turn_in parts (number_of moment) moment.stepped.did) (moments_from parts parameters s journal)

    pub runs_flat : (s : MachineState) (values : ℕ → Line) (journal : List Entry) → AreLegal parts parameters s journal → MachineIsSoundWith parts parameters values s → HaveSlots parts.contexts s.nodes
        → RunsFlat parts (flat_of parts values s.nodes) (turns_from s journal) (flat_of parts (λ l. stored_from parts parameters s journal l (values l)) (after parts parameters s journal).nodes)
    runs_flat s values [] legal sound have = record { ready = refl; state = refl; prints = refl }
    runs_flat s values (entry ∷ rest) (next, legal) sound have =
        let event = entry.event in
        let n = node_of event in
        let here = (enabled_is parts parameters s event next.enabled).here in
        let fits : n < length s.nodes = rw sound.standing.nodes here in
        let seen = event_seen parts parameters s values sound have n fits here (stamp_of (node_at s n).clock (taken_by parts s event)) event (taken_by parts s event) in
        runs_on (flat_of parts values s.nodes) _ _ (turn_in parts n (stepped_by parts parameters s event).did) (turns_from (step parts parameters s event) rest) seen.flat
        (runs_flat (step parts parameters s event) (λ l. last_stored (values l) (line_events parts parameters s event l)) rest legal (step_sound parts parameters some s event next.enabled values sound)
        (have_slots s n (stepped_by parts parameters s event).node have fits seen.slots))
      where
        have_slots : (s : MachineState) (n : ℕ) (v : NodeState) → HaveSlots parts.contexts s.nodes → n < length s.nodes → length v.slots ≡ length (node_at s n).slots → HaveSlots parts.contexts (set s.nodes n v)
        have_slots s n v have fits same m l = ap (λ (u : NodeState). length u.slots) (read_set s.nodes n v no_node m fits)
            ∙ at_nodes (λ j u. j < length s.nodes → length u.slots ≡ parts.contexts) (node_at s) n v (λ k. same ∙ have n k) (λ j other k. have j k) m (omega (arith, length-set s.nodes n v))
