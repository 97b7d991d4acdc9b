-- The induction over a journal: a machine stands, and each of its lines is sound, after each legal entry.
use Rattle.std.proofs.Common.{◌≡◌, ℕ, ◌*◌, ◌<◌, ◌≤◌, ◌==◌, nat_lt, Bool, true, false, cond, Some, None, List, [], ◌∷◌, ◌++◌, length, set, IsTrue, refl, sym, subst, ap, ◌∙◌, arith}
use Rattle.std.specs.List.{range_with_len}
use Rattle.std.proofs.lemmas.List.{length-set, length-map, length-replicate, get_or-replicate, get_or_past}
use Rattle.std.proofs.lemmas.List.FromFn.{length-range_with_len, get_or-map-range_with_len}
use Rattle.std.proofs.Math.Nat.{mod-add-div'}
use Rattle.alw_num.proofs.Weigh.{at_nodes, cases_lt_then}
use Rattle.alw_num.proofs.Sets.{join-none}
use Rattle.law_machine.proofs.Vocabulary.{no_nodes, digit, Line, Normal, Msg, Event, Instr, Handle, Deliver, Evict, Entry, Parts, node_count, line_count, body_of, is_always, Parameters, kept_if}
use Rattle.law_machine.proofs.Vocabulary.{value_at, home_start, Directory, directory_start, full_map_of, or_always, is_in_progress, Copy, copy_at, set_of, home_node, node_of, NodeState}
use Rattle.law_machine.proofs.Vocabulary.{node_start, place_of, home_at, stamp_of, Stepped, MachineState, machine_start, node_at, link_at, link_place, taken_by, links_taken, is_enabled, step}
use Rattle.law_machine.proofs.Vocabulary.{stepped_by, after, AreLegal, IsLegal, state, LineState, absent, ups, downs, sent_by, line_node, line_of, start, last_stored, Sound, EntryIsSound}
use Rattle.law_machine.proofs.Vocabulary.{line_events, NodeStands, IsStanding}
use Rattle.alw_num.proofs.MapLaws.{value-empty}
use Rattle.law_line.proofs.Steps.{run_keeps}
use Rattle.law_line.proofs.Steps as line
use Rattle.law_entry.proofs.Soundness as limitless
use Rattle.law_lines.proofs.Links.{read_set, length-sent}
use Rattle.law_lines.proofs.Following.{home_below}
use Rattle.law_lines.proofs.Places.{place_fits}
use Rattle.law_lines.proofs.Views.{below_same, seen_copy, seen_transaction}
use Rattle.law_lines.proofs.Steps.{line_follows, Enabled, enabled_is}
use Rattle.law_machine.specs.Values.{stored_from, stored_after, MachineIsSoundWith}
use Rattle.law_machine.proofs.NodeSteps.{event_stands}

module _ (parts : Parts) where
  -- ---- the start

  pub node_at_start : (n : ℕ) → n < node_count parts → node_at (machine_start parts) n ≡ node_start parts n
  node_at_start n here = get_or-map-range_with_len (node_start parts) 0 (node_count parts) n n _ here (omega arith)

  pub link_at_start : (a b : ℕ) → link_at parts (machine_start parts) a b ≡ []
  link_at_start a b = cases_lt_then (node_count parts * node_count parts) (link_place parts a b)
      (λ l. get_or-replicate (node_count parts * node_count parts) (link_place parts a b) [] [] l)
      (λ l. get_or_past _ (link_place parts a b) [] (rw (length-replicate {A = List Msg} (node_count parts * node_count parts) []) l))

  entry_at_start : (l : ℕ) → l < line_count parts → home_at parts (node_start parts (home_node parts l)) l ≡ directory_start (body_of parts l) (is_always parts l)
  entry_at_start l lines = get_or-map-range_with_len (λ line. directory_start (body_of parts line) (is_always parts line)) (home_node parts l * parts.per_node) parts.per_node (place_of parts l) l _ (place_fits parts l lines) (omega (arith, mod-add-div' l parts.per_node))

  module _ (parameters : Parameters) where
    node_stands_at_start : (n : ℕ) → NodeStands parts parameters n (node_start parts n)
    node_stands_at_start n = record {
      homes = length-map (range_with_len (n * parts.per_node) parts.per_node) _ ∙ length-range_with_len (n * parts.per_node) parts.per_node;
      caches = λ set copy e. absurd (let none : None ≡ Some copy = sym (value-empty set) ∙ e in cc);
      packets = tt;
      entries = λ l lines is. subst (λ a. EntryIsSound parameters.pointers (home_at parts (node_start parts a) l)) is (subst (λ (d : Directory). EntryIsSound parameters.pointers d) (sym (entry_at_start l lines)) (limitless.start_sound parameters.pointers (body_of parts l) (is_always parts l)));
      pending = λ l lines is. sym (ap (λ a. digit (is_in_progress (home_at parts (node_start parts a) l).meta)) (sym is) ∙ (ap (λ (d : Directory). digit (is_in_progress d.meta)) (entry_at_start l lines) ∙ free (is_always parts l)));
    }
      where
        free : (always : Bool) → digit (is_in_progress (or_always always Normal)) ≡ 0
        free true = refl
        free false = refl

    pub stands_at_start : IsStanding parts parameters (machine_start parts)
    stands_at_start = record {
      nodes = length-map (range_with_len 0 (node_count parts)) _ ∙ length-range_with_len 0 (node_count parts);
      links = length-replicate (node_count parts * node_count parts) [];
      each = λ n here. subst (NodeStands parts parameters n) (sym (node_at_start n here)) (node_stands_at_start n);
    }

    pub line_at_start : (l : ℕ) → l < line_count parts → line_of parts parameters (machine_start parts) l ≡ start (body_of parts l)
    line_at_start l lines = λ x. record { home = home x; node = λ j. node j x }
      where
        home : full_map_of (home_at parts (node_at (machine_start parts) (home_node parts l)) l) ≡ home_start (body_of parts l)
        home = ap (λ (v : NodeState). full_map_of (home_at parts v l)) (node_at_start (home_node parts l) (home_below parts l lines)) ∙ (ap full_map_of (entry_at_start l lines) ∙ (λ x. record { state = (home_start (body_of parts l)).state; pointers = join-none no_nodes x; acks = 0; body = body_of parts l }))

        either : (b : Bool) → cond b absent absent ≡ absent
        either true = refl
        either false = refl

        node : (j : ℕ) → cond (nat_lt j (node_count parts)) (line_node parts parameters (machine_start parts) l j) absent ≡ absent
        node j = below_same j (node_count parts) _ absent absent (λ here x. record {
          copy = seen_copy ((ap (λ (v : NodeState). copy_at parameters.sets v.cache l) (node_at_start j here) ∙ ap (kept_if (λ (copy : Copy). copy.line == l)) (value-empty (set_of parameters.sets l))) x);
          transaction = seen_transaction ((ap (λ (v : NodeState). value_at v.transactions l) (node_at_start j here) ∙ value-empty l) x);
          up = ups l (sent_by j (node_at_start (home_node parts l) (home_below parts l lines) x).packets) ++ ups l (link_at_start j (home_node parts l) x);
          down = downs l (link_at_start (home_node parts l) j x);
        }) ∙ either (nat_lt j (node_count parts))

  -- ---- one event

  module _ (parameters : Parameters) (some : 1 ≤ parameters.pointers) (s : MachineState) (event : Event) (enabled : IsTrue (is_enabled parts parameters s event)) where
    abbrev n : ℕ
    n = node_of event

    abbrev stepped : Stepped
    stepped = stepped_by parts parameters s event

    abbrev v : NodeState
    v = stepped.node

    step_stands : IsStanding parts parameters s → IsStanding parts parameters (step parts parameters s event)
    step_stands standing = record {
      nodes = length-set s.nodes n v ∙ standing.nodes;
      links = length-sent parts n stepped.sends (links_taken parts s.links event) ∙ (taken event ∙ standing.links);
      each = λ m here. subst (NodeStands parts parameters m) (sym (read_set s.nodes n v _ m fits))
          (at_nodes (λ j u. j < node_count parts → NodeStands parts parameters j u) (node_at s) n v
          (λ l. event_stands parts parameters some n (stamp_of (node_at s n).clock (taken_by parts s event)) (node_at s n) l (standing.each n l) event (taken_by parts s event) refl en.may_be)
          (λ j other l. standing.each j l) m here);
    }
      where
        en : Enabled parts parameters s event
        en = enabled_is parts parameters s event enabled

        fits : n < length s.nodes
        fits = rw standing.nodes en.here

        taken : (event : Event) → length (links_taken parts s.links event) ≡ length s.links
        taken (Instr at) = refl
        taken (Handle at) = refl
        taken (Evict at set) = refl
        taken (Deliver from to) = length-set s.links (link_place parts from.0 to.0) _

    pub step_sound : (values : ℕ → Line) → MachineIsSoundWith parts parameters values s → MachineIsSoundWith parts parameters (λ l. last_stored (values l) (line_events parts parameters s event l)) (step parts parameters s event)
    step_sound values sound = record {
      standing = step_stands sound.standing;
      lines = λ l lines.
          let f = line_follows parts parameters s sound.standing (λ k exists. (sound.lines k exists).members) l lines event enabled in
          subst (λ (t : LineState). Sound (node_count parts) (last_stored (values l) (line_events parts parameters s event l)) t) (sym f.state)
          (run_keeps (node_count parts) (values l) (line_of parts parameters s l) (line_events parts parameters s event l) (sound.lines l lines) f.legal);
    }

  -- ---- a journal

  module _ (parameters : Parameters) (some : 1 ≤ parameters.pointers) where
    after_sound : (s : MachineState) (values : ℕ → Line) (journal : List Entry) → AreLegal parts parameters s journal → MachineIsSoundWith parts parameters values s → MachineIsSoundWith parts parameters (λ l. stored_from parts parameters s journal l (values l)) (after parts parameters s journal)
    after_sound s values [] legal sound = sound
    after_sound s values (entry ∷ rest) (next, legal) sound = after_sound (step parts parameters s entry.event) (λ l. last_stored (values l) (line_events parts parameters s entry.event l)) rest legal (step_sound parameters some s entry.event next.enabled values sound)

    pub start_sound_with : MachineIsSoundWith parts parameters (body_of parts) (machine_start parts)
    start_sound_with = record {
      standing = stands_at_start parameters;
      lines = λ l lines. subst (λ (t : LineState). Sound (node_count parts) (body_of parts l) t) (sym (line_at_start parameters l lines)) (line.start_sound (node_count parts) (body_of parts l));
    }

    -- after a legal journal the machine stands, and each line is sound with the value stored last
    pub always_sound_with : (journal : List Entry) → IsLegal parts parameters journal → MachineIsSoundWith parts parameters (stored_after parts parameters journal) (state parts parameters journal)
    unfolding state stored_after
    always_sound_with journal legal = after_sound (machine_start parts) (body_of parts) journal legal start_sound_with
