-- The machine starts as the flat machine does, and so is the flat machine after a journal's turns.
use Rattle.std.proofs.Common.{◌≡◌, ℕ, zero, suc, ◌+◌, ◌*◌, ◌/◌, ◌%◌, ◌<◌, ◌≤◌, Bool, true, false, cond, is_some, Option, List, [], ◌∷◌, length, get_or, map, refl, sym, ap, ◌∙◌, arith}
use Rattle.std.specs.List.{range_with_len}
use Rattle.std.proofs.lemmas.List.{length-map, length-append, ext_get_or}
use Rattle.std.proofs.lemmas.List.FromFn.{length-range_with_len, get_or-map-range_with_len}
use Rattle.std.proofs.Math.Nat.{suc-mul, mod-add-div'}
use Rattle.std.proofs.lemmas.Nat.{row_below_turned}
use Rattle.law_machine.proofs.Vocabulary.{Entry, Ready, Halted, Parts, node_count, line_count, context_count, body_of, started_at, Parameters, slot_at, no_slot, slot_start, regs_start}
use Rattle.law_machine.proofs.Vocabulary.{status_start, NodeState, node_start, machine_start, IsLegal, state, current_value, Context, Flat, context_start, flat_start, turns_after, turns_ready}
use Rattle.law_machine.proofs.Vocabulary.{turns_print, flat_after, flat_prints, are_ready, AreReady, moments, turns_in, turns_of, prints_of, flat_status, flat_context, flat_view}
use Rattle.law_machine.specs.Values.{stored_after}
use Rattle.law_machine.specs.FlatRuns.{contexts_of, flat_of, RunsFlat}
use Rattle.law_machine.proofs.Runs.{start_sound_with, node_at_start, always_sound_with}
use Rattle.law_machine.proofs.Lines.{value_of}
use Rattle.law_machine.proofs.FlatViews.{HaveSlots, slots_behind, own_length, context_read, values_same}
use Rattle.law_machine.proofs.FlatJournals.{runs_flat}

pub contexts_length : (count : ℕ) (nodes : List NodeState) → HaveSlots count nodes → length (contexts_of nodes) ≡ length nodes * count
contexts_length count [] have = omega arith
contexts_length count (node ∷ rest) have =
    omega (arith, length-append (map flat_context node.slots) (contexts_of rest), own_length count node rest have, contexts_length count rest (slots_behind count node rest have), suc-mul (length rest) count)

module _ (parts : Parts) where
  abbrev nodes : List NodeState
  nodes = (machine_start parts).nodes

  nodes_length : length nodes ≡ node_count parts
  nodes_length = length-map (range_with_len 0 (node_count parts)) (node_start parts) ∙ length-range_with_len 0 (node_count parts)

  have_at_start : HaveSlots parts.contexts nodes
  have_at_start n l = ap (λ (u : NodeState). length u.slots) (node_at_start parts n (omega (arith, nodes_length)))
      ∙ (length-map (range_with_len 0 parts.contexts) (slot_start parts n) ∙ length-range_with_len 0 parts.contexts)

  status_flat : (start : Option ℕ) → flat_status (status_start start) ≡ status_start start
  status_flat start = go (is_some start)
    where
      go : (b : Bool) → flat_status (cond b Ready Halted) ≡ cond b Ready Halted
      go true = refl
      go false = refl

  context_at_start : (d : Context) (i : ℕ) → i < context_count parts → get_or (contexts_of nodes) i d ≡ context_start parts i
  context_at_start d i l = ap (λ p. get_or (contexts_of nodes) p d) (sym place)
      ∙ (context_read parts.contexts nodes n j d have_at_start (rw nodes_length n_below) j_below
      ∙ (ap (λ (u : NodeState). flat_context (slot_at u.slots j)) (node_at_start parts n n_below)
      ∙ (ap flat_context (get_or-map-range_with_len (slot_start parts n) 0 parts.contexts j j no_slot j_below (omega arith))
      ∙ (λ x. record { regs = regs_start parts (place x) (started_at parts n j); status = status_flat (started_at parts n j) x }))))
    where
      n : ℕ
      n = i / parts.contexts

      j : ℕ
      j = i % parts.contexts

      place : n * parts.contexts + j ≡ i
      place = omega (arith, mod-add-div' i parts.contexts)

      n_below : n < node_count parts
      n_below = (row_below_turned i parts.contexts (node_count parts) parts.contexts l (omega arith)).1

      j_below : j < parts.contexts
      j_below = go parts.contexts l
        where
          go : (c : ℕ) → i < node_count parts * c → i % c < c
          go zero m = absurd (omega arith)
          go (suc c) m = omega arith

  flat_at_start : flat_of parts (body_of parts) nodes ≡ flat_start parts
  flat_at_start = λ x. record { memory = map (body_of parts) (range_with_len 0 (line_count parts)); contexts = all x }
    where
      d : Context
      d = context_start parts 0

      size : length (contexts_of nodes) ≡ context_count parts
      size = contexts_length parts.contexts nodes have_at_start ∙ ap (λ c. c * parts.contexts) nodes_length

      all : contexts_of nodes ≡ map (context_start parts) (range_with_len 0 (context_count parts))
      all = ext_get_or d (contexts_of nodes) (map (context_start parts) (range_with_len 0 (context_count parts)))
          (size ∙ sym (length-map (range_with_len 0 (context_count parts)) (context_start parts) ∙ length-range_with_len 0 (context_count parts)))
          (λ i l. context_at_start d i (omega (arith, size)) ∙ sym (get_or-map-range_with_len (context_start parts) 0 (context_count parts) i i d (omega (arith, size)) (omega arith)))

  module _ (parameters : Parameters) (some : 1 ≤ parameters.pointers) (journal : List Entry) (legal : IsLegal parts parameters journal) where
    whole_run : RunsFlat parts (flat_of parts (body_of parts) nodes) (turns_in parts parameters journal) (flat_of parts (stored_after parts parameters journal) (state parts parameters journal).nodes)
    unfolding state stored_after moments
    whole_run = runs_flat parts parameters some (machine_start parts) (body_of parts) journal legal (start_sound_with parts parameters some) have_at_start

    -- memory, registers and statuses are the flat machine's
    pub flat_view_is : flat_view parts parameters (state parts parameters journal) ≡ flat_after parts (turns_of parts parameters journal)
    unfolding flat_after
    flat_view_is = (λ x. record {
      memory = values_same (current_value parts parameters (state parts parameters journal)) (stored_after parts parameters journal) 0 (line_count parts) (λ l m o. value_of parts parameters (state parts parameters journal) (stored_after parts parameters journal) (always_sound_with parts parameters some journal legal) l (omega arith)) x;
      contexts = contexts_of (state parts parameters journal).nodes;
    })
        ∙ (whole_run.state ∙ ap (λ (f : Flat). turns_after parts f (turns_of parts parameters journal)) flat_at_start)

    -- each turn's context is Ready
    pub turns_are_ready : AreReady parts (turns_of parts parameters journal)
    unfolding are_ready
    turns_are_ready = ap (λ (f : Flat). turns_ready parts f (turns_of parts parameters journal)) (sym flat_at_start) ∙ whole_run.ready

    -- and both print the same
    pub prints_are : prints_of parts parameters journal ≡ flat_prints parts (turns_of parts parameters journal)
    unfolding flat_prints
    prints_are = whole_run.prints ∙ ap (λ (f : Flat). turns_print parts f (turns_of parts parameters journal)) flat_at_start
