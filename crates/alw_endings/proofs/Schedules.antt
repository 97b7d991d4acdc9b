-- What every legal journal comes to is told where the search is complete.
use Rattle.std.proofs.Common.{◌≡◌, ℕ, zero, suc, ◌+◌, ◌≤◌, ◌<◌, ◌&&◌, Bool, true, false, List, [], ◌∷◌, ◌++◌, Some, length, map, refl, sym, ap, ◌∙◌, arith}
use Rattle.std.specs.Prelude.{slice_get, slice_index_or}
use Rattle.std.specs.List.{flat_map, range_with_len, list_all, AllByRecursion}
use Rattle.std.proofs.lemmas.List.FromFn.{get_or-map-range_with_len}
use Rattle.alw_num.specs.declared.addresses.Line.{Line}
use Rattle.alw_msg.specs.declared.events.Entry.{Entry}
use Rattle.alw_msg.specs.declared.contexts.Status.{Status}
use Rattle.alw_msg.specs.declared.contexts.Status.TheVariants as status
use Rattle.alw_msg.specs.Statuses.{has_trapped, is_halted}
use Rattle.alw_msg.specs.Stretches.{turns_in}
use Rattle.alw_msg.proofs.StretchLaws.{same_turns}
use Rattle.alw_image.specs.declared.parts.Parts.{Parts}
use Rattle.alw_image.specs.Images.{line_count, context_count, zero_line}
use Rattle.alw_image.specs.Parameters.{Parameters}
use Rattle.alw_model.specs.Counts.{words_of, listed_words, memory_words}
use Rattle.alw_model.specs.Lines.{current_value}
use Rattle.alw_model.specs.Contexts.{Slot, all_halted}
use Rattle.alw_model.specs.NodeStates.{NodeState}
use Rattle.alw_model.specs.Machine.{IsLegal, state, has_halted}
use Rattle.alw_model.specs.Flat.{Context, context_at}
use Rattle.alw_model.specs.Runs.{prints_of, flat_view, flat_context, flat_status}
use Rattle.alw_places.specs.Outcomes as outcomes
use Rattle.alw_places.specs.Outcomes.{Ending, Halts, Traps}
use Rattle.law_schedules.proofs.Journals.{journal_halts, journal_traps}
use Rattle.alw_endings.specs.declared.values.Outcomes.{Outcomes}
use Rattle.alw_endings.specs.declared.values.HaltEnd.{HaltEnd}
use Rattle.alw_endings.specs.declared.values.TrapEnd.{TrapEnd}
use Rattle.alw_endings.specs.Ends.{prints_by, place_by, halt_told, trap_told, IsHaltEnd, AreOutcomes}
use Rattle.alw_endings.specs.Schedules.{TellsHalt, TellsTrap, TellsEveryRun}
use Rattle.alw_model.proofs.Journals.{and_parts}

-- ---- what lists are made by

pub same_flat : (one other : ℕ → List (ℕ × ℕ)) (a n : ℕ) → ((i : ℕ) → a ≤ i → i < a + n → one i ≡ other i) → flat_map one (range_with_len a n) ≡ flat_map other (range_with_len a n)
same_flat one other a zero each = refl
same_flat one other a (suc n) each =
    ap (λ (xs : List (ℕ × ℕ)). xs ++ flat_map one (range_with_len (a + 1) n)) (each a (omega arith) (omega arith))
    ∙ ap (λ (xs : List (ℕ × ℕ)). other a ++ xs) (same_flat one other (a + 1) n (λ i l m. each i (omega (arith, l)) (omega (arith, m))))

-- ---- where all contexts of the machine have halted, all of the flat machine have

halted_alike : (s : Status) → is_halted (flat_status s) ≡ is_halted s
halted_alike status.Ready = refl
halted_alike (status.Waiting line) = refl
halted_alike status.Halted = refl
halted_alike (status.Trapped pc tt') = refl

and_true : (a b : Bool) → a ≡ true → b ≡ true → (a && b) ≡ true
and_true true b e f = f
and_true false b e f = absurd cc

halted_slots : (slots : List Slot) (more : List Context) → all_halted slots ≡ true → list_all (λ (context : Context). is_halted context.status) more ≡ true →
    list_all (λ (context : Context). is_halted context.status) (map flat_context slots ++ more) ≡ true
halted_slots [] more all rest = rest
halted_slots (slot ∷ slots) more all rest =
    let b = and_parts (is_halted slot.status) (all_halted slots) all in
    and_true _ _ (halted_alike slot.status ∙ b.0) (halted_slots slots more b.1 rest)

halted_nodes : (nodes : List NodeState) → list_all (λ (node : NodeState). all_halted node.slots) nodes ≡ true →
    list_all (λ (context : Context). is_halted context.status) (flat_map (λ (node : NodeState). map flat_context node.slots) nodes) ≡ true
halted_nodes [] all = refl
halted_nodes (node ∷ nodes) all =
    let b = and_parts (all_halted node.slots) (list_all (λ (n : NodeState). all_halted n.slots) nodes) all in
    halted_slots node.slots _ b.0 (halted_nodes nodes b.1)

-- ---- members by what they tell

record HaltFound (parts : Parts) (halts : List HaltEnd) (printed : List (List ℕ)) (memory : List Line) : Type 0 where
  pub number : ℕ
  pub halt : HaltEnd
  pub there : slice_get halts number ≡ Some halt
  pub is : IsHaltEnd parts halt
  pub tells : halt_told parts halt ≡ Halts printed memory

record TrapFound (traps : List TrapEnd) (context pc type : ℕ) : Type 0 where
  pub number : ℕ
  pub trap : TrapEnd
  pub there : slice_get traps number ≡ Some trap
  pub tells : trap_told trap ≡ Traps context pc type

abbrev told_of : Parts → List HaltEnd → List TrapEnd → List Ending
told_of parts halts traps = map (halt_told parts) halts ++ map trap_told traps

no_halt : (traps : List TrapEnd) (k : ℕ) (printed : List (List ℕ)) (memory : List Line) → k < length (map trap_told traps) → slice_index_or (map trap_told traps) k (Halts printed memory) ≡ Halts printed memory → ⊥
no_halt [] k printed memory l e = absurd (omega (arith, l))
no_halt (trap ∷ traps) zero printed memory l e = absurd cc
no_halt (trap ∷ traps) (suc k) printed memory l e = no_halt traps k printed memory (omega (arith, l)) e

find_halt : (parts : Parts) (halts : List HaltEnd) (traps : List TrapEnd) → AllByRecursion (IsHaltEnd parts) halts → (printed : List (List ℕ)) (memory : List Line) →
    (k : ℕ) → k < length (told_of parts halts traps) → slice_index_or (told_of parts halts traps) k (Halts printed memory) ≡ Halts printed memory → HaltFound parts halts printed memory
find_halt parts [] traps each printed memory k l e = absurd (no_halt traps k printed memory l e)
find_halt parts (halt ∷ halts) traps each printed memory zero l e = record { number = 0; halt = halt; there = refl; is = each.0; tells = e }
find_halt parts (halt ∷ halts) traps each printed memory (suc k) l e =
    let f = find_halt parts halts traps each.1 printed memory k (omega (arith, l)) e in
    record { number = suc f.number; halt = f.halt; there = f.there; is = f.is; tells = f.tells }

find_by_trap : (traps : List TrapEnd) (context pc type : ℕ) (k : ℕ) → k < length (map trap_told traps) → slice_index_or (map trap_told traps) k (Traps context pc type) ≡ Traps context pc type →
    TrapFound traps context pc type
find_by_trap [] context pc type k l e = absurd (omega (arith, l))
find_by_trap (trap ∷ traps) context pc type zero l e = record { number = 0; trap = trap; there = refl; tells = e }
find_by_trap (trap ∷ traps) context pc type (suc k) l e =
    let f = find_by_trap traps context pc type k (omega (arith, l)) e in
    record { number = suc f.number; trap = f.trap; there = f.there; tells = f.tells }

find_trap : (parts : Parts) (halts : List HaltEnd) (traps : List TrapEnd) (context pc type : ℕ) (k : ℕ) → k < length (told_of parts halts traps) →
    slice_index_or (told_of parts halts traps) k (Traps context pc type) ≡ Traps context pc type → TrapFound traps context pc type
find_trap parts [] traps context pc type k l e = find_by_trap traps context pc type k l e
find_trap parts (halt ∷ halts) traps context pc type zero l e = absurd cc
find_trap parts (halt ∷ halts) traps context pc type (suc k) l e = find_trap parts halts traps context pc type k (omega (arith, l)) e

-- what an end where all contexts have halted is told by
printed_in : Ending → List (List ℕ)
printed_in (Halts printed memory) = printed
printed_in (Traps context pc type) = []

memory_in : Ending → List Line
memory_in (Halts printed memory) = memory
memory_in (Traps context pc type) = []

context_in : Ending → ℕ
context_in (Halts printed memory) = 0
context_in (Traps context pc type) = context

pc_in : Ending → ℕ
pc_in (Halts printed memory) = 0
pc_in (Traps context pc type) = pc

type_in : Ending → ℕ
type_in (Halts printed memory) = 0
type_in (Traps context pc type) = type

-- ---- of a journal

module _ (parts : Parts) (told : Outcomes) (are : AreOutcomes parts told) (complete : told.is_complete ≡ true) (parameters : Parameters) (some : 1 ≤ parameters.pointers)
    (journal : List Entry) (legal : IsLegal parts parameters journal) where
  values : ℕ → Line
  values line = current_value parts parameters (state parts parameters journal) line

  halted : has_halted (state parts parameters journal) ≡ true →
      TellsHalt parts told (prints_of parts parameters journal) (memory_words parts parameters (state parts parameters journal))
  unfolding printed_in memory_in values
  halted stands =
      let view = flat_view parts parameters (state parts parameters journal) in
      let h = journal_halts parts parameters some journal legal (halted_nodes (state parts parameters journal).nodes stands) in
      let has = are.every complete _ h.comes in
      let f = find_halt parts told.halts told.traps are.halts h.printed view.memory has.0 has.1 has.2 in
      let turns : turns_in f.halt.runs ≡ f.is.turns = ap turns_in f.is.lead ∙ same_turns f.is.turns in
      let printed : (place_by parts f.is.turns).printed ≡ h.printed =
      ap (λ (ts : List ℕ). (place_by parts ts).printed) (sym turns) ∙ ap printed_in f.tells in
      let memory : (place_by parts f.is.turns).flat.memory ≡ view.memory =
      ap (λ (ts : List ℕ). (place_by parts ts).flat.memory) (sym turns) ∙ ap memory_in f.tells in
      record {
        number = f.number;
        halt = f.halt;
        there = f.there;
        prints_are = f.is.prints
            ∙ ap (λ (ps : List (List ℕ)). prints_by (λ context. slice_index_or ps context []) (context_count parts)) printed
            ∙ same_flat (λ context. map (λ (word : ℕ). (context, word)) (slice_index_or h.printed context []))
            (λ context. map (λ (word : ℕ). (context, word)) (outcomes.words_of context (prints_of parts parameters journal))) 0 (context_count parts)
            (λ i l m. ap (λ (words : List ℕ). map (λ (word : ℕ). (i, word)) words) (h.words i (omega (arith, m))));
        memory_is = f.is.memory
            ∙ ap (λ (ls : List Line). listed_words (λ line. slice_index_or ls line zero_line) (line_count parts)) memory
            ∙ same_flat (λ line. words_of line (slice_index_or view.memory line zero_line)) (λ line. words_of line (values line)) 0 (line_count parts)
            (λ i l m. ap (λ (body : Line). words_of i body) (get_or-map-range_with_len values 0 (line_count parts) i i zero_line (omega (arith, m)) (omega arith)));
      }

  trapped : (context : ℕ) → has_trapped (context_at (flat_view parts parameters (state parts parameters journal)) context).status ≡ true →
      TellsTrap told (flat_view parts parameters (state parts parameters journal)) context
  unfolding context_in pc_in type_in
  trapped context stands =
      let t = journal_traps parts parameters some journal legal context stands in
      let has = are.every complete _ t.comes in
      let f = find_trap parts told.halts told.traps context t.pc t.type has.0 has.1 has.2 in
      record {
        number = f.number;
        trap = f.trap;
        there = f.there;
        context_is = ap context_in f.tells;
        left_so = rw (ap pc_in f.tells, ap type_in f.tells) t.left_so;
      }

pub every_run : (parts : Parts) (told : Outcomes) → AreOutcomes parts told → told.is_complete ≡ true → TellsEveryRun parts told
every_run parts told are complete = record {
  halted = λ parameters some journal legal stands. halted parts told are complete parameters some journal legal stands;
  trapped = λ parameters some journal legal context stands. trapped parts told are complete parameters some journal legal context stands;
}
