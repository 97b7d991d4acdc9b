-- Turns that are ready one after the other are a run, or begin with one that ends where a turn traps.
use Rattle.std.proofs.Common.{◌≡◌, ◌≢◌, ℕ, zero, suc, ◌<◌, ◌++◌, ◌==◌, ◌/◌, ◌%◌, Option, Some, None, cond, ◌⊎◌, inl, inr, Bool, true, false, List, [], ◌∷◌, length, map, replicate, get_or, slice_index_or, slice_set, refl, sym, ap, ◌∙◌, subst, arith, append_assoc, append-nil}
use Rattle.std.specs.List.{list_all, range_with_len}
use Rattle.std.proofs.lemmas.List.{get_or-set_same, get_or-set_other}
use Rattle.std.proofs.lemmas.Bool.{false≢true, eq-eqb, ne_eqb}
use Rattle.alw_num.proofs.Weigh.{is_node}
use Rattle.alw_num.specs.declared.addresses.Line.{Line}
use Rattle.sparc_table.specs.Registers.{start_of}
use Rattle.sparc_table.specs.declared.registers.Regs.{Regs}
use Rattle.sparc_table.specs.declared.outcomes.Outcome.{Outcome}
use Rattle.sparc_table.specs.declared.outcomes.Outcome.TheVariants.{Done, Miss, Out, Halt, Trap}
use Rattle.alw_msg.specs.declared.contexts.Status.{Status}
use Rattle.alw_msg.specs.declared.contexts.Status.TheVariants.{Ready, Waiting, Halted, Trapped}
use Rattle.alw_msg.specs.Statuses.{is_ready, is_halted, has_trapped}
use Rattle.alw_image.specs.declared.parts.Parts.{Parts}
use Rattle.alw_image.specs.Images.{context_count, line_count, zero_line}
use Rattle.alw_flat.proofs.Turns.{ready_exists}
use Rattle.alw_image.specs.Images as images
use Rattle.alw_model.specs.Contexts.{status_start}
use Rattle.alw_model.specs.ProcessorSteps.{status_after}
use Rattle.alw_model.specs.Flat.{Flat, Context, context_at, flat_start, flat_turn, turns_after, turns_ready, turns_print, print_of, context_start, flat_after, flat_prints, are_ready, AreReady}
use Rattle.alw_places.specs.Places.{Place, place_start, place_turn, places_after, printed_after, outcome_at, regs_at, traps, IsReadyAt, GoesOn, IsRun, PlaceHasSizes}
use Rattle.alw_places.specs.Outcomes.{words_of, flat_halted, HaltsWith, TrapsAt}
use Rattle.sparc_table.specs.Meaning.{OutcomeIsStill}
use Rattle.sparc_table.proofs.Effects.{orderly_turn}
use Rattle.sparc_table.specs.declared.outcomes.Need.{Need}
use Rattle.sparc_table.specs.declared.outcomes.Need.TheVariants as needs
use Rattle.alw_places.specs.Effects.{effect_by, effect_of}
use Rattle.alw_places.proofs.Commuting.{effect_at, place_turn_is, outcome_is, other_stays_at}
use Rattle.alw_places.proofs.Ends.{both}
use Rattle.alw_places.proofs.Sizes.{sizes_start, sizes_stay}

-- the flat machine of a place after turns
pub flat_is : (parts : Parts) (place : Place) (turns : List ℕ) → (places_after parts place turns).flat ≡ turns_after parts place.flat turns
flat_is parts place [] = refl
flat_is parts place (context ∷ rest) = flat_is parts (place_turn parts place context) rest

-- a run, and then a turn that traps
record IsCut (parts : Parts) (place : Place) (turns : List ℕ) : Type 0 where
  front : List ℕ
  context : ℕ
  rest : List ℕ
  type : ℕ
  run : IsRun parts place front
  turns_are : turns ≡ front ++ context ∷ rest
  ready : IsReadyAt (places_after parts place front) context
  trap : outcome_at parts (places_after parts place front) context ≡ Trap type
  after : turns_ready parts (flat_turn parts (places_after parts place front).flat context).0 rest ≡ true

pub record IsTrap (outcome : Outcome) : Type 0 where
  pub type : ℕ
  pub is : outcome ≡ Trap type

pub trap_is : (outcome : Outcome) → traps outcome ≡ true → IsTrap outcome
trap_is (Trap tt) e = record { type = tt; is = refl }
trap_is Done e = absurd (cc)
trap_is (Miss line mode) e = absurd (cc)
trap_is (Out word) e = absurd (cc)
trap_is Halt e = absurd (cc)

cut_more : (parts : Parts) (place : Place) (context : ℕ) (rest : List ℕ) → GoesOn parts place context → IsRun parts (place_turn parts place context) rest ⊎ IsCut parts (place_turn parts place context) rest → IsRun parts place (context ∷ rest) ⊎ IsCut parts place (context ∷ rest)
cut_more parts place context rest on (inl run) = inl (on, run)
cut_more parts place context rest on (inr cut) =
    inr (record { front = context ∷ cut.front; context = cut.context; rest = cut.rest; type = cut.type; run = (on, cut.run); turns_are = ap (λ (l : List ℕ). context ∷ l) cut.turns_are; ready = cut.ready; trap = cut.trap; after = cut.after })

run_or_cut : (parts : Parts) (place : Place) (turns : List ℕ) → turns_ready parts place.flat turns ≡ true → IsRun parts place turns ⊎ IsCut parts place turns
run_or_cut parts place [] ready = inl tt
run_or_cut parts place (context ∷ rest) ready = go (traps (outcome_at parts place context)) refl (run_or_cut parts (place_turn parts place context) rest (both _ _ ready).1)
  where
    go : (b : Bool) → traps (outcome_at parts place context) ≡ b → IsRun parts (place_turn parts place context) rest ⊎ IsCut parts (place_turn parts place context) rest → IsRun parts place (context ∷ rest) ⊎ IsCut parts place (context ∷ rest)
    go false e next = cut_more parts place context rest (record { ready = (both _ _ ready).0; no_trap = e }) next
    go true e next = let trap = trap_is _ e in inr (record { front = []; context = context; rest = rest; type = trap.type; run = tt; turns_are = refl; ready = (both _ _ ready).0; trap = trap.is; after = (both _ _ ready).1 })

-- ---- a context that has trapped

-- what the turn of a context leaves of it
pub left_at : (parts : Parts) (place : Place) (context : ℕ) → IsReadyAt place context → (context_at (place_turn parts place context).flat context).status ≡ status_after (effect_at parts place context).regs (outcome_at parts place context)
left_at parts place context ready =
    let effect = effect_at parts place context in
    let x : Context = record { regs = effect.regs; status = status_after effect.regs effect.outcome } in
    let none : Context = record { regs = start_of 0 0 0; status = Halted } in
    ap (λ (p : Place). (context_at p.flat context).status) (place_turn_is parts place context)
    ∙ ap (λ (c : Context). c.status) (get_or-set_same place.flat.contexts context x none (ready_exists place.flat context ready))
    ∙ ap (status_after effect.regs) (sym (outcome_is parts place context))

pub apart : (status : Status) → is_ready status ≡ true → has_trapped status ≡ true → ⊥
apart Ready ready trapped = cc
apart (Waiting line) ready trapped = cc
apart Halted ready trapped = cc
apart (Trapped pc tt) ready trapped = cc

-- a context that has trapped stays
trapped_stays : (parts : Parts) (flat : Flat) (turns : List ℕ) (context : ℕ) → has_trapped (context_at flat context).status ≡ true → turns_ready parts flat turns ≡ true → context_at (turns_after parts flat turns) context ≡ context_at flat context
trapped_stays parts flat [] context trapped ready = refl
trapped_stays parts flat (other ∷ rest) context trapped ready =
    let differs : context ≢ other = λ same. apart _ (subst (λ (k : ℕ). is_ready (context_at flat k).status ≡ true) (sym same) (both _ _ ready).0) trapped in
    let stays : context_at (flat_turn parts flat other).0 context ≡ context_at flat context = other_stays_at parts (record { flat = flat; printed = [] }) other context differs in
    trapped_stays parts (flat_turn parts flat other).0 rest context (ap (λ (c : Context). has_trapped c.status) stays ∙ trapped) (both _ _ ready).1 ∙ stays

pub turns_after-append : (parts : Parts) (flat : Flat) (front rest : List ℕ) → turns_after parts flat (front ++ rest) ≡ turns_after parts (turns_after parts flat front) rest
turns_after-append parts flat [] rest = refl
turns_after-append parts flat (context ∷ front) rest = turns_after-append parts (flat_turn parts flat context).0 front rest

trap_keeps_by : (parts : Parts) (memory : List Line) (regs : Regs) (type : ℕ) (need : Need) → (effect_by parts memory regs need).outcome ≡ Trap type → (effect_by parts memory regs need).regs ≡ regs
unfolding effect_by
trap_keeps_by parts memory regs type needs.Nothing e = ((orderly_turn parts.code regs (line_count parts) zero_line).still (subst OutcomeIsStill (sym e) tt)).0
trap_keeps_by parts memory regs type (needs.Trap other) e = ((orderly_turn parts.code regs (line_count parts) zero_line).still (subst OutcomeIsStill (sym e) tt)).0
trap_keeps_by parts memory regs type (needs.Copy line mode) e = ((orderly_turn parts.code regs (line_count parts) (slice_index_or memory line.0 zero_line)).still (subst OutcomeIsStill (sym e) tt)).0

pub trap_keeps : (parts : Parts) (memory : List Line) (regs : Regs) (type : ℕ) → (effect_of parts memory regs).outcome ≡ Trap type → (effect_of parts memory regs).regs ≡ regs
unfolding effect_of
trap_keeps parts memory regs type e = trap_keeps_by parts memory regs type _ e

-- where a turn of the cut traps, that is what runs come to, and its context has trapped at the end
cut_traps : (parts : Parts) (turns : List ℕ) → IsCut parts (place_start parts) turns → TrapsAt parts (turns_after parts (flat_start parts) turns)
unfolding effect_at
cut_traps parts turns cut = record {
  context = cut.context;
  pc = (regs_at there cut.context).pc;
  type = cut.type;
  comes = record { turns = cut.front; run = cut.run; ends = (cut.ready, cut.trap, refl) };
  left = ap (λ (f : Flat). (context_at f cut.context).status) flat_then ∙ ap (λ (c : Context). c.status) (trapped_stays parts (place_turn parts there cut.context).flat cut.rest cut.context (ap has_trapped status) cut.after) ∙ status;
}
  where
    there : Place
    there = places_after parts (place_start parts) cut.front

    same_regs : (effect_at parts there cut.context).regs ≡ regs_at there cut.context
    same_regs = trap_keeps parts there.flat.memory (regs_at there cut.context) cut.type (sym (outcome_is parts there cut.context) ∙ cut.trap)

    status : (context_at (place_turn parts there cut.context).flat cut.context).status ≡ Trapped (regs_at there cut.context).pc cut.type
    status = left_at parts there cut.context cut.ready ∙ (λ i. status_after (same_regs i) (cut.trap i))

    flat_then : turns_after parts (flat_start parts) turns ≡ turns_after parts (place_turn parts there cut.context).flat cut.rest
    flat_then = ap (turns_after parts (flat_start parts)) cut.turns_are ∙ turns_after-append parts (flat_start parts) cut.front (cut.context ∷ cut.rest)
        ∙ ap (λ (f : Flat). turns_after parts f (cut.context ∷ cut.rest)) (sym (flat_is parts (place_start parts) cut.front))

-- ---- what is printed

-- words of one turn, and of the rest
words-append : (context : ℕ) (one two : List (ℕ × ℕ)) → words_of context (one ++ two) ≡ words_of context one ++ words_of context two
words-append context [] two = refl
words-append context (print ∷ one) two = go (print.0 == context) (words-append context one two)
  where
    go : (b : Bool) → words_of context (one ++ two) ≡ words_of context one ++ words_of context two
        → cond b (print.1 ∷ words_of context (one ++ two)) (words_of context (one ++ two)) ≡ cond b (print.1 ∷ words_of context one) (words_of context one) ++ words_of context two
    go true e = ap (λ (l : List ℕ). print.1 ∷ l) e
    go false e = e

printed_by : (printed : List (List ℕ)) (context other : ℕ) (outcome : Outcome) → context < length printed → slice_index_or (printed_after printed other outcome) context [] ≡ slice_index_or printed context [] ++ words_of context (print_of other outcome)
printed_by printed context other (Out word) within = is_node _ other context
    (λ same. ap (λ (k : ℕ). slice_index_or (slice_set printed k (slice_index_or printed k [] ++ word ∷ [])) context []) same ∙ get_or-set_same printed context _ [] within
    ∙ ap (λ (b : Bool). slice_index_or printed context [] ++ cond b (word ∷ []) []) (sym (eq-eqb other context same)))
    (λ differ. get_or-set_other printed other context _ [] (λ e. differ (sym e)) ∙ sym (append-nil _) ∙ ap (λ (b : Bool). slice_index_or printed context [] ++ cond b (word ∷ []) []) (sym (ne_eqb other context differ)))
printed_by printed context other Done within = sym (append-nil _)
printed_by printed context other (Miss line mode) within = sym (append-nil _)
printed_by printed context other Halt within = sym (append-nil _)
printed_by printed context other (Trap tt) within = sym (append-nil _)

-- each context has printed its words
printed_is : (parts : Parts) (place : Place) (turns : List ℕ) (context : ℕ) → PlaceHasSizes parts place → context < context_count parts
    → slice_index_or (places_after parts place turns).printed context [] ≡ slice_index_or place.printed context [] ++ words_of context (turns_print parts place.flat turns)
printed_is parts place [] context sizes exists = sym (append-nil _)
printed_is parts place (other ∷ rest) context sizes exists =
    let within : context < length place.printed = omega (arith, sizes.printed) in
    let one = printed_by place.printed context other (outcome_at parts place other) within in
    let more = printed_is parts (place_turn parts place other) rest context (sizes_stay parts place other sizes) exists in
    more ∙ ap (λ (l : List ℕ). l ++ words_of context (turns_print parts (place_turn parts place other).flat rest)) one
    ∙ append_assoc (slice_index_or place.printed context []) (words_of context (print_of other (outcome_at parts place other))) (words_of context (turns_print parts (place_turn parts place other).flat rest))
    ∙ ap (λ (l : List ℕ). slice_index_or place.printed context [] ++ l) (sym (words-append context (print_of other (outcome_at parts place other)) (turns_print parts (place_turn parts place other).flat rest)))

none_printed : (n context : ℕ) → (let none : List ℕ = [] in get_or (replicate n none) context none ≡ none)
none_printed zero context = refl
none_printed (suc n) zero = refl
none_printed (suc n) (suc context) = none_printed n context

-- from the start each context has printed the words that are its own
pub words_are : (parts : Parts) (turns : List ℕ) (context : ℕ) → context < context_count parts
    → slice_index_or (places_after parts (place_start parts) turns).printed context [] ≡ words_of context (turns_print parts (flat_start parts) turns)
words_are parts turns context exists = printed_is parts (place_start parts) turns context (sizes_start parts) exists
    ∙ ap (λ (l : List ℕ). l ++ words_of context (turns_print parts (flat_start parts) turns)) (none_printed (context_count parts) context)

-- ---- the two ends

-- turns that are ready are a run, or a context has trapped behind them, and that is what runs come to
pub run_or_traps : (parts : Parts) (turns : List ℕ) → AreReady parts turns → IsRun parts (place_start parts) turns ⊎ TrapsAt parts (flat_after parts turns)
unfolding flat_after are_ready
run_or_traps parts turns ready = go (run_or_cut parts (place_start parts) turns ready)
  where
    go : IsRun parts (place_start parts) turns ⊎ IsCut parts (place_start parts) turns → IsRun parts (place_start parts) turns ⊎ TrapsAt parts (turns_after parts (flat_start parts) turns)
    go (inl run) = inl run
    go (inr cut) = inr (cut_traps parts turns cut)

halted_or_trapped : (status : Status) → is_halted status ≡ true → has_trapped status ≡ true → ⊥
halted_or_trapped Ready halted trapped = cc
halted_or_trapped (Waiting line) halted trapped = cc
halted_or_trapped Halted halted trapped = cc
halted_or_trapped (Trapped pc tt) halted trapped = cc

none_trapped : (contexts : List Context) (context : ℕ) → list_all (λ (c : Context). is_halted c.status) contexts ≡ true → has_trapped (context_at (record { memory = []; contexts = contexts }) context).status ≡ true → ⊥
none_trapped [] context halted trapped = cc
none_trapped (first ∷ rest) zero halted trapped = halted_or_trapped first.status (both _ _ halted).0 trapped
none_trapped (first ∷ rest) (suc context) halted trapped = none_trapped rest context (both _ _ halted).1 trapped

pub halts_with : (parts : Parts) (turns : List ℕ) → AreReady parts turns → flat_halted (flat_after parts turns) ≡ true → HaltsWith parts (flat_after parts turns).memory (flat_prints parts turns)
unfolding flat_after flat_prints are_ready
halts_with parts turns ready halted = go (run_or_traps parts turns ready)
  where
    go : IsRun parts (place_start parts) turns ⊎ TrapsAt parts (turns_after parts (flat_start parts) turns) → HaltsWith parts (turns_after parts (flat_start parts) turns).memory (turns_print parts (flat_start parts) turns)
    go (inr traps) = absurd (none_trapped _ traps.context halted (ap has_trapped traps.left))
    go (inl run) =
        let flat = flat_is parts (place_start parts) turns in
        record {
          printed = (places_after parts (place_start parts) turns).printed;
          comes = record { turns = turns; run = run; ends = (ap flat_halted flat ∙ halted, refl, ap (λ (f : Flat). f.memory) flat) };
          words = words_are parts turns;
        }

-- ---- a run traps nowhere

traps_none : (regs : Regs) (outcome : Outcome) → traps outcome ≡ false → has_trapped (status_after regs outcome) ≡ false
traps_none regs Done none = refl
traps_none regs (Miss line mode) none = refl
traps_none regs (Out word) none = refl
traps_none regs Halt none = refl
traps_none regs (Trap tt) none = absurd (cc)

pub run_traps_none : (parts : Parts) (place : Place) (turns : List ℕ) (context : ℕ) → has_trapped (context_at place.flat context).status ≡ false → IsRun parts place turns → has_trapped (context_at (places_after parts place turns).flat context).status ≡ false
run_traps_none parts place [] context none run = none
run_traps_none parts place (other ∷ rest) context none run =
    run_traps_none parts (place_turn parts place other) rest context
    (is_node _ context other
    (λ same. subst (λ (k : ℕ). has_trapped (context_at (place_turn parts place other).flat k).status ≡ false) (sym same) (ap has_trapped (left_at parts place other run.0.ready) ∙ traps_none (effect_at parts place other).regs (outcome_at parts place other) run.0.no_trap))
    (λ differ. ap (λ (c : Context). has_trapped c.status) (other_stays_at parts place other context differ) ∙ none))
    run.1

pub start_traps_none : (parts : Parts) (context : ℕ) → has_trapped (context_at (flat_start parts) context).status ≡ false
start_traps_none parts context = none (range_with_len 0 (context_count parts)) context
  where
    started : (start : Option ℕ) → has_trapped (status_start start) ≡ false
    started None = refl
    started (Some at) = refl

    none : (numbers : List ℕ) (context : ℕ) → has_trapped (context_at (record { memory = []; contexts = map (context_start parts) numbers }) context).status ≡ false
    none [] context = refl
    none (number ∷ rest) zero = started (images.started_at parts (number / parts.contexts) (number % parts.contexts))
    none (number ∷ rest) (suc context) = none rest context

-- where a context has trapped, that is what runs come to
pub traps_at : (parts : Parts) (turns : List ℕ) (context : ℕ) → AreReady parts turns → has_trapped (context_at (flat_after parts turns) context).status ≡ true → TrapsAt parts (flat_after parts turns)
unfolding flat_after are_ready
traps_at parts turns context ready trapped = go (run_or_traps parts turns ready)
  where
    go : IsRun parts (place_start parts) turns ⊎ TrapsAt parts (turns_after parts (flat_start parts) turns) → TrapsAt parts (turns_after parts (flat_start parts) turns)
    go (inr traps) = traps
    go (inl run) = absurd (false≢true (sym (run_traps_none parts (place_start parts) turns context (start_traps_none parts context) run)
        ∙ ap (λ (f : Flat). has_trapped (context_at f context).status) (flat_is parts (place_start parts) turns) ∙ trapped))
