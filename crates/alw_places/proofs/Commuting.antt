-- A local turn of one context and any turn of another commute.
use Rattle.std.proofs.Common.{◌≡◌, ◌≢◌, ℕ, zero, suc, ◌++◌, false, List, [], ◌∷◌, slice_index_or, slice_set, refl, sym, ap, ◌∙◌, subst}
use Rattle.std.proofs.lemmas.List.{get_or-set_other}
use Rattle.alw_num.specs.declared.addresses.Line.{Line}
use Rattle.sparc_table.specs.Turns.{need_of}
use Rattle.sparc_table.specs.declared.registers.Regs.{Regs}
use Rattle.sparc_table.specs.declared.outcomes.Need.{Need}
use Rattle.sparc_table.specs.declared.outcomes.Need.TheVariants as needs
use Rattle.sparc_table.specs.declared.outcomes.Outcome.{Outcome}
use Rattle.sparc_table.specs.declared.outcomes.Outcome.TheVariants.{Out}
use Rattle.alw_msg.specs.Statuses.{is_ready}
use Rattle.alw_image.specs.declared.parts.Parts.{Parts}
use Rattle.alw_image.specs.Images.{line_count}
use Rattle.alw_model.specs.ProcessorSteps.{status_after}
use Rattle.alw_model.specs.Flat.{Flat, Context, flat_turn, flat_turn_by, context_at, turned}
use Rattle.alw_places.specs.Effects.{Effect, effect_by, effect_of}
use Rattle.alw_places.specs.Places.{Place, place_turn, printed_after, outcome_at, regs_at, needs_copy, traps, IsLocal}

-- ---- a turn as a function of the memory and the registers of its context

-- the flat machine once a context's turn has left this
abbrev pub left_by : Flat → ℕ → Effect → Flat × Outcome
left_by flat context effect = turned flat context effect.memory effect.regs effect.outcome

turn_by : (parts : Parts) (flat : Flat) (context : ℕ) (need : Need) → flat_turn_by parts flat context need ≡ left_by flat context (effect_by parts flat.memory (context_at flat context).regs need)
unfolding effect_by
turn_by parts flat context needs.Nothing = refl
turn_by parts flat context (needs.Trap tt) = refl
turn_by parts flat context (needs.Copy line mode) = refl

turn_is : (parts : Parts) (flat : Flat) (context : ℕ) → flat_turn parts flat context ≡ left_by flat context (effect_of parts flat.memory (context_at flat context).regs)
unfolding effect_of
turn_is parts flat context = turn_by parts flat context _

-- a turn that needs no copy leaves the memory, and does the same on any memory
alone_by : (parts : Parts) (memory other : List Line) (regs : Regs) (need : Need) → needs_copy need ≡ false
    → effect_by parts other regs need ≡ record { memory = other; regs = (effect_by parts memory regs need).regs; outcome = (effect_by parts memory regs need).outcome }
unfolding effect_by
alone_by parts memory other regs needs.Nothing alone = refl
alone_by parts memory other regs (needs.Trap tt) alone = refl
alone_by parts memory other regs (needs.Copy line mode) alone = absurd (cc)

alone_of : (parts : Parts) (memory other : List Line) (regs : Regs) → needs_copy (need_of parts.code regs (line_count parts)) ≡ false
    → effect_of parts other regs ≡ record { memory = other; regs = (effect_of parts memory regs).regs; outcome = (effect_of parts memory regs).outcome }
unfolding effect_of
alone_of parts memory other regs alone = alone_by parts memory other regs _ alone

-- ---- writes at two places

pub set-set_other : {A : Type 0} (xs : List A) (i j : ℕ) (x y : A) → i ≢ j → slice_set (slice_set xs i x) j y ≡ slice_set (slice_set xs j y) i x
set-set_other [] i j x y other = refl
set-set_other (a ∷ xs) zero zero x y other = absurd (other refl)
set-set_other (a ∷ xs) zero (suc j) x y other = refl
set-set_other (a ∷ xs) (suc i) zero x y other = refl
set-set_other {A = A} (a ∷ xs) (suc i) (suc j) x y other = ap (λ (l : List A). a ∷ l) (set-set_other xs i j x y (λ same. other (ap suc same)))

-- ---- a turn at a place

unfoldable pub effect_at : Parts → Place → ℕ → Effect
effect_at parts place context = effect_of parts place.flat.memory (regs_at place context)

-- the place once a context's turn has left this
abbrev pub after : Place → ℕ → Effect → Place
after place context effect = record { flat = (left_by place.flat context effect).0; printed = printed_after place.printed context effect.outcome }

pub place_turn_is : (parts : Parts) (place : Place) (context : ℕ) → place_turn parts place context ≡ after place context (effect_at parts place context)
unfolding effect_at
place_turn_is parts place context =
    ap (λ (done : Flat × Outcome). let p : Place = record { flat = done.0; printed = printed_after place.printed context done.1 } in p) (turn_is parts place.flat context)

pub outcome_is : (parts : Parts) (place : Place) (context : ℕ) → outcome_at parts place context ≡ (effect_at parts place context).outcome
unfolding effect_at
outcome_is parts place context = ap (λ (done : Flat × Outcome). done.1) (turn_is parts place.flat context)

-- a turn does the same on the same memory and the same registers
pub same_effect : (parts : Parts) (place other : Place) (context : ℕ) → other.flat.memory ≡ place.flat.memory → context_at other.flat context ≡ context_at place.flat context → effect_at parts other context ≡ effect_at parts place context
unfolding effect_at
same_effect parts place other context memory same = λ i. effect_of parts (memory i) ((same i).regs)

-- the context of another number stays
other_stays : (place : Place) (context other : ℕ) (effect : Effect) → other ≢ context → context_at (after place context effect).flat other ≡ context_at place.flat other
other_stays place context other effect apart = get_or-set_other place.flat.contexts context other _ _ apart

pub other_stays_at : (parts : Parts) (place : Place) (context other : ℕ) → other ≢ context → context_at (place_turn parts place context).flat other ≡ context_at place.flat other
other_stays_at parts place context other apart = ap (λ (p : Place). context_at p.flat other) (place_turn_is parts place context) ∙ other_stays place context other (effect_at parts place context) apart

-- ---- a local turn

-- the place once a local turn has left the context with these registers and this outcome
abbrev pub local_after : Place → ℕ → Regs → Outcome → Place
local_after place context regs outcome =
    record { flat = record { memory = place.flat.memory; contexts = slice_set place.flat.contexts context (record { regs = regs; status = status_after regs outcome }) }; printed = printed_after place.printed context outcome }

pub local_is : (parts : Parts) (place : Place) (context : ℕ) → IsLocal parts place context → place_turn parts place context ≡ local_after place context (effect_at parts place context).regs (effect_at parts place context).outcome
unfolding effect_at
local_is parts place context here = place_turn_is parts place context ∙ ap (after place context) (alone_of parts place.flat.memory place.flat.memory (regs_at place context) here.alone)

-- at another place where the context is the same, its turn is the same
record IsSameTurn (parts : Parts) (place other : Place) (context : ℕ) : Type 0 where
  here : IsLocal parts other context
  regs : (effect_at parts other context).regs ≡ (effect_at parts place context).regs
  outcome : (effect_at parts other context).outcome ≡ (effect_at parts place context).outcome

local_elsewhere : (parts : Parts) (place other : Place) (context : ℕ) → IsLocal parts place context → context_at other.flat context ≡ context_at place.flat context → IsSameTurn parts place other context
unfolding effect_at
local_elsewhere parts place other context here same =
    let needs = subst (λ (c : Context). needs_copy (need_of parts.code c.regs (line_count parts)) ≡ false) (sym same) here.alone in
    let moved : effect_at parts other context ≡ effect_of parts other.flat.memory (regs_at place context) = λ i. effect_of parts other.flat.memory ((same i).regs) in
    let as_here = alone_of parts place.flat.memory other.flat.memory (regs_at place context) here.alone in
    let outcomes : outcome_at parts other context ≡ outcome_at parts place context = outcome_is parts other context ∙ ap (λ (e : Effect). e.outcome) (moved ∙ as_here) ∙ sym (outcome_is parts place context) in
    record {
      here = record {
        on = record { ready = ap (λ (c : Context). is_ready c.status) same ∙ here.on.ready; no_trap = ap traps outcomes ∙ here.on.no_trap };
        alone = needs;
      };
      regs = ap (λ (e : Effect). e.regs) (moved ∙ as_here);
      outcome = ap (λ (e : Effect). e.outcome) (moved ∙ as_here);
    }

-- what two contexts print, in either order
pub printed_crossed : (printed : List (List ℕ)) (context other : ℕ) (one two : Outcome) → context ≢ other
    → printed_after (printed_after printed context one) other two ≡ printed_after (printed_after printed other two) context one
printed_crossed printed context other (Out word) (Out second) apart =
    let none : List ℕ = [] in
    let here = get_or-set_other printed context other (slice_index_or printed context [] ++ word ∷ []) none (λ same. apart (sym same)) in
    let there = get_or-set_other printed other context (slice_index_or printed other [] ++ second ∷ []) none apart in
    (λ i. slice_set (slice_set printed context (slice_index_or printed context [] ++ word ∷ [])) other (here i ++ second ∷ []))
    ∙ set-set_other printed context other _ _ apart
    ∙ (λ i. slice_set (slice_set printed other (slice_index_or printed other [] ++ second ∷ [])) context (sym there i ++ word ∷ []))
printed_crossed printed context other (Out word) two apart = refl
printed_crossed printed context other one two apart = refl

-- ---- both orders

-- after a local turn the turn of another context is what it was
module _ (parts : Parts) (place : Place) (context other : ℕ) (here : IsLocal parts place context) (apart : context ≢ other) where
  other_as_before : effect_at parts (place_turn parts place context) other ≡ effect_at parts place other
  other_as_before = same_effect parts place _ other (ap (λ (p : Place). p.flat.memory) (local_is parts place context here)) (other_stays_at parts place context other (λ same. apart (sym same)))

  pub other_outcome : outcome_at parts (place_turn parts place context) other ≡ outcome_at parts place other
  other_outcome = outcome_is parts _ other ∙ ap (λ (e : Effect). e.outcome) other_as_before ∙ sym (outcome_is parts place other)

  pub other_context : context_at (place_turn parts place context).flat other ≡ context_at place.flat other
  other_context = other_stays_at parts place context other (λ same. apart (sym same))

  -- after the turn of another context the local turn is what it was
  local_as_before : IsSameTurn parts place (place_turn parts place other) context
  local_as_before = local_elsewhere parts place _ context here (other_stays_at parts place other context apart)

  crossed : (regs : Regs) (outcome : Outcome) (effect : Effect) → after (local_after place context regs outcome) other effect ≡ local_after (after place other effect) context regs outcome
  crossed regs outcome effect =
      let contexts = set-set_other place.flat.contexts context other (record { regs = regs; status = status_after regs outcome }) (record { regs = effect.regs; status = status_after effect.regs effect.outcome }) apart in
      let printed = printed_crossed place.printed context other outcome effect.outcome apart in
      λ i. record { flat = record { memory = effect.memory; contexts = contexts i }; printed = printed i }

  -- both orders lead to the same place
  pub orders : place_turn parts (place_turn parts place context) other ≡ place_turn parts (place_turn parts place other) context
  orders =
      let mine = effect_at parts place context in
      let one : place_turn parts (place_turn parts place context) other ≡ after (local_after place context mine.regs mine.outcome) other (effect_at parts place other) =
      place_turn_is parts _ other ∙ (λ i. after (local_is parts place context here i) other (other_as_before i)) in
      let two : place_turn parts (place_turn parts place other) context ≡ local_after (after place other (effect_at parts place other)) context mine.regs mine.outcome =
      local_is parts _ context local_as_before.here ∙ (λ i. local_after (place_turn_is parts place other i) context (local_as_before.regs i) (local_as_before.outcome i)) in
      one ∙ crossed mine.regs mine.outcome (effect_at parts place other) ∙ sym two

  -- the local turn stays local
  pub local_stays : IsLocal parts (place_turn parts place other) context
  local_stays = local_as_before.here
