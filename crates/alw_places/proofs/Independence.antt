-- Turns of two contexts commute where neither writes what the other needs; so private turns may go first.
use Rattle.std.proofs.Common.{◌≡◌, ◌≢◌, ℕ, ◌<◌, ◌⊎◌, inl, inr, Bool, true, false, not, List, [], ◌∷◌, slice_index_or, slice_set, refl, sym, ap, ◌∙◌, subst, arith}
use Rattle.std.specs.List.{sum_by}
use Rattle.std.proofs.lemmas.List.{get_or-set_other, get_or-set_same}
use Rattle.std.proofs.lemmas.List.Sums.{sum_by-set}
use Rattle.std.proofs.lemmas.Bool.{eqb-true}
use Rattle.alw_num.proofs.Weigh.{is_node}
use Rattle.alw_num.specs.declared.addresses.Line.{Line}
use Rattle.alw_num.specs.declared.states.Mode.{Mode}
use Rattle.alw_num.specs.declared.states.Mode.TheVariants.{Read, Write}
use Rattle.sparc_table.specs.Registers.{start_of}
use Rattle.sparc_table.specs.Turns.{need_of, turn_of}
use Rattle.sparc_table.specs.declared.registers.Regs.{Regs}
use Rattle.sparc_table.specs.declared.outcomes.Need.{Need}
use Rattle.sparc_table.specs.declared.outcomes.Need.TheVariants as needs
use Rattle.sparc_table.specs.declared.outcomes.Outcome.{Outcome}
use Rattle.alw_msg.specs.declared.contexts.Status.TheVariants.{Halted}
use Rattle.alw_msg.specs.Statuses.{is_ready}
use Rattle.alw_image.specs.declared.parts.Parts.{Parts}
use Rattle.alw_image.specs.Images.{line_count, zero_line}
use Rattle.alw_flat.proofs.Turns.{ready_exists}
use Rattle.alw_model.specs.ProcessorSteps.{status_after}
use Rattle.alw_model.specs.Flat.{Context, context_at, stored_in}
use Rattle.alw_places.specs.Places.{Place, place_start, place_turn, places_after, outcome_at, regs_at, traps, to_go, IsReadyAt, IsRun, IsForward}
use Rattle.alw_places.specs.Outcomes.{Ending, Halts, Traps, EndsIn, ComesTo}
use Rattle.alw_places.specs.Effects.{Effect, effect_by, effect_of}
use Rattle.alw_places.proofs.Commuting.{effect_at, place_turn_is, outcome_is, other_stays_at, after, set-set_other, printed_crossed}
use Rattle.alw_places.proofs.Ends.{none_ready, not_trap}
use Rattle.alw_places.specs.declared.classes.Class.{Class}
use Rattle.alw_places.specs.declared.classes.Class.TheVariants.{Shared, Own, Fixed}
use Rattle.alw_places.specs.Sharing.{class_of, may_access, is_shared, is_read, is_allowed, is_private, need_at, Goes, IsPrivate, Breaks, HasNext, HasPrivateNext, IsSharedReduced, IsToldOrBroken}
use Rattle.alw_places.proofs.Reducing.{after_all, EachGoes, HasFirst, IsToldFull, told, can}

-- ---- what a turn reads and writes

value_of : List Line → Need → Line
value_of memory (needs.Copy line mode) = slice_index_or memory line.0 zero_line
value_of memory _ = zero_line

memory_of : List Line → Need → Line → List Line
memory_of memory (needs.Copy line mode) value = stored_in memory line.0 mode value
memory_of memory _ value = memory

-- what a turn leaves, by what it needs and what it does
abbrev leaves : List Line → Need → Regs × Line × Outcome → Effect
leaves memory need done = record { memory = memory_of memory need done.1; regs = done.0; outcome = done.2 }

abbrev does : Parts → List Line → Regs → Need → Regs × Line × Outcome
does parts memory regs need = turn_of parts.code regs (line_count parts) (value_of memory need)

effect_by_is : (parts : Parts) (memory : List Line) (regs : Regs) (need : Need) → effect_by parts memory regs need ≡ leaves memory need (does parts memory regs need)
unfolding effect_by value_of memory_of
effect_by_is parts memory regs needs.Nothing = refl
effect_by_is parts memory regs (needs.Trap tt) = refl
effect_by_is parts memory regs (needs.Copy line mode) = refl

effect_at_is : (parts : Parts) (place : Place) (context : ℕ) → effect_at parts place context ≡ leaves place.flat.memory (need_at parts place context) (does parts place.flat.memory (regs_at place context) (need_at parts place context))
unfolding effect_at effect_of
effect_at_is parts place context = effect_by_is parts place.flat.memory (regs_at place context) _

-- neither writes what the other needs
abbrev Apart : Need → Need → Type 0
Apart (needs.Copy line Write) (needs.Copy other mode) = line.0 ≢ other.0
Apart (needs.Copy line Read) (needs.Copy other Write) = line.0 ≢ other.0
Apart (needs.Copy line Read) (needs.Copy other Read) = Unit {0}
Apart (needs.Copy line mode) needs.Nothing = Unit {0}
Apart (needs.Copy line mode) (needs.Trap tt') = Unit {0}
Apart needs.Nothing other = Unit {0}
Apart (needs.Trap tt') other = Unit {0}

apart_sym : (n m : Need) → Apart n m → Apart m n
apart_sym (needs.Copy line Write) (needs.Copy other Write) a = λ e. a (sym e)
apart_sym (needs.Copy line Write) (needs.Copy other Read) a = λ e. a (sym e)
apart_sym (needs.Copy line Read) (needs.Copy other Write) a = λ e. a (sym e)
apart_sym (needs.Copy line Read) (needs.Copy other Read) a = tt
apart_sym (needs.Copy line mode) needs.Nothing a = tt
apart_sym (needs.Copy line mode) (needs.Trap t) a = tt
apart_sym needs.Nothing (needs.Copy line mode) a = tt
apart_sym needs.Nothing needs.Nothing a = tt
apart_sym needs.Nothing (needs.Trap t) a = tt
apart_sym (needs.Trap t) (needs.Copy line mode) a = tt
apart_sym (needs.Trap t) needs.Nothing a = tt
apart_sym (needs.Trap t) (needs.Trap u) a = tt

value_stays : (memory : List Line) (n m : Need) (x : Line) → Apart n m → value_of (memory_of memory n x) m ≡ value_of memory m
unfolding value_of memory_of
value_stays memory (needs.Copy line Write) (needs.Copy other mode) x a = get_or-set_other memory line.0 other.0 x zero_line (λ e. a (sym e))
value_stays memory (needs.Copy line Read) (needs.Copy other mode) x a = refl
value_stays memory (needs.Copy line mode) needs.Nothing x a = refl
value_stays memory (needs.Copy line mode) (needs.Trap t) x a = refl
value_stays memory needs.Nothing m x a = refl
value_stays memory (needs.Trap t) m x a = refl

memories_cross : (memory : List Line) (n m : Need) (x y : Line) → Apart n m → memory_of (memory_of memory n x) m y ≡ memory_of (memory_of memory m y) n x
unfolding memory_of
memories_cross memory (needs.Copy line Write) (needs.Copy other Write) x y a = set-set_other memory line.0 other.0 x y a
memories_cross memory (needs.Copy line Write) (needs.Copy other Read) x y a = refl
memories_cross memory (needs.Copy line Read) (needs.Copy other mode) x y a = refl
memories_cross memory (needs.Copy line mode) needs.Nothing x y a = refl
memories_cross memory (needs.Copy line mode) (needs.Trap t) x y a = refl
memories_cross memory needs.Nothing m x y a = refl
memories_cross memory (needs.Trap t) m x y a = refl

-- ---- two turns

module _ (parts : Parts) (place : Place) (one two : ℕ) (differ : one ≢ two) (free : Apart (need_at parts place one) (need_at parts place two)) where
  memory : List Line
  memory = place.flat.memory

  first : Regs × Line × Outcome
  first = does parts place.flat.memory (regs_at place one) (need_at parts place one)

  second : Regs × Line × Outcome
  second = does parts place.flat.memory (regs_at place two) (need_at parts place two)

  context_same : context_at (place_turn parts place one).flat two ≡ context_at place.flat two
  context_same = other_stays_at parts place one two (λ e. differ (sym e))

  need_same : need_at parts (place_turn parts place one) two ≡ need_at parts place two
  need_same = ap (λ (c : Context). need_of parts.code c.regs (line_count parts)) context_same

  place_first : place_turn parts place one ≡ after place one (leaves memory (need_at parts place one) first)
  unfolding memory first
  place_first = place_turn_is parts place one ∙ ap (after place one) (effect_at_is parts place one)

  memory_first : (place_turn parts place one).flat.memory ≡ memory_of memory (need_at parts place one) first.1
  memory_first = ap (λ (p : Place). p.flat.memory) place_first

  second_same : does parts (place_turn parts place one).flat.memory (regs_at (place_turn parts place one) two) (need_at parts (place_turn parts place one) two) ≡ second
  unfolding memory second
  second_same =
      (λ i. turn_of parts.code ((context_same i).regs) (line_count parts) (value_of (memory_first i) (need_same i)))
      ∙ ap (turn_of parts.code (regs_at place two) (line_count parts)) (value_stays place.flat.memory (need_at parts place one) (need_at parts place two) first.1 free)

  effect_same : effect_at parts (place_turn parts place one) two ≡ leaves (memory_of memory (need_at parts place one) first.1) (need_at parts place two) second
  effect_same = effect_at_is parts (place_turn parts place one) two ∙ (λ i. leaves (memory_first i) (need_same i) (second_same i))

  outcome_same : outcome_at parts (place_turn parts place one) two ≡ outcome_at parts place two
  unfolding second
  outcome_same = outcome_is parts (place_turn parts place one) two ∙ ap (λ (e : Effect). e.outcome) effect_same ∙ sym (outcome_is parts place two ∙ ap (λ (e : Effect). e.outcome) (effect_at_is parts place two))

  both_turns : place_turn parts (place_turn parts place one) two
      ≡ after (after place one (leaves memory (need_at parts place one) first)) two (leaves (memory_of memory (need_at parts place one) first.1) (need_at parts place two) second)
  both_turns = place_turn_is parts (place_turn parts place one) two ∙ (λ i. after (place_first i) two (effect_same i))

-- two turns in the other order
crossed : (parts : Parts) (place : Place) (one two : ℕ) → one ≢ two → Apart (need_at parts place one) (need_at parts place two) → place_turn parts (place_turn parts place one) two ≡ place_turn parts (place_turn parts place two) one
unfolding memory first second
crossed parts place one two differ free =
    let n = need_at parts place one in
    let m = need_at parts place two in
    let a = does parts place.flat.memory (regs_at place one) n in
    let b = does parts place.flat.memory (regs_at place two) m in
    let memories = memories_cross place.flat.memory n m a.1 b.1 free in
    let contexts = set-set_other place.flat.contexts one two (record { regs = a.0; status = status_after a.0 a.2 }) (record { regs = b.0; status = status_after b.0 b.2 }) differ in
    let printed = printed_crossed place.printed one two a.2 b.2 differ in
    both_turns parts place one two differ free
    ∙ (λ i. record { flat = record { memory = memories i; contexts = contexts i }; printed = printed i })
    ∙ sym (both_turns parts place two one (λ e. differ (sym e)) (apart_sym n m free))

-- ---- private turns

clash : (c d : ℕ) (mode mode' : Mode) (x : Class) → may_access c mode x ≡ true → not (is_shared x) ≡ true → may_access d mode' x ≡ true → c ≢ d → (is_read mode ≡ false) ⊎ (is_read mode' ≡ false) → ⊥
clash c d mode mode' Shared mine alone other differ write = cc
clash c d mode mode' (Own k) mine alone other differ write = differ (eqb-true c k mine ∙ sym (eqb-true d k other))
clash c d mode mode' Fixed mine alone other differ (inl write) = cc
clash c d mode mode' Fixed mine alone other differ (inr write) = cc

private_apart : (classes : List Class) (c d : ℕ) (n m : Need) → is_allowed classes c n ≡ true → is_private classes n ≡ true → is_allowed classes d m ≡ true → c ≢ d → Apart n m
private_apart classes c d (needs.Copy line Write) (needs.Copy other mode) mine alone theirs differ = λ e.
    clash c d Write mode (class_of classes line.0) mine alone (ap (λ (l : ℕ). may_access d mode (class_of classes l)) e ∙ theirs) differ (inl refl)
private_apart classes c d (needs.Copy line Read) (needs.Copy other Write) mine alone theirs differ = λ e.
    clash c d Read Write (class_of classes line.0) mine alone (ap (λ (l : ℕ). may_access d Write (class_of classes l)) e ∙ theirs) differ (inr refl)
private_apart classes c d (needs.Copy line Read) (needs.Copy other Read) mine alone theirs differ = tt
private_apart classes c d (needs.Copy line mode) needs.Nothing mine alone theirs differ = tt
private_apart classes c d (needs.Copy line mode) (needs.Trap t) mine alone theirs differ = tt
private_apart classes c d needs.Nothing m mine alone theirs differ = tt
private_apart classes c d (needs.Trap t) m mine alone theirs differ = tt

-- a full place of the set is an end that comes to this
pub record IsToldBy (parts : Parts) (Held Full : Place → Type 0) (ending : Ending) : Type 0 where
  pub place : Place
  pub held : Held place
  pub full : Full place
  pub ends : EndsIn parts place ending

-- a full place of the set at which some context doesn't keep to the hint
pub record IsBrokenBy (parts : Parts) (classes : List Class) (Held Full : Place → Type 0) : Type 0 where
  pub place : Place
  pub context : ℕ
  pub held : Held place
  pub full : Full place
  pub breaks : Breaks parts classes place context

module _ (parts : Parts) (classes : List Class) where
  free : (s : Place) (c d : ℕ) → IsPrivate parts classes s c → is_allowed classes d (need_at parts s d) ≡ true → c ≢ d → Apart (need_at parts s c) (need_at parts s d)
  free s c d first theirs differ = private_apart classes c d (need_at parts s c) (need_at parts s d) first.goes.allowed first.alone theirs differ

  orders : (s : Place) (c d : ℕ) → IsPrivate parts classes s c → Goes parts classes s d → c ≢ d → place_turn parts (place_turn parts s c) d ≡ place_turn parts (place_turn parts s d) c
  orders s c d first goes differ = crossed parts s c d differ (free s c d first goes.allowed differ)

  goes_stays : (s : Place) (c d : ℕ) → IsPrivate parts classes s c → Goes parts classes s d → c ≢ d → Goes parts classes (place_turn parts s c) d
  goes_stays s c d first goes differ =
      let f = free s c d first goes.allowed differ in
      record {
        on = record { ready = ap (λ (x : Context). is_ready x.status) (context_same parts s c d differ f) ∙ goes.on.ready; no_trap = ap traps (outcome_same parts s c d differ f) ∙ goes.on.no_trap };
        allowed = ap (is_allowed classes d) (need_same parts s c d differ f) ∙ goes.allowed;
      }

  first_stays : (s : Place) (c d : ℕ) → IsPrivate parts classes s c → Goes parts classes s d → c ≢ d → IsPrivate parts classes (place_turn parts s d) c
  first_stays s c d first goes differ =
      let f = apart_sym _ _ (free s c d first goes.allowed differ) in
      let back : d ≢ c = λ e. differ (sym e) in
      record {
        goes = record {
          on = record { ready = ap (λ (x : Context). is_ready x.status) (context_same parts s d c back f) ∙ first.goes.on.ready; no_trap = ap traps (outcome_same parts s d c back f) ∙ first.goes.on.no_trap };
          allowed = ap (is_allowed classes c) (need_same parts s d c back f) ∙ first.goes.allowed;
        };
        alone = ap (is_private classes) (need_same parts s d c back f) ∙ first.alone;
      }

  -- an end where what traps keeps to the hint
  Closes : Ending → Place → Type 0
  Closes (Halts printed memory) s = EndsIn parts s (Halts printed memory)
  Closes (Traps context pc type) s = EndsIn parts s (Traps context pc type) × (is_allowed classes context (need_at parts s context) ≡ true)

  closes_stay : (ending : Ending) (s : Place) (c : ℕ) → IsPrivate parts classes s c → Closes ending s → Closes ending (place_turn parts s c)
  unfolding Closes
  closes_stay (Halts printed lines) s c first ends = absurd (none_ready s.flat.contexts c ends.0 first.goes.on.ready)
  closes_stay (Traps d pc type) s c first ends =
      is_node (EndsIn parts (place_turn parts s c) (Traps d pc type) × (is_allowed classes d (need_at parts (place_turn parts s c) d) ≡ true)) c d
      (λ same. absurd (not_trap _ type first.goes.on.no_trap (ap (outcome_at parts s) same ∙ ends.0.1)))
      (λ differ.
      let f = free s c d first ends.1 differ in (
        (
          ap (λ (x : Context). is_ready x.status) (context_same parts s c d differ f) ∙ ends.0.0,
          outcome_same parts s c d differ f ∙ ends.0.1,
          ap (λ (x : Context). x.regs.pc) (context_same parts s c d differ f) ∙ ends.0.2,
        ),
        ap (is_allowed classes d) (need_same parts s c d differ f) ∙ ends.1,
      ))

  -- some context doesn't keep to the hint
  SomeBreaks : Place → Type 0
  SomeBreaks s = (context : ℕ) × Breaks parts classes s context

  breaks_stay : (s : Place) (c : ℕ) → IsPrivate parts classes s c → SomeBreaks s → SomeBreaks (place_turn parts s c)
  unfolding SomeBreaks
  breaks_stay s c first breaks = (breaks.0, go)
    where
      broken_not : c ≡ breaks.0 → ⊥
      broken_not same = let e : true ≡ false = sym first.goes.allowed ∙ ap (λ (k : ℕ). is_allowed classes k (need_at parts s k)) same ∙ breaks.1.broken in cc

      stays : context_at (place_turn parts s c).flat breaks.0 ≡ context_at s.flat breaks.0
      stays = other_stays_at parts s c breaks.0 (λ e. broken_not (sym e))

      go : Breaks parts classes (place_turn parts s c) breaks.0
      go = record { ready = ap (λ (x : Context). is_ready x.status) stays ∙ breaks.1.ready; broken = ap (λ (x : Context). is_allowed classes breaks.0 (need_of parts.code x.regs (line_count parts))) stays ∙ breaks.1.broken }

  -- ---- how far all may still go

  weight : Place → ℕ
  weight s = sum_by to_go s.flat.contexts

  lighter : (s : Place) (c : ℕ) → IsReadyAt s c → IsForward parts s c → weight (place_turn parts s c) < weight s
  unfolding weight
  lighter s c ready forward =
      let within = ready_exists s.flat c ready in
      let effect = effect_at parts s c in
      let x : Context = record { regs = effect.regs; status = status_after effect.regs effect.outcome } in
      let none : Context = record { regs = start_of 0 0 0; status = Halted } in
      let sums = sum_by-set to_go s.flat.contexts c x none within in
      let is = place_turn_is parts s c in
      let now : to_go (context_at (place_turn parts s c).flat c) ≡ to_go x = ap (λ (p : Place). to_go (context_at p.flat c)) is ∙ ap to_go (get_or-set_same s.flat.contexts c x none within) in
      let total : weight (place_turn parts s c) ≡ sum_by to_go (slice_set s.flat.contexts c x) = ap weight is in
      omega (arith, sums, now, total, forward)

  -- ---- a run that keeps to the hint, or up to where it doesn't

  abbrev Keeps : Place → List ℕ → Type 0
  Keeps s turns = EachGoes (place_turn parts) (Goes parts classes) s turns

  record UpToBreak (s : Place) : Type 0 where
    front : List ℕ
    keeps : Keeps s front
    breaks : SomeBreaks (after_all (place_turn parts) s front)

  break_more : (s : Place) (c : ℕ) (rest : List ℕ) → Goes parts classes s c → Keeps (place_turn parts s c) rest ⊎ UpToBreak (place_turn parts s c) → Keeps s (c ∷ rest) ⊎ UpToBreak s
  break_more s c rest goes (inl keeps) = inl (goes, keeps)
  break_more s c rest goes (inr broken) = inr (record { front = c ∷ broken.front; keeps = (goes, broken.keeps); breaks = broken.breaks })

  keeps_or_breaks : (s : Place) (turns : List ℕ) → IsRun parts s turns → Keeps s turns ⊎ UpToBreak s
  unfolding SomeBreaks
  keeps_or_breaks s [] run = inl tt
  keeps_or_breaks s (c ∷ rest) run = go (is_allowed classes c (need_at parts s c)) refl (keeps_or_breaks (place_turn parts s c) rest run.1)
    where
      go : (b : Bool) → is_allowed classes c (need_at parts s c) ≡ b → Keeps (place_turn parts s c) rest ⊎ UpToBreak (place_turn parts s c) → Keeps s (c ∷ rest) ⊎ UpToBreak s
      go true e after = break_more s c rest (record { on = run.0; allowed = e }) after
      go false e after = inr (record { front = []; keeps = tt; breaks = (c, record { ready = run.0.ready; broken = e }) })

  pub same_after : (s : Place) (turns : List ℕ) → places_after parts s turns ≡ after_all (place_turn parts) s turns
  same_after s [] = refl
  same_after s (c ∷ rest) = same_after (place_turn parts s c) rest

  -- ---- everything is told, or the hint is broken

  module _ (from : Place) (Held Full : Place → Type 0) (start : Held from) (next : (place : Place) → Held place → HasPrivateNext parts classes Held place ⊎ Full place) (every : (place : Place) → Full place → HasNext parts classes Held place) where
    first_of_all : (s : Place) → HasPrivateNext parts classes Held s ⊎ Full s → HasFirst (place_turn parts) (IsPrivate parts classes) weight Held s ⊎ Full s
    first_of_all s (inl one) = inl (record { context = one.context; first = one.private; less = lighter s one.context one.private.goes.on.ready one.forward; next = one.next })
    first_of_all s (inr all) = inr all

    found_at : (Ends : Place → Type 0) → ((s : Place) (c : ℕ) → IsPrivate parts classes s c → Ends s → Ends (place_turn parts s c)) → (turns : List ℕ) → Keeps from turns → Ends (after_all (place_turn parts) from turns)
        → IsToldFull Held Full Ends
    found_at Ends stay turns keeps ends =
        told Place (place_turn parts) (Goes parts classes) (IsPrivate parts classes) orders goes_stays first_stays weight Held Full Ends stay every (λ s held. first_of_all s (next s held)) from turns start keeps ends

    broken_at : (turns : List ℕ) → Keeps from turns → SomeBreaks (after_all (place_turn parts) from turns) → IsBrokenBy parts classes Held Full
    unfolding SomeBreaks
    broken_at turns keeps breaks =
        let t = found_at SomeBreaks breaks_stay turns keeps breaks in
        record { place = t.place; context = t.ends.0; held = t.held; full = t.full; breaks = t.ends.1 }

    kept_to : (ending : Ending) (turns : List ℕ) → Keeps from turns → EndsIn parts (after_all (place_turn parts) from turns) ending → IsToldBy parts Held Full ending ⊎ IsBrokenBy parts classes Held Full
    unfolding Closes SomeBreaks
    kept_to (Halts printed memory) turns keeps ends =
        let t = found_at (Closes (Halts printed memory)) (closes_stay (Halts printed memory)) turns keeps ends in
        inl (record { place = t.place; held = t.held; full = t.full; ends = t.ends })
    kept_to (Traps context pc type) turns keeps ends = go (is_allowed classes context (need_at parts there context)) refl
      where
        there : Place
        there = after_all (place_turn parts) from turns

        go : (b : Bool) → is_allowed classes context (need_at parts there context) ≡ b → IsToldBy parts Held Full (Traps context pc type) ⊎ IsBrokenBy parts classes Held Full
        go true e =
            let t = found_at (Closes (Traps context pc type)) (closes_stay (Traps context pc type)) turns keeps (ends, e) in
            inl (record { place = t.place; held = t.held; full = t.full; ends = t.ends.0 })
        go false e = inr (broken_at turns keeps (context, record { ready = ends.0; broken = e }))

    -- no run breaks the hint where no full place does
    pub all_keep : ((s : Place) (c : ℕ) → Full s → Breaks parts classes s c → ⊥) → (turns : List ℕ) → IsRun parts from turns → Keeps from turns
    all_keep none turns run = go (keeps_or_breaks from turns run)
      where
        go : Keeps from turns ⊎ UpToBreak from → Keeps from turns
        go (inl keeps) = keeps
        go (inr broken) = let b = broken_at broken.front broken.keeps broken.breaks in absurd (none b.place b.context b.full b.breaks)

    pub told_from : (ending : Ending) (turns : List ℕ) → IsRun parts from turns → EndsIn parts (places_after parts from turns) ending → IsToldBy parts Held Full ending ⊎ IsBrokenBy parts classes Held Full
    told_from ending turns run ends = go (keeps_or_breaks from turns run)
      where
        go : Keeps from turns ⊎ UpToBreak from → IsToldBy parts Held Full ending ⊎ IsBrokenBy parts classes Held Full
        go (inl keeps) = kept_to ending turns keeps (subst (λ (p : Place). EndsIn parts p ending) (same_after from turns) ends)
        go (inr broken) = inr (broken_at broken.front broken.keeps broken.breaks)

    -- what can be had at each place of the set, and before a turn where it can be behind it, can be had wherever a run leads
    pub can_be_had : (Can : Place → Type 0) → ((s : Place) → Held s → Can s) → ((s : Place) (c : ℕ) → IsPrivate parts classes s c → Can (place_turn parts s c) → Can s) → ((s : Place) (c : ℕ) → Full s → Breaks parts classes s c → ⊥)
        → (turns : List ℕ) → IsRun parts from turns → Can (places_after parts from turns)
    can_be_had Can held back none turns run =
        subst Can (sym (same_after from turns)) (can Place (place_turn parts) (Goes parts classes) (IsPrivate parts classes) orders goes_stays first_stays weight Held Full Can held back every (λ s is. first_of_all s (next s is)) from turns start (all_keep none turns run))

  -- the same from the start
  pub private_told : (Held Full : Place → Type 0) → Held (place_start parts) → ((place : Place) → Held place → HasPrivateNext parts classes Held place ⊎ Full place) → ((place : Place) → Full place → HasNext parts classes Held place)
      → (ending : Ending) → ComesTo parts ending → IsToldBy parts Held Full ending ⊎ IsBrokenBy parts classes Held Full
  private_told Held Full start next every ending comes = told_from (place_start parts) Held Full start next every ending comes.turns comes.run comes.ends

pub reduced_told : (parts : Parts) (classes : List Class) (Held : Place → Type 0) → IsSharedReduced parts classes Held → (ending : Ending) → ComesTo parts ending → IsToldOrBroken parts classes Held ending
reduced_told parts classes Held reduced ending comes = go (private_told parts classes Held (HasNext parts classes Held) reduced.start reduced.next (λ place all. all) ending comes)
  where
    go : IsToldBy parts Held (HasNext parts classes Held) ending ⊎ IsBrokenBy parts classes Held (HasNext parts classes Held) → IsToldOrBroken parts classes Held ending
    go (inl t) = inl (record { place = t.place; held = t.held; next = t.full; ends = t.ends })
    go (inr t) = inr (record { place = t.place; context = t.context; held = t.held; next = t.full; breaks = t.breaks })
