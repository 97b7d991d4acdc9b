-- What comes next at a node below a bound is the same in two machines of which the node sees the same.
use Rattle.std.proofs.Common.{◌≡◌, ◌≢◌, ℕ, ◌+◌, ◌<◌, ◌≤◌, nat_le, Bool, true, false, not, ◌||◌, Option, List, [], ◌∷◌, ◌++◌, ◌⊎◌, inl, inr, length-append, refl, sym, ap, subst, ◌∙◌, arith}
use Rattle.alw_msg.specs.declared.events.Event.{Event}
use Rattle.alw_msg.specs.declared.events.Event.TheVariants.{Instr, Handle, Deliver, Evict}
use Rattle.alw_msg.specs.declared.events.Entry.{Entry}
use Rattle.alw_msg.specs.Events.{node_of}
use Rattle.alw_image.specs.Images.{node_count}
use Rattle.alw_model.specs.Machine.{MachineState, stamp_at, is_enabled, is_within_limit, has_halted, step}
use Rattle.alw_model.proofs.Journals.{and_parts, legal_push}
use Rattle.law_order.proofs.Local.{enabled_alike, stamp_alike}
use Rattle.law_times.proofs.Counted.{runs_within}
use Rattle.law_times.proofs.Orders.{AreTimesOf}
use Rattle.alw_mesh.specs.Histories.{History, IsRun, grown, entry_of, state_of, may_be_next}
use Rattle.alw_times.specs.declared.costs.Costs.{Costs}
use Rattle.alw_times.specs.Times.{Times, is_later, start_by}
use Rattle.alw_due.specs.Due.{times_in, slot_for, is_due_for, rank_of, arrived_at, sender_of, is_before}
use Rattle.alw_due.proofs.Before.{heads_less}
use Rattle.alw_due.proofs.Left as left
use Rattle.alw_due.proofs.Timely.{next_is}
use Rattle.law_windows.specs.Windows.{lookahead, start_next, key_next, IsDueAt, ComesBelow, LiftsNoLimit}
use Rattle.law_windows.proofs.Limits.{stamp_within}
use Rattle.law_windows.proofs.Others.{other_sees}
use Rattle.law_windows.proofs.Sees.{Sees, TakesAlike, LimitAlike, sees_itself, takes_alike, alike_so, may_so, late, start_alike, slot_alike}
use Rattle.law_windows.proofs.Together.{together_sees}

-- a machine of which the journal is another
abbrev pub with_journal : History → List Entry → History
with_journal h journal = record h { journal = journal }

-- the journal of a machine with an event more
abbrev pub and_event : History → List Entry → Event → List Entry
and_event h journal event = journal ++ entry_of (with_journal h journal) event ∷ []

-- an event more is a run
pub run_grows : (h : History) (event : Event) → IsRun h → may_be_next h event ≡ true → IsRun (grown h event)
run_grows h event run may = record {
  image = run.image;
  parameters = run.parameters;
  legal = legal_push h.image h.parameters h.journal (entry_of h event) run.legal (next_is h event (entry_of h event) may refl refl);
  joined = omega (arith, run.joined, length-append h.journal (entry_of h event ∷ []));
}

module _ (h : History) (costs : Costs) (n bound : ℕ) where
  -- of two machines, by their journals
  abbrev pub SeesIn : List Entry → List Entry → Type 0
  SeesIn one other = Sees h.image n bound (state_of (with_journal h one)) (times_in (with_journal h one) costs) (state_of (with_journal h other)) (times_in (with_journal h other) costs)

  pub begins : (journal : List Entry) → SeesIn journal journal
  begins journal = sees_itself h.image n bound (state_of (with_journal h journal)) (times_in (with_journal h journal) costs)

  -- of machines and times that are others by equations
  moved : (k : ℕ) (s s0 : MachineState) (t t0 : Times) (s' s0' : MachineState) (t' t0' : Times) → s ≡ s0 → t ≡ t0 → s' ≡ s0' → t' ≡ t0' → Sees h.image k bound s0 t0 s0' t0' → Sees h.image k bound s t s' t'
  moved k s s0 t t0 s' s0' t' t0' m times m' times' sees =
      subst (λ (z : (MachineState × Times) × (MachineState × Times)). Sees h.image k bound z.0.0 z.0.1 z.1.0 z.1.1) (λ x. ((sym m x, sym times x), (sym m' x, sym times' x))) sees

  module _ (one other : List Entry) (run : IsRun (with_journal h one)) (also : IsRun (with_journal h other)) (sees : SeesIn one other) (held : LiftsNoLimit (with_journal h one) (with_journal h other)) where
    abbrev a : History
    a = with_journal h one

    abbrev b : History
    b = with_journal h other

    are : AreTimesOf h.image h.parameters costs (times_in a costs) (state_of a)
    are = left.times_are_of h.image h.parameters costs one run.legal

    are' : AreTimesOf h.image h.parameters costs (times_in b costs) (state_of b)
    are' = left.times_are_of h.image h.parameters costs other also.legal

    -- the limit holds the node back alike
    limit : (f : Event) → LimitAlike h.image h.parameters bound (state_of a) (times_in a costs) (state_of b) (times_in b costs) f
    limit f alike enabled = go held
      where
        stamps : stamp_at h.image (state_of a) f ≡ stamp_at h.image (state_of b) f
        stamps = stamp_alike h.image h.parameters (state_of a) (state_of b) f alike

        go : LiftsNoLimit (with_journal h one) (with_journal h other) → is_within_limit h.image h.parameters (state_of a) f ≡ is_within_limit h.image h.parameters (state_of b) f
        go (inl same) = λ x. nat_le (stamps x) h.parameters.limit || sym same x
        go (inr none) =
            let small = stamp_within b also none f (sym (enabled_alike h.image h.parameters (state_of a) (state_of b) f alike) ∙ enabled) in
            (λ x. nat_le (stamps x) h.parameters.limit || has_halted (state_of a))
            ∙ (ap (λ t. t || has_halted (state_of a)) small ∙ sym (ap (λ t. t || has_halted (state_of b)) small))

    -- what may be next in the second machine may be next in the first, with the same key, and is due alike
    record IsAlike (f : Event) : Type 0 where
      may : may_be_next a f ≡ true
      key : key_next a costs f ≡ key_next b costs f
      due : is_due_for a costs (times_in a costs) f ≡ is_due_for b costs (times_in b costs) f

    sees_at : (f : Event) → node_of f ≡ n → Sees h.image (node_of f) bound (state_of a) (times_in a costs) (state_of b) (times_in b costs)
    sees_at f at = subst (λ (k : ℕ). Sees h.image k bound (state_of a) (times_in a costs) (state_of b) (times_in b costs)) (sym at) sees

    takes : (f : Event) → node_of f ≡ n → may_be_next b f ≡ true → TakesAlike h.image h.parameters bound (state_of a) (times_in a costs) (state_of b) (times_in b costs) f
    takes f at might = takes_alike h.image h.parameters bound (state_of a) (times_in a costs) (state_of b) (times_in b costs) f (sees_at f at) are'.arrivals
        (and_parts (is_enabled h.image h.parameters (state_of b) f) _ might).0

    start_so : (f : Event) → node_of f ≡ n → may_be_next b f ≡ true → start_next a costs f ≡ start_next b costs f
    start_so f at might =
        ap (λ (slot : Option ℕ). start_by h.image costs (times_in a costs) slot f) (slot_alike h.image h.parameters bound (state_of a) (times_in a costs) (state_of b) (times_in b costs) (node_of f) (sees_at f at))
        ∙ start_alike h.image h.parameters bound (state_of a) (times_in a costs) (state_of b) (times_in b costs) costs (slot_for b f) f (sees_at f at)
        (runs_within h.image (state_of b) (node_of f) are'.slots) (takes f at might).arrival

    arrived_so : (f : Event) → node_of f ≡ n → may_be_next b f ≡ true → arrived_at h.image (times_in a costs) f ≡ arrived_at h.image (times_in b costs) f
    arrived_so (Instr at) is might = refl
    arrived_so (Handle at) is might = refl
    arrived_so (Deliver from to) is might = (takes (Deliver from to) is might).arrival
    arrived_so (Evict at set) is might = refl

    due_so : (f : Event) → node_of f ≡ n → may_be_next b f ≡ true → is_due_for a costs (times_in a costs) f ≡ is_due_for b costs (times_in b costs) f
    due_so (Instr at) is might =
        let at_node = sees_at (Instr at) is in
        let handles : may_be_next a (Handle at) ≡ may_be_next b (Handle at) = may_so h.image h.parameters bound (state_of a) (times_in a costs) (state_of b) (times_in b costs) (Handle at) at_node (limit (Handle at)) refl in
        let starts = start_so (Instr at) is might in
        λ x. not (handles x) || is_later (at_node.packets.here x) (starts x)
    due_so (Handle at) is might = refl
    due_so (Deliver from to) is might = refl
    due_so (Evict at set) is might = refl

    alike : (f : Event) → node_of f ≡ n → may_be_next b f ≡ true → IsAlike f
    alike f at might = record {
      may = may_so h.image h.parameters bound (state_of a) (times_in a costs) (state_of b) (times_in b costs) f (sees_at f at) (limit f) (takes f at might).taken ∙ might;
      key = λ x. start_so f at might x ∷ node_of f ∷ rank_of f ∷ arrived_so f at might x ∷ sender_of f ∷ [];
      due = due_so f at might;
    }

    -- and all else that may be next in the first starts at the bound or later
    alike_or_late : (f : Event) → node_of f ≡ n → may_be_next a f ≡ true → (may_be_next b f ≡ true) ⊎ (bound ≤ start_next a costs f)
    alike_or_late f at may = go (may_be_next b f) refl
      where
        go : (is : Bool) → may_be_next b f ≡ is → (may_be_next b f ≡ true) ⊎ (bound ≤ start_next a costs f)
        go true is = inl is
        go false is = inr (late h.image h.parameters bound (state_of a) (times_in a costs) (state_of b) (times_in b costs) costs (slot_for a f) f (sees_at f at) (limit f) are.arrivals are'.arrivals may is)

    -- ---- what comes

    due_in_one : (f : Event) → IsDueAt b costs n f → IsDueAt a costs n f
    due_in_one f is = let same = alike f is.node is.may in record { node = is.node; main = is.main; may = same.may; due = same.due ∙ is.due }

    due_in_other : (f : Event) → IsDueAt a costs n f → may_be_next b f ≡ true → IsDueAt b costs n f
    due_in_other f is might = record { node = is.node; main = is.main; may = might; due = sym (alike f is.node might).due ∙ is.due }

    might_too : (f : Event) → ComesBelow a costs n bound f → may_be_next b f ≡ true
    might_too f comes = go (alike_or_late f comes.due.node comes.due.may)
      where
        go : (may_be_next b f ≡ true) ⊎ (bound ≤ start_next a costs f) → may_be_next b f ≡ true
        go (inl might) = might
        go (inr is) = absurd (let below = comes.below in omega (arith, is, below))

    pub key_same : (f : Event) → ComesBelow a costs n bound f → key_next a costs f ≡ key_next b costs f
    key_same f comes = (alike f comes.due.node (might_too f comes)).key

    pub start_same : (f : Event) → ComesBelow a costs n bound f → start_next a costs f ≡ start_next b costs f
    start_same f comes = start_so f comes.due.node (might_too f comes)

    pub stamp_same : (f : Event) → ComesBelow a costs n bound f → (entry_of a f).stamp ≡ (entry_of b f).stamp
    stamp_same f comes =
        let at = comes.due.node in
        stamp_alike h.image h.parameters (state_of a) (state_of b) f
        (alike_so h.image h.parameters bound (state_of a) (times_in a costs) (state_of b) (times_in b costs) f (sees_at f at) (takes f at (might_too f comes)).taken)

    pub comes_in_other : (f : Event) → ComesBelow a costs n bound f → ComesBelow b costs n bound f
    comes_in_other f comes = record {
      due = due_in_other f comes.due (might_too f comes);
      first = λ g is. go g is (comes.first g (due_in_one g is));
      below = subst (λ (start : ℕ). start < bound) (start_same f comes) comes.below;
    }
      where
        go : (g : Event) → IsDueAt b costs n g → (g ≡ f) ⊎ (is_before (key_next a costs f) (key_next a costs g) ≡ true) → (g ≡ f) ⊎ (is_before (key_next b costs f) (key_next b costs g) ≡ true)
        go g is (inl same) = inl same
        go g is (inr lt) = inr (sym (λ x. is_before (key_same f comes x) ((alike g is.node is.may).key x)) ∙ lt)

    pub comes_in_one : (f : Event) → ComesBelow b costs n bound f → ComesBelow a costs n bound f
    comes_in_one f comes = record {
      due = due_in_one f comes.due;
      first = λ g is. go g is (alike_or_late g is.node is.may);
      below = subst (λ (start : ℕ). start < bound) (sym starts) comes.below;
    }
      where
        starts : start_next a costs f ≡ start_next b costs f
        starts = start_so f comes.due.node comes.due.may

        by_first : (g : Event) → IsDueAt a costs n g → may_be_next b g ≡ true → (g ≡ f) ⊎ (is_before (key_next b costs f) (key_next b costs g) ≡ true) → (g ≡ f) ⊎ (is_before (key_next a costs f) (key_next a costs g) ≡ true)
        by_first g is might (inl same) = inl same
        by_first g is might (inr lt) = inr ((λ x. is_before ((alike f comes.due.node comes.due.may).key x) ((alike g is.node might).key x)) ∙ lt)

        go : (g : Event) → IsDueAt a costs n g → (may_be_next b g ≡ true) ⊎ (bound ≤ start_next a costs g) → (g ≡ f) ⊎ (is_before (key_next a costs f) (key_next a costs g) ≡ true)
        go g is (inl might) = by_first g is might (comes.first g (due_in_other g is might))
        go g is (inr from_bound) = inr (heads_less (start_next a costs f) (start_next a costs g) _ (let below = comes.below in omega (arith, starts, below, from_bound)))

    -- what is due starts no sooner than a time where in the second machine all does
    pub late_too : (from : ℕ) → from ≤ bound → ((g : Event) → IsDueAt b costs n g → from ≤ start_next b costs g) → (f : Event) → IsDueAt a costs n f → from ≤ start_next a costs f
    late_too from low all f is = go (alike_or_late f is.node is.may)
      where
        go : (may_be_next b f ≡ true) ⊎ (bound ≤ start_next a costs f) → from ≤ start_next a costs f
        go (inl might) = subst (λ (start : ℕ). from ≤ start) (sym (start_so f is.node might)) (all f (due_in_other f is might))
        go (inr late) = omega (arith, low, late)

    -- ---- events

    -- an event of another node in the first machine
    pub goes_elsewhere : (event : Event) → n < node_count h.image → n ≢ node_of event → may_be_next a event ≡ true →
        bound ≤ start_next a costs event + lookahead costs → SeesIn (and_event h one event) other
    goes_elsewhere event exists apart may low =
        let enabled = (and_parts (is_enabled h.image h.parameters (state_of a) event) _ may).0 in
        let after : state_of (grown a event) ≡ step h.image h.parameters (state_of a) event = left.after_is a costs event run may in
        let timed = left.times_are a costs event run may in
        subst (λ (m : MachineState). Sees h.image n bound m (times_in (grown a event) costs) (state_of b) (times_in b costs)) (sym after)
        (subst (λ (t : Times). Sees h.image n bound (step h.image h.parameters (state_of a) event) t (state_of b) (times_in b costs)) (sym timed)
        (other_sees h.image h.parameters costs n bound (state_of a) (times_in a costs) (state_of b) (times_in b costs) event exists apart enabled are low sees))

    -- an event of the node in both
    pub goes_together : (event : Event) → node_of event ≡ n → may_be_next b event ≡ true → may_be_next a event ≡ true →
        SeesIn (and_event h one event) (and_event h other event)
    goes_together event at might may =
        let enabled = (and_parts (is_enabled h.image h.parameters (state_of b) event) _ might).0 in
        let after : state_of (grown a event) ≡ step h.image h.parameters (state_of a) event = left.after_is a costs event run may in
        let after_too : state_of (grown b event) ≡ step h.image h.parameters (state_of b) event = left.after_is b costs event also might in
        let plain = together_sees h.image h.parameters costs bound (state_of a) (times_in a costs) (state_of b) (times_in b costs) event (sees_at event at) enabled are are' in
        subst (λ (k : ℕ). Sees h.image k bound (state_of (grown a event)) (times_in (grown a event) costs) (state_of (grown b event)) (times_in (grown b event) costs)) at
        (moved (node_of event) _ _ _ _ _ _ _ _ after (left.times_are a costs event run may) after_too (left.times_are b costs event also might) plain)
