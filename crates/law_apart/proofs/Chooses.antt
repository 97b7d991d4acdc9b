-- What comes next at a node below a bound is the same in two pictures of which the node sees the same.
use Rattle.std.proofs.Common.{◌≡◌, ℕ, ◌<◌, ◌≤◌, nat_le, Bool, true, false, not, ◌&&◌, ◌||◌, Option, IsTrue, [], ◌∷◌, ◌⊎◌, inl, inr, refl, sym, ap, subst, ◌∙◌, arith}
use Rattle.alw_msg.specs.declared.events.Event.{Event}
use Rattle.alw_msg.specs.declared.events.Event.TheVariants.{Instr, Handle, Deliver, Evict}
use Rattle.alw_msg.specs.Events.{node_of}
use Rattle.alw_image.specs.declared.parts.Parts.{Parts}
use Rattle.alw_image.specs.Parameters.{Parameters}
use Rattle.alw_model.specs.Contexts.{running}
use Rattle.alw_model.specs.Machine.{MachineState, node_at, taken_by, stamp_at, is_enabled, is_within_limit, has_halted}
use Rattle.alw_model.proofs.Journals.{and_parts, and_is}
use Rattle.law_order.proofs.Local.{enabled_alike, stamp_alike}
use Rattle.law_times.proofs.Counted.{runs_within}
use Rattle.law_times.proofs.Orders.{AreTimesOf}
use Rattle.alw_times.specs.declared.costs.Costs.{Costs}
use Rattle.alw_times.specs.Times.{Times, is_later, start_by}
use Rattle.alw_due.specs.Due.{rank_of, arrived_at, sender_of, is_before}
use Rattle.alw_due.proofs.Before.{heads_less}
use Rattle.law_windows.proofs.Sees.{TakesAlike, LimitAlike, takes_alike, alike_so, late, start_alike, slot_alike}
use Rattle.law_apart.specs.Pictures.{Picture}
use Rattle.law_apart.specs.Alone.{may_in, start_in, is_due_in, key_in, IsDueIn, ComesIn}
use Rattle.law_apart.proofs.Shown.{SeesPart}

module _ (image : Parts) (parameters : Parameters) (costs : Costs) (n bound : ℕ) (whole part : Picture)
    (are : AreTimesOf image parameters costs whole.times whole.state) (are' : AreTimesOf image parameters costs part.times part.state) (sees : SeesPart image n whole part bound) where
  abbrev s : MachineState
  s = whole.state

  abbrev s' : MachineState
  s' = part.state

  abbrev t : Times
  t = whole.times

  abbrev t' : Times
  t' = part.times

  sees_at : (f : Event) → node_of f ≡ n → SeesPart image (node_of f) whole part bound
  sees_at f at = subst (λ (k : ℕ). SeesPart image k whole part bound) (sym at) sees

  pub takes : (f : Event) → node_of f ≡ n → IsTrue (is_enabled image parameters part.state f) → TakesAlike image parameters bound whole.state whole.times part.state part.times f
  takes f at enabled = takes_alike image parameters bound s t s' t' f (sees_at f at) are'.arrivals enabled

  may_so : (f : Event) → node_of f ≡ n → taken_by image whole.state f ≡ taken_by image part.state f → may_in image parameters whole f ≡ may_in image parameters part f
  may_so f at taken =
      let alike = alike_so image parameters bound s t s' t' f (sees_at f at) taken in
      λ x. enabled_alike image parameters s s' f alike x && nat_le (stamp_alike image parameters s s' f alike x) parameters.limit

  -- ---- what may be next in the second may be next in the first

  able : (picture : Picture) (f : Event) → may_in image parameters picture f ≡ true → IsTrue (is_enabled image parameters picture.state f)
  able picture f may = (and_parts (is_enabled image parameters picture.state f) _ may).0

  start_so : (f : Event) → node_of f ≡ n → may_in image parameters part f ≡ true → start_in image parameters costs whole f ≡ start_in image parameters costs part f
  start_so f at might =
      let slot = running (node_at part.state (node_of f)).slots (node_at part.state (node_of f)).current in
      ap (λ (slot : Option ℕ). start_by image costs t slot f) (slot_alike image parameters bound s t s' t' (node_of f) (sees_at f at))
      ∙ start_alike image parameters bound s t s' t' costs slot f (sees_at f at) (runs_within image s' (node_of f) are'.slots) (takes f at (able part f might)).arrival

  arrived_so : (f : Event) → node_of f ≡ n → may_in image parameters part f ≡ true → arrived_at image whole.times f ≡ arrived_at image part.times f
  arrived_so (Instr at) is might = refl
  arrived_so (Handle at) is might = refl
  arrived_so (Deliver from to) is might = (takes (Deliver from to) is (able part (Deliver from to) might)).arrival
  arrived_so (Evict at set) is might = refl

  due_so : (f : Event) → node_of f ≡ n → may_in image parameters part f ≡ true → is_due_in image parameters costs whole f ≡ is_due_in image parameters costs part f
  due_so (Instr at) is might =
      let handles = may_so (Handle at) is refl in
      let starts = start_so (Instr at) is might in
      let queue = (sees_at (Instr at) is).packets.here in
      λ x. not (handles x) || is_later (queue x) (starts x)
  due_so (Handle at) is might = refl
  due_so (Deliver from to) is might = refl
  due_so (Evict at set) is might = refl

  record IsAlike (f : Event) : Type 0 where
    may : may_in image parameters whole f ≡ true
    key : key_in image parameters costs whole f ≡ key_in image parameters costs part f
    due : is_due_in image parameters costs whole f ≡ is_due_in image parameters costs part f

  alike : (f : Event) → node_of f ≡ n → may_in image parameters part f ≡ true → IsAlike f
  alike f at might = record {
    may = may_so f at (takes f at (able part f might)).taken ∙ might;
    key = λ x. start_so f at might x ∷ node_of f ∷ rank_of f ∷ arrived_so f at might x ∷ sender_of f ∷ [];
    due = due_so f at might;
  }

  -- ---- what may be next in the first alone starts at the bound or later

  late_alone : (f : Event) → node_of f ≡ n → may_in image parameters whole f ≡ true → is_enabled image parameters part.state f ≡ false → bound ≤ start_in image parameters costs whole f
  late_alone f at may isnt =
      late image parameters bound s t s' t' costs (running (node_at s (node_of f)).slots (node_at s (node_of f)).current) f (sees_at f at) limit are.arrivals are'.arrivals
      (and_is (is_enabled image parameters s f) (is_within_limit image parameters s f) both.0 (within s both.1))
      (ap (λ b. b && is_within_limit image parameters s' f) isnt)
    where
      both : IsTrue (is_enabled image parameters whole.state f) × IsTrue (nat_le (stamp_at image whole.state f) parameters.limit)
      both = and_parts (is_enabled image parameters whole.state f) (nat_le (stamp_at image whole.state f) parameters.limit) may

      within : (m : MachineState) → nat_le (stamp_at image m f) parameters.limit ≡ true → is_within_limit image parameters m f ≡ true
      within m small = ap (λ b. b || has_halted m) small

      limit : LimitAlike image parameters bound whole.state whole.times part.state part.times f
      limit same enabled = within s both.1 ∙ sym (within s' (sym (λ x. nat_le (stamp_alike image parameters s s' f same x) parameters.limit) ∙ both.1))

  alike_or_late : (f : Event) → node_of f ≡ n → may_in image parameters whole f ≡ true → (may_in image parameters part f ≡ true) ⊎ (bound ≤ start_in image parameters costs whole f)
  alike_or_late f at may = go (is_enabled image parameters s' f) refl
    where
      go : (b : Bool) → is_enabled image parameters part.state f ≡ b → (may_in image parameters part f ≡ true) ⊎ (bound ≤ start_in image parameters costs whole f)
      go true is = inl (sym (may_so f at (takes f at is).taken) ∙ may)
      go false is = inr (late_alone f at may is)

  -- ---- what comes

  due_in_one : (f : Event) → IsDueIn image parameters costs part n f → IsDueIn image parameters costs whole n f
  due_in_one f is = let same = alike f is.node is.may in record { node = is.node; main = is.main; may = same.may; due = same.due ∙ is.due }

  due_in_other : (f : Event) → IsDueIn image parameters costs whole n f → may_in image parameters part f ≡ true → IsDueIn image parameters costs part n f
  due_in_other f is might = record { node = is.node; main = is.main; may = might; due = sym (alike f is.node might).due ∙ is.due }

  might_too : (f : Event) → ComesIn image parameters costs whole n bound f → may_in image parameters part f ≡ true
  might_too f comes = go (alike_or_late f comes.due.node comes.due.may)
    where
      go : (may_in image parameters part f ≡ true) ⊎ (bound ≤ start_in image parameters costs whole f) → may_in image parameters part f ≡ true
      go (inl might) = might
      go (inr is) = absurd (let below = comes.below in omega (arith, is, below))

  pub start_same : (f : Event) → ComesIn image parameters costs whole n bound f → start_in image parameters costs whole f ≡ start_in image parameters costs part f
  start_same f comes = start_so f comes.due.node (might_too f comes)

  pub comes_in_other : (f : Event) → ComesIn image parameters costs whole n bound f → ComesIn image parameters costs part n bound f
  comes_in_other f comes = record {
    due = due_in_other f comes.due (might_too f comes);
    first = λ g is. go g is (comes.first g (due_in_one g is));
    below = subst (λ (start : ℕ). start < bound) (start_same f comes) comes.below;
  }
    where
      go : (g : Event) → IsDueIn image parameters costs part n g → (g ≡ f) ⊎ (is_before (key_in image parameters costs whole f) (key_in image parameters costs whole g) ≡ true) →
          (g ≡ f) ⊎ (is_before (key_in image parameters costs part f) (key_in image parameters costs part g) ≡ true)
      go g is (inl same) = inl same
      go g is (inr lt) = inr (sym (λ x. is_before ((alike f comes.due.node (might_too f comes)).key x) ((alike g is.node is.may).key x)) ∙ lt)

  pub comes_in_one : (f : Event) → ComesIn image parameters costs part n bound f → ComesIn image parameters costs whole n bound f
  comes_in_one f comes = record {
    due = due_in_one f comes.due;
    first = λ g is. go g is (alike_or_late g is.node is.may);
    below = subst (λ (start : ℕ). start < bound) (sym starts) comes.below;
  }
    where
      starts : start_in image parameters costs whole f ≡ start_in image parameters costs part f
      starts = start_so f comes.due.node comes.due.may

      by_first : (g : Event) → IsDueIn image parameters costs whole n g → may_in image parameters part g ≡ true →
          (g ≡ f) ⊎ (is_before (key_in image parameters costs part f) (key_in image parameters costs part g) ≡ true) →
          (g ≡ f) ⊎ (is_before (key_in image parameters costs whole f) (key_in image parameters costs whole g) ≡ true)
      by_first g is might (inl same) = inl same
      by_first g is might (inr lt) = inr ((λ x. is_before ((alike f comes.due.node comes.due.may).key x) ((alike g is.node might).key x)) ∙ lt)

      go : (g : Event) → IsDueIn image parameters costs whole n g → (may_in image parameters part g ≡ true) ⊎ (bound ≤ start_in image parameters costs whole g) →
          (g ≡ f) ⊎ (is_before (key_in image parameters costs whole f) (key_in image parameters costs whole g) ≡ true)
      go g is (inl might) = by_first g is might (comes.first g (due_in_other g is might))
      go g is (inr from_bound) = inr (heads_less (start_in image parameters costs whole f) (start_in image parameters costs whole g) _
          (let below = comes.below in omega (arith, starts, below, from_bound)))
