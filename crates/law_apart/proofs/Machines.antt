-- A machine in which the limit holds is a picture of which the same comes next.
use Rattle.std.proofs.Common.{◌≡◌, ℕ, nat_le, Bool, true, false, not, ◌&&◌, ◌||◌, inl, inr, ◌↔◌, refl, sym, ap, ◌∙◌}
use Rattle.alw_msg.specs.declared.events.Event.{Event}
use Rattle.alw_msg.specs.declared.events.Event.TheVariants.{Instr, Handle, Deliver, Evict}
use Rattle.alw_model.specs.Machine.{stamp_at, is_enabled, is_within_limit, has_halted}
use Rattle.alw_mesh.specs.Histories.{History, IsRun, grown, state_of, may_be_next}
use Rattle.alw_times.specs.declared.costs.Costs.{Costs}
use Rattle.alw_times.specs.Times.{queue_at, is_later}
use Rattle.alw_due.specs.Due.{times_in, is_due_for}
use Rattle.alw_due.proofs.Left as left
use Rattle.law_windows.specs.Windows.{start_next, IsDueAt, ComesBelow}
use Rattle.law_windows.proofs.Limits.{stamp_within}
use Rattle.law_apart.specs.Pictures.{picture_of}
use Rattle.law_apart.specs.Alone.{LimitHolds, may_in, is_due_in, after_in, IsDueIn, ComesIn}

-- once an event has happened in a machine it has happened in the picture
pub grown_is : (h : History) (costs : Costs) (event : Event) → IsRun h → may_be_next h event ≡ true →
    picture_of (grown h event) costs ≡ after_in h.image h.parameters costs (picture_of h costs) event
grown_is h costs event run may = λ x. record { state = left.after_is h costs event run may x; times = left.times_are h costs event run may x }

module _ (h : History) (costs : Costs) (run : IsRun h) (holds : LimitHolds h) where
  pub may_is : (f : Event) → may_be_next h f ≡ may_in h.image h.parameters (picture_of h costs) f
  may_is f = go (is_enabled h.image h.parameters (state_of h) f) refl holds
    where
      small : Bool
      small = nat_le (stamp_at h.image (state_of h) f) h.parameters.limit

      unhalted : (b : Bool) → (b || false) ≡ b
      unhalted true = refl
      unhalted false = refl

      go : (b : Bool) → is_enabled h.image h.parameters (state_of h) f ≡ b → LimitHolds h → may_be_next h f ≡ may_in h.image h.parameters (picture_of h costs) f
      go false is any = (λ x. is x && is_within_limit h.image h.parameters (state_of h) f) ∙ sym (λ x. is x && nat_le (stamp_at h.image (state_of h) f) h.parameters.limit)
      go true is (inl none) = ap (λ b. is_enabled h.image h.parameters (state_of h) f && b)
          ((λ x. nat_le (stamp_at h.image (state_of h) f) h.parameters.limit || none x) ∙ unhalted (nat_le (stamp_at h.image (state_of h) f) h.parameters.limit))
      go true is (inr below) = let within = stamp_within h run below f is in ap (λ b. is_enabled h.image h.parameters (state_of h) f && b)
          ((λ x. within x || has_halted (state_of h)) ∙ sym within)

  due_is : (f : Event) → is_due_for h costs (times_in h costs) f ≡ is_due_in h.image h.parameters costs (picture_of h costs) f
  due_is (Instr at) = λ x. not (may_is (Handle at) x) || is_later (queue_at (times_in h costs).packets at.0) (start_next h costs (Instr at))
  due_is (Handle at) = refl
  due_is (Deliver from to) = refl
  due_is (Evict at set) = refl

  module _ (n : ℕ) where
    due_in : (f : Event) → IsDueAt h costs n f → IsDueIn h.image h.parameters costs (picture_of h costs) n f
    due_in f is = record { node = is.node; main = is.main; may = sym (may_is f) ∙ is.may; due = sym (due_is f) ∙ is.due }

    due_at : (f : Event) → IsDueIn h.image h.parameters costs (picture_of h costs) n f → IsDueAt h costs n f
    due_at f is = record { node = is.node; main = is.main; may = may_is f ∙ is.may; due = due_is f ∙ is.due }

    -- what comes next there comes next in the picture
    pub comes_is : (bound : ℕ) (f : Event) → ComesBelow h costs n bound f ↔ ComesIn h.image h.parameters costs (picture_of h costs) n bound f
    comes_is bound f = (
      λ comes. record { due = due_in f comes.due; first = λ other is. comes.first other (due_at other is); below = comes.below },
      λ comes. record { due = due_at f comes.due; first = λ other is. comes.first other (due_in other is); below = comes.below },
    )
