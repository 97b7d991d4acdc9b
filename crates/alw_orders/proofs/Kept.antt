-- That a claim which can be scheduled is.
use Rattle.std.proofs.Common.{◌≡◌, ℕ, zero, suc, ◌+◌, ◌<◌, true, false, List, [], ◌∷◌, ◌++◌, length, Some, inl, inr, refl, sym, ap, ◌∙◌, subst, arith}
use Rattle.std.specs.Prelude.{take, drop, slice_get}
use Rattle.std.proofs.lemmas.Bool.{false≢true}
use Rattle.alw_image.specs.Parameters.{Parameters}
use Rattle.alw_model.specs.Flat.{AreReady}
use Rattle.law_turns.proofs.Turns.{next_is_ready}
use Rattle.alw_trace.specs.declared.values.Claim.{Claim}
use Rattle.alw_checks.specs.Auditing.{SpellsClaim}
use Rattle.alw_checks.proofs.Kept.{claim_read, one_claim}
use Rattle.alw_serve.specs.Serving.{IsNotReady, IsUnfinished}
use Rattle.alw_answers.specs.declared.answers.InputErr.{InputErr}
use Rattle.alw_answers.specs.declared.answers.InputErr.TheVariants as reason
use Rattle.alw_answers.proofs.Kept.{IsKept, ran}
use Rattle.alw_serve.specs.declared.errors.Hindrance.{Hindrance}
use Rattle.alw_serve.specs.declared.errors.Hindrance.TheVariants.{NotReady, NotCurrent, AboveLimit}
use Rattle.alw_orders.specs.Scheduling.{parameters_to, IsClaimThat, IsHindered, IsNotScheduled, ComesToEnd, CanBeScheduled, schedule_task}

-- the claim that was accepted is the one that was refused
can_so : (parameters : Parameters) (bytes : List ℕ) (other : Claim) → IsClaimThat (CanBeScheduled parameters) bytes → SpellsClaim bytes other → CanBeScheduled parameters other
can_so parameters bytes other accepted spells = subst (CanBeScheduled parameters) (one_claim bytes accepted.claim other accepted.spelled spells) accepted.holds

-- a list's member at a place stands between what is before it and what is behind it
split_at : (turns : List ℕ) (k c : ℕ) → slice_get turns k ≡ Some c → take k turns ++ c ∷ drop (suc k) turns ≡ turns
split_at [] k c is = absurd (cc)
split_at (x ∷ rest) zero c is = let same : x ≡ c = cc in ap (λ y. y ∷ rest) (sym same)
split_at (x ∷ rest) (suc k) c is = ap (λ ys. x ∷ ys) (split_at rest k c is)

member_at : (turns : List ℕ) (k : ℕ) → k < length turns → (c : ℕ) × (slice_get turns k ≡ Some c)
member_at [] k within = absurd (omega arith)
member_at (x ∷ rest) zero within = (x, refl)
member_at (x ∷ rest) (suc k) within = member_at rest k (omega arith)

-- each turn of such a claim is of a context that is Ready, and none has trapped
never_late : (parameters : Parameters) (claim : Claim) (turn : ℕ) → CanBeScheduled parameters claim → IsHindered parameters turn NotReady claim → ⊥
never_late parameters claim turn can (within, stands) = go (member_at claim.turns turn within)
  where
    go : (c : ℕ) × (slice_get claim.turns turn ≡ Some c) → ⊥
    go (c, is) = not (stands can.one c is)
      where
        all : take turn claim.turns ++ c ∷ drop (suc turn) claim.turns ≡ claim.turns
        all = split_at claim.turns turn c is

        not : IsNotReady claim.image (take turn claim.turns) c → ⊥
        not (inl late) = absurd (false≢true (sym late ∙ next_is_ready claim.image (take turn claim.turns) c (drop (suc turn) claim.turns) (subst (AreReady claim.image) (sym all) can.ready)))
        not (inr (other, trapped)) = absurd (false≢true (sym (can.early (take turn claim.turns) (drop (suc turn) claim.turns) c other all) ∙ trapped))

-- and behind all of them it has come to an end
never_unfinished : (parameters : Parameters) (claim : Claim) → CanBeScheduled parameters claim → IsUnfinished claim.image (parameters_to parameters claim) claim.turns → ⊥
never_unfinished parameters claim can unfinished = go can.ends
  where
    go : ComesToEnd claim → ⊥
    go (inl halted) = absurd (false≢true (sym (unfinished can.one).0 ∙ halted))
    go (inr (context, trapped)) = absurd (false≢true (sym ((unfinished can.one).1 context) ∙ trapped))

schedule_unrefused : (parameters : Parameters) (bytes : List ℕ) (fault : InputErr) → IsNotScheduled parameters bytes fault → IsClaimThat (CanBeScheduled parameters) bytes → ⊥
schedule_unrefused parameters bytes (reason.Text fault) refused accepted = refused.0 (claim_read bytes accepted.claim fault accepted.spelled refused.1)
schedule_unrefused parameters bytes (reason.LimitDoesNotFit number most) refused accepted = absurd (omega (arith, refused.holds.above, (can_so parameters bytes refused.claim accepted refused.spelled).fits))
schedule_unrefused parameters bytes (reason.NotReady turn) refused accepted = never_late parameters refused.claim turn (can_so parameters bytes refused.claim accepted refused.spelled) refused.holds
schedule_unrefused parameters bytes (reason.NotCurrent turn) refused accepted = refused.holds.1 (can_so parameters bytes refused.claim accepted refused.spelled).one
schedule_unrefused parameters bytes (reason.AboveLimit turn) refused accepted =
    let can = can_so parameters bytes refused.claim accepted refused.spelled in
    let back = (refused.holds.1 can.one).stops.back in
    absurd (omega (arith, back.above, back.stamp, can.room))
schedule_unrefused parameters bytes reason.Unfinished refused accepted = never_unfinished parameters refused.claim (can_so parameters bytes refused.claim accepted refused.spelled) refused.holds
schedule_unrefused parameters bytes _ refused accepted = refused

pub schedule_kept : (parameters : Parameters) → IsKept (schedule_task parameters)
schedule_kept parameters = record {
  finished = λ bytes output made accepted. ran output.ending made.told.ended made.told.ending;
  unrefused = λ bytes fault refused accepted. schedule_unrefused parameters bytes fault refused accepted;
}
