-- An end is no place from which a context goes on.
use Rattle.std.proofs.Common.{◌≡◌, ℕ, zero, suc, Bool, true, false, ◌&&◌, List, [], ◌∷◌, refl, sym, ap, ◌∙◌}
use Rattle.std.specs.List.{list_all}
use Rattle.sparc_table.specs.declared.outcomes.Outcome.{Outcome}
use Rattle.sparc_table.specs.declared.outcomes.Outcome.TheVariants.{Trap}
use Rattle.alw_msg.specs.declared.contexts.Status.{Status}
use Rattle.alw_msg.specs.declared.contexts.Status.TheVariants.{Ready, Halted, Waiting, Trapped}
use Rattle.alw_msg.specs.Statuses.{is_ready, is_halted}
use Rattle.alw_model.specs.Flat.{Context, context_at}
use Rattle.alw_places.specs.Places.{traps}

pub both : (a b : Bool) → (a && b) ≡ true → (a ≡ true) × (b ≡ true)
both true true e = (refl, refl)
both true false e = absurd (cc)
both false b e = absurd (cc)

-- a context that is Ready hasn't halted
not_both : (status : Status) → is_ready status ≡ true → is_halted status ≡ true → ⊥
not_both Ready ready halted = cc
not_both (Waiting line) ready halted = cc
not_both Halted ready halted = cc
not_both (Trapped pc tt) ready halted = cc

-- where all contexts have halted none is Ready
pub none_ready : (contexts : List Context) (context : ℕ) → list_all (λ (c : Context). is_halted c.status) contexts ≡ true → is_ready (context_at (record { memory = []; contexts = contexts }) context).status ≡ true → ⊥
none_ready [] context halted ready = cc
none_ready (first ∷ rest) zero halted ready = not_both first.status ready (both _ _ halted).0
none_ready (first ∷ rest) (suc context) halted ready = none_ready rest context (both _ _ halted).1 ready

pub not_trap : (outcome : Outcome) (tt : ℕ) → traps outcome ≡ false → outcome ≡ Trap tt → ⊥
not_trap outcome tt none trap = let both : traps (Trap tt) ≡ false = ap traps (sym trap) ∙ none in cc
