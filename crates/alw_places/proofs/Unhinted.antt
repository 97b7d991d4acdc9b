-- Without a hint a private turn is a local one, and every turn keeps to it.
use Rattle.std.proofs.Common.{◌≡◌, ℕ, ◌⊎◌, inl, inr, true, false, List, [], refl, sym, ◌∙◌}
use Rattle.std.proofs.lemmas.Bool.{false≢true}
use Rattle.sparc_table.specs.declared.outcomes.Need.{Need}
use Rattle.sparc_table.specs.declared.outcomes.Need.TheVariants as needs
use Rattle.alw_image.specs.declared.parts.Parts.{Parts}
use Rattle.alw_places.specs.declared.classes.Class.{Class}
use Rattle.alw_places.specs.Places.{Place, needs_copy}
use Rattle.alw_places.specs.Outcomes.{Ending, ComesTo, HasAllNext, HasLocalNext, IsReduced, IsEndOfSet}
use Rattle.alw_places.specs.Sharing.{is_allowed, is_private, HasNext, HasPrivateNext, IsToldOrBroken}
use Rattle.alw_places.proofs.Independence.{reduced_told}

no_classes : List Class
no_classes = []

all_allowed : (context : ℕ) (need : Need) → is_allowed no_classes context need ≡ true
unfolding no_classes
all_allowed context needs.Nothing = refl
all_allowed context (needs.Trap tt) = refl
all_allowed context (needs.Copy line mode) = refl

all_private : (need : Need) → needs_copy need ≡ false → is_private no_classes need ≡ true
all_private needs.Nothing alone = refl
all_private (needs.Trap tt) alone = refl
all_private (needs.Copy line mode) alone = absurd (cc)

module _ (parts : Parts) (Held : Place → Type 0) where
  one_next : (place : Place) → HasLocalNext parts Held place ⊎ HasAllNext parts Held place → HasPrivateNext parts no_classes Held place ⊎ HasNext parts no_classes Held place
  one_next place (inl one) = inl (record {
    context = one.context;
    private = record { goes = record { on = one.alone.on; allowed = all_allowed one.context _ }; alone = all_private _ one.alone.alone };
    forward = one.forward;
    next = one.next;
  })
  one_next place (inr all) = inr (λ context goes. all context goes.on)

  every_next : (place : Place) → HasNext parts no_classes Held place → HasAllNext parts Held place
  every_next place next context on = next context (record { on = on; allowed = all_allowed context _ })

  pub all_told : (ending : Ending) → IsReduced parts Held → ComesTo parts ending → IsEndOfSet parts Held ending
  all_told ending reduced comes = go (reduced_told parts no_classes Held (record { start = reduced.start; next = λ place held. one_next place (reduced.next place held) }) ending comes)
    where
      go : IsToldOrBroken parts no_classes Held ending → IsEndOfSet parts Held ending
      go (inl told) = record { place = told.place; held = told.held; next = every_next told.place told.next; ends = told.ends }
      go (inr broken) = absurd (false≢true (sym broken.breaks.broken ∙ all_allowed broken.context _))
