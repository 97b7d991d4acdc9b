-- Every place that runs lead to has as many lines and contexts as the image says.
use Rattle.std.proofs.Common.{◌≡◌, ℕ, List, [], length, refl, ap, ◌∙◌, length-set}
use Rattle.std.proofs.Math.ListN.{length-replicate}
use Rattle.std.proofs.lemmas.List.FromFn.{length-map-range_with_len}
use Rattle.alw_num.specs.declared.addresses.Line.{Line}
use Rattle.alw_num.specs.declared.states.Mode.{Mode}
use Rattle.alw_num.specs.declared.states.Mode.TheVariants.{Read, Write}
use Rattle.sparc_table.specs.declared.registers.Regs.{Regs}
use Rattle.sparc_table.specs.declared.outcomes.Need.{Need}
use Rattle.sparc_table.specs.declared.outcomes.Need.TheVariants as needs
use Rattle.sparc_table.specs.declared.outcomes.Outcome.{Outcome}
use Rattle.sparc_table.specs.declared.outcomes.Outcome.TheVariants.{Done, Miss, Out, Halt, Trap}
use Rattle.alw_image.specs.declared.parts.Parts.{Parts}
use Rattle.alw_image.specs.Images.{line_count, context_count, body_of}
use Rattle.alw_model.specs.Flat.{context_start, stored_in}
use Rattle.alw_places.specs.Places.{Place, place_start, place_turn, printed_after, regs_at, PlaceHasSizes}
use Rattle.alw_places.specs.Effects.{effect_by, effect_of}
use Rattle.alw_places.proofs.Commuting.{effect_at, place_turn_is}

length-stored : (memory : List Line) (line : ℕ) (mode : Mode) (body : Line) → length (stored_in memory line mode body) ≡ length memory
length-stored memory line Read body = refl
length-stored memory line Write body = length-set memory line body

length-by : (parts : Parts) (memory : List Line) (regs : Regs) (need : Need) → length (effect_by parts memory regs need).memory ≡ length memory
unfolding effect_by
length-by parts memory regs needs.Nothing = refl
length-by parts memory regs (needs.Trap tt) = refl
length-by parts memory regs (needs.Copy line mode) = length-stored memory line.0 mode _

length-printed : (printed : List (List ℕ)) (context : ℕ) (outcome : Outcome) → length (printed_after printed context outcome) ≡ length printed
length-printed printed context (Out word) = length-set printed context _
length-printed printed context Done = refl
length-printed printed context (Miss line mode) = refl
length-printed printed context Halt = refl
length-printed printed context (Trap tt) = refl

-- a turn keeps the sizes
pub sizes_stay : (parts : Parts) (place : Place) (context : ℕ) → PlaceHasSizes parts place → PlaceHasSizes parts (place_turn parts place context)
unfolding effect_at effect_of
sizes_stay parts place context sizes =
    let is = place_turn_is parts place context in
    record {
      memory = ap (λ (p : Place). length p.flat.memory) is ∙ length-by parts place.flat.memory (regs_at place context) _ ∙ sizes.memory;
      contexts = ap (λ (p : Place). length p.flat.contexts) is ∙ length-set place.flat.contexts context _ ∙ sizes.contexts;
      printed = ap (λ (p : Place). length p.printed) is ∙ length-printed place.printed context _ ∙ sizes.printed;
    }

-- the start has the sizes
pub sizes_start : (parts : Parts) → PlaceHasSizes parts (place_start parts)
sizes_start parts = record {
  memory = length-map-range_with_len (body_of parts) 0 (line_count parts);
  contexts = length-map-range_with_len (context_start parts) 0 (context_count parts);
  printed = length-replicate (context_count parts) [];
}
