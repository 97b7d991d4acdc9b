-- A processor side stands at the start.
use Rattle.std.proofs.Common.{ℕ, ◌<◌, refl, sym, subst, arith}
use Rattle.std.proofs.lemmas.List.FromFn.{length-map-range_with_len}
use Rattle.alw_num.proofs.MapLaws.{value-empty}
use Rattle.alw_image.specs.declared.parts.Parts.{Parts}
use Rattle.alw_image.specs.Images.{IsImage, node_count}
use Rattle.alw_image.specs.Parameters.{Parameters}
use Rattle.alw_model.specs.Contexts.{slot_start, slots_start}
use Rattle.alw_model.specs.Sides.{lines_of}
use Rattle.alw_model.specs.NodeStates.{node_start, processor_of}
use Rattle.alw_proc.specs.Processors.{HoldsLine, IsProcessor}
use Rattle.alw_proc.proofs.Keeping.{Awaits}

pub start_stands : (parts : Parts) (parameters : Parameters) (number : ℕ) → IsImage parts → number < node_count parts
    → IsProcessor (processor_of parts parameters number (node_start parts number))
start_stands parts parameters number image l = record {
  width = image.width.1;
  height = image.height.1;
  per_node = image.per_node;
  number = l;
  slots = omega (arith, length-map-range_with_len (slot_start parts number) 0 parts.contexts, image.contexts.1);
  cached = λ set. subst (HoldsLine (lines_of (processor_of parts parameters number (node_start parts number)))) (sym (value-empty set)) refl;
  opened = λ line. subst (Awaits (slots_start parts number) line) (sym (value-empty line)) refl;
}
