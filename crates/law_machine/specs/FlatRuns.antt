-- What it is for a machine to run as the flat machine does.
use Rattle.std.specs.Prelude.{◌≡◌, ℕ, true, List, map, flat_map}
use Rattle.std.specs.List.{range_with_len}
use Rattle.alw_num.specs.declared.addresses.Line.{Line}
use Rattle.sparc_table.specs.declared.outcomes.Outcome.{Outcome}
use Rattle.alw_image.specs.declared.parts.Parts.{Parts}
use Rattle.alw_image.specs.Images.{line_count}
use Rattle.alw_model.specs.NodeStates.{NodeState}
use Rattle.alw_model.specs.Flat.{Context, Flat, turns_after, turns_ready, turns_print, print_of}
use Rattle.alw_model.specs.Runs.{flat_context}

-- the contexts of nodes, in order
abbrev pub contexts_of : List NodeState → List Context
contexts_of nodes = flat_map (λ (node : NodeState). map flat_context node.slots) nodes

-- the flat machine with these values of lines, and with the contexts of these nodes
abbrev pub flat_of : Parts → (ℕ → Line) → List NodeState → Flat
flat_of parts values nodes = record { memory = map values (range_with_len 0 (line_count parts)); contexts = contexts_of nodes }

-- turns lead from one flat machine to another: each context is Ready at its turn, and the outcomes' prints are those of the turns
pub record RunsFlat (parts : Parts) (before : Flat) (turns : List (ℕ × Outcome)) (after : Flat) : Type 0 where
  pub ready : turns_ready parts before (map (λ (turn : ℕ × Outcome). turn.0) turns) ≡ true
  pub state : after ≡ turns_after parts before (map (λ (turn : ℕ × Outcome). turn.0) turns)
  pub prints : flat_map (λ (turn : ℕ × Outcome). print_of turn.0 turn.1) turns ≡ turns_print parts before (map (λ (turn : ℕ × Outcome). turn.0) turns)
