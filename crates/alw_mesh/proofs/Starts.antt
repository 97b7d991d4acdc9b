-- Nodes and links at the start of an image.
use Rattle.std.proofs.Common.{◌≡◌, ℕ, zero, suc, ◌+◌, ◌*◌, List, [], ◌∷◌, map, replicate, refl, sym, ap, subst, arith}
use Rattle.std.specs.List.{range_with_len}
use Rattle.std.proofs.lemmas.List.FromFn.{length-map-range_with_len, get_or-map-range_with_len}
use Rattle.alw_image.specs.declared.parts.Parts.{Parts}
use Rattle.alw_image.specs.Images.{IsImage, node_count}
use Rattle.alw_image.specs.Parameters.{Parameters}
use Rattle.alw_model.specs.NodeStates.{node_start}
use Rattle.alw_model.specs.Machine.{machine_start}
use Rattle.law_order.specs.Aims.{IsAimed}
use Rattle.law_order.proofs.Aimed.{start_aimed}
use Rattle.alw_links.specs.Traffic.{Traffic}
use Rattle.alw_tally.specs.declared.remains.Remains.{Remains}
use Rattle.alw_tally.specs.Remaining.{remains_of}
use Rattle.alw_node.specs.Nodes.{Whole, whole_start}
use Rattle.alw_mesh.specs.Keeping.{machine_of, no_whole, NodeIsOf, IsGrid}

module _ (image : Parts) (parameters : Parameters) (is : IsImage image) where
  abbrev pub nodes_start : List Whole
  nodes_start = map (whole_start image parameters) (range_with_len 0 (node_count image))

  states_from : (first n : ℕ) → map (λ (w : Whole). w.state) (map (whole_start image parameters) (range_with_len first n)) ≡ map (node_start image) (range_with_len first n)
  states_from first zero = refl
  states_from first (suc n) = ap (λ rest. node_start image first ∷ rest) (states_from (first + 1) n)

  pub start_is : machine_of nodes_start (replicate (node_count image * node_count image) []) ≡ machine_start image
  start_is = λ i. record { nodes = states_from 0 (node_count image) i; links = replicate (node_count image * node_count image) [] }

  start_of : (n : ℕ) → NodeIsOf image parameters n (whole_start image parameters n)
  start_of n = record { number = refl; share = refl; parameters_are = refl }

  pub grid_starts : (traffic : Traffic) (remains : Remains) → traffic ≡ record { nodes = node_count image; room = 0; links = replicate (node_count image * node_count image) [] }
      → remains ≡ remains_of (machine_start image).nodes → IsGrid image parameters nodes_start traffic remains
  grid_starts traffic remains empty all = rw (empty, all) (record {
    image_is = is;
    nodes_are = record {
      counted = length-map-range_with_len (whole_start image parameters) 0 (node_count image);
      each = λ n l. subst (NodeIsOf image parameters n) (sym (get_or-map-range_with_len (whole_start image parameters) 0 (node_count image) n n no_whole l (omega arith))) (start_of n);
    };
    links_are = refl;
    aimed = subst (IsAimed image) (sym start_is) (start_aimed image parameters);
    remains_are = sym (ap (λ m. remains_of m.nodes) start_is);
  })
