-- Both sides are those of the image's node, with a slot for each context.
use Rattle.std.proofs.Common.{refl}
use Rattle.std.proofs.lemmas.List.FromFn.{length-map-range_with_len}
use Rattle.alw_model.specs.Contexts.{slot_start}
use Rattle.alw_node.proofs.nodes.Node.start_shared.Goals as goal

pub invariant_of-result : goal.invariant_of-result
invariant_of-result c =
    let image = c.args.image.now in
    rw (c.in_ok-of.ensures, c.in_ok-start.ensures, c.in_ok-start-2.ensures) (record {
      width = refl;
      height = refl;
      lines = refl;
      number = refl;
      nodes = refl;
      per_node = refl;
      pointers = refl;
      sets = refl;
      slots = length-map-range_with_len (slot_start image c.args.node.0) 0 image.contexts;
    })
