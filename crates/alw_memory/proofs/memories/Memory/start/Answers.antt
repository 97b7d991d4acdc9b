-- Each part at the start.
use Rattle.std.proofs.Common.{◌*◌, refl, sym, subst, arith}
use Rattle.std.proofs.lemmas.List.FromFn.{length-map-range_with_len}
use Rattle.alw_memory.specs.Memories.{IsMemory}
use Rattle.alw_memory.specs.Lines.{line_start}
use Rattle.alw_memory.proofs.Starts.{starts_as_one, starts_from, table_starts}
use Rattle.alw_memory.proofs.memories.Memory.start.Goals as goal

pub invariant_of-result : goal.invariant_of-result
invariant_of-result c =
    let image = c.args.image.now in
    let params = c.args.params.now in
    let number = c.args.node.0 in
    record {
      memory = rw (
        c.in_ok-homes.ensures,
        c.in_ok-soft.ensures,
        c.in_ok-packets.ensures.items,
        c.from.ensures,
        c.from-2.ensures,
        c.from-nodes.ensures,
        c.nodes.ensures.count,
        c.per_node-per_node.ensures,
        c.pointers.ensures.value,
      )
          (subst IsMemory (sym (starts_from image params number))
          (starts_as_one image params number c.nodes.ensures.allowed c.pointers.ensures.allowed c.requires));
      lines = rw (c.in_ok-homes.ensures, c.per_node-per_node.ensures) (length-map-range_with_len (line_start image) (number * image.per_node) image.per_node);
      first = rw (c.from-3.ensures, c.from-4.ensures) refl;
      table = rw (c.in_ok-soft.ensures, c.from.ensures, c.from-2.ensures, c.per_node-per_node.ensures) (table_starts number image.per_node);
      room = omega (arith, c.in_ok-packets.ensures.capacity, c.per_node-per_node.ensures);
    }

pub returns : goal.returns
returns c =
    rw (
      c.in_ok-homes.ensures,
      c.in_ok-soft.ensures,
      c.in_ok-packets.ensures.items,
      c.from.ensures,
      c.from-2.ensures,
      c.from-nodes.ensures,
      c.nodes.ensures.count,
      c.per_node-per_node.ensures,
      c.pointers.ensures.value,
    ) (starts_from c.args.image.now c.args.params.now c.args.node.0)
