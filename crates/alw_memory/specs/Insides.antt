-- A memory side as it is kept, and what holds of it.
use Rattle.std.specs.Prelude.{◌≡◌, ◌*◌, ◌≤◌, length}
use Rattle.std.specs.VecDeque.{deque_capacity}
use Rattle.alw_model.specs.Sides.{Memory}
use Rattle.alw_memory.specs.declared.memories.Memory.TheInside.{Inside}
use Rattle.alw_memory.specs.Memories.{IsMemory}
use Rattle.alw_memory.specs.Lines.{entries_from, IsSoftTable}

-- the memory side
abbrev pub memory_in : Inside → Memory
memory_in m = record {
  number = m.number.0;
  nodes = m.nodes;
  per_node = m.per_node;
  pointers = m.pointers;
  homes = entries_from (m.number.0 * m.per_node) m.homes.items m.soft;
  packets = m.packets.items;
}

-- it is one, with a home line for each of its lines, the first of which is kept, a table of its lines, and room for a packet for each
pub record MemoryIsKept (m : Inside) : Type 0 where
  pub memory : IsMemory (memory_in m)
  pub lines : length m.homes.items ≡ m.per_node
  pub first : m.first ≡ m.number.0 * m.per_node
  pub table : IsSoftTable m.number.0 m.per_node m.soft
  pub room : m.per_node ≤ deque_capacity m.packets
