-- What is at a line's place of a memory side as it is kept, and what an event there comes to.
use Rattle.std.proofs.Common.{◌≡◌, ◌≢◌, ℕ, ◌+◌, ◌-◌, ◌*◌, ◌/◌, ◌%◌, ◌<◌, ◌≤◌, Bool, true, false, None, ◌∷◌, List, length, slice_set, slice_index_or, refl, sym, ap}
use Rattle.std.proofs.Common.{◌∙◌, subst, arith}
use Rattle.std.proofs.lemmas.List.{length-set}
use Rattle.std.specs.Vec.{with_item}
use Rattle.std.specs.VecDeque.{deque_capacity}
use Rattle.alw_num.specs.NodeSets.{Nodes, join_nodes, count_nodes}
use Rattle.alw_num.specs.declared.states.Meta.TheVariants.{Progress}
use Rattle.alw_num.specs.Maps.{value_at}
use Rattle.alw_msg.specs.Kinds.{to_memory}
use Rattle.alw_msg.specs.Sending.{Sending}
use Rattle.alw_msg.specs.Contents.{content}
use Rattle.alw_msg.specs.declared.messages.Msg.{Msg}
use Rattle.alw_model.specs.declared.steps.Did.{Did}
use Rattle.alw_model.specs.declared.steps.Did.TheVariants.{Handled}
use Rattle.alw_model.specs.LimitLess.{Directory, full_map_of, is_in_progress}
use Rattle.alw_model.specs.Sides.{Memory}
use Rattle.alw_model.specs.MemorySteps.{MemoryStep, IsMemoryStep, home_at, with_entry, takes, handle_front}
use Rattle.dir_full.specs.Reactions.{HasRoom, keeping_of}
use Rattle.dir_hw.specs.declared.entries.HomeEntry.{HomeEntry}
use Rattle.dir_soft.specs.Tables.{Table, set_of_line, used_lines}
use Rattle.alw_home.specs.Entries.{directory_of}
use Rattle.alw_home.specs.Deliveries.{Delivers}
use Rattle.alw_home.specs.declared.deliveries.Acted.{Acted}
use Rattle.alw_trap.specs.Handling.{Handles}
use Rattle.alw_memory.specs.declared.memories.HomeLine.{HomeLine}
use Rattle.alw_memory.specs.declared.memories.Memory.TheInside.{Inside}
use Rattle.alw_memory.specs.Memories.{IsMemory, SendsAreBegun, IsPacket}
use Rattle.alw_memory.specs.Lines.{entries_from, IsSoftTable, has_trapped}
use Rattle.alw_memory.specs.Insides.{memory_in, MemoryIsKept}
use Rattle.alw_memory.proofs.Entries.{home_line, entry_read, entries_set, line_is}
use Rattle.alw_memory.proofs.Standing.{front_progress, packet_fits}
use Rattle.alw_memory.proofs.Deliveries.{packets_after, did_after, with_homes, delivered, delivery_room}
use Rattle.alw_memory.proofs.Handlings.{handled, handling_room, front_packet}
use Rattle.alw_memory.proofs.Tables.{others_stay, table_stands, table_room}

-- the place of a line of this home
pub place_of : (m : Inside) (v : Memory) → memory_in m ≡ v → MemoryIsKept m → (line : ℕ) → line / v.per_node ≡ v.number
    → (m.first ≤ line) × (line - m.first ≡ line % v.per_node)
place_of m v is kept line of =
    let at = line_is line v.per_node v.number of in
    let first : m.first ≡ v.number * v.per_node = kept.first ∙ ap (λ (x : Memory). x.number * x.per_node) is in
    (omega (arith, at, first), omega (arith, at, first))

module _ (m : Inside) (v : Memory) (is : memory_in m ≡ v) (kept : MemoryIsKept m) (line place : ℕ) (placed : place ≡ line % v.per_node) (home : HomeLine)
    (read : home ≡ slice_index_or m.homes.items place home) where
  place_is : place ≡ line % m.per_node
  place_is = placed ∙ ap (λ (x : Memory). line % x.per_node) (sym is)

  within : line % m.per_node < length m.homes.items
  within = omega (arith, kept.memory.per_node.0, kept.lines)

  -- the meta state of a line of whichever home
  pub meta_seen : (home_at v line).meta ≡ home.entry.meta
  meta_seen =
      let first = m.number.0 * m.per_node in
      let here = entry_read first m.homes.items m.soft (line % m.per_node) (first + line % m.per_node) home within refl in
      ap (λ (x : Memory). (home_at x line).meta) (sym is) ∙ (ap (λ (d : Directory). d.meta) here
      ∙ (ap (λ k. (slice_index_or m.homes.items k home).entry.meta) (sym place_is) ∙ ap (λ (h : HomeLine). h.entry.meta) (sym read)))

  module _ (of : line / v.per_node ≡ v.number) where
    of_home : line / m.per_node ≡ m.number.0
    of_home = rw (← is) at of

    at : line ≡ m.number.0 * m.per_node + line % m.per_node
    at = line_is line m.per_node m.number.0 of_home

    -- the entry of the home line
    abbrev pub entry : Directory
    entry = directory_of home.entry (set_of_line m.soft line) home.always

    pub seen : home_at v line ≡ entry
    seen =
        let here = entry_read (m.number.0 * m.per_node) m.homes.items m.soft (line % m.per_node) line home within at in
        ap (λ (x : Memory). home_at x line) (sym is) ∙ (here
        ∙ (ap (λ k. let h = slice_index_or m.homes.items k home in directory_of h.entry (set_of_line m.soft line) h.always) (sym place_is)
        ∙ ap (λ (h : HomeLine). directory_of h.entry (set_of_line m.soft line) h.always) (sym read)))

    pub few : count_nodes home.entry.pointers ≤ m.pointers
    few = let all = subst IsMemory is kept.memory in
        omega (arith, (all.entries (line % v.per_node)).sound.few, ap (λ (d : Directory). count_nodes d.hardware) seen, ap (λ (x : Memory). x.pointers) is)

    module _ (after : Inside) (e : HomeEntry) (packets : List Msg)
        (sizes : memory_in after ≡ with_homes (memory_in m) (memory_in after).homes after.packets.items) (first : after.first ≡ m.first)
        (homes : after.homes.items ≡ slice_set m.homes.items place (home_line e home.always)) (waits : after.packets.items ≡ packets)
        (others : (l : ℕ) → l ≢ line → set_of_line after.soft l ≡ set_of_line m.soft l) where
      -- another entry there, with a table that has the sets of the other lines
      pub changed : memory_in after ≡ with_homes v (with_entry v line (directory_of e (set_of_line after.soft line) home.always)) packets
      changed =
          let begins : after.number.0 * after.per_node ≡ m.number.0 * m.per_node = ap (λ (x : Memory). x.number * x.per_node) sizes in
          let there : (memory_in after).homes ≡ with_entry (memory_in m) line (directory_of e (set_of_line after.soft line) home.always) =
          ap (λ k. entries_from k after.homes.items after.soft) begins
          ∙ (ap (λ hs. entries_from (m.number.0 * m.per_node) hs after.soft)
          (homes ∙ ap (λ k. slice_set m.homes.items k (home_line e home.always)) place_is)
          ∙ entries_set (m.number.0 * m.per_node) m.homes.items m.soft after.soft (line % m.per_node) line (home_line e home.always) within at others) in
          sizes ∙ ((λ k. with_homes (memory_in m) (there k) (waits k))
          ∙ ap (λ (x : Memory). with_homes x (with_entry x line (directory_of e (set_of_line after.soft line) home.always)) packets) is)

      pub kept_after : IsMemory (memory_in after) → IsSoftTable m.number.0 m.per_node after.soft → m.per_node ≤ deque_capacity after.packets → MemoryIsKept after
      kept_after memory table room =
          let size = ap (λ (x : Memory). x.per_node) sizes in
          record {
            memory = memory;
            lines = omega (arith, ap length homes, length-set m.homes.items place (home_line e home.always), kept.lines, size);
            table = subst (λ (x : Memory). IsSoftTable x.number x.per_node after.soft) (sym sizes) table;
            first = first ∙ (kept.first ∙ sym (ap (λ (x : Memory). x.number * x.per_node) sizes));
            room = omega (arith, room, size);
          }

-- another home line at a place
abbrev pub with_line : Inside → ℕ → HomeLine → Inside
with_line m place home = record m { homes = with_item m.homes place home }

-- what has become of a memory side as it is kept is this step's
pub record Becomes (v : Memory) (after : Inside) (sent sent' : Sending) (did : Did) (step : MemoryStep) : Type 0 where
  pub kept : MemoryIsKept after
  pub steps : IsMemoryStep v (memory_in after) sent sent' did step

-- ---- a message to memory

module _ (m : Inside) (v : Memory) (is : memory_in m ≡ v) (kept : MemoryIsKept m) (msg : Msg) (place : ℕ) (placed : place ≡ msg.line.0 % v.per_node)
    (home : HomeLine) (read : home ≡ slice_index_or m.homes.items place home) (of : msg.line.0 / v.per_node ≡ v.number) (from : msg.src.0 < v.nodes)
    (sent : Sending) (begun : SendsAreBegun v.number v.nodes sent) where
  stands : IsMemory v
  stands = subst IsMemory is kept.memory

  here : home_at v msg.line.0 ≡ directory_of home.entry (set_of_line m.soft msg.line.0) home.always
  here = seen m v is kept msg.line.0 place placed home read of

  pub delivery_has_room : HasRoom home.entry.pointers msg.src.0 sent
  delivery_has_room = subst (λ (d : Directory). HasRoom d.hardware msg.src.0 sent) here (delivery_room v msg sent stands begun from (msg.line.0 % v.per_node))

  pub packet_has_room : is_in_progress (home_at v msg.line.0).meta ≡ false → length m.packets.items < deque_capacity m.packets
  packet_has_room free =
      let fits = packet_fits v (msg.line.0 % v.per_node) stands (omega (arith, stands.per_node.0)) free in
      omega (arith, fits, kept.room, ap (λ (x : Memory). length x.packets) is, ap (λ (x : Memory). x.per_node) is)

  pub delivery : (after : Inside) (e : HomeEntry) (result : Acted) (traps : Bool) (sent' : Sending)
      → memory_in after ≡ with_homes (memory_in m) (memory_in after).homes after.packets.items
      → after.first ≡ m.first → after.homes.items ≡ slice_set m.homes.items place (home_line e home.always) → after.soft ≡ m.soft
      → after.packets.items ≡ packets_after m.packets.items msg traps → m.per_node ≤ deque_capacity after.packets
      → to_memory msg.kind ≡ true → is_in_progress (home_at v msg.line.0).meta ≡ false
      → ((software : Nodes) → (always : Bool)
      → Delivers m.pointers (directory_of home.entry software always) (directory_of e software always) sent sent' result msg)
      → traps ≡ has_trapped result → Becomes v after sent sent' (did_after traps) (takes sent.stamp v msg (content msg))
  delivery after e result traps sent' sizes first homes soft waits room goes free delivers when =
      let software = set_of_line m.soft msg.line.0 in
      let d : Directory = directory_of e software home.always in
      let same : Delivers v.pointers (home_at v msg.line.0) d sent sent' result msg =
      subst (λ (x : Directory). Delivers v.pointers x d sent sent' result msg) (sym here)
      (subst (λ k. Delivers k (directory_of home.entry software home.always) d sent sent' result msg) (ap (λ (x : Memory). x.pointers) is)
      (delivers software home.always)) in
      let step = delivered v msg d result sent sent' stands begun goes from of free same traps when in
      let is_after = changed m v is kept msg.line.0 place placed home read of after e (packets_after m.packets.items msg traps) sizes first homes waits
      (λ l other. ap (λ (t : Table). set_of_line t l) soft) in
      let becomes : memory_in after ≡ with_homes v (with_entry v msg.line.0 d) (packets_after v.packets msg traps) = is_after
      ∙ (λ k. with_homes v (with_entry v msg.line.0 (directory_of e (set_of_line (soft k) msg.line.0) home.always))
      (packets_after (is k).packets msg traps)) in
      record {
        kept = kept_after m v is kept msg.line.0 place placed home read of after e (packets_after m.packets.items msg traps) sizes first homes waits
            (λ l other. ap (λ (t : Table). set_of_line t l) soft) (subst IsMemory (sym becomes) step.stands)
            (subst (IsSoftTable m.number.0 m.per_node) (sym soft) kept.table) room;
        steps = subst (λ (x : Memory). IsMemoryStep v x sent sent' (did_after traps) (takes sent.stamp v msg (content msg))) (sym becomes) step.steps;
      }

-- ---- the handler

-- the front packet is one
pub front_is : (m : Inside) (v : Memory) → memory_in m ≡ v → MemoryIsKept m → (packet : Msg) (rest : List Msg) → m.packets.items ≡ packet ∷ rest
    → IsPacket v.nodes v.per_node v.number packet
front_is m v is kept packet rest front =
    subst (λ (x : Memory). IsPacket x.nodes x.per_node x.number packet) is (front_packet (memory_in m) packet rest kept.memory front)

-- its line has a place
pub front_place : (m : Inside) (v : Memory) → memory_in m ≡ v → MemoryIsKept m → (packet : Msg) (rest : List Msg) → m.packets.items ≡ packet ∷ rest
    → (m.first ≤ packet.line.0) × (packet.line.0 - m.first < length m.homes.items)
front_place m v is kept packet rest front =
    let place = place_of m v is kept packet.line.0 (front_is m v is kept packet rest front).home in
    let size = ap (λ (x : Memory). x.per_node) is in
    (place.0, omega (arith, place.1, size, kept.memory.per_node.0, kept.lines))

module _ (m : Inside) (v : Memory) (is : memory_in m ≡ v) (kept : MemoryIsKept m) (packet : Msg) (rest : List Msg) (front : m.packets.items ≡ packet ∷ rest)
    (home : HomeLine) (read : home ≡ slice_index_or m.homes.items (packet.line.0 - m.first) home) where
  valid : IsMemory v
  valid = subst IsMemory is kept.memory

  one : IsPacket v.nodes v.per_node v.number packet
  one = front_is m v is kept packet rest front

  placed : packet.line.0 - m.first ≡ packet.line.0 % v.per_node
  placed = (place_of m v is kept packet.line.0 one.home).1

  queue : v.packets ≡ packet ∷ rest
  queue = ap (λ (x : Memory). x.packets) (sym is) ∙ front

  entry_is : home_at v packet.line.0 ≡ directory_of home.entry (set_of_line m.soft packet.line.0) home.always
  entry_is = seen m v is kept packet.line.0 _ placed home read one.home

  pub is_progress : home.entry.meta ≡ Progress
  is_progress = ap (λ (d : Directory). d.meta) (sym entry_is)
      ∙ front_progress v (packet.line.0 % v.per_node) packet rest valid queue (omega (arith, valid.per_node.0))
      (line_is packet.line.0 v.per_node v.number one.home)

  pub set_has_room : value_at m.soft.sets packet.line.0 ≡ None → used_lines m.soft < m.soft.lines
  set_has_room = table_room m.number.0 m.per_node packet.line.0 m.soft kept.memory.per_node.0 (rw (← is) at one.home) kept.table

  module _ (sent : Sending) (begun : SendsAreBegun v.number v.nodes sent) where
    pub handler_has_room : HasRoom (join_nodes home.entry.pointers (set_of_line m.soft packet.line.0)) packet.src.0 sent
    handler_has_room = subst (λ (d : Directory). HasRoom (join_nodes d.hardware d.software) packet.src.0 sent) entry_is
        (handling_room v sent packet.src.0 (home_at v packet.line.0) begun one.from (valid.entries (packet.line.0 % v.per_node)))

    pub handling : (after : Inside) (e : HomeEntry) (sent' : Sending) → memory_in after ≡ with_homes (memory_in m) (memory_in after).homes after.packets.items
        → after.first ≡ m.first → after.homes.items ≡ slice_set m.homes.items (packet.line.0 - m.first) (home_line e home.always) → after.packets.items ≡ rest
        → m.per_node ≤ deque_capacity after.packets
        → Handles (directory_of home.entry (set_of_line m.soft packet.line.0) home.always) (directory_of e (set_of_line after.soft packet.line.0) home.always)
        m.soft after.soft sent sent' packet
        → Becomes v after sent sent' (Handled packet.kind home.entry.state) (handle_front sent.stamp v v.packets)
    handling after e sent' sizes first homes waits room handles =
        let D = directory_of home.entry (set_of_line m.soft packet.line.0) home.always in
        let d : Directory = directory_of e (set_of_line after.soft packet.line.0) home.always in
        let keeping = keeping_of (full_map_of D) packet.src.0 (content packet) in
        let same : Handles (home_at v packet.line.0) d m.soft after.soft sent sent' packet =
        subst (λ (x : Directory). Handles x d m.soft after.soft sent sent' packet) (sym entry_is) handles in
        let step = handled v packet rest d m.soft after.soft sent sent' valid begun queue same in
        let others : (l : ℕ) → l ≢ packet.line.0
        → set_of_line after.soft l ≡ set_of_line m.soft l = λ l other. ap (λ (t : Table). set_of_line t l) handles.soft
        ∙ others_stay m.soft packet.line.0 d.software keeping l other in
        let becomes = changed m v is kept packet.line.0 _ placed home read one.home after e rest sizes first homes waits others in
        record {
          kept = kept_after m v is kept packet.line.0 _ placed home read one.home after e rest sizes first homes waits others (subst IsMemory (sym becomes) step.stands)
              (subst (IsSoftTable m.number.0 m.per_node) (sym handles.soft)
              (table_stands m.number.0 m.per_node packet.line.0 m.soft d.software keeping (rw (← is) at one.home) kept.table)) room;
          steps = subst (λ (x : Memory). IsMemoryStep v x sent sent' (Handled packet.kind home.entry.state) (handle_front sent.stamp v v.packets)) (sym becomes)
              (subst (λ (x : Directory). IsMemoryStep v (with_homes v (with_entry v packet.line.0 d) rest) sent sent' (Handled packet.kind x.state)
              (handle_front sent.stamp v v.packets)) entry_is step.steps);
        }
