-- The handler at a memory side: what it comes to.
use Rattle.std.proofs.Common.{◌≡◌, ℕ, ◌+◌, ◌*◌, ◌%◌, ◌<◌, ◌≤◌, List, ◌∷◌, ◌++◌, refl, ap, ◌∙◌, subst, arith}
use Rattle.std.specs.List.{AllByRecursion}
use Rattle.alw_num.specs.NodeSets.{join_nodes}
use Rattle.alw_num.proofs.Sets.{join_below}
use Rattle.alw_msg.specs.Sending.{Sending, with_messages}
use Rattle.alw_msg.specs.declared.messages.Msg.{Msg}
use Rattle.alw_msg.specs.Contents.{ToMemory, ForMemory}
use Rattle.alw_model.specs.declared.steps.Did.TheVariants.{Handled}
use Rattle.alw_model.specs.LimitLess.{Directory, handle}
use Rattle.alw_model.specs.Messages.{to_caches}
use Rattle.alw_model.specs.Sides.{Memory}
use Rattle.alw_model.specs.MemorySteps.{home_at, with_entry, handle_by, handle_front}
use Rattle.law_entry.proofs.Soundness.{handler_sound}
use Rattle.law_entry.proofs.Courses.{handled_free}
use Rattle.law_entry.proofs.Pointers.{handler_points}
use Rattle.dir_full.specs.Reactions.{with_sends, HasRoom}
use Rattle.dir_soft.specs.Tables.{Table}
use Rattle.alw_trap.specs.Handling.{Handles, handler_on}
use Rattle.alw_memory.specs.Memories.{IsMemory, SendsAreBegun, IsPacket, Stands}
use Rattle.alw_memory.proofs.Entries.{line_is}
use Rattle.alw_memory.proofs.Standing.{handle_keeps}
use Rattle.alw_memory.proofs.Deliveries.{Says, Said, says, DeliveryGoes, goes_as, with_homes}

handled_stands : (most nodes : ℕ) (d : Directory) (i : ℕ) (m : ToMemory) → 1 ≤ most → Stands most nodes d → i < nodes → Stands most nodes (handle d i m).0
handled_stands most nodes d i m some is l = record { sound = handler_sound most d i m some is.sound; points = handler_points nodes i l d m is.points }

-- the sends have room for each node that is pointed at
pub handling_room : (m : Memory) (sent : Sending) (i : ℕ) (d : Directory) → SendsAreBegun m.number m.nodes sent → i < m.nodes → Stands m.pointers m.nodes d
    → HasRoom (join_nodes d.hardware d.software) i sent
handling_room m sent i d begun from is = record {
  empty = begun.empty;
  sender = omega (arith, from, begun.room);
  members = λ k has. omega (arith, join_below m.nodes d.hardware d.software is.points.hardware is.points.software k has, begun.room);
}

-- the front packet is one
pub front_packet : (m : Memory) (packet : Msg) (rest : List Msg) → IsMemory m → m.packets ≡ packet ∷ rest → IsPacket m.nodes m.per_node m.number packet
front_packet m packet rest is front = (subst (AllByRecursion (IsPacket m.nodes m.per_node m.number)) front is.packets).0

module _ (m : Memory) (packet : Msg) (rest : List Msg) (e : Directory) (table table' : Table) (sent sent' : Sending) (is : IsMemory m)
    (begun : SendsAreBegun m.number m.nodes sent) (front : m.packets ≡ packet ∷ rest)
    (handles : Handles (home_at m packet.line.0) e table table' sent sent' packet) where
  one : IsPacket m.nodes m.per_node m.number packet
  one = front_packet m packet rest is front

  abbrev D : Directory
  D = home_at m packet.line.0

  l : packet.line.0 % m.per_node < m.per_node
  l = omega (arith, is.per_node.0)

  at : packet.line.0 ≡ m.number * m.per_node + packet.line.0 % m.per_node
  at = line_is packet.line.0 m.per_node m.number one.home

  abbrev pub left : Directory → Memory
  left entry = with_homes m (with_entry m packet.line.0 entry) rest

  pub handled : DeliveryGoes m (left e) sent sent' (Handled packet.kind (home_at m packet.line.0).state) (handle_front sent.stamp m m.packets)
  handled = by_said (says packet one.to_memory)
    where
      by_said : Says packet → DeliveryGoes m (left e) sent sent' (Handled packet.kind (home_at m packet.line.0).state) (handle_front sent.stamp m m.packets)
      by_said (Said said content_is) =
          let after = handle D packet.src.0 said in
          let entry_is : e ≡ after.0 = handles.entry ∙ ap (λ c. (handler_on D packet.src.0 c).0) content_is in
          goes_as m _ (left after.0) sent sent' _ (Handled packet.kind D.state) _ (handle_by sent.stamp (record m { packets = rest }) packet (ForMemory said))
          (ap left entry_is) refl
          (ap (handle_front sent.stamp m) front ∙ ap (handle_by sent.stamp (record m { packets = rest }) packet) content_is)
          (record {
            steps = record {
              side = refl;
              sends = handles.sends ∙ (ap (λ c. with_sends sent packet.line.0 (handler_on D packet.src.0 c).1) content_is
                  ∙ (ap (λ (ms : List (ℕ × Msg)). with_messages sent (ms ++ to_caches sent.src sent.stamp packet.line.0 after.1)) begun.empty
                  ∙ ap (λ n. with_messages sent (to_caches n sent.stamp packet.line.0 after.1)) begun.by));
              outcome = refl;
            };
            stands = handle_keeps m (packet.line.0 % m.per_node) after.0 packet rest is front l
                (handled_stands m.pointers m.nodes D packet.src.0 said is.pointers (is.entries (packet.line.0 % m.per_node)) one.from) at
                (handled_free D packet.src.0 said);
          })
