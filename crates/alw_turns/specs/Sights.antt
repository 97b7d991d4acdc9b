-- What is read of a machine before a turn of a slot, from which what the turn did is told.
use Rattle.std.specs.Prelude.{◌≡◌, ◌<◌, ℕ, List}
use Rattle.sparc_table.specs.Turns.{fetched, need_of}
use Rattle.alw_effects.specs.Effects.{fetched_text}
use Rattle.alw_image.specs.declared.parts.Parts.{Parts}
use Rattle.alw_image.specs.Images.{node_count, line_count}
use Rattle.alw_image.specs.Parameters.{Parameters}
use Rattle.alw_model.specs.Contexts.{slot_at}
use Rattle.alw_model.specs.NodeStates.{NodeState}
use Rattle.alw_mesh.specs.Histories.{History}
use Rattle.alw_turns.specs.declared.sights.TurnBefore.{TurnBefore}
use Rattle.alw_turns.specs.Turns.{need_in, is_waited, bytes_needed}

-- what is read of a slot of a node
abbrev pub seen_of : Parts → Parameters → ℕ → NodeState → ℕ → TurnBefore
seen_of image parameters number node slot =
    let need = need_in image (slot_at node.slots slot) in
    record {
      node = record { 0 = number };
      slot = slot;
      hold = (slot_at node.slots slot).hold;
      waits = is_waited need node.transactions;
      before = record { regs = (slot_at node.slots slot).regs; need = need; body = bytes_needed parameters.sets node.cache need };
    }

-- what was read is of a slot of the machine
pub record IsSeenOf (h : History) (seen : TurnBefore) : Type 0 where
  pub node : seen.node.0 < node_count h.image
  pub slot : seen.slot < h.image.contexts
  pub need : seen.before.need ≡ need_of h.image.code seen.before.regs (line_count h.image)

-- a turn that is done, told from what was read and the node afterwards
abbrev pub done_by : Parts → Parameters → TurnBefore → NodeState → List ℕ
done_by image parameters seen after =
    fetched_text (fetched image.code seen.before.regs.pc) seen.before.need seen.before.regs (slot_at after.slots seen.slot).regs seen.before.body
    (bytes_needed parameters.sets after.cache seen.before.need)
