-- A home that acts on a message of a node that exists sends to nodes that exist.
use Rattle.std.proofs.Common.{ℕ, ◌<◌}
use Rattle.alw_msg.specs.Contents.{ToMemory}
use Rattle.alw_model.specs.LimitLess.{Directory, full_map_of, hardware_of, hardware_act, handle}
use Rattle.law_line.proofs.Homes.{DestsBelow}
use Rattle.law_entry.specs.Entries.{PointsBelow}
use Rattle.alw_num.proofs.Sets.{join_below}
use Rattle.law_lines.proofs.Destinations.{act_below}

pub hardware_sends : (n i : ℕ) → i < n → (d : Directory) (m : ToMemory) → PointsBelow n d → DestsBelow n (hardware_act d i m).1
hardware_sends n i here d m points = act_below n (hardware_of d) i here points.hardware m

pub handler_sends : (n i : ℕ) → i < n → (d : Directory) (m : ToMemory) → PointsBelow n d → DestsBelow n (handle d i m).1
handler_sends n i here d m points = act_below n (full_map_of d) i here (join_below n d.hardware d.software points.hardware points.software) m
