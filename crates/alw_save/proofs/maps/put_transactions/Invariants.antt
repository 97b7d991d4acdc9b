-- What is written so far, and the transactions from this line on, are the whole.
use Rattle.std.proofs.Common.{◌≡◌, ◌-◌, ◌≤◌, ◌++◌}
use Rattle.std.specs.List.{flat_map}
use Rattle.alw_image.specs.Images.{line_count}
use Rattle.alw_mesh.specs.Readings.{node_in}
use Rattle.alw_save.specs.Lines.{pending_line}
use Rattle.alw_save.proofs.Keys.{from_key}
use Rattle.alw_save.proofs.maps.put_transactions.Given as goal

abbrev pub invariant-loop-line : goal.invariant-loop-line
invariant-loop-line l = record {
  few : l.from ≤ line_count l.machine.image;
  text : l.text ++ flat_map pending_line (from_key l.from (node_in l.machine l.n.0).transactions.entries)
      ≡ l.fn.text ++ flat_map pending_line (node_in l.machine l.n.0).transactions.entries;
}

abbrev pub decreases-loop-line : goal.decreases-loop-line
decreases-loop-line l = line_count l.machine.image - l.from
