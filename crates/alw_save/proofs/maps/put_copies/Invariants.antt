-- What is written so far, and the copies from this set on, are the whole.
use Rattle.std.proofs.Common.{◌≡◌, ◌++◌}
use Rattle.std.specs.List.{flat_map}
use Rattle.alw_mesh.specs.Readings.{node_in}
use Rattle.alw_save.specs.Lines.{cache_line}
use Rattle.alw_save.proofs.Keys.{from_key}
use Rattle.alw_save.proofs.maps.put_copies.Given as goal

abbrev pub invariant-loop-set : goal.invariant-loop-set
invariant-loop-set l =
    l.text ++ flat_map cache_line (from_key l.set (node_in l.machine l.n.0).cache.entries) ≡ l.fn.text ++ flat_map cache_line (node_in l.machine l.n.0).cache.entries
