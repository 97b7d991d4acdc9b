use Rattle.std.proofs.Common.{◌≡◌, map, drop}
use Rattle.alw_config.specs.Values.{row_of}
use Rattle.alw_config.proofs.lookups.row_of.Given as goal

abbrev pub invariant-loop-spelling : goal.invariant-loop-spelling
invariant-loop-spelling g l =
    row_of (map (λ row. (row.0.now, row.1)) l.rows) l.name ≡ row_of (map (λ row. (row.0.now, row.1)) (drop l.spelling-index l.rows)) l.name
