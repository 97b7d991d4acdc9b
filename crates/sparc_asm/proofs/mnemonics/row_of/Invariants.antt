use Rattle.std.proofs.Common.{◌≡◌, map, drop}
use Rattle.sparc_asm.specs.Mnemonics.{row_of}
use Rattle.sparc_asm.proofs.mnemonics.row_of.Given as goal

abbrev pub invariant-loop-spelling : goal.invariant-loop-spelling
invariant-loop-spelling l = row_of l.name (map (λ row. (row.0.now, row.1)) l.table) ≡ row_of l.name (map (λ row. (row.0.now, row.1)) (drop l.spelling-index l.table))
