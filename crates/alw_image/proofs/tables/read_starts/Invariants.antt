-- So many members are read, and the rest is to come.
use Rattle.std.proofs.Common.{length}
use Rattle.alw_image.specs.Images.{start_bytes}
use Rattle.alw_image.specs.Faults.{start_of_bytes}
use Rattle.alw_image.specs.TableReads.{IsSlot}
use Rattle.alw_image.proofs.TableReads.{TableIsRead}
use Rattle.alw_image.proofs.tables.read_starts.Given as goal

abbrev pub invariant-loop-start : goal.invariant-loop-start
invariant-loop-start l = TableIsRead start_of_bytes start_bytes IsSlot 8 l.count l.bytes l.starts l.rest

abbrev pub decreases-loop-start : goal.decreases-loop-start
decreases-loop-start l = length l.rest
