-- So many members are read, and the rest is to come.
use Rattle.std.proofs.Common.{length}
use Rattle.alw_image.specs.Images.{data_line}
use Rattle.alw_image.specs.Faults.{body_of_bytes}
use Rattle.alw_image.specs.TableReads.{IsAnyMember}
use Rattle.alw_image.proofs.TableReads.{TableIsRead}
use Rattle.alw_image.proofs.tables.read_bodies.Given as goal

abbrev pub invariant-loop-body : goal.invariant-loop-body
invariant-loop-body l = TableIsRead body_of_bytes data_line IsAnyMember 20 l.count l.bytes l.bodies l.rest

abbrev pub decreases-loop-body : goal.decreases-loop-body
decreases-loop-body l = length l.rest
