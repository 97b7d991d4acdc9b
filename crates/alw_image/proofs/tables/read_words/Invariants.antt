-- So many members are read, and the rest is to come.
use Rattle.std.proofs.Common.{length}
use Rattle.std.specs.Int.{w32, to_be_bytes}
use Rattle.alw_image.specs.Faults.{word_of}
use Rattle.alw_image.specs.TableReads.{IsAnyMember}
use Rattle.alw_image.proofs.TableReads.{TableIsRead}
use Rattle.alw_image.proofs.tables.read_words.Given as goal

abbrev pub invariant-loop-word : goal.invariant-loop-word
invariant-loop-word l = TableIsRead word_of (to_be_bytes w32) IsAnyMember 4 l.count l.bytes l.words l.rest

abbrev pub decreases-loop-word : goal.decreases-loop-word
decreases-loop-word l = length l.rest
