use Rattle.std.proofs.Common.{arith}
use Rattle.std.specs.Int.{w32, to_be_bytes}
use Rattle.alw_image.specs.Faults.{word_of}
use Rattle.alw_image.specs.TableReads.{IsAnyMember}
use Rattle.alw_image.proofs.TableReads.{goes_on}
use Rattle.alw_image.proofs.Members.{word_read}
use Rattle.alw_image.proofs.tables.read_words.Goals as goal

pub loop-word-preserved : goal.loop-word-preserved
loop-word-preserved c = rw (c.in_ok-push.ensures.ok) (goes_on word_of (to_be_bytes w32) IsAnyMember 4 c.args.count c.args.bytes.now c.loop-word.words _ c.in-Some.word _ (omega arith) c.loop-word.invariant (word_read _ _ _ c.in-Some.ensures.range c.in-Some.ensures.found))
