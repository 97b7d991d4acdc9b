-- A front was read that both texts share.
use Rattle.std.proofs.Common.{length}
use Rattle.alw_save.proofs.Agreeing.{Agreed}
use Rattle.alw_save.proofs.differences.first_difference.Given as goal

abbrev pub invariant-loop-byte : goal.invariant-loop-byte
invariant-loop-byte l = Agreed l.wanted l.text l.left l.rest l.line

abbrev pub decreases-loop-byte : goal.decreases-loop-byte
decreases-loop-byte l = length l.left
