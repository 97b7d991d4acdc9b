-- Each turn takes a member.
use Rattle.std.proofs.Common.{length}
use Rattle.sparc_lex.proofs.lists.clear.Given as goal

abbrev pub decreases-loop-member : goal.decreases-loop-member
decreases-loop-member g l = length l.list
