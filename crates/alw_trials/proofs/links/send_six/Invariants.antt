-- The pass is still the link's.
use Rattle.std.proofs.Common.{◌≡◌}
use Rattle.alw_trials.proofs.links.send_six.Given as goal

abbrev pub invariant-loop-stamp : goal.invariant-loop-stamp
invariant-loop-stamp g l = l.sender.link ≡ l.fn.sender.link
