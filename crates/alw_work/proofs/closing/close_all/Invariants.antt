-- The links that are left stand at their places, and those behind them are closed.
use Rattle.std.proofs.Common.{vec_len}
use Rattle.alw_work.proofs.Closings.{AreClosed}
use Rattle.alw_work.proofs.closing.close_all.Given as goal

abbrev pub invariant-loop-link : goal.invariant-loop-link
invariant-loop-link g l = AreClosed l.fn.links.items l.fn.nodes l.fn.lefts.items l.links.items l.lefts.items

abbrev pub decreases-loop-link : goal.decreases-loop-link
decreases-loop-link g l = vec_len l.links
