-- Messages of the link have come.
use Rattle.alw_work.specs.Ties.{Fetches}
use Rattle.alw_work.proofs.moves.fetch_from.Given as goal

abbrev pub invariant-loop : goal.invariant-loop
invariant-loop g l = Fetches l.from.0 l.fn.cell l.cell l.fn.come l.come
