use Rattle.std.proofs.Common.{◌≡◌}
use Rattle.alw_cells.specs.Receiving.{left_to, unread}
use Rattle.alw_cells.proofs.addressed.SentTo.next.Given as goal

-- what is left is what was left
abbrev pub invariant-loop-receiver : goal.invariant-loop-receiver
invariant-loop-receiver l = left_to l.self-inside.to l.self-inside.at l.self-inside.reading ≡ l.fn.self

abbrev pub decreases-loop-receiver : goal.decreases-loop-receiver
decreases-loop-receiver l = unread l.self-inside.at l.self-inside.reading
