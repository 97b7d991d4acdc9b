-- The messages about the line so far.
use Rattle.std.proofs.Common.{◌≡◌, ◌++◌, map}
use Rattle.alw_laws.specs.Shown.{message_shown, of_line}
use Rattle.alw_laws.proofs.showing.put_link.Given as goal

abbrev pub invariant-loop-msg : goal.invariant-loop-msg
invariant-loop-msg l =
    (goal.iterator-loop-msg).can_next l.msg-iterator ×
    (goal.iterator-loop-msg).is_finite l.msg-iterator ×
    (l.links ≡ l.fn.links ++ map (message_shown l.from.0 l.to.0) (of_line l.line.0 (map (λ msg. msg.now) l.yielded)))
