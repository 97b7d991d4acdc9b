-- The messages so far.
use Rattle.std.proofs.Common.{◌≡◌, ◌++◌, map}
use Rattle.std.specs.List.{flat_map}
use Rattle.alw_save.specs.Lines.{link_line}
use Rattle.alw_save.proofs.messages.put_link.Given as goal

abbrev pub invariant-loop-msg : goal.invariant-loop-msg
invariant-loop-msg l =
    (goal.iterator-loop-msg).can_next l.msg-iterator ×
    (goal.iterator-loop-msg).is_finite l.msg-iterator ×
    (l.text ≡ l.fn.text ++ flat_map (link_line l.from.0 l.to.0) (map (λ msg. msg.now) l.yielded))
