-- The messages so far bring nothing.
use Rattle.std.proofs.Common.{◌≡◌, [], map}
use Rattle.alw_mesh.specs.Values.{all_brought_out}
use Rattle.alw_mesh.proofs.values.brought_out_on.Given as goal

abbrev pub invariant-loop-msg : goal.invariant-loop-msg
invariant-loop-msg l =
    (goal.iterator-loop-msg).can_next l.msg-iterator ×
    (goal.iterator-loop-msg).is_finite l.msg-iterator ×
    (all_brought_out l.line.0 (map (λ msg. msg.now) l.yielded) ≡ [])
