-- The slots so far.
use Rattle.std.proofs.Common.{◌≡◌, ◌++◌}
use Rattle.std.specs.List.{flat_map, range_with_len}
use Rattle.alw_mesh.specs.Histories.{state_of}
use Rattle.alw_save.specs.States.{context_text}
use Rattle.alw_save.proofs.contexts.put_contexts.Given as goal

abbrev pub invariant-loop-slot : goal.invariant-loop-slot
invariant-loop-slot l = l.text ≡ l.fn.text ++ flat_map (context_text l.machine.image (state_of l.machine) l.fn.n.0) (range_with_len 0 l.slot)
