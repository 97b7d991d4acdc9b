-- The links so far.
use Rattle.std.proofs.Common.{◌≡◌, ◌++◌}
use Rattle.std.specs.List.{flat_map, range_with_len}
use Rattle.alw_mesh.specs.Histories.{state_of}
use Rattle.alw_save.specs.States.{link_text}
use Rattle.alw_save.proofs.messages.put_links.Given as goal

abbrev pub invariant-loop-to : goal.invariant-loop-to
invariant-loop-to l = l.text ≡ l.fn.text ++ flat_map (link_text l.machine.image (state_of l.machine) l.from.0) (range_with_len 0 l.to)
