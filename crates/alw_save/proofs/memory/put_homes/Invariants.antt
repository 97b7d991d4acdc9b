-- The home lines so far.
use Rattle.std.proofs.Common.{◌≡◌, ◌+◌, ◌*◌, ◌++◌}
use Rattle.std.specs.List.{flat_map, range_with_len}
use Rattle.alw_mesh.specs.Histories.{state_of}
use Rattle.alw_save.specs.States.{home_text}
use Rattle.alw_save.proofs.memory.put_homes.Given as goal

abbrev pub invariant-loop-place : goal.invariant-loop-place
invariant-loop-place l =
    l.text ≡ l.fn.text ++ flat_map (λ place. home_text l.machine.image (state_of l.machine) (l.fn.n.0 * l.machine.image.per_node + place)) (range_with_len 0 l.place)
