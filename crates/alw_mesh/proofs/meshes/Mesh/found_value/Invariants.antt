-- No node so far has the value, nor is it on the way between one and the home.
use Rattle.std.proofs.Common.{◌≡◌, ℕ, ◌<◌, ◌≤◌, None}
use Rattle.alw_msg.specs.Lists.{front}
use Rattle.alw_mesh.specs.Values.{shown_at}
use Rattle.alw_mesh.proofs.meshes.Mesh.found_value.Given as goal

abbrev pub invariant-loop-n : goal.invariant-loop-n
invariant-loop-n l = (k : ℕ) → k < l.n → l.first ≤ k → front (shown_at l.self.image l.self.parameters l.self.machine k l.home.0 l.line.0) ≡ None
