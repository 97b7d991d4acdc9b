-- A machine has a node.
use Rattle.std.proofs.Common.{arith}
use Rattle.std.proofs.lemmas.Nat.{mul-le}
use Rattle.alw_mesh.proofs.machines.Machine.nodes.Goals as goal

pub returns-clause-some : goal.returns-clause-some
returns-clause-some c =
    let image = c.self.invariant.run.image in
    let some = mul-le 1 1 c.self.inside.mesh.image.width c.self.inside.mesh.image.height image.width.0 image.height.0 in
    omega (arith, c.count.ensures, some)
