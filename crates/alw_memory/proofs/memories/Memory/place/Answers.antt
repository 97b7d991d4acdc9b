-- The line is one of those from the home's first on.
use Rattle.std.proofs.Common.{ap, arith}
use Rattle.alw_model.specs.Sides.{Memory}
use Rattle.alw_memory.proofs.Events.{place_of}
use Rattle.alw_memory.proofs.memories.Memory.place.Goals as goal

pub overflow_sub-result : goal.overflow_sub-result
overflow_sub-result c = (place_of c.self.inside _ c.self.view_is c.self.invariant c.args.line.0 c.requires).0

pub returns-clause-place : goal.returns-clause-place
returns-clause-place c = (place_of c.self.inside _ c.self.view_is c.self.invariant c.args.line.0 c.requires).1

pub returns-clause-within : goal.returns-clause-within
returns-clause-within c =
    let place = place_of c.self.inside _ c.self.view_is c.self.invariant c.args.line.0 c.requires in
    let size = ap (λ (m : Memory). m.per_node) c.self.view_is in
    omega (arith, place.1, size, c.self.invariant.memory.per_node.0)
