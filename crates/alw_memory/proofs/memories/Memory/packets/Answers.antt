-- There is a packet for each line in Trans-In-Progress, and so at most one for each home line.
use Rattle.std.proofs.Common.{◌≤◌, length, refl, arith}
use Rattle.alw_num.proofs.Weigh.{weigh-le, weigh-one, digit_le}
use Rattle.alw_model.specs.LimitLess.{Directory, is_in_progress}
use Rattle.alw_model.specs.Sides.{Memory}
use Rattle.alw_memory.specs.Memories.{IsMemory, progress_of}
use Rattle.alw_memory.proofs.memories.Memory.packets.Goals as goal

few_packets : (m : Memory) → IsMemory m → length m.packets ≤ 4096
few_packets m is =
    let each = weigh-le progress_of (λ (d : Directory). 1) (λ d. digit_le (is_in_progress d.meta)) m.homes in
    let all = weigh-one (λ (d : Directory). 1) (λ d. refl) m.homes in
    omega (arith, is.counted, is.homes, is.per_node.1)

pub overflow_cast-result : goal.overflow_cast-result
overflow_cast-result c = let few = few_packets _ c.self.invariant.memory in omega (arith, c.len.ensures, few)

pub returns-clause-most : goal.returns-clause-most
returns-clause-most c = let few = few_packets _ c.self.invariant.memory in omega (arith, c.len.ensures, few)
