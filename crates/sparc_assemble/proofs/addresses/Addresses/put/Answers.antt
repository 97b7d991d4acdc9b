use Rattle.std.proofs.Common.{arith}
use Rattle.sparc_assemble.proofs.Tables.{more_addresses}
use Rattle.sparc_assemble.proofs.addresses.Addresses.put.Goals as goal

pub returns : goal.returns
returns c =
    let set = rw (c.from.ensures, c.from-2.ensures) at c.in_ok-set.ensures in
    λ n s. more_addresses c.args.self.now c.set.new.self c.args.node c.args.slot c.args.address n s (omega arith) (omega arith) set
