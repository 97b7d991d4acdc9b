use Rattle.std.proofs.Common.{◌∙◌, arith}
use Rattle.sparc_assemble.proofs.Tables.{address_at}
use Rattle.sparc_assemble.proofs.addresses.Addresses.at.Goals as goal

pub returns : goal.returns
returns c = rw (c.from.ensures, c.from-2.ensures) at c.entry.ensures ∙ address_at c.args.self.now c.args.node c.args.slot (omega arith) (omega arith)
