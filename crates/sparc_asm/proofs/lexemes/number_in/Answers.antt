use Rattle.std.proofs.Common.{arith}
use Rattle.sparc_asm.proofs.Reading.{read, unread}
use Rattle.sparc_asm.proofs.lexemes.number_in.Goals as goal

pub returns-in-Some : goal.returns-in-Some
returns-in-Some c = read c.args.base c.args.text.now c.in-Some.number c.in-Some.ensures (omega arith)

pub returns-in_default-2 : goal.returns-in_default-2
returns-in_default-2 c = unread c.args.base c.args.text.now c.in_default.ensures
