use Rattle.sparc_asm.specs.Names.{value_in}
use Rattle.sparc_assemble.proofs.Coded.{one_fits, two_fit}
use Rattle.sparc_assemble.proofs.fillings.Filling.fill_code.Goals as goal

pub instr_word-requires : goal.instr_word-requires
instr_word-requires c = one_fits (value_in c.args.names.now) c.args.place.now.here c.args.statement.now c.in-Ok-One.first c.in-Ok-One.field-0 c.requires.fits c.in-Ok-One.ensures c.in-Ok-One.field-0-is

pub instr_word-requires-in-Ok-Two : goal.instr_word-requires-in-Ok-Two
instr_word-requires-in-Ok-Two c = (two_fit (value_in c.args.names.now) c.args.place.now.here c.args.statement.now c.in-Ok-Two.first c.in-Ok-Two.second c.in-Ok-Two.field-0 c.requires.fits c.in-Ok-Two.ensures c.in-Ok-Two.field-0-is).0

pub instr_word-requires-in-Ok-Two-2 : goal.instr_word-requires-in-Ok-Two-2
instr_word-requires-in-Ok-Two-2 c = (two_fit (value_in c.args.names.now) c.args.place.now.here c.args.statement.now c.in-Ok-Two.first c.in-Ok-Two.second c.in-Ok-Two.field-0 c.requires.fits c.in-Ok-Two.ensures c.in-Ok-Two.field-0-is).1
