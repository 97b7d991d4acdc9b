use Rattle.sparc_asm.specs.Names.{value_in}
use Rattle.sparc_assemble.specs.Fillings.{filled_of}
use Rattle.sparc_assemble.proofs.Coded.{otherwise}
use Rattle.sparc_assemble.proofs.fillings.Filling.fill.Goals as goal

pub returns-in_default : goal.returns-in_default
returns-in_default c = otherwise (value_in c.args.names.now) c.args.count c.args.number c.args.place.now c.args.statement.now (filled_of c.args.self.now) (filled_of c.fill_code.new.self) c.fill_code.result c.in_default.not-Data c.in_default.not-Start c.fill_code.ensures
