use Rattle.sparc_table.proofs.Rows.{one_table_is}
use Rattle.sparc_table.proofs.laws.one_table.Goals as goal

pub returns : goal.returns
returns c = one_table_is
