use Rattle.sparc_table.specs.Table.{instr_of}
use Rattle.sparc_table.proofs.Rows.{table, table_fits}
use Rattle.sparc_table.proofs.words.decode.Goals as goal

pub returns-in-2-clause-spelled : goal.returns-in-2-clause-spelled
unfolding instr_of
returns-in-2-clause-spelled c = table c.args.word _ (rw (← c.op.ensures, c.in-2.is) c.decode_format_3.ensures)

pub returns-in-2-clause-fits : goal.returns-in-2-clause-fits
unfolding instr_of
returns-in-2-clause-fits c = table_fits c.args.word _ (rw (← c.op.ensures, c.in-2.is) c.decode_format_3.ensures)
