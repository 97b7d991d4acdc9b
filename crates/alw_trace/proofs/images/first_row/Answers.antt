use Rattle.std.proofs.Common.{◌∙◌}
use Rattle.alw_trace.proofs.Rows.{row_cut}
use Rattle.alw_trace.proofs.images.first_row.Goals as goal

pub returns-clause-row : goal.returns-clause-row
returns-clause-row c = c.split_at.ensures.front ∙ (row_cut c.args.bytes.now _ c.min.ensures).0

pub returns-clause-behind : goal.returns-clause-behind
returns-clause-behind c = c.split_at.ensures.back ∙ (row_cut c.args.bytes.now _ c.min.ensures).1
