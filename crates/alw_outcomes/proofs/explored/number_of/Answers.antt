-- A row that is found is that of its place.
use Rattle.std.proofs.Common.{◌∙◌}
use Rattle.alw_outcomes.proofs.Storing.{rows_there}
use Rattle.alw_outcomes.proofs.explored.number_of.Goals as goal

pub returns : goal.returns
returns c =
    rows_there c.args.image.now c.args.found.now c.args.at c.args.context c.args.to c.requires.stored c.requires.at c.requires.to
    c.find_row-number.result c.deref.result.now (c.deref.ensures.value ∙ c.in_ok-row.ensures) c.find_row-number.ensures.some
