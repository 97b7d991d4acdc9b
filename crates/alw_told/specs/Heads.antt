-- What the first lines of a report tell: all but its lists.
use Rattle.std.specs.Prelude.{[]}
use Rattle.alw_report.specs.declared.values.Report.{Report}

abbrev pub head_of : Report → Report
head_of report = record report { runs = []; prints = []; memory = []; directory = [] }
