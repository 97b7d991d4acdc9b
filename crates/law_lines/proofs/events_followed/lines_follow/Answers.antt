-- The events by their kinds.
use Rattle.law_lines.proofs.Steps.{line_follows}
use Rattle.law_lines.proofs.events_followed.lines_follow.Goals as goal

pub returns : goal.returns
returns c = line_follows
