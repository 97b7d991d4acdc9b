-- What stays are the requests of other lines.
use Rattle.std.proofs.Common.{rules, not}
use Rattle.std.proofs.lemmas.Fn.{filter_same}
use Rattle.alw_waits.specs.Waits.{is_line}
use Rattle.alw_waits.proofs.requests.Requests.end.Goals as goal

pub returns : goal.returns
returns c = rw c.self.view_is at (filter_same _ (λ other. not (is_line c.args.line other)) _ (λ x b g called. search rules) _ _ c.retain.ensures.filtered)
