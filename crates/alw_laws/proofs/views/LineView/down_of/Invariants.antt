-- The messages that were passed are accounted for.
use Rattle.std.proofs.Common.{◌≤◌, take}
use Rattle.alw_model.specs.Lines.{downs}
use Rattle.alw_laws.specs.Traffic.{IsTrafficDown, received}
use Rattle.alw_laws.specs.Views.{link_in}
use Rattle.alw_laws.proofs.views.LineView.down_of.Given as goal

abbrev pub invariant-loop-place : goal.invariant-loop-place
invariant-loop-place l = IsTrafficDown l.down (downs l.self.line.0 (link_in (take l.place l.self.links) l.self.at.0 l.number.0)) × (received l.down ≤ l.place)
