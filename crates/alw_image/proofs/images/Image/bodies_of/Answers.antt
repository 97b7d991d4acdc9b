-- The data lines ascend, and those of a node are numbered from its first home line up to the next node's.
use Rattle.std.proofs.Common.{◌∙◌}
use Rattle.alw_num.specs.declared.addresses.Line.{Line}
use Rattle.alw_num.specs.declared.addresses.LineNo.{LineNo}
use Rattle.alw_image.proofs.Cuts.{home_members}
use Rattle.alw_image.proofs.Searches.{keys_rise}
use Rattle.alw_image.proofs.images.Image.bodies_of.Goals as goal

pub between-requires : goal.between-requires
between-requires c = rw c.members.ensures (keys_rise (λ (body : LineNo × Line). body.0.0) _ c.self.invariant.bodies_ascend)

pub returns : goal.returns
returns c = rw (← c.self.view_is) (c.between.ensures ∙ rw c.members.ensures
    (home_members (λ (body : LineNo × Line). body.0.0) _ _ _ _ c.self.invariant.per_node.0 (rw (← c.self.view_is) at c.lines_of-first.ensures)))
