-- A word of the current value, which is the flat machine's.
use Rattle.std.proofs.Common.{◌%◌, ap, ◌∙◌}
use Rattle.alw_num.specs.declared.addresses.Line.{Line}
use Rattle.alw_num.specs.declared.addresses.Width.TheVariants.{Word}
use Rattle.alw_num.specs.Lanes.{lane_of}
use Rattle.alw_mesh.proofs.machines.Machine.word.Goals as goal

pub returns-clause-word : goal.returns-clause-word
returns-clause-word c = c.lane.ensures ∙ ap (λ (body : Line). lane_of body (c.args.addr % 16) Word) c.value-value.ensures.value

pub returns-clause-flat : goal.returns-clause-flat
returns-clause-flat c = c.lane.ensures ∙ ap (λ (body : Line). lane_of body (c.args.addr % 16) Word) c.value-value.ensures.flat
