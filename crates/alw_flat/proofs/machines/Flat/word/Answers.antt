-- The word of the line's value.
use Rattle.std.proofs.Common.{◌%◌, ap, ◌∙◌}
use Rattle.alw_num.specs.declared.addresses.Line.{Line}
use Rattle.alw_num.specs.declared.addresses.Width.TheVariants.{Word}
use Rattle.alw_num.specs.Lanes.{lane_of}
use Rattle.alw_flat.specs.Machines.{word_of}
use Rattle.alw_flat.proofs.machines.Flat.word.Goals as goal

pub returns : goal.returns
unfolding word_of
returns c = rw (← c.self.view_is) (c.lane.ensures ∙ ap (λ (line : Line). lane_of line (c.args.addr % 16) Word) c.value-line.ensures)
