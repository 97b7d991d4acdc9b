-- What a log tells of a run besides its journal: in its first lines, and in the line that says how the run ended.
use Rattle.std.specs.Prelude.{◌≡◌}
use Rattle.alw_image.specs.declared.parts.Parts.{Parts}
use Rattle.alw_image.specs.Parameters.{Parameters}
use Rattle.alw_model.specs.declared.ends.Ended.{Ended}
use Rattle.alw_report.specs.Reports.{ended_line}

-- two runs are of images of one size, under the same parameters but for how often evictions were tried, and one line says how each ended
pub record AreToldAlike (image other_image : Parts) (parameters other_parameters : Parameters) (ended other_ended : Ended) : Type 0 where
  pub width : image.width ≡ other_image.width
  pub height : image.height ≡ other_image.height
  pub contexts : image.contexts ≡ other_image.contexts
  pub per_node : image.per_node ≡ other_image.per_node
  pub pointers : parameters.pointers ≡ other_parameters.pointers
  pub sets : parameters.sets ≡ other_parameters.sets
  pub limit : parameters.limit ≡ other_parameters.limit
  pub end : ended_line ended ≡ ended_line other_ended
