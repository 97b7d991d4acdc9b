-- An image is assembled again from its source.
use Rattle.std.specs.Prelude.{◌≡◌, Ok}
use Rattle.alw_image.specs.declared.parts.Parts.{Parts}
use Rattle.sparc_assemble.specs.declared.assembling.Assembled.{Assembled}
use Rattle.sparc_assemble.specs.Assembly.{assembled}
use Rattle.alw_source.specs.Sources.{source_of}

pub record IsReadBack (p : Parts) : Type 0 where
  pub whole : Assembled
  pub right : assembled (source_of p) ≡ Ok whole
  pub image : whole.image ≡ p
