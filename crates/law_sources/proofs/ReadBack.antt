-- An image is assembled again from its source, where that is read as the lines of the image.
use Rattle.std.proofs.Common.{◌≡◌, Ok, ap, ◌∙◌}
use Rattle.alw_image.specs.declared.parts.Parts.{Parts}
use Rattle.alw_image.specs.Images.{IsImage}
use Rattle.alw_image.specs.Numbers.{HasWords}
use Rattle.sparc_asm.specs.Sources.{read_source}
use Rattle.sparc_assemble.specs.Assembly.{after_lines, assembled}
use Rattle.alw_source.specs.Sources.{source_of}
use Rattle.law_sources.specs.Parsed.{lines_read}
use Rattle.law_sources.specs.ReadBack.{IsReadBack}
use Rattle.law_sources.proofs.Read.{source_read}
use Rattle.law_sources.proofs.Assembled.{lines_assembled}

pub read_back_by : (p : Parts) → IsImage p → HasWords p → read_source (source_of p) ≡ Ok (lines_read p) → IsReadBack p
unfolding assembled
read_back_by p image words read =
    let lines = lines_assembled p image words in
    record { whole = lines.whole; right = ap after_lines read ∙ lines.right; image = lines.image }

-- the source that is written of an image is read as those lines
pub read_back : (p : Parts) → IsImage p → HasWords p → IsReadBack p
read_back p image words = read_back_by p image words (source_read p image words)
