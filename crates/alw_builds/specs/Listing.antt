-- What `asm` writes: an assembled image, or its listing.
use Rattle.std.specs.Prelude.{ℕ, ◌+◌, List, [], ◌∷◌, ◌++◌, codes}
use Rattle.std.specs.Fmt.{decimal}
use Rattle.alw_text.specs.Numbers.{hex_digits}
use Rattle.alw_image.specs.Images.{spelling}
use Rattle.alw_image.specs.declared.faults.ImageErr.TheVariants as image
use Rattle.sparc_assemble.specs.declared.assembling.Assembled.{Assembled}
use Rattle.alw_config.specs.declared.commands.AsmForm.{AsmForm}
use Rattle.alw_config.specs.declared.commands.AsmForm.TheVariants as forms

-- a code word: its address and the word in eight digits each, and its source line
abbrev pub listing_line : ℕ → ℕ → ℕ → List ℕ
listing_line address word line = hex_digits address ++ (codes " " ++ (hex_digits word ++ (codes " " ++ (decimal line ++ codes "\n"))))

-- a line for each code word, the first of which stands at an address
abbrev pub listing_from : ℕ → List ℕ → List ℕ → List ℕ
listing_from address [] lines = []
listing_from address (word ∷ words) [] = []
listing_from address (word ∷ words) (line ∷ lines) = listing_line address word line ++ listing_from (address + 4) words lines

-- an assembled source in the form that was asked for
abbrev pub assembled_text : AsmForm → Assembled → List ℕ
assembled_text forms.Image a = spelling a.image
assembled_text forms.Listing a = listing_from 0 a.image.code a.lines
