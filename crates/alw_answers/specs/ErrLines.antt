-- The line of a refusal on standard error.
use Rattle.std.specs.Prelude.{ℕ, ◌+◌, List, [], ◌++◌, codes}
use Rattle.std.specs.Fmt.{decimal}
use Rattle.alw_image.specs.declared.faults.ImageErr.{ImageErr}
use Rattle.alw_image.specs.declared.faults.ImageErr.TheVariants as image
use Rattle.alw_trace.specs.declared.faults.TextErr.{TextErr}
use Rattle.alw_trace.specs.declared.faults.TextErr.TheVariants as text
use Rattle.sparc_asm.specs.declared.faults.AsmErr.{AsmErr}
use Rattle.sparc_asm.specs.declared.faults.AsmErr.TheVariants as asm
use Rattle.alw_answers.specs.declared.answers.Cause.{Cause}
use Rattle.alw_answers.specs.declared.answers.Cause.TheVariants as cause
use Rattle.alw_answers.specs.declared.answers.InputErr.{InputErr}
use Rattle.alw_answers.specs.declared.answers.InputErr.TheVariants as input

-- which fault of a source, with its line
abbrev pub asm_fault_text : ℕ → List ℕ → List ℕ
asm_fault_text line fault = codes "source line " ++ (decimal line ++ (codes ": " ++ fault))

abbrev pub asm_text : AsmErr → List ℕ
asm_text (asm.Syntax line) = asm_fault_text line (codes "syntax")
asm_text (asm.UnknownName line) = asm_fault_text line (codes "unknown name")
asm_text (asm.Redefined line) = asm_fault_text line (codes "redefined")
asm_text (asm.Range line) = asm_fault_text line (codes "range")
asm_text (asm.Unaligned line) = asm_fault_text line (codes "unaligned")
asm_text (asm.Overlap line) = asm_fault_text line (codes "overlap")
asm_text asm.NoMemory = []

-- which fault of an image, with its byte
abbrev pub image_fault_text : ℕ → List ℕ → List ℕ
image_fault_text at fault = codes "image byte " ++ (decimal at ++ (codes ": " ++ fault))

abbrev pub image_text : ImageErr → List ℕ
image_text (image.Magic at) = image_fault_text at (codes "magic")
image_text (image.Version at) = image_fault_text at (codes "version")
image_text (image.Short at) = image_fault_text at (codes "short")
image_text (image.Trailing at) = image_fault_text at (codes "trailing")
image_text (image.Range at) = image_fault_text at (codes "range")
image_text (image.Order at) = image_fault_text at (codes "order")
image_text image.NoMemory = []

-- which fault of a trace or a claim, with its line
abbrev pub text_fault_text : ℕ → List ℕ → List ℕ
text_fault_text line fault = codes "text line " ++ (decimal line ++ (codes ": " ++ fault))

abbrev pub text_text : TextErr → List ℕ
text_text (text.Syntax line) = text_fault_text line (codes "syntax")
text_text (text.Range line) = text_fault_text line (codes "range")
text_text (text.Image fault) = image_text fault
text_text text.NoMemory = []

-- which turn of a claim isn't taken, and why
abbrev pub turn_text : ℕ → List ℕ → List ℕ
turn_text turn why = codes "turn " ++ (decimal turn ++ why)

abbrev pub input_text : InputErr → List ℕ
input_text input.TooLong = codes "too long"
input_text (input.Asm fault) = asm_text fault
input_text (input.Image fault) = image_text fault
input_text (input.Text fault) = text_text fault
input_text (input.NotLegal k) = codes "entry " ++ (decimal k ++ codes " not legal")
input_text input.Unfinished = codes "not finished"
input_text (input.StateDiffers line) = codes "state line " ++ decimal line
input_text (input.LimitDoesNotFit number most) = codes "limit " ++ (decimal number ++ (codes " above " ++ decimal most))
input_text (input.WorkersDoNotFit number most) = codes "workers " ++ (decimal number ++ (codes " above " ++ decimal most))
input_text (input.NotReady turn) = turn_text turn (codes " not ready")
input_text (input.NotCurrent turn) = turn_text turn (codes " not current")
input_text (input.AboveLimit turn) = turn_text turn (codes " above limit")

-- the words before a refused input's reason
unfoldable pub input_refused : List ℕ
input_refused = codes "alewife: input refused: "

unfoldable pub read_fault_line : List ℕ
read_fault_line = codes "alewife: read fault\n"

unfoldable pub write_fault_line : List ℕ
write_fault_line = codes "alewife: write fault\n"

unfoldable pub no_memory_line : List ℕ
no_memory_line = codes "alewife: no memory\n"

-- the line of an answer: nothing where all went well, a context trapped or may trap, the limit was reached, an end may not be, or a claim isn't sound
abbrev pub err_line : Cause → List ℕ
err_line cause.Fine = []
err_line (cause.Trapped at) = []
err_line (cause.Limit event) = []
err_line (cause.Differs place claimed real) = []
err_line cause.MayTrap = []
err_line cause.MayNotEnd = []
err_line (cause.Words e) = codes "alewife: word " ++ (decimal e.at ++ codes " refused\n")
err_line (cause.Input fault) = input_refused ++ (input_text fault ++ codes "\n")
err_line cause.ReadFault = read_fault_line
err_line cause.WriteFault = write_fault_line
err_line cause.NoMemory = no_memory_line
