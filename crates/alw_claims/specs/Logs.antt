-- The log of a claim: what each of its turns does on the flat memory, up to the first of a context that isn't Ready.
use Rattle.std.specs.Prelude.{ℕ, ◌+◌, if◌then◌else◌, List, [], ◌∷◌, ◌++◌, codes}
use Rattle.std.specs.Fmt.{decimal}
use Rattle.alw_num.specs.declared.addresses.Line.{Line}
use Rattle.sparc_table.specs.Turns.{need_of}
use Rattle.sparc_table.specs.declared.outcomes.Need.{Need}
use Rattle.sparc_table.specs.declared.outcomes.Need.TheVariants as needs
use Rattle.sparc_table.specs.declared.outcomes.Outcome.{Outcome}
use Rattle.alw_effects.specs.declared.before.SlotBefore.{SlotBefore}
use Rattle.alw_effects.specs.Pieces.{stood_text}
use Rattle.alw_effects.specs.Effects.{effect_text}
use Rattle.alw_image.specs.declared.parts.Parts.{Parts}
use Rattle.alw_image.specs.Images.{line_count, zero_line}
use Rattle.alw_msg.specs.Statuses.{is_ready}
use Rattle.alw_model.specs.Flat.{Flat, context_at, line_at, flat_start, flat_turn}
use Rattle.alw_trace.specs.declared.values.Claim.{Claim}

-- what a context needs for its turn
abbrev pub need_in : Parts → Flat → ℕ → Need
need_in image flat context = need_of image.code (context_at flat context).regs (line_count image)

-- the bytes of the line that is needed, and zero where none is
abbrev pub bytes_in : Flat → Need → Line
bytes_in flat (needs.Copy line mode) = line_at flat line.0
bytes_in flat _ = zero_line

-- what is read of a context before its turn
abbrev pub before_of : Parts → Flat → ℕ → SlotBefore
before_of image flat context =
    let need = need_in image flat context in
    record { regs = (context_at flat context).regs; need = need; body = bytes_in flat need }

-- the number of a turn, its context, the PC, and the statement there
unfoldable pub head_text : List ℕ → ℕ → ℕ → ℕ → List ℕ
head_text code k context pc = decimal k ++ (codes " context " ++ (decimal context ++ stood_text code pc))

-- the line of a turn, from the flat machine before and after it: where it stands, and what it did
unfoldable pub turn_line : Parts → Flat → Flat → Outcome → ℕ → ℕ → List ℕ
turn_line image before after outcome k context =
    head_text image.code k context (context_at before context).regs.pc
    ++ (effect_text image.code (before_of image before context) outcome (context_at after context).regs (bytes_in after (need_in image before context)) ++ codes "\n")

-- the lines of turns from the one numbered k on
abbrev pub turns_text : Parts → Flat → ℕ → List ℕ → List ℕ
turns_text image flat k [] = []
turns_text image flat k (context ∷ rest) =
    let done = flat_turn image flat context in
    if is_ready (context_at flat context).status then turn_line image flat done.0 done.1 k context ++ turns_text image done.0 (k + 1) rest else []

unfoldable pub claim_log : Claim → List ℕ
claim_log claim = turns_text claim.image (flat_start claim.image) 0 claim.turns
