-- What an instruction did, from its node before and after it.
use Rattle.std.specs.Prelude.{ℕ, Bool, true, false, Option, None, Some, is_some, List, [], ◌++◌, codes}
use Rattle.std.specs.Fmt.{decimal}
use Rattle.std.specs.Option.{option_map_or}
use Rattle.alw_num.specs.declared.addresses.Line.{Line}
use Rattle.alw_num.specs.Maps.{value_at}
use Rattle.sparc_table.specs.Turns.{fetched, need_of}
use Rattle.sparc_table.specs.declared.outcomes.Need.{Need}
use Rattle.sparc_table.specs.declared.outcomes.Need.TheVariants as needs
use Rattle.alw_effects.specs.Effects.{fetched_text, outcome_text}
use Rattle.alw_image.specs.declared.parts.Parts.{Parts}
use Rattle.alw_image.specs.Images.{line_count, zero_line}
use Rattle.alw_image.specs.Parameters.{Parameters}
use Rattle.alw_model.specs.declared.steps.Did.{Did}
use Rattle.alw_model.specs.declared.steps.Did.TheVariants.{Turn, Missed}
use Rattle.alw_model.specs.Caches.{Cache, Transactions, set_of}
use Rattle.alw_model.specs.Contexts.{Slot, slot_at, running}
use Rattle.alw_model.specs.NodeStates.{NodeState}
use Rattle.alw_report.specs.Names.{mode_text}
use Rattle.alw_turns.specs.Pieces.{slot_text, ends_text}

-- the bytes of the copy in the set of the line that a turn needs: zero where there is none
abbrev pub bytes_in_set : Cache → ℕ → Line
bytes_in_set cache set = option_map_or (λ copy. copy.body) (value_at cache set) zero_line

abbrev pub bytes_needed : ℕ → Cache → Need → Line
bytes_needed sets cache (needs.Copy line mode) = bytes_in_set cache (set_of sets line.0)
bytes_needed sets cache _ = zero_line

-- a transaction on the line that is needed is open
abbrev pub is_waited : Need → Transactions → Bool
is_waited (needs.Copy line mode) transactions = is_some (value_at transactions line.0)
is_waited _ transactions = false

-- the slot waits for that one, or opens one
abbrev pub opens_text : Bool → List ℕ
opens_text true = codes " waits"
opens_text false = codes " opens"

unfoldable pub misses_text : ℕ → List ℕ → Bool → List ℕ
misses_text line mode waits = codes " misses " ++ (decimal line ++ (codes " " ++ (mode ++ opens_text waits)))

abbrev pub missed_text : Need → Bool → List ℕ
missed_text (needs.Copy line mode) waits = misses_text line.0 (mode_text mode) waits
missed_text _ waits = []

-- a slot's turn or its miss
abbrev pub did_text : Did → List ℕ → List ℕ → List ℕ
did_text (Turn slot outcome) done missed = outcome_text outcome done
did_text (Missed slot) done missed = missed
did_text _ done missed = []

-- what a slot needs, what it does where its turn is done, and where it misses
abbrev pub need_in : Parts → Slot → Need
need_in image slot = need_of image.code slot.regs (line_count image)

abbrev pub done_in : Parts → Parameters → NodeState → NodeState → ℕ → List ℕ
done_in image parameters before after slot =
    let regs = (slot_at before.slots slot).regs in
    let need = need_in image (slot_at before.slots slot) in
    fetched_text (fetched image.code regs.pc) need regs (slot_at after.slots slot).regs (bytes_needed parameters.sets before.cache need)
    (bytes_needed parameters.sets after.cache need)

abbrev pub missed_in : Parts → NodeState → ℕ → List ℕ
missed_in image before slot =
    let need = need_in image (slot_at before.slots slot) in
    missed_text need (is_waited need before.transactions)

-- the slot that runs: where it stands, what it did, and the line whose hold it ended
abbrev pub slot_did : Parts → Parameters → NodeState → NodeState → Did → ℕ → List ℕ
slot_did image parameters before after did slot =
    slot_text image.code slot (slot_at before.slots slot).regs
    ++ (did_text did (done_in image parameters before after slot) (missed_in image before slot) ++ ends_text (slot_at before.slots slot).hold)

abbrev pub running_did : Parts → Parameters → NodeState → NodeState → Did → Option ℕ → List ℕ
running_did image parameters before after did None = []
running_did image parameters before after did (Some slot) = slot_did image parameters before after did slot

-- an instruction of a node
abbrev pub instr_text : Parts → Parameters → NodeState → NodeState → Did → List ℕ
instr_text image parameters before after did = running_did image parameters before after did (running before.slots before.current)
