-- A turn on a code word: the instruction that the word spells, or the trap of a word outside the table.
use Rattle.std.specs.Prelude.{ℕ, ◌+◌, ◌*◌, List, [], ◌∷◌, ◌++◌, map, Option, option_map}
use Rattle.sparc_table.specs.Fields.{op_of, op3_of}
use Rattle.sparc_table.specs.Operands.{operand_of}
use Rattle.sparc_table.specs.Table.{arithmetic, shifts, accesses, instr_of}
use Rattle.sparc_table.specs.Turns.{or_illegal, need_at, turn_at}
use Rattle.sparc_table.specs.declared.registers.Regs.{Regs}
use Rattle.sparc_table.specs.declared.instructions.Operand.{Operand}
use Rattle.sparc_table.specs.declared.outcomes.Outcome.{Outcome}
use Rattle.sparc_exec.specs.Ports.{Copies, Access}
use Rattle.sparc_exec.specs.Runs.{Seen, seen, IsRunWith}

-- a word's row: its op, and then its op3
abbrev pub row_of : ℕ → ℕ
row_of word = op_of word * 64 + op3_of word

-- the rows that have an op3
abbrev pub rows : List ℕ
rows = map (λ op3. 128 + op3) (arithmetic ++ (shifts ++ 0x28 ∷ 0x30 ∷ 0x38 ∷ 0x3A ∷ [])) ++ map (λ op3. 192 + op3) accesses

-- the value of a word's operand, where it has one
abbrev pub value_of : Option Operand → Regs → Option ℕ
value_of found regs = option_map (λ operand. operand_of operand regs) found

-- a word was run
unfoldable pub IsRunOf : ℕ → ℕ → Seen → Seen → Outcome → Type 0
IsRunOf word lines before after outcome = IsRunWith (need_at (or_illegal (instr_of word)) before.regs lines) (turn_at (or_illegal (instr_of word)) before.regs lines) before after outcome

-- a word was run that reaches no line
abbrev pub IsRunBeside : ℕ → Regs → Regs → Outcome → Type 0
IsRunBeside word before after outcome = (lines : ℕ) → (copies : Copies) → (calls : Option (List Access)) → IsRunOf word lines (seen before copies calls) (seen after copies calls) outcome
