-- What a filling holds, and what its functions answer.
use Rattle.std.specs.Prelude.{◌≡◌, ℕ, ◌+◌, ◌*◌, ◌≤◌, ◌&&◌, length, if◌then◌else◌, Bool, nat_lt, List, slice_index, slice_index_or, Option, Some, None, Result, Ok, Err, ⊤}
use Rattle.sparc_asm.specs.declared.statements.Statement.{Statement}
use Rattle.sparc_asm.specs.declared.faults.Fault.{Fault}
use Rattle.sparc_asm.specs.declared.faults.AsmErr.{AsmErr}
use Rattle.sparc_asm.specs.declared.faults.AsmErr.TheVariants.{NoMemory}
use Rattle.sparc_asm.specs.declared.encoding.Coded.{Coded}
use Rattle.sparc_asm.specs.Words.{coded_words}
use Rattle.sparc_place.specs.declared.cursors.Position.{Position}
use Rattle.sparc_place.specs.Places.{fault_at}
use Rattle.sparc_assemble.specs.declared.refusals.Refusal.{Refusal}
use Rattle.sparc_assemble.specs.declared.refusals.Refusal.TheVariants as refusal
use Rattle.sparc_assemble.specs.declared.fillings.Filling.{Filling}
use Rattle.sparc_assemble.specs.Assembly.{Names, Filled, coded_fault, with_code, value_fault, value_fault_in, filled, filled_in}

-- the address that a table gives a context
abbrev pub address_in : List (Option ℕ) → ℕ → ℕ → Option ℕ
address_in addresses node slot = if nat_lt node 65536 && nat_lt slot 256 then slice_index_or addresses (256 * node + slot) None else None

-- the same, or 0 where no line starts a context
abbrev pub address_if : Bool → List (Option ℕ) → ℕ → ℕ → Option ℕ
address_if given addresses node slot = if given then address_in addresses node slot else Some 0

-- what a filling holds
abbrev pub filled_of : Filling → Filled
filled_of f = record { words = f.words; memory = slice_index f.memory; starts = address_in f.starts }

-- no more code words than a program may have
pub record HasFewWords (f : Filled) : Type 0 where
  pub few : length f.words ≤ 65536

-- from one filling to the next by the instructions of a statement, or its fault; or memory was refused
abbrev pub FillsCode : Result Coded Fault → ℕ → Filled → Filled → Result (Unit {0}) Refusal → Type 0
FillsCode found number before after (Err refusal.NoMemory) = ⊤
FillsCode found number before after (Err (refusal.Fault fault)) = coded_fault found ≡ Some fault
FillsCode found number before after (Ok done) = (coded_fault found ≡ None) × (after ≡ with_code number (coded_words found) before)

-- from one filling to the next by a statement, or its fault; or memory was refused
abbrev pub Fills : Names → ℕ → ℕ → Position → Statement → Filled → Filled → Result (Unit {0}) Refusal → Type 0
Fills names count number p s before after (Err refusal.NoMemory) = ⊤
Fills names count number p s before after (Err (refusal.Fault fault)) = value_fault names count p s ≡ Some fault
Fills names count number p s before after (Ok done) = (value_fault names count p s ≡ None) × (after ≡ filled names number p s before)

-- the same by a line
abbrev pub FillsLine : Names → ℕ → ℕ → Position → Option Statement → Filled → Filled → Result (Unit {0}) Refusal → Type 0
FillsLine names count number p s before after (Err refusal.NoMemory) = ⊤
FillsLine names count number p s before after (Err (refusal.Fault fault)) = value_fault_in names count p s ≡ Some fault
FillsLine names count number p s before after (Ok done) = (value_fault_in names count p s ≡ None) × (after ≡ filled_in names number p s before)

-- a fault with the number of its line, or want of memory
abbrev pub refused_at : Refusal → ℕ → AsmErr
refused_at (refusal.Fault fault) number = fault_at fault number
refused_at refusal.NoMemory number = NoMemory

-- what lines fill in, or the first fault; or memory was refused
abbrev pub FillsAll : Option AsmErr → Filled → Result Filling AsmErr → Type 0
FillsAll fault wanted (Err NoMemory) = ⊤
FillsAll fault wanted (Err e) = fault ≡ Some e
FillsAll fault wanted (Ok filling) = (fault ≡ None) × (filled_of filling ≡ wanted)
