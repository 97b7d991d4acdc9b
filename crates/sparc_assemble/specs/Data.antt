-- What is answered for values of data.
use Rattle.std.specs.Prelude.{◌≡◌, ℕ, Bool, List, map, Some, None, is_none, Result, Ok, Err, ⊤}
use Rattle.std.specs.List.{list_any}
use Rattle.alw_num.specs.declared.addresses.Width.{Width}
use Rattle.sparc_asm.specs.declared.statements.Signed.{Signed}
use Rattle.sparc_asm.specs.Values.{value_of}
use Rattle.sparc_assemble.specs.declared.refusals.Refusal.{Refusal}
use Rattle.sparc_assemble.specs.declared.refusals.Refusal.TheVariants.{Fault, NoMemory}
use Rattle.sparc_assemble.specs.Assembly.{Names, data_fault, datum, modulus_of}

-- one of the values has a name that stands for nothing
abbrev pub is_unknown_in : Names → ℕ → List (List Signed) → Bool
is_unknown_in names here values = list_any (λ e. is_none (value_of names here e)) values

-- an answer is the values, or their fault; or memory was refused
abbrev pub AnswersValues : Names → ℕ → Width → List (List Signed) → Result (List ℕ) Refusal → Type 0
AnswersValues names here width values (Err NoMemory) = ⊤
AnswersValues names here width values (Err (Fault fault)) = data_fault names here width values ≡ Some fault
AnswersValues names here width values (Ok found) = (data_fault names here width values ≡ None) × (found ≡ map (datum names here (modulus_of width)) values)
