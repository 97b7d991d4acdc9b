-- Leads that are remembered, each in a slot.
use Rattle.std.specs.Prelude.{◌≡◌, ◌⊎◌, ℕ, List, Option, Some, slice_get}
use Rattle.alw_image.specs.declared.parts.Parts.{Parts}
use Rattle.alw_places.specs.declared.classes.Class.{Class}
use Rattle.alw_outcomes.specs.declared.pools.Pools.{Pools}
use Rattle.alw_outcomes.specs.declared.remembered.Known.{Known}
use Rattle.alw_outcomes.specs.Pools.{thread_in, AreIn}
use Rattle.alw_outcomes.specs.Leads.{IsLead}

-- one of the slots has it
pub record IsKnown (slots : List (Option Known)) (known : Known) : Type 0 where
  pub slot : ℕ
  pub there : slice_get slots slot ≡ Some (Some known)

-- what is known afterwards was known before
abbrev pub KeepsSome : List (Option Known) → List (Option Known) → Type 0
KeepsSome before after = (known : Known) → IsKnown after known → IsKnown before known

-- what is known afterwards was known before, or is this
abbrev pub NotesOne : List (Option Known) → List (Option Known) → Known → Type 0
NotesOne before after one = (known : Known) → IsKnown after known → IsKnown before known ⊎ (one ≡ known)

-- what is known afterwards was known before, or is this if there is one
abbrev pub NotesSome : List (Option Known) → List (Option Known) → Option Known → Type 0
NotesSome before after one = (known : Known) → IsKnown after known → IsKnown before known ⊎ (one ≡ Some known)

-- each is the lead of its numbers and its context
pub record IsLeadOf (parts : Parts) (classes : List Class) (pools : Pools) (known : Known) : Type 0 where
  pub inside : AreIn pools known.at
  pub lead : IsLead parts classes known.context (thread_in pools known.at) pools known.lead

abbrev pub AreLeads : Parts → List Class → Pools → List (Option Known) → Type 0
AreLeads parts classes pools slots = (known : Known) → IsKnown slots known → IsLeadOf parts classes pools known
