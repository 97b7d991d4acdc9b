-- Places that turns on the flat memory lead to, and the turns that may go first (the persistent sets of Godefroid 1996, cut down to turns that touch no memory).
use Rattle.std.specs.Prelude.{◌≡◌, ℕ, zero, suc, ◌+◌, ◌-◌, ◌<◌, ◌^◌, Bool, true, false, List, [], ◌∷◌, ◌++◌, length, replicate, slice_index_or, slice_set, if◌then◌else◌}
use Rattle.sparc_table.specs.Turns.{need_of}
use Rattle.sparc_table.specs.declared.registers.Regs.{Regs}
use Rattle.sparc_table.specs.declared.outcomes.Need.{Need}
use Rattle.sparc_table.specs.declared.outcomes.Need.TheVariants as needs
use Rattle.sparc_table.specs.declared.outcomes.Outcome.{Outcome}
use Rattle.sparc_table.specs.declared.outcomes.Outcome.TheVariants.{Out, Trap}
use Rattle.alw_msg.specs.Statuses.{is_ready}
use Rattle.alw_image.specs.declared.parts.Parts.{Parts}
use Rattle.alw_image.specs.Images.{line_count, context_count}
use Rattle.alw_model.specs.Flat.{Flat, Context, flat_start, flat_turn, context_at}

-- the flat machine, and what each context has printed so far, by context
pub record Place : Type 0 where
  pub flat : Flat
  pub printed : List (List ℕ)

-- the place before the first turn
abbrev pub place_start : Parts → Place
place_start parts = record { flat = flat_start parts; printed = replicate (context_count parts) [] }

-- what is printed once a turn of a context has ended so
abbrev pub printed_after : List (List ℕ) → ℕ → Outcome → List (List ℕ)
printed_after printed context (Out word) = slice_set printed context (slice_index_or printed context [] ++ word ∷ [])
printed_after printed context _ = printed

-- the place after a turn of a context
abbrev pub place_turn : Parts → Place → ℕ → Place
place_turn parts place context =
    let done = flat_turn parts place.flat context in
    record { flat = done.0; printed = printed_after place.printed context done.1 }

-- how the turn of a context ends at a place
abbrev pub outcome_at : Parts → Place → ℕ → Outcome
outcome_at parts place context = (flat_turn parts place.flat context).1

-- the place after the turns of these contexts
abbrev pub places_after : Parts → Place → List ℕ → Place
places_after parts place [] = place
places_after parts place (context ∷ rest) = places_after parts (place_turn parts place context) rest

-- the place after so many turns of a context
abbrev pub place_turns : Parts → Place → ℕ → ℕ → Place
place_turns parts place context zero = place
place_turns parts place context (suc n) = place_turns parts (place_turn parts place context) context n

-- the turn traps
abbrev pub traps : Outcome → Bool
traps (Trap tt) = true
traps _ = false

-- the turn needs a copy of a line
abbrev pub needs_copy : Need → Bool
needs_copy (needs.Copy line mode) = true
needs_copy _ = false

-- the context is Ready at the place
abbrev pub IsReadyAt : Place → ℕ → Type 0
IsReadyAt place context = is_ready (context_at place.flat context).status ≡ true

-- the context is Ready at the place, and its turn doesn't trap
pub record GoesOn (parts : Parts) (place : Place) (context : ℕ) : Type 0 where
  pub ready : IsReadyAt place context
  pub no_trap : traps (outcome_at parts place context) ≡ false

-- turns of contexts that go on, one after the other
abbrev pub IsRun : Parts → Place → List ℕ → Type 0
IsRun parts place [] = Unit {0}
IsRun parts place (context ∷ rest) = GoesOn parts place context × IsRun parts (place_turn parts place context) rest

-- the registers of a context at a place
abbrev pub regs_at : Place → ℕ → Regs
regs_at place context = (context_at place.flat context).regs

-- a turn that touches no memory, and doesn't trap: it computes, branches, prints or halts
pub record IsLocal (parts : Parts) (place : Place) (context : ℕ) : Type 0 where
  pub on : GoesOn parts place context
  pub alone : needs_copy (need_of parts.code (regs_at place context) (line_count parts)) ≡ false

-- how far a context may still go forward in the code, by PC and nPC together: not at all once it isn't Ready
abbrev pub to_go : Context → ℕ
to_go context = if is_ready context.status then 2 ^ 33 - (context.regs.pc + context.regs.npc) else 0

-- a turn that leaves its context less far to go
abbrev pub IsForward : Parts → Place → ℕ → Type 0
IsForward parts place context = to_go (context_at (place_turn parts place context).flat context) < to_go (context_at place.flat context)

-- all lines, all contexts, and a list of words for each context
pub record PlaceHasSizes (parts : Parts) (place : Place) : Type 0 where
  pub memory : length place.flat.memory ≡ line_count parts
  pub contexts : length place.flat.contexts ≡ context_count parts
  pub printed : length place.printed ≡ context_count parts
