-- What a hint says of lines: shared, one context's own, or never written; and the turns that keep to it.
use Rattle.std.specs.Prelude.{◌≡◌, ℕ, zero, suc, ◌==◌, Bool, true, false, not, ◌⊎◌, List, slice_index_or}
use Rattle.alw_num.specs.declared.states.Mode.{Mode}
use Rattle.alw_num.specs.declared.states.Mode.TheVariants.{Read, Write}
use Rattle.alw_places.specs.declared.classes.Class.{Class}
use Rattle.alw_places.specs.declared.classes.Class.TheVariants.{Shared, Own, Fixed}
use Rattle.sparc_table.specs.Turns.{need_of}
use Rattle.sparc_table.specs.declared.outcomes.Need.{Need}
use Rattle.sparc_table.specs.declared.outcomes.Need.TheVariants as needs
use Rattle.alw_image.specs.declared.parts.Parts.{Parts}
use Rattle.alw_image.specs.Images.{line_count}
use Rattle.alw_places.specs.Places.{Place, place_start, place_turn, regs_at, IsReadyAt, GoesOn, IsForward}
use Rattle.alw_places.specs.Outcomes.{Ending, EndsIn}

abbrev pub class_of : List Class → ℕ → Class
class_of classes line = slice_index_or classes line Shared

abbrev pub is_read : Mode → Bool
is_read Read = true
is_read Write = false

-- a context may access a line of this class in this mode
abbrev pub may_access : ℕ → Mode → Class → Bool
may_access context mode Shared = true
may_access context mode (Own owner) = context == owner
may_access context mode Fixed = is_read mode

abbrev pub is_shared : Class → Bool
is_shared Shared = true
is_shared _ = false

-- what a turn needs keeps to the hint
abbrev pub is_allowed : List Class → ℕ → Need → Bool
is_allowed classes context (needs.Copy line mode) = may_access context mode (class_of classes line.0)
is_allowed classes context _ = true

-- what a turn needs is no copy of a shared line
abbrev pub is_private : List Class → Need → Bool
is_private classes (needs.Copy line mode) = not (is_shared (class_of classes line.0))
is_private classes _ = true

abbrev pub need_at : Parts → Place → ℕ → Need
need_at parts place context = need_of parts.code (regs_at place context) (line_count parts)

-- some need of a context doesn't keep to the hint: none does so where all lines are shared
pub record CanBreak (classes : List Class) : Type 0 where
  pub context : ℕ
  pub need : Need
  pub broken : is_allowed classes context need ≡ false

-- a context goes on, and keeps to the hint
pub record Goes (parts : Parts) (classes : List Class) (place : Place) (context : ℕ) : Type 0 where
  pub on : GoesOn parts place context
  pub allowed : is_allowed classes context (need_at parts place context) ≡ true

-- it does so on no shared line
pub record IsPrivate (parts : Parts) (classes : List Class) (place : Place) (context : ℕ) : Type 0 where
  pub goes : Goes parts classes place context
  pub alone : is_private classes (need_at parts place context) ≡ true

-- so many turns of a context, each private and forward
abbrev pub PrivateTurns : Parts → List Class → Place → ℕ → ℕ → Type 0
PrivateTurns parts classes place context zero = Unit {0}
PrivateTurns parts classes place context (suc n) = IsPrivate parts classes place context × IsForward parts place context × PrivateTurns parts classes (place_turn parts place context) context n

-- a context that is Ready doesn't keep to the hint
pub record Breaks (parts : Parts) (classes : List Class) (place : Place) (context : ℕ) : Type 0 where
  pub ready : IsReadyAt place context
  pub broken : is_allowed classes context (need_at parts place context) ≡ false

abbrev pub HasNext : Parts → List Class → (Place → Type 0) → Place → Type 0
HasNext parts classes Held place = (context : ℕ) → Goes parts classes place context → Held (place_turn parts place context)

pub record HasPrivateNext (parts : Parts) (classes : List Class) (Held : Place → Type 0) (place : Place) : Type 0 where
  pub context : ℕ
  pub private : IsPrivate parts classes place context
  pub forward : IsForward parts place context
  pub next : Held (place_turn parts place context)

pub record IsSharedReduced (parts : Parts) (classes : List Class) (Held : Place → Type 0) : Type 0 where
  pub start : Held (place_start parts)
  pub next : (place : Place) → Held place → HasPrivateNext parts classes Held place ⊎ HasNext parts classes Held place

-- a place of the set is an end that comes to this
pub record IsToldAt (parts : Parts) (classes : List Class) (Held : Place → Type 0) (ending : Ending) : Type 0 where
  pub place : Place
  pub held : Held place
  pub next : HasNext parts classes Held place
  pub ends : EndsIn parts place ending

-- at a place of the set some context doesn't keep to the hint
pub record IsBroken (parts : Parts) (classes : List Class) (Held : Place → Type 0) : Type 0 where
  pub place : Place
  pub context : ℕ
  pub held : Held place
  pub next : HasNext parts classes Held place
  pub breaks : Breaks parts classes place context

abbrev pub IsToldOrBroken : Parts → List Class → (Place → Type 0) → Ending → Type 0
IsToldOrBroken parts classes Held ending = IsToldAt parts classes Held ending ⊎ IsBroken parts classes Held
