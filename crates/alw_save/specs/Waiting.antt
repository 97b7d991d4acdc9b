-- The lines that the slots of a node wait on, for private clauses: all that it has transactions on is among them.
use Rattle.std.specs.Prelude.{ℕ, zero, suc, ◌+◌, ◌*◌, cond, nat_le, Option, None, Some}
use Rattle.alw_num.specs.declared.addresses.LineNo.{LineNo}
use Rattle.alw_num.specs.declared.addresses.Line.{Line}
use Rattle.alw_num.specs.declared.states.Mode.{Mode}
use Rattle.alw_msg.specs.Statuses.{waited}
use Rattle.alw_model.specs.Caches.{Copy, Transaction}
use Rattle.alw_mesh.specs.Histories.{History}
use Rattle.alw_mesh.specs.Readings.{slot_of}

-- the lower one of two lines, of which the second is looked at from a number on
abbrev pub nearest : ℕ → Option ℕ → Option ℕ → Option ℕ
nearest from next None = next
nearest from None (Some line) = cond (nat_le from line) (Some line) None
nearest from (Some lowest) (Some line) = cond (nat_le lowest line) (Some lowest) (cond (nat_le from line) (Some line) (Some lowest))

-- the lowest of so many lines from a number on
abbrev pub lowest_of : (ℕ → Option ℕ) → ℕ → ℕ → Option ℕ
lowest_of lines from zero = None
lowest_of lines from (suc count) = nearest from (lowest_of lines from count) (lines count)

-- the line that a slot of a node waits on
abbrev pub waited_at : History → ℕ → ℕ → Option ℕ
waited_at h n slot = waited (slot_of h (n * h.image.contexts + slot)).status

-- a transaction by its mode and its opener
abbrev pub transaction_of : Option Mode → Option ℕ → Option Transaction
transaction_of (Some mode) (Some opener) = Some (record { mode = mode; opener = opener })
transaction_of _ _ = None

-- a copy as it is told
abbrev pub copy_of : LineNo × Mode × Line → Copy
copy_of told = record { line = told.0.0; mode = told.1; body = told.2 }
