-- The open transactions of a node, kept at the slots that opened them, as a map from lines to transactions.
use Rattle.std.specs.Prelude.{◌≡◌, ◌≢◌, ℕ, ◌+◌, Bool, false, cond, ◌==◌, Option, Some, None, List, [], ◌∷◌, slice_index_or}
use Rattle.alw_num.specs.declared.states.Mode.{Mode}
use Rattle.alw_num.specs.Maps.{empty_map, with_value, passes}
use Rattle.alw_model.specs.Caches.{Transaction, Transactions}
use Rattle.alw_proc.specs.declared.openings.Opening.{Opening}

-- the transaction that a slot has opened
abbrev pub transaction_of : ℕ → Opening → Transaction
transaction_of slot opening = record { mode = opening.mode; opener = slot }

-- what a caller is told of a transaction: its opener and its mode
abbrev pub told_of : Transaction → ℕ × Mode
told_of transaction = (transaction.opener, transaction.mode)

abbrev pub opener_of : Transaction → ℕ
opener_of transaction = transaction.opener

-- the map with what a slot has opened
abbrev pub with_opening : ℕ → Option Opening → Transactions → Transactions
with_opening slot None transactions = transactions
with_opening slot (Some opening) transactions = with_value transactions opening.line.0 (transaction_of slot opening)

-- the map of what slots have opened, the first of which has this number
abbrev pub map_from : ℕ → List (Option Opening) → Transactions
map_from slot [] = empty_map
map_from slot (first ∷ rest) = with_opening slot first (map_from (slot + 1) rest)

-- what has been opened on a line
abbrev pub is_of : ℕ → Opening → Bool
is_of line opening = opening.line.0 == line

-- the first transaction on a line
abbrev pub first_of : ℕ → List (Option Opening) → ℕ → Option Transaction
first_of slot [] line = None
first_of slot (None ∷ rest) line = first_of (slot + 1) rest line
first_of slot (Some opening ∷ rest) line = cond (opening.line.0 == line) (Some (transaction_of slot opening)) (first_of (slot + 1) rest line)

-- no slot has opened one on this line
abbrev pub HasNoOpening : List (Option Opening) → ℕ → Type 0
HasNoOpening [] line = Unit {0}
HasNoOpening (first ∷ rest) line = (passes (is_of line) first ≡ false) × HasNoOpening rest line

-- the line of what a slot has opened has no other
abbrev pub OpeningIsAlone : Option Opening → List (Option Opening) → Type 0
OpeningIsAlone None rest = Unit {0}
OpeningIsAlone (Some opening) rest = HasNoOpening rest opening.line.0

-- no line has two
abbrev pub OpeningsAreSingle : List (Option Opening) → Type 0
OpeningsAreSingle [] = Unit {0}
OpeningsAreSingle (first ∷ rest) = OpeningIsAlone first rest × OpeningsAreSingle rest

-- what a slot has opened
abbrev pub opened_at : List (Option Opening) → ℕ → Option Opening
opened_at slots slot = slice_index_or slots slot None

-- a transaction isn't this slot's
abbrev pub OpeningIsNotOf : ℕ → Option Transaction → Type 0
OpeningIsNotOf slot None = Unit {0}
OpeningIsNotOf slot (Some transaction) = transaction.opener ≢ slot
