-- What holds of a node's processor side, how it is kept, and what its readers tell.
use Rattle.std.specs.Prelude.{◌≡◌, ℕ, ◌*◌, ◌<◌, ◌≤◌, Bool, true, nat_lt, IsTrue, Option, [], length}
use Rattle.alw_num.specs.declared.addresses.Line.{Line}
use Rattle.alw_num.specs.declared.addresses.LineNo.{LineNo}
use Rattle.alw_num.specs.declared.states.Mode.{Mode}
use Rattle.alw_num.specs.Maps.{value_at, passes_if_some}
use Rattle.alw_msg.specs.Contents.{Content, ForMemory, ForCache}
use Rattle.alw_msg.specs.Sending.{Sending}
use Rattle.alw_msg.specs.Statuses.{waits_on}
use Rattle.alw_model.specs.Caches.{Copy, Transaction, Transactions}
use Rattle.alw_model.specs.Contexts.{slot_at}
use Rattle.alw_model.specs.Sides.{Processor, lines_of}
use Rattle.alw_model.specs.NodeStates.{may_reach_cache}
use Rattle.alw_cache.specs.Places.{Copies}
use Rattle.alw_ctx.specs.Residents.{NodeContexts}

-- a copy that is held, if there is one, is of a line that exists
abbrev pub HoldsLine : ℕ → Option Copy → Type 0
HoldsLine lines copy = IsTrue (passes_if_some (λ copy. nat_lt copy.line lines) copy)

-- what holds of every processor side: sizes are those of an image, each cached line exists, and the slot that opened a transaction waits on its line
pub record IsProcessor (p : Processor) : Type 0 where
  pub width : p.width ≤ 16
  pub height : p.height ≤ 16
  pub per_node : (1 ≤ p.per_node) × (p.per_node ≤ 4096)
  pub number : p.number < p.width * p.height
  pub slots : length p.slots ≤ 4
  pub cached : (set : ℕ) → HoldsLine (lines_of p) (value_at p.cache set)
  pub opened : (line : ℕ) → IsTrue (passes_if_some (λ transaction. waits_on line (slot_at p.slots transaction.opener).status) (value_at p.transactions line))

-- what holds of it with the number of lines that its port tells
pub record IsSide (p : Processor) (lines : ℕ) : Type 0 where
  pub stands : IsProcessor p
  pub lines_are : lines ≡ lines_of p

-- what is held keeps no message about a line on its link: one to memory isn't this side's
abbrev pub may_take : Processor → ℕ → Content → Bool
may_take p line (ForMemory said) = true
may_take p line (ForCache said) = may_reach_cache p.sets p.slots p.cache line said

-- the sends of an event are begun by this node, and empty, and there is room for a message
pub record SendsAreBegun (number : ℕ) (sending : Sending) : Type 0 where
  pub by : sending.src ≡ number
  pub empty : sending.messages ≡ []
  pub room : 0 < sending.room

-- the processor side that these make up
abbrev pub processor_from : ℕ → ℕ → ℕ → ℕ → NodeContexts → Copies → Transactions → Processor
processor_from number width height per_node contexts cache transactions = record {
  number = number;
  width = width;
  height = height;
  per_node = per_node;
  sets = cache.sets;
  slots = contexts.slots;
  current = contexts.current;
  cache = cache.copies;
  transactions = transactions;
}

-- what is told of a transaction: its mode
abbrev pub mode_of : Transaction → Mode
mode_of transaction = transaction.mode

-- what is told of a copy that a set holds
abbrev pub cached_of : Copy → LineNo × Mode × Line
cached_of copy = (record { 0 = copy.line }, copy.mode, copy.body)
