-- A node's cache and its open transactions, and how they answer messages (Chaiken, Kubiatowicz and Agarwal, ASPLOS 1991, the cache-side states; caches are direct-mapped).
use Rattle.std.specs.Prelude.{ℕ, ◌%◌, Bool, true, false, cond, not, ◌==◌, Option, Some, None, List, [], ◌∷◌}
use Rattle.alw_num.specs.declared.addresses.Line.{Line}
use Rattle.alw_num.specs.declared.states.Mode.{Mode}
use Rattle.alw_num.specs.declared.states.Mode.TheVariants.{Read, Write}
use Rattle.alw_num.specs.Maps.{Map, kept_if, value_at, with_value, without_value}
use Rattle.alw_msg.specs.Contents.{ToMemory, RREQ, WREQ, REPM, UPDATE, ACKC, ToCache, RDATA, WDATA, INV, BUSY, is_reply}

-- a copy of a line: Read-Only (Read) or Read-Write (Write)
pub record Copy : Type 0 where
  pub line : ℕ
  pub mode : Mode
  pub body : Line

-- what a node has asked for a line, and the slot in whose name
pub record Transaction : Type 0 where
  pub mode : Mode
  pub opener : ℕ

-- A cache gives each set nothing or one copy, so that a set holds one line.
abbrev pub Cache : Type 0
Cache = Map Copy

-- A node has at most one transaction per line.
abbrev pub Transactions : Type 0
Transactions = Map Transaction

-- messages to memory that a node sends, each with the line that it is about
abbrev pub Requests : Type 0
Requests = List (ℕ × ToMemory)

-- the set that a line belongs in
abbrev pub set_of : ℕ → ℕ → ℕ
set_of sets line = line % sets

-- the copy of a line: None where the line is Invalid
abbrev pub copy_at : ℕ → Cache → ℕ → Option Copy
copy_at sets cache line = kept_if (λ copy. copy.line == line) (value_at cache (set_of sets line))

-- a copy of the first mode grants the second: a Read-Write copy grants both
abbrev pub grants : Mode → Mode → Bool
grants Read Write = false
grants _ _ = true

-- the copy of a line that grants a mode: None where an access in that mode misses
abbrev pub granted_copy : ℕ → Cache → ℕ → Mode → Option Copy
granted_copy sets cache line mode = kept_if (λ copy. grants copy.mode mode) (copy_at sets cache line)

-- a Read-Write copy goes home as REPM; a Read-Only one is dropped silently
abbrev pub give_up : ℕ → Mode → Line → Requests
give_up line Write body = (line, REPM body) ∷ []
give_up line Read body = []

-- what is sent where a copy leaves its set
abbrev pub evicted : Option Copy → Requests
evicted None = []
evicted (Some copy) = give_up copy.line copy.mode copy.body

-- the copy of another line that stands in a line's set
abbrev pub replaced : ℕ → Cache → ℕ → Option Copy
replaced sets cache line = kept_if (λ copy. not (copy.line == line)) (value_at cache (set_of sets line))

-- an eviction empties a set
abbrev pub evict : Cache → ℕ → Cache × Requests
evict cache set = (without_value cache set, evicted (value_at cache set))

-- a fill puts a copy into its line's set, and a copy of another line leaves it
abbrev pub fill : ℕ → Cache → Copy → Cache × Requests
fill sets cache copy = (with_value cache (set_of sets copy.line) copy, evicted (replaced sets cache copy.line))

-- the answer to an INV from a copy: UPDATE where it is Read-Write, and else ACKC
abbrev pub inv_answer : Mode → Line → ToMemory
inv_answer Write body = UPDATE body
inv_answer Read body = ACKC

-- an INV, by the copy of its line: the line is Invalid afterwards, and ACKC answers where it was so before
abbrev pub invalidate : ℕ → Cache → ℕ → Option Copy → Cache × Requests
invalidate sets cache line None = (cache, (line, ACKC) ∷ [])
invalidate sets cache line (Some copy) = (without_value cache (set_of sets line), (line, inv_answer copy.mode copy.body) ∷ [])

-- what a message about a line does to the cache, and what is sent
abbrev pub react : ℕ → Cache → ℕ → ToCache → Cache × Requests
react sets cache line (RDATA body) = fill sets cache (record { line = line; mode = Read; body = body })
react sets cache line (WDATA body) = fill sets cache (record { line = line; mode = Write; body = body })
react sets cache line BUSY = (cache, [])
react sets cache line INV = invalidate sets cache line (copy_at sets cache line)

-- the transaction that a message about a line ends
abbrev pub ended_by : Transactions → ℕ → ToCache → Option Transaction
ended_by transactions line message = cond (is_reply message) (value_at transactions line) None

-- the transactions after a message about a line
abbrev pub transactions_after : Transactions → ℕ → ToCache → Transactions
transactions_after transactions line message = cond (is_reply message) (without_value transactions line) transactions

-- the request that opens a transaction
abbrev pub request : Mode → ToMemory
request Read = RREQ
request Write = WREQ
