-- The census of a node's part of a line: how many messages of each kind are on their way, which copy and which transaction there is, how much stands in a wrong order, and how many bodies aren't the line's value.
use Rattle.std.specs.Prelude.{ℕ, ◌+◌, not, Option, Some, None, List, [], ◌∷◌}
use Rattle.alw_num.specs.declared.addresses.Line.{Line}
use Rattle.alw_num.specs.declared.states.Mode.{Mode}
use Rattle.alw_num.specs.declared.states.Mode.TheVariants.{Read, Write}
use Rattle.alw_num.specs.Weights.{digit, weigh}
use Rattle.alw_msg.specs.Contents.{ToMemory, RREQ, WREQ, REPM, UPDATE, ACKC, ToCache, RDATA, WDATA, INV, BUSY, is_rreq, is_wreq, is_repm, is_update, is_ackc, is_rdata, is_wdata, is_inv, is_busy}
use Rattle.alw_model.specs.LineInvariant.{same_line}
use Rattle.alw_msg.specs.Lists.{count_of}
use Rattle.alw_model.specs.Lines.{LineNode}

-- ---- copies and transactions of a mode

-- 1 for Read
abbrev pub is_read : Mode → ℕ
is_read Read = 1
is_read Write = 0

-- 1 for Write
abbrev pub is_write : Mode → ℕ
is_write Read = 0
is_write Write = 1

-- a copy, counted by its mode
abbrev pub copies_of : (Mode → ℕ) → Option (Mode × Line) → ℕ
copies_of f None = 0
copies_of f (Some copy) = f copy.0

-- a transaction, counted by its mode
abbrev pub transactions_of : (Mode → ℕ) → Option Mode → ℕ
transactions_of f None = 0
transactions_of f (Some mode) = f mode

-- ---- messages in a wrong order

-- RDATA and WDATA behind each INV
abbrev pub wrong_down : List ToCache → ℕ
wrong_down [] = 0
wrong_down (RDATA body ∷ rest) = wrong_down rest
wrong_down (WDATA body ∷ rest) = wrong_down rest
wrong_down (INV ∷ rest) = count_of is_rdata rest + count_of is_wdata rest + wrong_down rest
wrong_down (BUSY ∷ rest) = wrong_down rest

-- REPM behind each RREQ, WREQ and ACKC
abbrev pub wrong_up : List ToMemory → ℕ
wrong_up [] = 0
wrong_up (RREQ ∷ rest) = count_of is_repm rest + wrong_up rest
wrong_up (WREQ ∷ rest) = count_of is_repm rest + wrong_up rest
wrong_up (REPM body ∷ rest) = wrong_up rest
wrong_up (UPDATE body ∷ rest) = wrong_up rest
wrong_up (ACKC ∷ rest) = count_of is_repm rest + wrong_up rest

-- ---- bodies that aren't a value

-- 0 for the value, and 1 for another line
abbrev pub off : Line → Line → ℕ
off value body = digit (not (same_line body value))

-- the copy's body, the body of a message to memory, the body of a message to a cache
abbrev pub off_copy : Line → Option (Mode × Line) → ℕ
off_copy value None = 0
off_copy value (Some copy) = off value copy.1

abbrev pub off_up : Line → ToMemory → ℕ
off_up value (REPM body) = off value body
off_up value (UPDATE body) = off value body
off_up value _ = 0

abbrev pub off_down : Line → ToCache → ℕ
off_down value (RDATA body) = off value body
off_down value (WDATA body) = off value body
off_down value _ = 0

-- ---- the census

-- messages in `up` and in `down` by kind, Read-Only and Read-Write copies, Read and Write transactions, messages in a wrong order, and bodies that aren't the value
pub record Census : Type 0 where
  pub rreq : ℕ
  pub wreq : ℕ
  pub repm : ℕ
  pub update : ℕ
  pub ackc : ℕ
  pub rdata : ℕ
  pub wdata : ℕ
  pub inv : ℕ
  pub busy : ℕ
  pub ro : ℕ
  pub rw : ℕ
  pub tr : ℕ
  pub tw : ℕ
  pub wrong_up : ℕ
  pub wrong_down : ℕ
  pub off : ℕ

-- a node's census, of bodies that should be this value
abbrev pub census : Line → LineNode → Census
census value v = record {
  rreq = count_of is_rreq v.up;
  wreq = count_of is_wreq v.up;
  repm = count_of is_repm v.up;
  update = count_of is_update v.up;
  ackc = count_of is_ackc v.up;
  rdata = count_of is_rdata v.down;
  wdata = count_of is_wdata v.down;
  inv = count_of is_inv v.down;
  busy = count_of is_busy v.down;
  ro = copies_of is_read v.copy;
  rw = copies_of is_write v.copy;
  tr = transactions_of is_read v.transaction;
  tw = transactions_of is_write v.transaction;
  wrong_up = wrong_up v.up;
  wrong_down = wrong_down v.down;
  off = off_copy value v.copy + weigh (off_up value) v.up + weigh (off_down value) v.down;
}

-- the answers that a node still owes: an INV on its way to it, or an ACKC or UPDATE from it
abbrev pub owes : Census → ℕ
owes c = c.inv + c.ackc + c.update

-- the carriers at a node: a Read-Write copy, a WDATA on its way to it, a REPM or UPDATE from it
abbrev pub carries : Census → ℕ
carries c = c.rw + c.wdata + c.repm + c.update
