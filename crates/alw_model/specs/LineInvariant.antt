-- The line invariant: what holds of one line after every event, in eight clauses (the protocol is that of ASPLOS 1991; the invariant is this project's).
use Rattle.std.specs.Prelude.{ℕ, ◌+◌, ◌<◌, Bool, true, false, not, ◌&&◌, ◌||◌, ◌==◌, nat_le, Option, Some, None, is_some, length, IsTrue}
use Rattle.std.specs.List.{list_any, list_all}
use Rattle.alw_num.specs.Weights.{digit, sum_below}
use Rattle.alw_num.specs.NodeSets.{has_node, count_nodes}
use Rattle.alw_num.specs.declared.addresses.Line.{Line}
use Rattle.alw_num.specs.declared.states.Mode.{Mode}
use Rattle.alw_num.specs.declared.states.Mode.TheVariants.{Read, Write}
use Rattle.alw_num.specs.declared.states.State.{State}
use Rattle.alw_num.specs.declared.states.State.TheVariants.{RO, RW, RT, WT}
use Rattle.alw_num.specs.declared.states.Meta.{Meta}
use Rattle.alw_num.specs.declared.states.Meta.TheVariants.{Normal, Progress, TrapWrite, TrapAlways}
use Rattle.alw_msg.specs.Contents.{ToCache, RDATA, is_rreq, is_wreq, is_repm, is_update, is_ackc, is_rdata, is_wdata, is_inv, is_busy, brings_line, is_request_or_ackc}
use Rattle.alw_msg.specs.Lists.{count_of, is_followed, is_clear_behind}
use Rattle.alw_model.specs.FullMap.{sole}
use Rattle.alw_num.specs.Maps.{passes}
use Rattle.alw_model.specs.Caches.{grants}
use Rattle.alw_model.specs.LimitLess.{Directory}
use Rattle.alw_model.specs.Lines.{LineNode, LineState, carried, line_value}

-- ---- words of the clauses

-- the home is in Read-Transaction, in Write-Transaction, in Read-Only
abbrev pub is_reading : State → Bool
is_reading RT = true
is_reading _ = false

abbrev pub is_writing : State → Bool
is_writing WT = true
is_writing _ = false

abbrev pub is_shared : State → Bool
is_shared RO = true
is_shared _ = false

-- P = {i}
abbrev pub is_sole : LineState → ℕ → Bool
is_sole s i = passes (λ j. i == j) (sole s.home.pointers)

-- a node's copy is Read-Only; it is Read-Write
abbrev pub reads : LineNode → Bool
reads node = passes (λ (copy : Mode × Line). not (grants copy.0 Write)) node.copy

abbrev pub writes : LineNode → Bool
writes node = passes (λ (copy : Mode × Line). grants copy.0 Write) node.copy

-- answers that a node owes to INVs: INVs on the way to it, and ACKCs and UPDATEs from it
abbrev pub owes : LineNode → ℕ
owes node = count_of is_inv node.down + (count_of is_ackc node.up + count_of is_update node.up)

-- how many carriers are at a node
abbrev pub carries : LineNode → ℕ
carries node = length (carried node)

-- how many carriers there are, at nodes below a number
abbrev pub all_carried : ℕ → LineState → ℕ
all_carried count s = sum_below count (λ i. carries (s.node i))

-- two values are the same
abbrev pub same_line : Line → Line → Bool
same_line one other = one.a == other.a && (one.b == other.b && (one.c == other.c && (one.d == other.d)))

-- ---- transaction

-- what a Read transaction of node i, or a Write one, is waiting for: a request on its way, a reply on its way, or the home's own transaction for i
abbrev pub reads_of : LineState → ℕ → ℕ
reads_of s i = count_of is_rreq (s.node i).up + count_of is_rdata (s.node i).down + digit (is_reading s.home.state && is_sole s i)

abbrev pub writes_of : LineState → ℕ → ℕ
writes_of s i = count_of is_wreq (s.node i).up + count_of is_wdata (s.node i).down + digit (is_writing s.home.state && is_sole s i)

-- exactly one of these, or a BUSY, of the transaction's mode; none without a transaction
abbrev pub transaction_by : Option Mode → ℕ → ℕ → ℕ → Bool
transaction_by None reads writes busy = reads + writes + busy == 0
transaction_by (Some Read) reads writes busy = reads + busy == 1 && (writes == 0)
transaction_by (Some Write) reads writes busy = writes + busy == 1 && (reads == 0)

abbrev pub transaction_fits : LineState → ℕ → Bool
transaction_fits s i = transaction_by (s.node i).transaction (reads_of s i) (writes_of s i) (count_of is_busy (s.node i).down)

-- ---- counter

-- outside Read-Only P has one member; the counter is 0 in Read-Only and Read-Write, 1 in Read-Transaction and at least 1 in Write-Transaction
abbrev pub counter_by : State → Option ℕ → ℕ → Bool
counter_by RO owner acks = acks == 0
counter_by RW owner acks = is_some owner && (acks == 0)
counter_by RT owner acks = is_some owner && (acks == 1)
counter_by WT owner acks = is_some owner && nat_le 1 acks

-- that, and the answers owed add up to the counter
abbrev pub counter_fits : ℕ → LineState → Bool
counter_fits count s = counter_by s.home.state (sole s.home.pointers) s.home.acks && (sum_below count (λ i. owes (s.node i)) == s.home.acks)

-- a node owes 0 or 1 answers, and 0 where a transaction is for it
abbrev pub debt_fits : LineState → ℕ → Bool
debt_fits s i = nat_le (owes (s.node i)) 1 && (not ((is_reading s.home.state || is_writing s.home.state) && is_sole s i) || (owes (s.node i) == 0))

-- ---- carrier

-- a carrier at a node in a transaction: the node owes the one answer that is counted; an INV stands behind its WDATA, on the way to its Read-Write copy, and on the way to it or as an ACKC behind its REPM
abbrev pub is_recalled : LineNode → ℕ → Bool
is_recalled node acks =
    owes node == 1 && (acks == 1 && (is_followed is_wdata is_inv node.down && ((not (writes node) || list_any is_inv node.down)
    && (list_any is_inv node.down || is_followed is_repm is_ackc node.up))))

-- none in Read-Only; in Read-Write exactly one, at the node in P; in a transaction at most one, which is recalled
abbrev pub carrier_by : State → Bool → ℕ → LineNode → ℕ → Bool
carrier_by RO owner acks node total = carries node == 0
carrier_by RW owner acks node total = total == 1 && (carries node == digit owner)
carrier_by _ owner acks node total = nat_le total 1 && (carries node == 0 || is_recalled node acks)

abbrev pub carrier_fits : ℕ → LineState → ℕ → Bool
carrier_fits count s i = carrier_by s.home.state (is_sole s i) s.home.acks (s.node i) (all_carried count s)

-- ---- current copies

-- each RDATA holds this value
abbrev pub data_holds : Line → ToCache → Bool
data_holds value (RDATA body) = same_line body value
data_holds value _ = true

-- a node's Read-Only copy and each RDATA on its way hold the current value; where a carrier exists there is no RDATA, and a Read-Only copy only where a WDATA is on its way
abbrev pub current_fits : ℕ → LineState → ℕ → Bool
current_fits count s i =
    let node = s.node i in
    let value = line_value count s in
    (not (reads node) || passes (λ (copy : Mode × Line). same_line copy.1 value) node.copy) && (list_all (data_holds value) node.down && (all_carried count s == 0
    || (not (list_any is_rdata node.down) && (not (reads node) || list_any is_wdata node.down))))

-- ---- sharers

-- a node with a Read-Only copy or an RDATA is in P of a Read-Only home; or an INV is on its way, behind the RDATA; or it has a copy that is to become Read-Write
abbrev pub sharer_fits : LineState → ℕ → Bool
sharer_fits s i =
    let node = s.node i in
    not (reads node || list_any is_rdata node.down)
    || ((is_shared s.home.state && has_node s.home.pointers i)
    || ((list_any is_inv node.down && is_followed is_rdata is_inv node.down)
    || (reads node && ((is_writing s.home.state && is_sole s i) || list_any is_wdata node.down))))

-- ---- order

-- behind an INV there is no RDATA and no WDATA, and a REPM stands before every RREQ, WREQ and ACKC
abbrev pub order_fits : LineNode → Bool
order_fits node = is_clear_behind is_inv brings_line node.down && is_clear_behind is_request_or_ackc is_repm node.up

-- ---- single

-- with a Read-Write copy there is no transaction, and with a Read transaction there is no copy; a node has one copy and one transaction at most
abbrev pub single_by : Option Mode → LineNode → Bool
single_by None node = true
single_by (Some Read) node = not (is_some node.copy)
single_by (Some Write) node = not (writes node)

-- ---- software set

-- by the meta state, whether S is empty and how many packets wait: S is nonempty only in Read-Only and not in Normal, and in Trap-On-Write; a packet waits in Trans-In-Progress alone, and then one
abbrev pub software_by : Meta → Bool → Bool → ℕ → Bool
software_by Normal shared empty pending = empty && (pending == 0)
software_by TrapWrite shared empty pending = shared && (not empty && (pending == 0))
software_by TrapAlways shared empty pending = (shared || empty) && (pending == 0)
software_by Progress shared empty pending = (shared || empty) && (pending == 1)

abbrev pub software_fits : Directory → ℕ → Bool
software_fits entry pending = software_by entry.meta (is_shared entry.state) (count_nodes entry.software == 0) pending

-- ---- the invariant of a line, at nodes below a number, with its entry and the number of its pending packets
pub record LineInvariant (count : ℕ) (s : LineState) (entry : Directory) (pending : ℕ) : Type 0 where
  pub transaction : (i : ℕ) → i < count → IsTrue (transaction_fits s i)
  pub counter : IsTrue (counter_fits count s) × ((i : ℕ) → i < count → IsTrue (debt_fits s i))
  pub carrier : (i : ℕ) → i < count → IsTrue (carrier_fits count s i)
  pub current : (i : ℕ) → i < count → IsTrue (current_fits count s i)
  pub sharers : (i : ℕ) → i < count → IsTrue (sharer_fits s i)
  pub order : (i : ℕ) → i < count → IsTrue (order_fits (s.node i))
  pub single : (i : ℕ) → i < count → IsTrue (single_by (s.node i).transaction (s.node i))
  pub software : IsTrue (software_fits entry pending)
