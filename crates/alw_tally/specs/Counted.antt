-- What one event adds to the counts, and how much that is at most.
use Rattle.std.specs.Prelude.{ℕ, ◌+◌, ◌==◌, ◌≤◌, Bool, Option, Some, None, List, [], ◌∷◌}
use Rattle.std.specs.List.{AllByRecursion}
use Rattle.alw_num.specs.Weights.{digit, weigh}
use Rattle.alw_num.specs.Maps.{passes}
use Rattle.sparc_table.specs.declared.outcomes.Outcome.TheVariants.{Trap}
use Rattle.alw_msg.specs.declared.messages.Kind.{Kind}
use Rattle.alw_msg.specs.declared.messages.Kind.TheVariants as kinds
use Rattle.alw_msg.specs.declared.messages.Msg.{Msg}
use Rattle.alw_msg.specs.Kinds.{kind_number}
use Rattle.alw_msg.specs.Contents.{content}
use Rattle.alw_msg.specs.Events.{node_of}
use Rattle.alw_image.specs.declared.parts.Parts.{Parts}
use Rattle.alw_image.specs.Images.{hops_between}
use Rattle.alw_model.specs.declared.ends.TrapAt.{TrapAt}
use Rattle.alw_model.specs.declared.steps.Counts.{Counts}
use Rattle.alw_model.specs.declared.steps.Did.{Did}
use Rattle.alw_model.specs.declared.steps.Did.TheVariants.{Turn, Missed, Took, Packet, Handled, Evicted}
use Rattle.alw_model.specs.Counts.{is_turn, is_miss, is_eviction, is_handling, is_spill, is_data}
use Rattle.alw_tally.specs.declared.moments.Moment.{Moment}

-- the trapping turn that an event of a node was, if it was one, given the event's place in the journal and the PC of the slot that ran
abbrev pub trap_by : ℕ → ℕ → ℕ → Did → Option TrapAt
trap_by entry number pc (Turn slot (Trap tt)) = Some (record { entry = entry; node = number; slot = slot; pc = pc; tt = tt })
trap_by entry number pc _ = None

-- a message, if there is one, brings a line to a cache
abbrev pub brings_line : Option Msg → Bool
brings_line taken = passes (λ msg. is_data (content msg)) taken

abbrev pub is_of_kind : Kind → ℕ × Msg → Bool
is_of_kind kind send = kind_number send.1.kind == kind_number kind

-- the messages of a kind
abbrev pub of_kind : Kind → List (ℕ × Msg) → ℕ
of_kind kind sends = weigh (λ send. digit (is_of_kind kind send)) sends

-- messages sent, by kind, and the hops of all of them
pub record Sent : Type 0 where
  pub rreq : ℕ
  pub wreq : ℕ
  pub repm : ℕ
  pub update : ℕ
  pub ackc : ℕ
  pub rdata : ℕ
  pub wdata : ℕ
  pub inv : ℕ
  pub busy : ℕ
  pub hops : ℕ

-- so many messages of each kind, and so many hops
abbrev pub by_kinds : (Kind → ℕ) → ℕ → Sent
by_kinds count hops = record {
  rreq = count kinds.RREQ;
  wreq = count kinds.WREQ;
  repm = count kinds.REPM;
  update = count kinds.UPDATE;
  ackc = count kinds.ACKC;
  rdata = count kinds.RDATA;
  wdata = count kinds.WDATA;
  inv = count kinds.INV;
  busy = count kinds.BUSY;
  hops = hops;
}

-- what a node sends, counted
abbrev pub sent_of : Parts → ℕ → List (ℕ × Msg) → Sent
sent_of parts from sends = by_kinds (λ kind. of_kind kind sends) (weigh (λ send. hops_between parts from send.0) sends)

-- counts with these messages more
abbrev pub with_sent : Sent → Counts → Counts
with_sent s c = record c {
  rreq = c.rreq + s.rreq;
  wreq = c.wreq + s.wreq;
  repm = c.repm + s.repm;
  update = c.update + s.update;
  ackc = c.ackc + s.ackc;
  rdata = c.rdata + s.rdata;
  wdata = c.wdata + s.wdata;
  inv = c.inv + s.inv;
  busy = c.busy + s.busy;
  hops = c.hops + s.hops;
}

-- counts with one event more that did this, its messages and its hold aside
abbrev pub with_did : Counts → Did → Counts
with_did c (Turn slot outcome) = record c { turns = c.turns + 1 }
with_did c (Missed slot) = record c { misses = c.misses + 1 }
with_did c Evicted = record c { evicts = c.evicts + 1 }
with_did c (Handled kind state) = record c { handlers = c.handlers + 1; spills = c.spills + digit (is_spill (Handled kind state)) }
with_did c Took = c
with_did c Packet = c

-- counts with one message of a kind more
abbrev pub with_kind : Counts → Kind → Counts
with_kind c kinds.RREQ = record c { rreq = c.rreq + 1 }
with_kind c kinds.WREQ = record c { wreq = c.wreq + 1 }
with_kind c kinds.REPM = record c { repm = c.repm + 1 }
with_kind c kinds.UPDATE = record c { update = c.update + 1 }
with_kind c kinds.ACKC = record c { ackc = c.ackc + 1 }
with_kind c kinds.RDATA = record c { rdata = c.rdata + 1 }
with_kind c kinds.WDATA = record c { wdata = c.wdata + 1 }
with_kind c kinds.INV = record c { inv = c.inv + 1 }
with_kind c kinds.BUSY = record c { busy = c.busy + 1 }

-- counts with more hops
abbrev pub with_hops : ℕ → Counts → Counts
with_hops hops c = record c { hops = c.hops + hops }

-- counts with a message more, by its kind and its way
abbrev pub with_send : Parts → ℕ → ℕ → Kind → Counts → Counts
with_send parts from to kind c = with_kind (with_hops (hops_between parts from to) c) kind

-- counts with an event more, but for what it sent
abbrev pub with_event : Moment → Bool → Counts → Counts
with_event moment used c = record c {
  entries = c.entries + 1;
  turns = c.turns + digit (is_turn moment.did);
  misses = c.misses + digit (is_miss moment.did);
  evicts = c.evicts + digit (is_eviction moment.did);
  handlers = c.handlers + digit (is_handling moment.did);
  spills = c.spills + digit (is_spill moment.did);
  replies = c.replies + digit (brings_line moment.taken);
  used = c.used + digit used;
}

-- the counts of an event, by what it did and what it sent
abbrev pub counts_by : Moment → Bool → Sent → Counts
counts_by moment used sent = record {
  entries = 1;
  turns = digit (is_turn moment.did);
  misses = digit (is_miss moment.did);
  evicts = digit (is_eviction moment.did);
  rreq = sent.rreq;
  wreq = sent.wreq;
  repm = sent.repm;
  update = sent.update;
  ackc = sent.ackc;
  rdata = sent.rdata;
  wdata = sent.wdata;
  inv = sent.inv;
  busy = sent.busy;
  hops = sent.hops;
  handlers = digit (is_handling moment.did);
  spills = digit (is_spill moment.did);
  replies = digit (brings_line moment.taken);
  used = digit used;
}

-- the counts of one event
abbrev pub counts_of_event : Parts → Moment → Bool → List (ℕ × Msg) → Counts
counts_of_event parts moment used sends = counts_by moment used (sent_of parts (node_of moment.entry.event) sends)

-- no number is above another
abbrev pub AreFew : ℕ → Sent → Type 0
AreFew most s = AllByRecursion (λ count. count ≤ most) (
    s.rreq ∷ s.wreq ∷ s.repm ∷ s.update ∷ s.ackc ∷ s.rdata ∷ s.wdata ∷ s.inv ∷ s.busy ∷ s.hops ∷ [])

-- no count is above a number
abbrev pub CountsAreAtMost : ℕ → Counts → Type 0
CountsAreAtMost most c = AllByRecursion (λ count. count ≤ most) (
    c.entries ∷ c.turns ∷ c.misses ∷ c.evicts ∷ c.rreq ∷ c.wreq ∷ c.repm ∷ c.update ∷ c.ackc ∷
    c.rdata ∷ c.wdata ∷ c.inv ∷ c.busy ∷ c.hops ∷ c.handlers ∷ c.spills ∷ c.replies ∷ c.used ∷ [])
