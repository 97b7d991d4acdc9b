-- An entry of a LimitLESS directory: a few pointers in hardware, the rest of P in software, and a meta state that says which messages trap (Chaiken, Kubiatowicz and Agarwal, ASPLOS 1991, sections 3 and 4).
use Rattle.std.specs.Prelude.{ℕ, Bool, true, false, cond, not, ◌&&◌, ◌||◌, ◌==◌, Option, Some, None}
use Rattle.alw_num.specs.declared.addresses.Line.{Line}
use Rattle.alw_num.specs.declared.states.State.{State}
use Rattle.alw_num.specs.declared.states.State.TheVariants.{RO, RW}
use Rattle.alw_num.specs.declared.states.Meta.{Meta}
use Rattle.alw_num.specs.declared.states.Meta.TheVariants.{Normal, Progress, TrapWrite, TrapAlways}
use Rattle.alw_num.specs.NodeSets.{Nodes, no_nodes, has_node, one_node, add_node, join_nodes, count_nodes}
use Rattle.alw_msg.specs.Contents.{ToMemory, RREQ, WREQ, REPM, ACKC}
use Rattle.alw_model.specs.declared.steps.Keeping.{Keeping}
use Rattle.alw_model.specs.declared.steps.Keeping.TheVariants.{Joined, Alone, Emptied, Kept}
use Rattle.alw_model.specs.FullMap.{Home, Sends, act, sole}

-- an entry: state, meta state, the hardware pointers H, the software set S, the counter, the line's bytes, and whether the image lists the line as Trap-Always
pub record Directory : Type 0 where
  pub state : State
  pub meta : Meta
  pub hardware : Nodes
  pub software : Nodes
  pub acks : ℕ
  pub body : Line
  pub always : Bool

-- the meta state of a line that isn't to be anything else, or Trap-Always where the image lists it
abbrev pub or_always : Bool → Meta → Meta
or_always always meta = cond always TrapAlways meta

-- the entry of a line at the start
abbrev pub directory_start : Line → Bool → Directory
directory_start body always = record { state = RO; meta = or_always always Normal; hardware = no_nodes; software = no_nodes; acks = 0; body = body; always = always }

-- the full-map entry that it stands for: P is H joined with S
abbrev pub full_map_of : Directory → Home
full_map_of d = record { state = d.state; pointers = join_nodes d.hardware d.software; acks = d.acks; body = d.body }

-- the entry as hardware sees it: P is H
abbrev pub hardware_of : Directory → Home
hardware_of d = record { state = d.state; pointers = d.hardware; acks = d.acks; body = d.body }

-- a read of node i finds no pointer left, where there are `most`: i isn't in H, and H is full
abbrev pub overflows : ℕ → Nodes → ℕ → State → ToMemory → Bool
overflows most hardware i RO RREQ = not (has_node hardware i) && (count_nodes hardware == most)
overflows most hardware i _ _ = false

-- WREQ, UPDATE and REPM
abbrev pub is_write : ToMemory → Bool
is_write RREQ = false
is_write ACKC = false
is_write _ = true

-- which messages trap in a meta state, where `overflow` says that this one is a read that finds no pointer left
abbrev pub traps_in : Meta → Bool → ToMemory → Bool
traps_in Normal overflow message = overflow
traps_in TrapWrite overflow message = overflow || is_write message
traps_in TrapAlways overflow message = true
traps_in Progress overflow message = false

-- a message of node i traps, where an entry has `most` hardware pointers
abbrev pub is_trapped : ℕ → Directory → ℕ → ToMemory → Bool
is_trapped most d i message = traps_in d.meta (overflows most d.hardware i d.state message) message

-- the line is Trans-In-Progress: a message to memory stays at the head of its link
abbrev pub is_in_progress : Meta → Bool
is_in_progress Progress = true
is_in_progress _ = false

-- hardware acts by the home table over H
abbrev pub hardware_act : Directory → ℕ → ToMemory → Directory × Sends
hardware_act d i message =
    let after = act (hardware_of d) i message in
    (record d { state = after.0.state; hardware = after.0.pointers; acks = after.0.acks; body = after.0.body }, after.1)

-- a trap: the line becomes Trans-In-Progress, and nothing else changes
abbrev pub trapped : Directory → Directory
trapped d = record d { meta = Progress }

-- RW, a request of i: P becomes {i} where another node owns the line
abbrev pub keeping_request : ℕ → Option ℕ → Keeping
keeping_request i None = Kept
keeping_request i (Some owner) = cond (i == owner) Kept Alone

-- RW, REPM of i: P becomes empty where i owns the line
abbrev pub keeping_return : ℕ → Option ℕ → Keeping
keeping_return i None = Kept
keeping_return i (Some owner) = cond (i == owner) Emptied Kept

-- what the home table does to P with a message of node i
abbrev pub keeping : Home → ℕ → State → ToMemory → Keeping
keeping h i RO RREQ = Joined
keeping h i RO WREQ = Alone
keeping h i RW RREQ = keeping_request i (sole h.pointers)
keeping h i RW WREQ = keeping_request i (sole h.pointers)
keeping h i RW (REPM body) = keeping_return i (sole h.pointers)
keeping h i _ _ = Kept

-- the meta state by the software set: Normal where that is empty
abbrev pub meta_of : Nodes → Meta
meta_of software = cond (count_nodes software == 0) Normal TrapWrite

-- H, S and the meta state that the handler leaves, by the four rules of this project
abbrev pub kept : Nodes → Nodes → ℕ → Keeping → Nodes × Nodes × Meta
kept hardware software i Joined = (no_nodes, add_node (join_nodes hardware software) i, TrapWrite)
kept hardware software i Alone = (one_node i, no_nodes, Normal)
kept hardware software i Emptied = (no_nodes, no_nodes, Normal)
kept hardware software i Kept = (hardware, software, meta_of software)

-- the handler's entry, from what the home table and the rules give
abbrev pub handled : Directory → Home → Nodes × Nodes × Meta → Directory
handled d after rule = record { state = after.state; meta = or_always d.always rule.2; hardware = rule.0; software = rule.1; acks = after.acks; body = after.body; always = d.always }

-- the handler acts by the home table with P = H joined with S
abbrev pub handle : Directory → ℕ → ToMemory → Directory × Sends
handle d i message =
    let home = full_map_of d in
    let after = act home i message in
    (handled d after.0 (kept d.hardware d.software i (keeping home i home.state message)), after.1)
