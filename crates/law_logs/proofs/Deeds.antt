-- What a log tells of an event has no LF, so that the line of an event is one line.
use Rattle.std.proofs.Common.{ℕ, Bool, true, Option, Some, None, List, [], ◌∷◌, codes, refl}
use Rattle.std.specs.List.{range_with_len}
use Rattle.alw_num.specs.declared.states.Mode.{Mode}
use Rattle.alw_num.specs.declared.states.State.{State}
use Rattle.alw_num.specs.declared.states.State.TheVariants.{RO, RW, RT, WT}
use Rattle.alw_num.specs.declared.states.Meta.{Meta}
use Rattle.alw_num.specs.declared.states.Meta.TheVariants.{Normal, Progress, TrapWrite, TrapAlways}
use Rattle.alw_num.specs.Maps.{value_at}
use Rattle.alw_num.specs.NodeSets.{members}
use Rattle.alw_text.specs.Pieces.{next_node, nodes_text}
use Rattle.alw_msg.specs.declared.messages.Kind.{Kind}
use Rattle.alw_msg.specs.declared.messages.Kind.TheVariants as kinds
use Rattle.alw_msg.specs.declared.messages.Msg.{Msg}
use Rattle.alw_msg.specs.declared.contexts.Status.{Status}
use Rattle.alw_msg.specs.declared.events.Event.{Event}
use Rattle.alw_msg.specs.declared.events.Event.TheVariants.{Instr, Handle, Deliver, Evict}
use Rattle.alw_msg.specs.declared.events.Entry.{Entry}
use Rattle.alw_msg.specs.Contents.{Content, ForMemory, ForCache, content, is_reply, brings_line}
use Rattle.alw_msg.specs.Statuses.{waits_on}
use Rattle.alw_msg.specs.Lists.{front}
use Rattle.alw_image.specs.declared.parts.Parts.{Parts}
use Rattle.alw_image.specs.Parameters.{Parameters}
use Rattle.alw_model.specs.declared.steps.Did.{Did}
use Rattle.alw_model.specs.Caches.{Copy, copy_at, replaced}
use Rattle.alw_model.specs.Contexts.{slot_at}
use Rattle.alw_model.specs.Counts.{is_spill}
use Rattle.alw_model.specs.LimitLess.{Directory}
use Rattle.alw_model.specs.Lines.{entry_of}
use Rattle.alw_model.specs.NodeStates.{NodeState}
use Rattle.alw_model.specs.NodeSteps.{Stepped}
use Rattle.alw_model.specs.Machine.{MachineState, node_at, taken_by, stepped_by, step}
use Rattle.alw_report.specs.Names.{kind_text}
use Rattle.alw_report.specs.Reports.{state_text, meta_text, pointers_text}
use Rattle.alw_trace.specs.Texts.{event_text}
use Rattle.alw_log.specs.Pieces.{states_text, entry_text, copy_text, owned_text, replaced_text, about_text, send_text}
use Rattle.alw_log.specs.Events.{change_text, change_of, is_packet, opener_ended, waking_by, waking_text, woken_text, given_text, left_by, copies_text, cache_text, content_text, delivery_text, handler_text, eviction_text}
use Rattle.alw_log.specs.Entries.{deed_text, line_by, event_line}
use Rattle.law_logs.proofs.Lines.{IsUnbroken, plain, beside, fronted, either, unbroken_each, number, IsLine, before, feed}
use Rattle.law_logs.proofs.Turns.{mode_is, instr_whole}

-- ---- an entry of the directory

state_is : (state : State) → IsUnbroken (state_text state)
state_is RO = plain (codes "RO") refl
state_is RW = plain (codes "RW") refl
state_is RT = plain (codes "RT") refl
state_is WT = plain (codes "WT") refl

meta_is : (meta : Meta) → IsUnbroken (meta_text meta)
meta_is Normal = plain (codes "normal") refl
meta_is Progress = plain (codes "progress") refl
meta_is TrapWrite = plain (codes "trap-write") refl
meta_is TrapAlways = plain (codes "trap-always") refl

nodes_are : (nodes : List ℕ) → IsUnbroken (nodes_text nodes)
nodes_are [] = plain (codes "-") refl
nodes_are (first ∷ rest) = beside (number first) (unbroken_each next_node (λ node. fronted (codes ",") refl (number node)) rest)

pointers : (hardware software : List ℕ) (acks : ℕ) → IsUnbroken (pointers_text hardware software acks)
unfolding pointers_text
pointers hardware software acks =
    fronted (codes " hw ") refl (beside (nodes_are hardware)
    (fronted (codes " sw ") refl (beside (nodes_are software) (fronted (codes " acks ") refl (number acks)))))

states_are : (d : Directory) → IsUnbroken (states_text d)
unfolding states_text
states_are d = beside (state_is d.state) (fronted (codes " ") refl (meta_is d.meta))

entry_is : (d : Directory) → IsUnbroken (entry_text d)
entry_is d = beside (states_are d) (pointers (members d.hardware) (members d.software) d.acks)

change : (before after : Directory) → IsUnbroken (change_text before after)
change before after = fronted (codes " before ") refl (beside (entry_is before) (fronted (codes " after ") refl (entry_is after)))

-- ---- copies and messages

copy_is : (copy : Option Copy) → IsUnbroken (copy_text copy)
copy_is None = plain (codes "none") refl
copy_is (Some copy) = mode_is copy.mode

owned : (line : ℕ) (mode : Mode) → IsUnbroken (owned_text line mode)
owned line mode = beside (number line) (fronted (codes " ") refl (mode_is mode))

replaces : (copy : Option Copy) → IsUnbroken (replaced_text copy)
replaces None = plain [] refl
replaces (Some copy) = fronted (codes " replaces ") refl (owned copy.line copy.mode)

kind_is : (kind : Kind) → IsUnbroken (kind_text kind)
kind_is kinds.RREQ = plain (codes "RREQ") refl
kind_is kinds.WREQ = plain (codes "WREQ") refl
kind_is kinds.REPM = plain (codes "REPM") refl
kind_is kinds.UPDATE = plain (codes "UPDATE") refl
kind_is kinds.ACKC = plain (codes "ACKC") refl
kind_is kinds.RDATA = plain (codes "RDATA") refl
kind_is kinds.WDATA = plain (codes "WDATA") refl
kind_is kinds.INV = plain (codes "INV") refl
kind_is kinds.BUSY = plain (codes "BUSY") refl

about : (msg : Msg) → IsUnbroken (about_text msg)
about msg = fronted (codes " ") refl (beside (kind_is msg.kind) (fronted (codes " ") refl (number msg.line.0)))

send_is : (send : ℕ × Msg) → IsUnbroken (send_text send)
unfolding send_text
send_is send = fronted (codes " sends") refl (beside (about send.1) (fronted (codes " ") refl (number send.0)))

-- ---- a message to a cache

wakes : (line : ℕ) (status : Status) (slot : ℕ) → IsUnbroken (waking_by line status slot)
wakes line status slot = either (waits_on line status) (fronted (codes " wakes ") refl (number slot)) (plain [] refl)

woken : (contexts : ℕ) (node : NodeState) (line : ℕ) (opener : Option ℕ) → IsUnbroken (woken_text contexts node line opener)
woken contexts node line None = plain [] refl
woken contexts node line (Some opener) =
    unbroken_each (waking_text node line) (λ slot. wakes line (slot_at node.slots slot).status slot) (range_with_len 0 contexts)

given : (brings : Bool) (opener : Option ℕ) → IsUnbroken (given_text brings opener)
given true (Some opener) = fronted (codes " holds ") refl (number opener)
given _ _ = plain [] refl

copies : (before after : Option Copy) → IsUnbroken (copies_text before after)
copies before after = fronted (codes " copy ") refl (beside (copy_is before) (fronted (codes " ") refl (copy_is after)))

cache_whole : (image : Parts) (parameters : Parameters) (before after : NodeState) (line : ℕ) (ends brings : Bool)
    → IsUnbroken (cache_text image parameters before after line ends brings)
cache_whole image parameters before after line ends brings =
    let opener = opener_ended before.transactions line ends in
    beside
    (beside (woken image.contexts before line opener)
    (beside (given brings opener) (replaces (left_by brings (replaced parameters.sets before.cache line)))))
    (copies (copy_at parameters.sets before.cache line) (copy_at parameters.sets after.cache line))

-- ---- an event

module _ (image : Parts) (parameters : Parameters) (old new : MachineState) (did : Did) where
  changed : (line : ℕ) → IsUnbroken (change_of image old new line)
  changed line = change (entry_of image old line) (entry_of image new line)

  says : (to line : ℕ) (said : Content) → IsUnbroken (content_text image parameters old new to line did said)
  says to line (ForMemory said) = either (is_packet did) (plain (codes " traps") refl) (changed line)
  says to line (ForCache said) = cache_whole image parameters (node_at old to) (node_at new to) line (is_reply said) (brings_line said)

  delivers : (to : ℕ) (msg : Option Msg) → IsUnbroken (delivery_text image parameters old new to did msg)
  delivers to None = plain [] refl
  delivers to (Some msg) = beside (about msg) (says to msg.line.0 (content msg))

  handles : (msg : Option Msg) → IsUnbroken (handler_text image old new did msg)
  handles None = plain [] refl
  handles (Some msg) =
      beside (beside (about msg) (fronted (codes " ") refl (number msg.src.0)))
      (beside (changed msg.line.0) (either (is_spill did) (plain (codes " spill") refl) (plain [] refl)))

  evicts : (copy : Option Copy) → IsUnbroken (eviction_text copy)
  evicts None = plain [] refl
  evicts (Some copy) = fronted (codes " ") refl (owned copy.line copy.mode)

  deed_is : (event : Event) → IsUnbroken (deed_text image parameters old new did event)
  deed_is (Instr at) = instr_whole image parameters (node_at old at.0) (node_at new at.0) did
  deed_is (Handle at) = handles (front (node_at old at.0).packets)
  deed_is (Deliver from to) = delivers to.0 (taken_by image old (Deliver from to))
  deed_is (Evict at set) = evicts (value_at (node_at old at.0).cache set)

-- ---- a line

event_is : (event : Event) → IsUnbroken (event_text event)
event_is (Instr node) = fronted (codes " I ") refl (number node.0)
event_is (Handle node) = fronted (codes " H ") refl (number node.0)
event_is (Deliver from to) = fronted (codes " D ") refl (beside (number from.0) (fronted (codes " ") refl (number to.0)))
event_is (Evict node set) = fronted (codes " E ") refl (beside (number node.0) (fronted (codes " ") refl (number set)))

line_is : (image : Parts) (parameters : Parameters) (machine : MachineState) (entry : Entry) (stepped : Stepped)
    → IsLine (line_by image parameters machine entry stepped)
line_is image parameters machine entry stepped =
    before (number entry.stamp) (before (event_is entry.event)
    (before (deed_is image parameters machine (step image parameters machine entry.event) stepped.did entry.event)
    (before (unbroken_each send_text send_is stepped.sends) feed)))

-- the line of an event is one line
pub event_whole : (image : Parts) (parameters : Parameters) (machine : MachineState) (entry : Entry) → IsLine (event_line image parameters machine entry)
unfolding event_line
event_whole image parameters machine entry = line_is image parameters machine entry (stepped_by image parameters machine entry.event)
