-- Words that the worked runs share: entries as a trace writes them, and what a closed run computes with.
use Rattle.std.specs.Prelude.{ℕ, Bool, ◌&&◌, List, [], ◌∷◌, ◌++◌, map, filter, flat_map, bytes_eq, ◌==◌}
use Rattle.std.specs.List.{range_with_len}
use Rattle.alw_image.specs.Images.{node_count}
use Rattle.alw_model.specs.Threads.{Logged, Logs, merged}
use Rattle.alw_num.specs.NodeSets.{node_sets}
use Rattle.sparc_table.specs.Table.{instr_of}
use Rattle.sparc_table.specs.Arithmetic.{arithmetic, computed, shifted}
use Rattle.sparc_table.specs.Control.{holds}
use Rattle.sparc_table.specs.Access.{loaded, stored}
use Rattle.sparc_table.specs.Meaning.{need, effect}
use Rattle.sparc_table.specs.Turns.{fetched, need_of, turn_of}
use Rattle.alw_msg.specs.declared.events.Event.{Event}
use Rattle.alw_msg.specs.declared.events.Event.TheVariants.{Instr, Handle, Deliver, Evict}
use Rattle.alw_msg.specs.declared.events.Entry.{Entry}
use Rattle.alw_image.specs.Parameters.{Parameters}
use Rattle.alw_num.specs.Maps.{empty_map, value_at, with_value, without_value}
use Rattle.alw_msg.specs.declared.contexts.Status.{Status}
use Rattle.alw_msg.specs.declared.contexts.Status.TheVariants.{Ready, Waiting, Halted, Trapped}
use Rattle.alw_num.specs.declared.addresses.Line.{Line}
use Rattle.alw_msg.specs.declared.messages.Kind.{Kind}
use Rattle.alw_msg.specs.declared.messages.Msg.{Msg}
use Rattle.alw_image.specs.declared.parts.Parts.{Parts}
use Rattle.alw_num.specs.declared.addresses.NodeNo.{NodeNo}
use Rattle.alw_model.specs.declared.steps.Did.{Did}
use Rattle.alw_model.specs.LimitLess.{Directory}
use Rattle.alw_model.specs.NodeStates.{home_at}
use Rattle.alw_model.specs.Machine.{node_at, is_enabled, state, is_legal}
use Rattle.alw_model.specs.Flat.{Context, Flat, flat_after, flat_prints, are_ready}
use Rattle.alw_model.specs.Runs.{Moment, number_of, moments, turns_of, prints_of, flat_view}
pub mod OneNode
pub mod TwoNodes
pub mod ThreeNodes
pub mod Recorded

-- an instruction of a node
abbrev pub I : ℕ → ℕ → Entry
I stamp node = record { stamp = stamp; event = Instr (record { 0 = node }) }

-- an action of a node's handler
abbrev pub H : ℕ → ℕ → Entry
H stamp node = record { stamp = stamp; event = Handle (record { 0 = node }) }

-- a delivery from a node to a node
abbrev pub D : ℕ → ℕ → ℕ → Entry
D stamp from to = record { stamp = stamp; event = Deliver (record { 0 = from }) (record { 0 = to }) }

-- an eviction from a node's set
abbrev pub E : ℕ → ℕ → ℕ → Entry
E stamp node set = record { stamp = stamp; event = Evict (record { 0 = node }) set }

-- the parameters where a run says nothing else
abbrev pub defaults : Parameters
defaults = record { pointers = 4; sets = 256; limit = 32768; evict = 0 }

-- an image without first data or Trap-Always lines, with one row of nodes: columns, contexts of a node, lines of a node, code, starts
abbrev pub row_of : ℕ → ℕ → ℕ → List ℕ → List (NodeNo × ℕ × ℕ) → Parts
row_of width contexts per_node code starts = record { width = width; height = 1; contexts = contexts; per_node = per_node; code = code; bodies = []; starts = starts; always = [] }

-- a start: node, slot and address
abbrev pub at : ℕ → ℕ → ℕ → NodeNo × ℕ × ℕ
at node slot address = (record { 0 = node }, slot, address)

-- what each entry did
abbrev pub dids : Parts → Parameters → List Entry → List Did
dids parts parameters journal = map (λ moment. moment.stepped.did) (moments parts parameters journal)

-- a message sent: its destination, its kind, and the first word that it carries
abbrev pub shown : ℕ × Msg → ℕ × Kind × ℕ
shown send = (send.0, send.1.kind, send.1.body.a)

-- what each entry sent
abbrev pub sent : Parts → Parameters → List Entry → List (List (ℕ × Kind × ℕ))
sent parts parameters journal = map (λ moment. map shown moment.stepped.sends) (moments parts parameters journal)

-- an event is enabled after a journal
abbrev pub is_enabled_after : Parts → Parameters → List Entry → Event → Bool
is_enabled_after parts parameters journal event = is_enabled parts parameters (state parts parameters journal) event

-- the entry of line 0 after a journal
abbrev pub entry_after : Parts → Parameters → List Entry → Directory
entry_after parts parameters journal = home_at parts (node_at (state parts parameters journal) 0) 0

-- a status as numbers
abbrev pub status_numbers : Status → List ℕ
status_numbers Ready = 0 ∷ []
status_numbers (Waiting line) = 1 ∷ line.0 ∷ []
status_numbers Halted = 2 ∷ []
status_numbers (Trapped pc tt) = 3 ∷ pc ∷ tt ∷ []

-- a context and a line as numbers
abbrev pub context_numbers : Context → List ℕ
context_numbers context = status_numbers context.status ++ (context.regs.pc ∷ context.regs.npc ∷ context.regs.y ∷ context.regs.r)

abbrev pub line_numbers : Line → List ℕ
line_numbers body = body.a ∷ body.b ∷ body.c ∷ body.d ∷ []

-- a flat machine as numbers
abbrev pub flat_numbers : Flat → List ℕ
flat_numbers flat = flat_map line_numbers flat.memory ++ flat_map context_numbers flat.contexts

-- after a journal the machine is what the flat machine is after the journal's turns, each of which is of a context that is Ready, and both print the same
abbrev pub is_flat : Parts → Parameters → List Entry → Bool
is_flat parts parameters journal =
    let turns = turns_of parts parameters journal in
    are_ready parts turns
    && (bytes_eq (flat_numbers (flat_view parts parameters (state parts parameters journal))) (flat_numbers (flat_after parts turns))
    && bytes_eq (flat_map (λ (print : ℕ × ℕ). print.0 ∷ print.1 ∷ []) (prints_of parts parameters journal)) (flat_map (λ (print : ℕ × ℕ). print.0 ∷ print.1 ∷ []) (flat_prints parts turns)))

-- the log of a node, of the entries of a run
abbrev pub log_in : ℕ → List Moment → List Logged
log_in number run = map (λ moment. record { entry = moment.entry; taken = moment.taken; sent = moment.stepped.sends }) (filter (λ moment. number_of moment == number) run)

-- the logs of all nodes, of a journal
abbrev pub logs_of : Parts → Parameters → List Entry → Logs
logs_of parts parameters journal = map (λ number. log_in number (moments parts parameters journal)) (range_with_len 0 (node_count parts))

-- To unfold this is to unfold all that a closed run computes with.
unfoldable pub closed_runs : Unit {0}
unfolding node_sets instr_of arithmetic computed shifted holds loaded stored need effect fetched need_of turn_of empty_map value_at with_value without_value state is_legal flat_after flat_prints are_ready moments merged
closed_runs = tt
