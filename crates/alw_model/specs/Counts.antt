-- What the report counts in a run, and what it lists of memory and directory at its end.
use Rattle.std.specs.Prelude.{ℕ, ◌+◌, ◌-◌, ◌*◌, Bool, true, false, cond, not, ◌==◌, List, [], ◌∷◌, length, map, filter, flat_map, is_some}
use Rattle.std.specs.List.{range_with_len}
use Rattle.alw_num.specs.Lanes.{lane_of}
use Rattle.alw_num.specs.Weights.{digit, weigh}
use Rattle.alw_num.specs.Limits.{shared_base}
use Rattle.alw_num.specs.declared.addresses.Line.{Line}
use Rattle.alw_num.specs.declared.addresses.Width.TheVariants.{Word}
use Rattle.alw_num.specs.declared.states.State.{State}
use Rattle.alw_num.specs.declared.states.State.TheVariants.{RO}
use Rattle.alw_num.specs.declared.states.Meta.{Meta}
use Rattle.alw_num.specs.NodeSets.{Nodes, members, count_nodes}
use Rattle.alw_msg.specs.declared.messages.Kind.{Kind}
use Rattle.alw_msg.specs.declared.messages.Kind.TheVariants as kinds
use Rattle.alw_msg.specs.Kinds.{kind_number}
use Rattle.alw_msg.specs.Contents.{Content, ForMemory, ForCache, content, brings_line}
use Rattle.alw_image.specs.declared.parts.Parts.{Parts}
use Rattle.alw_image.specs.Images.{line_count, hops_between}
use Rattle.alw_image.specs.Parameters.{Parameters}
use Rattle.alw_model.specs.declared.steps.Counts.{Counts}
use Rattle.alw_model.specs.declared.steps.Did.{Did}
use Rattle.alw_model.specs.declared.steps.Did.TheVariants.{Turn, Missed, Handled, Evicted}
use Rattle.alw_num.specs.Maps.{passes}
use Rattle.alw_model.specs.LimitLess.{Directory, full_map_of}
use Rattle.alw_model.specs.Contexts.{slot_at}
use Rattle.alw_model.specs.NodeStates.{NodeState}
use Rattle.alw_model.specs.Machine.{MachineState}
use Rattle.alw_model.specs.Lines.{entry_of, current_value}
use Rattle.alw_model.specs.Runs.{Moment, number_of}

-- ---- counts

-- the event was a turn, a miss, an eviction, an action of the handler, or one on an RREQ for a line in Read-Only
abbrev pub is_turn : Did → Bool
is_turn (Turn slot outcome) = true
is_turn _ = false

abbrev pub is_miss : Did → Bool
is_miss (Missed slot) = true
is_miss _ = false

abbrev pub is_eviction : Did → Bool
is_eviction Evicted = true
is_eviction _ = false

abbrev pub is_handling : Did → Bool
is_handling (Handled kind state) = true
is_handling _ = false

abbrev pub is_spill : Did → Bool
is_spill (Handled kinds.RREQ RO) = true
is_spill _ = false

-- the event was a turn that ended a hold
abbrev pub uses_hold : NodeState → Did → Bool
uses_hold before (Turn slot outcome) = is_some (slot_at before.slots slot).hold
uses_hold before _ = false

-- the message brings a line to a cache: RDATA or WDATA
abbrev pub is_data : Content → Bool
is_data (ForCache said) = brings_line said
is_data (ForMemory said) = false

-- events that pass a test of what they did
abbrev pub count_did : (Did → Bool) → List Moment → ℕ
count_did test run = weigh (λ moment. digit (test moment.stepped.did)) run

-- messages sent, of a kind
abbrev pub count_sent : Kind → List Moment → ℕ
count_sent kind run = weigh (λ moment. weigh (λ send. digit (kind_number send.1.kind == kind_number kind)) moment.stepped.sends) run

-- all counts of a run
abbrev pub counts_of : Parts → List Moment → Counts
counts_of parts run = record {
  entries = length run;
  turns = count_did is_turn run;
  misses = count_did is_miss run;
  evicts = count_did is_eviction run;
  rreq = count_sent kinds.RREQ run;
  wreq = count_sent kinds.WREQ run;
  repm = count_sent kinds.REPM run;
  update = count_sent kinds.UPDATE run;
  ackc = count_sent kinds.ACKC run;
  rdata = count_sent kinds.RDATA run;
  wdata = count_sent kinds.WDATA run;
  inv = count_sent kinds.INV run;
  busy = count_sent kinds.BUSY run;
  hops = weigh (λ moment. weigh (λ send. hops_between parts (number_of moment) send.0) moment.stepped.sends) run;
  handlers = count_did is_handling run;
  spills = count_did is_spill run;
  replies = weigh (λ moment. digit (passes (λ msg. is_data (content msg)) moment.taken)) run;
  used = weigh (λ moment. digit (uses_hold moment.before moment.stepped.did)) run;
}

-- slots with a hold
abbrev pub count_holds : MachineState → ℕ
count_holds machine = weigh (λ node. weigh (λ slot. digit (is_some slot.hold)) node.slots) machine.nodes

-- ---- memory and directory

-- the words of a line that aren't 0, each with its address
abbrev pub words_of : ℕ → Line → List (ℕ × ℕ)
words_of line body = filter (λ (word : ℕ × ℕ). not (word.1 == 0)) (map (λ offset. (shared_base + 16 * line + offset, lane_of body offset Word)) (0 ∷ 4 ∷ 8 ∷ 12 ∷ []))

-- the words that aren't 0 of so many lines with these values, each with its address, ascending
abbrev pub listed_words : (ℕ → Line) → ℕ → List (ℕ × ℕ)
listed_words value lines = flat_map (λ line. words_of line (value line)) (range_with_len 0 lines)

-- the words of shared data whose current value isn't 0
abbrev pub memory_words : Parts → Parameters → MachineState → List (ℕ × ℕ)
memory_words parts parameters machine = listed_words (current_value parts parameters machine) (line_count parts)

-- what the report says of an entry: line, state, meta state, H and S as ascending lists, and the counter
pub record DirectoryLine : Type 0 where
  pub line : ℕ
  pub state : State
  pub meta : Meta
  pub hardware : List ℕ
  pub software : List ℕ
  pub acks : ℕ

-- an entry is listed where it isn't Read-Only or P isn't empty
abbrev pub is_listed : State → Nodes → Bool
is_listed RO pointers = not (count_nodes pointers == 0)
is_listed _ pointers = true

abbrev pub directory_line : ℕ → Directory → List DirectoryLine
directory_line line entry = cond (is_listed entry.state (full_map_of entry).pointers) (record { line = line; state = entry.state; meta = entry.meta; hardware = members entry.hardware; software = members entry.software; acks = entry.acks } ∷ []) []

-- the listed entries, by line
abbrev pub directory_lines : Parts → MachineState → List DirectoryLine
directory_lines parts machine = flat_map (λ line. directory_line line (entry_of parts machine line)) (range_with_len 0 (line_count parts))
