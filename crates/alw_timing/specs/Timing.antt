-- A replayed journal with its times.
use Rattle.std.specs.Prelude.{◌≡◌, ℕ, ◌*◌, ◌^◌, Bool, true, false, Option, None, Some, IfSome, is_some, List, [], ◌∷◌, length, map}
use Rattle.std.specs.List.{range_with_len}
use Rattle.alw_msg.specs.Statuses.{is_ready}
use Rattle.alw_msg.specs.declared.events.Event.{Event}
use Rattle.alw_msg.specs.declared.events.Event.TheVariants.{Instr, Deliver}
use Rattle.alw_msg.specs.Events.{node_of}
use Rattle.alw_image.specs.Images.{line_count}
use Rattle.sparc_table.specs.Turns.{need_of}
use Rattle.alw_model.specs.Contexts.{Slot, slot_at, running}
use Rattle.alw_model.specs.Machine.{IsLegal}
use Rattle.alw_mesh.specs.Histories.{History}
use Rattle.alw_mesh.specs.Readings.{node_in}
use Rattle.alw_times.specs.declared.costs.Costs.{Costs}
use Rattle.alw_times.specs.Happening.{becomes_ready}
use Rattle.alw_times.specs.Times.{Times, arrival_of, times_of}
use Rattle.alw_times.specs.Within.{TimesAreWithin}
use Rattle.alw_waits.specs.declared.misses.Access.{Access}
use Rattle.alw_waits.specs.Waits.{access_in, waits_of, spans_of}
use Rattle.alw_timing.specs.declared.looks.Look.{Look}
use Rattle.alw_timing.specs.declared.timing.RunTimes.{RunTimes}
use Rattle.alw_timing.specs.declared.timing.Tells.{Tells}
use Rattle.alw_timing.specs.declared.timing.Tells.TheVariants.{Waits, Spans}
use Rattle.alw_timing.specs.declared.timing.Timekeeper.{Timekeeper}

-- what is told beside the clocks
abbrev pub has_waits : Tells → Bool
has_waits Waits = true
has_waits _ = false

abbrev pub has_spans : Tells → Bool
has_spans Spans = true
has_spans _ = false

-- times are those of a machine's journal by some costs: the clocks, and what is told beside them
pub record TimesAreOf (costs : Costs) (h : History) (times : RunTimes) : Type 0 where
  pub clocks : times.clocks ≡ times_of h.image h.parameters costs h.journal
  pub waits : IfSome times.waits (λ waits. waits ≡ waits_of h.image h.parameters costs h.journal)
  pub spans : IfSome times.spans (λ spans. spans.items ≡ spans_of h.image h.parameters costs h.journal)

-- A keeper was one thing at a run's start, and is another now: the times of the machine's legal journal so far are kept by the costs at the start, what was told is
-- told, and no time is above 2^33 for each entry.
pub record TimesAreKept (start : Timekeeper) (h : History) (now : Timekeeper) : Type 0 where
  pub costs_are : now.costs ≡ start.costs
  pub are : TimesAreOf start.costs h now.times
  pub waits_stay : is_some now.times.waits ≡ is_some start.times.waits
  pub spans_stay : is_some now.times.spans ≡ is_some start.times.spans
  pub within : TimesAreWithin (length h.journal * 2 ^ 33) now.times.clocks
  pub legal : IsLegal h.image h.parameters h.journal

-- ---- for private clauses

-- flags of four slots: which are Ready, and none where there is no slot
abbrev pub is_ready_at : List Slot → ℕ → Bool
is_ready_at slots slot = is_ready (slot_at slots slot).status

abbrev pub ready_in : List Slot → List Bool
ready_in slots = map (is_ready_at slots) (range_with_len 0 4)

-- which became Ready
abbrev pub woken_in : List Slot → List Slot → List Bool
woken_in before after = map (becomes_ready before after) (range_with_len 0 4)

-- flags for a delivery; another event sets none
abbrev pub for_delivery : Event → List Bool → List Bool
for_delivery (Deliver from to) flags = flags
for_delivery _ flags = false ∷ false ∷ false ∷ false ∷ []

-- of a delivery, flags say which slots became Ready since others said which were
abbrev pub AreWoken : Event → List Bool → List Slot → List Bool → Type 0
AreWoken event ready slots flags = (before : List Slot) → ready ≡ for_delivery event (ready_in before) → flags ≡ for_delivery event (woken_in before slots)

-- the access that the instruction of a slot asks for
abbrev pub asked_at : History → ℕ → ℕ → Option Access
asked_at h node slot = access_in (need_of h.image.code (slot_at (node_in h node).slots slot).regs (line_count h.image))

abbrev pub asked_of : History → Option ℕ → Event → Option Access
asked_of h (Some slot) (Instr at) = asked_at h at.0 slot
asked_of h _ _ = None

-- what times look at before an event of a machine happens; the last two where waits are told
pub record IsLookAt (h : History) (times : Times) (event : Event) (told : Bool) (look : Look) : Type 0 where
  pub slot : look.slot ≡ running (node_in h (node_of event)).slots (node_in h (node_of event)).current
  pub last : look.last ≡ (node_in h (node_of event)).current
  pub ready : look.ready ≡ for_delivery event (ready_in (node_in h (node_of event)).slots)
  pub asked : told ≡ true → look.asked ≡ asked_of h look.slot event
  pub arrival : told ≡ true → look.arrival ≡ arrival_of h.image times event
