-- One event of a node's processor side: an instruction, a message to the cache, or an eviction.
use Rattle.std.specs.Prelude.{◌≡◌, ℕ, Bool, true, false, Option, Some, None, List, [], ◌∷◌}
use Rattle.alw_num.specs.declared.addresses.Line.{Line}
use Rattle.alw_num.specs.declared.states.Mode.{Mode}
use Rattle.alw_num.specs.declared.states.Mode.TheVariants.{Read, Write}
use Rattle.alw_num.specs.Maps.{with_value, value_at}
use Rattle.sparc_table.specs.Turns.{need_of, turn_of}
use Rattle.sparc_table.specs.declared.registers.Regs.{Regs}
use Rattle.sparc_table.specs.declared.outcomes.Need.{Need}
use Rattle.sparc_table.specs.declared.outcomes.Need.TheVariants as needs
use Rattle.sparc_table.specs.declared.outcomes.Outcome.{Outcome}
use Rattle.sparc_table.specs.declared.outcomes.Outcome.TheVariants.{Halt, Trap}
use Rattle.alw_msg.specs.declared.messages.Msg.{Msg}
use Rattle.alw_msg.specs.declared.contexts.Status.{Status}
use Rattle.alw_msg.specs.declared.contexts.Status.TheVariants.{Ready, Waiting, Halted, Trapped}
use Rattle.alw_msg.specs.Contents.{ToCache, Content, ForMemory, ForCache, brings_line}
use Rattle.alw_msg.specs.Sending.{Sending, with_messages}
use Rattle.alw_image.specs.Images.{zero_line}
use Rattle.alw_model.specs.declared.steps.Did.{Did}
use Rattle.alw_model.specs.declared.steps.Did.TheVariants.{Turn, Missed, Took, Evicted}
use Rattle.alw_model.specs.Caches.{Copy, Cache, Transaction, Transactions, Requests, set_of, granted_copy, request, evict, react, ended_by, transactions_after}
use Rattle.alw_model.specs.Contexts.{Slot, slot_at, ran, wake, give_hold}
use Rattle.alw_model.specs.Messages.{homeward}
use Rattle.alw_model.specs.Sides.{Processor, lines_of}

-- what an event changes of a processor side, the messages sent, each with its destination, and what the event did
pub record ProcessorStep : Type 0 where
  pub slots : List Slot
  pub current : ℕ
  pub cache : Cache
  pub transactions : Transactions
  pub sends : List (ℕ × Msg)
  pub did : Did

-- the processor side after a step
abbrev pub processor_after : Processor → ProcessorStep → Processor
processor_after p step = record p { slots = step.slots; current = step.current; cache = step.cache; transactions = step.transactions }

-- what an event has left of a processor side and of the list of its sends, and what it did, are this step's
pub record IsProcessorStep (before after : Processor) (sent sent' : Sending) (did : Did) (step : ProcessorStep) : Type 0 where
  pub side : after ≡ processor_after before step
  pub sends : sent' ≡ with_messages sent step.sends
  pub outcome : did ≡ step.did

-- nothing happens
abbrev pub idle : Processor → ProcessorStep
idle p = record { slots = p.slots; current = p.current; cache = p.cache; transactions = p.transactions; sends = []; did = Took }

-- ---- an instruction

-- a context after a turn
abbrev pub status_after : Regs → Outcome → Status
status_after regs Halt = Halted
status_after regs (Trap tt) = Trapped regs.pc tt
status_after regs _ = Ready

-- a turn of a slot, which leaves these registers, this outcome and this cache
abbrev pub take_turn : Processor → ℕ → Cache → Regs → Outcome → ProcessorStep
take_turn p slot cache regs outcome =
    record {
      slots = ran p.slots slot regs
          (status_after regs outcome);
      current = slot;
      cache = cache;
      transactions = p.transactions;
      sends = [];
      did = Turn slot outcome;
    }

-- the copy with the line's new value, where the access was in Write mode
abbrev pub written : ℕ → Cache → Copy → Mode → Line → Cache
written sets cache copy Read body = cache
written sets cache copy Write body = with_value cache (set_of sets copy.line) (record copy { body = body })

-- a miss on a line opens a transaction in the name of the slot and sends a request, unless there is one on the line
abbrev pub opened : Transactions → ℕ → Mode → ℕ → Option Transaction → Transactions × Requests
opened transactions line mode slot None = (with_value transactions line (record { mode = mode; opener = slot }), (line, request mode) ∷ [])
opened transactions line mode slot (Some transaction) = (transactions, [])

-- a miss of a slot: it waits on the line, and its registers stay
abbrev pub miss : ℕ → Processor → ℕ → ℕ → Mode → ProcessorStep
miss stamp p slot line mode =
    let after = opened p.transactions line mode slot (value_at p.transactions line) in
    record {
      slots = ran p.slots slot (slot_at p.slots slot).regs (Waiting (record { 0 = line }));
      current = slot;
      cache = p.cache;
      transactions = after.0;
      sends = homeward p.per_node p.number stamp after.1;
      did = Missed slot;
    }

-- an access to a line by the copy that grants it: without one it misses
abbrev pub access : List ℕ → ℕ → Processor → ℕ → ℕ → Mode → Option Copy → ProcessorStep
access code stamp p slot line mode None = miss stamp p slot line mode
access code stamp p slot line mode (Some copy) =
    let after = turn_of code (slot_at p.slots slot).regs (lines_of p) copy.body in
    take_turn p slot (written p.sets p.cache copy mode after.1) after.0 after.2

-- an instruction by what it needs
abbrev pub instr_by : List ℕ → ℕ → Processor → ℕ → Need → ProcessorStep
instr_by code stamp p slot (needs.Copy line mode) = access code stamp p slot line.0 mode (granted_copy p.sets p.cache line.0 mode)
instr_by code stamp p slot _ =
    let after = turn_of code (slot_at p.slots slot).regs (lines_of p) zero_line in
    take_turn p slot p.cache after.0 after.2

-- an instruction of the slot that runs; where none does, nothing happens
abbrev pub instr : List ℕ → ℕ → Processor → Option ℕ → ProcessorStep
instr code stamp p None = idle p
instr code stamp p (Some slot) = instr_by code stamp p slot (need_of code (slot_at p.slots slot).regs (lines_of p))

-- ---- a message, and an eviction

-- the slots once a transaction has ended: those that wait on the line are Ready, and the opener has a hold on a line that came
abbrev pub slots_after : List Slot → ℕ → Bool → Option Transaction → List Slot
slots_after slots line came None = slots
slots_after slots line true (Some transaction) = give_hold line transaction.opener (wake line slots)
slots_after slots line false (Some transaction) = wake line slots

-- a message to the cache about a line
abbrev pub at_cache : ℕ → Processor → ℕ → ToCache → ProcessorStep
at_cache stamp p line said =
    let after = react p.sets p.cache line said in
    record {
      slots = slots_after p.slots line (brings_line said) (ended_by p.transactions line said);
      current = p.current;
      cache = after.0;
      transactions = transactions_after p.transactions line said;
      sends = homeward p.per_node p.number stamp after.1;
      did = Took;
    }

-- a message about a line, by what it says: one to memory isn't this side's
abbrev pub takes : ℕ → Processor → ℕ → Content → ProcessorStep
takes stamp p line (ForMemory said) = idle p
takes stamp p line (ForCache said) = at_cache stamp p line said

-- an eviction empties a set
abbrev pub evict_from : ℕ → Processor → ℕ → ProcessorStep
evict_from stamp p set =
    let after = evict p.cache set in
    record { slots = p.slots; current = p.current; cache = after.0; transactions = p.transactions; sends = homeward p.per_node p.number stamp after.1; did = Evicted }
