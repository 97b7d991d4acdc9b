-- An event of a node leaves words where there were words, sends words, and leaves the entries of home lines listed as they were.
use Rattle.std.proofs.Common.{◌≡◌, ℕ, ◌<◌, Bool, true, false, cond, Option, Some, None, List, [], ◌∷◌, slice_set, refl, arith}
use Rattle.std.specs.Prelude.{⊤}
use Rattle.std.specs.List.{AllByRecursion}
use Rattle.alw_num.specs.declared.addresses.Line.{Line}
use Rattle.alw_num.specs.declared.addresses.LineNo.{LineNo}
use Rattle.alw_num.specs.declared.states.Mode.{Mode}
use Rattle.alw_num.specs.declared.states.Mode.TheVariants.{Read, Write}
use Rattle.alw_num.specs.Maps.{value_at}
use Rattle.sparc_table.specs.Registers.{start_of}
use Rattle.sparc_table.specs.Turns.{need_of, turn_of}
use Rattle.sparc_table.specs.declared.registers.Regs.{Regs}
use Rattle.sparc_table.specs.declared.outcomes.Need.{Need}
use Rattle.sparc_table.specs.declared.outcomes.Need.TheVariants as needs
use Rattle.sparc_table.specs.declared.outcomes.Outcome.{Outcome}
use Rattle.sparc_table.specs.declared.outcomes.Outcome.TheVariants as outcomes
use Rattle.sparc_exec.proofs.RegisterWords.{of_start}
use Rattle.alw_msg.specs.declared.contexts.Status.TheVariants.{Ready, Waiting, Trapped}
use Rattle.alw_msg.specs.declared.messages.Msg.{Msg}
use Rattle.alw_msg.specs.declared.events.Event.{Event}
use Rattle.alw_msg.specs.declared.events.Event.TheVariants.{Instr, Handle, Deliver, Evict}
use Rattle.alw_msg.specs.Contents.{ToMemory, ToCache, Content, ForMemory, ForCache, content, brings_line}
use Rattle.alw_msg.specs.Statuses.{waits_on}
use Rattle.alw_image.specs.declared.parts.Parts.{Parts}
use Rattle.alw_image.specs.Images.{line_count, zero_line}
use Rattle.alw_image.specs.Numbers.{IsWord}
use Rattle.alw_image.specs.Parameters.{Parameters}
use Rattle.alw_model.specs.LimitLess.{Directory, directory_start}
use Rattle.alw_model.specs.Caches.{Copy, Cache, Transaction, ended_by}
use Rattle.alw_model.specs.Contexts.{Slot, no_slot, slot_at, running, woken, wake}
use Rattle.alw_model.specs.Sides.{Processor, Memory, entry_at}
use Rattle.alw_model.specs.NodeStates.{processor_of, memory_of, NodeState, place_of, stamp_of}
use Rattle.alw_model.specs.ProcessorSteps.{ProcessorStep, status_after, opened, slots_after}
use Rattle.alw_model.specs.ProcessorSteps as processor
use Rattle.alw_model.specs.MemorySteps.{MemoryStep}
use Rattle.alw_model.specs.MemorySteps as memory
use Rattle.alw_model.specs.NodeSteps.{by_processor, by_memory, Stepped, take_turn, miss, access, instr_by, instr, at_home, at_cache, evict_from, deliver_by, deliver, handle_by, handle_front, event_at, node_step}
use Rattle.law_order.proofs.Aims.{every_set, every_at}
use Rattle.law_texts.specs.Words.{AreWords, AreRegisters}
use Rattle.law_texts.proofs.Turns.{TurnWords, TrapsByByte, turn_words}
use Rattle.law_texts.proofs.Messages.{AsksWords, TellsWords, SaysWords, AllAsk, AllSend, zero_words, says, asked_words, told_words}
use Rattle.law_texts.proofs.HomeTable.{hardware_words, handler_words, still_listed}
use Rattle.law_texts.proofs.CacheSide.{AllCopies, OfWords, granted_words, store_words, evict_words, react_words}
use Rattle.alw_num.proofs.Alls.{all_push}

-- a slot's registers, and the type of its trap
pub record SlotWords (slot : Slot) : Type 0 where
  pub regs : AreRegisters slot.regs
  pub trap : (pc type : ℕ) → slot.status ≡ Trapped pc type → type < 256

abbrev pub AllSlots : List Slot → Type 0
AllSlots slots = AllByRecursion SlotWords slots

abbrev pub AllEntries : List Directory → Type 0
AllEntries entries = AllByRecursion (λ (entry : Directory). AreWords entry.body) entries

abbrev pub AllMessages : List Msg → Type 0
AllMessages messages = AllByRecursion (λ (msg : Msg). AreWords msg.body) messages

pub record NodeWords (node : NodeState) : Type 0 where
  pub slots : AllSlots node.slots
  pub copies : AllCopies node.cache.entries
  pub homes : AllEntries node.homes
  pub packets : AllMessages node.packets

-- what an event leaves of a node that was so
pub record StepWords (node : NodeState) (stepped : Stepped) : Type 0 where
  pub left : NodeWords stepped.node
  pub sends : AllSend stepped.sends
  pub always : (at : ℕ) → (entry_at stepped.node.homes at).always ≡ (entry_at node.homes at).always

-- a message that is taken, if there is one
abbrev pub TakesWords : Option Msg → Type 0
TakesWords None = ⊤
TakesWords (Some msg) = AreWords msg.body

-- the bytes of a home's entry of a line
pub entry_words : (homes : List Directory) (place : ℕ) → AllEntries homes → AreWords (entry_at homes place).body
entry_words homes place all = every_at (λ (entry : Directory). AreWords entry.body) homes place (directory_start zero_line false) all zero_words

-- the entries with another one, whose bytes are words too
put_words : (homes : List Directory) (place : ℕ) (entry : Directory) → AllEntries homes → AreWords entry.body → AllEntries (slice_set homes place entry)
put_words homes place entry all is = every_set (λ (e : Directory). AreWords e.body) homes place entry all is

-- ---- slots

pub start_registers : (pc o0 o1 : ℕ) → IsWord pc → IsWord o0 → IsWord o1 → AreRegisters (start_of pc o0 o1)
start_registers pc o0 o1 a b c =
    let held = of_start pc o0 o1 a b c in
    record { count = refl; first = refl; words = held.r; pc = held.pc; npc = held.npc; y = held.y }

no_slot_words : SlotWords no_slot
no_slot_words = record { regs = start_registers 0 0 0 (omega arith) (omega arith) (omega arith); trap = λ pc type e. absurd (cc) }

pub slot_words : (slots : List Slot) (slot : ℕ) → AllSlots slots → SlotWords (slot_at slots slot)
slot_words slots slot all = every_at SlotWords slots slot no_slot all no_slot_words

trap_type : (regs : Regs) (outcome : Outcome) → TrapsByByte outcome → (pc type : ℕ) → status_after regs outcome ≡ Trapped pc type → type < 256
trap_type regs (outcomes.Trap held) byte pc type e = let same : held ≡ type = cc in rw (← same) byte
trap_type regs outcomes.Done byte pc type e = absurd (cc)
trap_type regs (outcomes.Miss line mode) byte pc type e = absurd (cc)
trap_type regs (outcomes.Out word) byte pc type e = absurd (cc)
trap_type regs outcomes.Halt byte pc type e = absurd (cc)

waiting_words : (regs : Regs) (line : LineNo) → AreRegisters regs → SlotWords (record { regs = regs; status = Waiting line; hold = None })
waiting_words regs line are = record { regs = are; trap = λ pc type e. absurd (cc) }

woken_words : (line : ℕ) (slot : Slot) → SlotWords slot → SlotWords (woken line slot)
woken_words line slot are = go (waits_on line slot.status)
  where
    go : (b : Bool) → SlotWords (cond b (record slot { status = Ready }) slot)
    go true = record { regs = are.regs; trap = λ pc type e. absurd (cc) }
    go false = are

wake_words : (line : ℕ) (slots : List Slot) → AllSlots slots → AllSlots (wake line slots)
wake_words line [] all = tt
wake_words line (slot ∷ rest) all = (woken_words line slot all.0, wake_words line rest all.1)

ended_words : (slots : List Slot) (line : ℕ) (came : Bool) (ended : Option Transaction) → AllSlots slots → AllSlots (slots_after slots line came ended)
ended_words slots line came None all = all
ended_words slots line false (Some transaction) all = wake_words line slots all
ended_words slots line true (Some transaction) all =
    let woke = wake_words line slots all in
    let opener = slot_words (wake line slots) transaction.opener woke in
    every_set SlotWords (wake line slots) transaction.opener _ woke (record { regs = opener.regs; trap = opener.trap })

-- ---- an event

module _ (parts : Parts) (parameters : Parameters) (n stamp : ℕ) (node : NodeState) (are : NodeWords node) where
  abbrev p : Processor
  p = processor_of parts parameters n node

  abbrev m : Memory
  m = memory_of parts parameters n node

  -- a step of one side leaves the other side as it was
  of_processor : (step : ProcessorStep) → AllSlots step.slots → AllCopies step.cache.entries → AllSend step.sends → StepWords node (by_processor node step)
  of_processor step slots copies sends = record {
    left = record { slots = slots; copies = copies; homes = are.homes; packets = are.packets };
    sends = sends;
    always = λ at. refl;
  }

  of_memory : (step : MemoryStep) → AllEntries step.homes → AllMessages step.packets → AllSend step.sends
      → ((at : ℕ) → (entry_at step.homes at).always ≡ (entry_at node.homes at).always) → StepWords node (by_memory node step)
  of_memory step homes packets sends always = record {
    left = record { slots = are.slots; copies = are.copies; homes = homes; packets = packets };
    sends = sends;
    always = always;
  }

  -- an instruction

  turn_leaves : (slot : ℕ) (cache : Cache) (after : Regs × Line × Outcome) → AllCopies cache.entries → TurnWords after
      → StepWords node (take_turn parts parameters n node slot cache after.0 after.2)
  turn_leaves slot cache after copies words =
      let slots = every_set SlotWords node.slots slot _ are.slots (record { regs = words.regs; trap = trap_type after.0 after.2 words.trap }) in
      of_processor (processor.take_turn p slot cache after.0 after.2) slots copies tt

  opened_asks : (slot line : ℕ) (mode : Mode) (o : Option Transaction) → AllAsk (opened node.transactions line mode slot o).1
  opened_asks slot line mode (Some transaction) = tt
  opened_asks slot line Read None = (tt, tt)
  opened_asks slot line Write None = (tt, tt)

  miss_leaves : (slot line : ℕ) (mode : Mode) → StepWords node (miss parts parameters n stamp node slot line mode)
  miss_leaves slot line mode =
      let regs = (slot_words node.slots slot are.slots).regs in
      let slots = every_set SlotWords node.slots slot _ are.slots (waiting_words _ (record { 0 = line }) regs) in
      of_processor (processor.miss stamp p slot line mode) slots are.copies
      (asked_words parts.per_node n stamp _ (opened_asks slot line mode (value_at node.transactions line)))

  turned : (slot : ℕ) (body : Line) → AreWords body → TurnWords (turn_of parts.code (slot_at node.slots slot).regs (line_count parts) body)
  turned slot body words = turn_words parts.code (slot_at node.slots slot).regs (line_count parts) body (slot_words node.slots slot are.slots).regs words

  access_leaves : (slot line : ℕ) (mode : Mode) (o : Option Copy) → OfWords o → StepWords node (access parts parameters n stamp node slot line mode o)
  access_leaves slot line mode None held = miss_leaves slot line mode
  access_leaves slot line mode (Some copy) held =
      let after = turned slot copy.body held in
      turn_leaves slot _ _ (store_words parameters.sets node.cache are.copies copy mode _ after.line) after

  need_leaves : (slot : ℕ) (need : Need) → StepWords node (instr_by parts parameters n stamp node slot need)
  need_leaves slot (needs.Copy line mode) = access_leaves slot line.0 mode _ (granted_words parameters.sets node.cache are.copies line.0 mode)
  need_leaves slot needs.Nothing = turn_leaves slot node.cache _ are.copies (turned slot zero_line zero_words)
  need_leaves slot (needs.Trap type) = turn_leaves slot node.cache _ are.copies (turned slot zero_line zero_words)

  instr_leaves : (slot : Option ℕ) → StepWords node (instr parts parameters n stamp node slot)
  instr_leaves None = of_processor (processor.idle p) are.slots are.copies tt
  instr_leaves (Some slot) = need_leaves slot (need_of parts.code (slot_at node.slots slot).regs (line_count parts))

  -- a message

  home_leaves : (msg : Msg) (said : ToMemory) → AreWords msg.body → AsksWords said → (traps : Bool)
      → StepWords node (at_home parts parameters n stamp node msg said traps)
  home_leaves msg said words asks true =
      let place = place_of parts msg.line.0 in
      let homes = put_words node.homes place _ are.homes (entry_words node.homes place are.homes) in
      let packets = all_push (λ (packet : Msg). AreWords packet.body) node.packets msg are.packets words in
      of_memory (memory.at_home stamp m msg said true) homes packets tt (still_listed node.homes place _ refl)
  home_leaves msg said words asks false =
      let place = place_of parts msg.line.0 in
      let acts = hardware_words (entry_at node.homes place) msg.src.0 said (entry_words node.homes place are.homes) asks in
      let homes = put_words node.homes place _ are.homes acts.body in
      of_memory (memory.at_home stamp m msg said false) homes are.packets (told_words n stamp msg.line.0 _ acts.sends)
      (still_listed node.homes place _ acts.always)

  cache_leaves : (line : ℕ) (said : ToCache) → TellsWords said → StepWords node (at_cache parts parameters n stamp node line said)
  cache_leaves line said tells =
      let acts = react_words parameters.sets node.cache are.copies line said tells in
      let slots = ended_words node.slots line (brings_line said) (ended_by node.transactions line said) are.slots in
      of_processor (processor.at_cache stamp p line said) slots acts.copies
      (asked_words parts.per_node n stamp _ acts.asks)

  message_leaves : (msg : Msg) → AreWords msg.body → (said : Content) → SaysWords said → StepWords node (deliver_by parts parameters n stamp node msg said)
  message_leaves msg words (ForMemory said) asks = home_leaves msg said words asks _
  message_leaves msg words (ForCache said) tells = cache_leaves msg.line.0 said tells

  delivery_leaves : (taken : Option Msg) → TakesWords taken → StepWords node (deliver parts parameters n stamp node taken)
  delivery_leaves None words = of_processor (processor.idle p) are.slots are.copies tt
  delivery_leaves (Some msg) words = message_leaves msg words (content msg) (says msg.kind msg.body words)

  -- the handler

  packet_leaves : (packet : Msg) (rest : List Msg) → AllMessages rest → (said : Content) → SaysWords said
      → StepWords node (handle_by parts parameters n stamp (record node { packets = rest }) packet said)
  packet_leaves packet rest all (ForCache said) tells = of_memory (memory.idle (record m { packets = rest })) are.homes all tt (λ at. refl)
  packet_leaves packet rest all (ForMemory said) asks =
      let place = place_of parts packet.line.0 in
      let acts = handler_words (entry_at node.homes place) packet.src.0 said (entry_words node.homes place are.homes) asks in
      let homes = put_words node.homes place _ are.homes acts.body in
      of_memory (memory.handle_by stamp (record m { packets = rest }) packet (ForMemory said)) homes all (told_words n stamp packet.line.0 _ acts.sends)
      (still_listed node.homes place _ acts.always)

  queue_leaves : (queue : List Msg) → AllMessages queue → StepWords node (handle_front parts parameters n stamp node queue)
  queue_leaves [] all = of_memory (memory.idle m) are.homes are.packets tt (λ at. refl)
  queue_leaves (packet ∷ rest) all = packet_leaves packet rest all.1 (content packet) (says packet.kind packet.body all.0)

  -- by the kind of event

  evict_leaves : (set : ℕ) → StepWords node (evict_from parts parameters n stamp node set)
  evict_leaves set =
      let acts = evict_words parameters.sets node.cache are.copies set in
      of_processor (processor.evict_from stamp p set) are.slots acts.copies (asked_words parts.per_node n stamp _ acts.asks)

  event_leaves : (event : Event) (taken : Option Msg) → TakesWords taken → StepWords node (event_at parts parameters n stamp node event taken)
  event_leaves (Instr at) taken words = instr_leaves (running node.slots node.current)
  event_leaves (Handle at) taken words = queue_leaves node.packets are.packets
  event_leaves (Deliver from to) taken words = delivery_leaves taken words
  event_leaves (Evict at set) taken words = evict_leaves set

pub step_leaves : (parts : Parts) (parameters : Parameters) (n : ℕ) (node : NodeState) → NodeWords node
    → (event : Event) (taken : Option Msg) → TakesWords taken → StepWords node (node_step parts parameters n node event taken)
step_leaves parts parameters n node are event taken words =
    let all = event_leaves parts parameters n (stamp_of node.clock taken) node are event taken words in
    record {
      left = record { slots = all.left.slots; copies = all.left.copies; homes = all.left.homes; packets = all.left.packets };
      sends = all.sends;
      always = all.always;
    }
