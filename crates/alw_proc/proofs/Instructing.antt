-- An instruction of the slot that runs, as the function meets it: a turn, or a miss.
use Rattle.std.proofs.Common.{◌≡◌, ◌≢◌, ◌↔◌, ℕ, ◌*◌, ◌/◌, ◌<◌, ◌≤◌, List, [], Some, None, length, refl, sym, ap, ◌∙◌, subst, arith}
use Rattle.std.proofs.lemmas.List.{length-set}
use Rattle.std.proofs.lemmas.Nat.{mul-le}
use Rattle.std.proofs.Math.Nat.{mul-le-mul_right}
use Rattle.alw_num.specs.declared.addresses.LineNo.{LineNo}
use Rattle.alw_num.specs.declared.states.Mode.{Mode}
use Rattle.alw_num.specs.Maps.{value_at}
use Rattle.sparc_table.specs.Turns.{need_of, turn_of}
use Rattle.sparc_table.specs.declared.registers.Regs.{Regs}
use Rattle.sparc_table.specs.declared.outcomes.Outcome.{Outcome}
use Rattle.sparc_table.specs.declared.outcomes.Outcome.TheVariants as ends
use Rattle.sparc_exec.specs.Runs.{seen, IsRunWith, CopyIsMissing}
use Rattle.alw_msg.specs.Sending.{Sending, with_messages}
use Rattle.alw_msg.specs.declared.contexts.Status.TheVariants.{Waiting}
use Rattle.alw_cache.specs.Places.{Copies, seen_in, ArePlaced}
use Rattle.alw_ctx.specs.Residents.{NodeContexts, left_by}
use Rattle.alw_model.specs.declared.steps.Did.TheVariants.{Turn, Missed}
use Rattle.alw_model.specs.Caches.{Transactions}
use Rattle.alw_model.specs.Contexts.{slot_at, running, ran}
use Rattle.alw_model.specs.Messages.{homeward}
use Rattle.alw_model.specs.Sides.{Processor, lines_of}
use Rattle.alw_model.specs.ProcessorSteps.{IsProcessorStep, instr, miss, opened, take_turn, status_after}
use Rattle.alw_proc.specs.Homeward.{with_requests}
use Rattle.alw_proc.specs.Turns.{SlotRuns}
use Rattle.alw_proc.specs.declared.shared.Shared.{Shared}
use Rattle.alw_proc.specs.Processors.{IsProcessor, IsSide, processor_from}
use Rattle.alw_proc.proofs.Leaving.{home_fits}
use Rattle.alw_proc.proofs.Standing.{stands, ran_stands, missed_stands}
use Rattle.alw_proc.proofs.Turning.{copies_of, regs_of, IsTurn, turn_is, IsMiss, miss_is}

-- a turn of the slot that runs has left these contexts and this cache, and ended so
pub record HasRun (code : List ℕ) (p : Processor) (slot lines : ℕ) (contexts : NodeContexts) (cache : Copies) (lines' : ℕ) (outcome : Outcome) : Type 0 where
  pub runs : running p.slots p.current ≡ Some slot
  pub lines_are : lines ≡ lines_of p
  pub sizes : (lines' ≡ lines) × (cache.sets ≡ p.sets)
  pub placed : ArePlaced (copies_of p p.cache)
  pub stays : ArePlaced cache
  pub run : IsRunWith (need_of code (regs_of p slot) lines) (turn_of code (regs_of p slot) lines)
      (seen (regs_of p slot) (seen_in (copies_of p p.cache)) None) (seen (slot_at contexts.slots slot).regs (seen_in cache) None) outcome
  pub missed : (line : LineNo) → (mode : Mode) → (outcome ≡ ends.Miss line mode) ↔ CopyIsMissing (need_of code (regs_of p slot) lines) (seen_in (copies_of p p.cache)) line mode
  pub contexts_are : contexts ≡ record { slots = ran p.slots slot (slot_at contexts.slots slot).regs (left_by (slot_at contexts.slots slot).regs outcome); current = slot }

pub has_run : (code : List ℕ) (number width height per_node : ℕ) (contexts contexts' : NodeContexts) (shared shared' : Shared) (transactions : Transactions) (slot : ℕ) (outcome : Outcome)
    → IsSide (processor_from number width height per_node contexts shared.cache transactions) shared.lines → running contexts.slots contexts.current ≡ Some slot → SlotRuns code slot contexts shared contexts' shared' outcome
    → HasRun code (processor_from number width height per_node contexts shared.cache transactions) slot shared.lines contexts' shared'.cache shared'.lines outcome
has_run code number width height per_node contexts contexts' shared shared' transactions slot outcome is runs r = record {
  runs = runs;
  lines_are = is.lines_are;
  sizes = r.sizes;
  placed = r.placed;
  stays = r.stay;
  run = r.run;
  missed = r.missed;
  contexts_are = r.contexts;
}

abbrev Hits : Outcome → Type 0
Hits outcome = (line : LineNo) → (mode : Mode) → outcome ≢ ends.Miss line mode

left_is : (regs : Regs) (outcome : Outcome) → Hits outcome → left_by regs outcome ≡ status_after regs outcome
left_is regs ends.Done hits = refl
left_is regs (ends.Miss line mode) hits = absurd (hits line mode refl)
left_is regs (ends.Out word) hits = refl
left_is regs ends.Halt hits = refl
left_is regs (ends.Trap tt) hits = refl

-- the cache as one of the node
abbrev Placed : Processor → ℕ → Copies → Type 0
Placed p n cache = let c : Copies = record { sets = n; copies = cache.copies } in ArePlaced c

placed_is : (p : Processor) (cache : Copies) → cache.sets ≡ p.sets → ArePlaced cache → ArePlaced (copies_of p cache.copies)
placed_is p cache e placed = subst (λ n. Placed p n cache) e placed

run_is : (code : List ℕ) (p : Processor) (slot lines : ℕ) (contexts : NodeContexts) (cache : Copies) (lines' : ℕ) (outcome : Outcome) → HasRun code p slot lines contexts cache lines' outcome
    → IsRunWith (need_of code (regs_of p slot) (lines_of p)) (turn_of code (regs_of p slot) (lines_of p)) (seen (regs_of p slot) (seen_in (copies_of p p.cache)) None)
    (seen (slot_at contexts.slots slot).regs (seen_in (copies_of p cache.copies)) None) outcome
run_is code p slot lines contexts cache lines' outcome h =
    let By : ℕ → ℕ → Type 0 = λ n sets. let c : Copies = record { sets = sets; copies = cache.copies } in
    IsRunWith (need_of code (regs_of p slot) n) (turn_of code (regs_of p slot) n) (seen (regs_of p slot) (seen_in (copies_of p p.cache)) None) (seen (slot_at contexts.slots slot).regs (seen_in c) None) outcome in
    subst (λ n. By n p.sets) h.lines_are (subst (λ sets. By lines sets) h.sizes.1 h.run)

-- ---- a turn

pub turned : (code : List ℕ) (stamp : ℕ) (p : Processor) (slot lines : ℕ) (contexts : NodeContexts) (cache : Copies) (lines' : ℕ) (outcome : Outcome) → HasRun code p slot lines contexts cache lines' outcome → Hits outcome
    → IsTurn code stamp p slot (slot_at contexts.slots slot).regs cache.copies outcome (need_of code (regs_of p slot) (lines_of p))
turned code stamp p slot lines contexts cache lines' outcome h hits =
    turn_is code stamp p slot _ cache.copies outcome h.placed (placed_is p cache h.sizes.1 h.stays) hits (run_is code p slot lines contexts cache lines' outcome h)

pub turn_side : (code : List ℕ) (p : Processor) (slot lines : ℕ) (contexts : NodeContexts) (cache : Copies) (lines' : ℕ) (outcome : Outcome) → HasRun code p slot lines contexts cache lines' outcome → Hits outcome → IsProcessor p
    → IsSide (processor_from p.number p.width p.height p.per_node contexts cache p.transactions) lines'
turn_side code p slot lines contexts cache lines' outcome h hits is =
    let slots = ap (λ (c : NodeContexts). c.slots) h.contexts_are in
    record {
      stands = stands p.number p.width p.height p.per_node (record { slots = p.slots; current = p.current }) contexts (copies_of p p.cache) cache p.transactions p.transactions is
          (ap length slots ∙ length-set p.slots slot _)
          ((turned code 0 p slot lines contexts cache lines' outcome h hits).held is.cached)
          (λ line. rw slots (ran_stands p.slots p.current slot _ _ p.transactions h.runs is.opened line));
      lines_are = h.sizes.0 ∙ h.lines_are;
    }

pub turn_steps : (code : List ℕ) (p : Processor) (slot lines : ℕ) (contexts : NodeContexts) (cache : Copies) (lines' : ℕ) (outcome : Outcome) (sent : Sending) → HasRun code p slot lines contexts cache lines' outcome → Hits outcome → sent.messages ≡ []
    → IsProcessorStep p (processor_from p.number p.width p.height p.per_node contexts cache p.transactions) sent sent (Turn slot outcome) (instr code sent.stamp p (running p.slots p.current))
turn_steps code p slot lines contexts cache lines' outcome sent h hits empty =
    let regs = (slot_at contexts.slots slot).regs in
    let step = ap (instr code sent.stamp p) h.runs ∙ (turned code sent.stamp p slot lines contexts cache lines' outcome h hits).step in
    let slots = ap (λ (c : NodeContexts). c.slots) h.contexts_are ∙ ap (ran p.slots slot regs) (left_is regs outcome hits) in
    let current = ap (λ (c : NodeContexts). c.current) h.contexts_are in
    let taken : IsProcessorStep p (processor_from p.number p.width p.height p.per_node contexts cache p.transactions) sent sent (Turn slot outcome) (take_turn p slot cache.copies regs outcome) =
    record {
      side = λ i. record { number = p.number; width = p.width; height = p.height; per_node = p.per_node; sets = h.sizes.1 i; slots = slots i; current = current i; cache = cache.copies; transactions = p.transactions };
      sends = λ i. record { room = sent.room; src = sent.src; stamp = sent.stamp; messages = empty i };
      outcome = refl;
    } in
    subst (IsProcessorStep p _ sent sent (Turn slot outcome)) (sym step) taken

-- ---- a miss

pub missed : (code : List ℕ) (stamp : ℕ) (p : Processor) (slot lines : ℕ) (contexts : NodeContexts) (cache : Copies) (lines' : ℕ) (line : LineNo) (mode : Mode) → HasRun code p slot lines contexts cache lines' (ends.Miss line mode)
    → IsMiss code stamp p slot (slot_at contexts.slots slot).regs cache.copies line mode
missed code stamp p slot lines contexts cache lines' line mode h =
    let missing = subst (λ n. CopyIsMissing (need_of code (regs_of p slot) n) (seen_in (copies_of p p.cache)) line mode) h.lines_are ((h.missed line mode).0 refl) in
    miss_is code stamp p slot _ cache.copies line mode h.placed (placed_is p cache h.sizes.1 h.stays) missing (run_is code p slot lines contexts cache lines' (ends.Miss line mode) h)

-- the line's home is a node
pub miss_home : (code : List ℕ) (p : Processor) (slot lines : ℕ) (contexts : NodeContexts) (cache : Copies) (lines' : ℕ) (line : LineNo) (mode : Mode) → HasRun code p slot lines contexts cache lines' (ends.Miss line mode) → IsProcessor p
    → line.0 / p.per_node < 65536
miss_home code p slot lines contexts cache lines' line mode h is =
    let exists : line.0 < p.width * p.height * p.per_node = (missed code 0 p slot lines contexts cache lines' line mode h).exists in
    let most : p.width * p.height * p.per_node ≤ 256 * p.per_node = mul-le-mul_right p.per_node (mul-le p.width p.height 16 16 is.width is.height) in
    home_fits line.0 (p.width * p.height * p.per_node) p.per_node exists (omega (arith, most)) is.per_node.0

pub miss_side : (code : List ℕ) (p : Processor) (slot lines : ℕ) (contexts : NodeContexts) (cache : Copies) (lines' : ℕ) (line : LineNo) (mode : Mode) (transactions : Transactions) → HasRun code p slot lines contexts cache lines' (ends.Miss line mode) → IsProcessor p
    → transactions ≡ (opened p.transactions line.0 mode slot (value_at p.transactions line.0)).0
    → IsSide (processor_from p.number p.width p.height p.per_node contexts cache transactions) lines'
miss_side code p slot lines contexts cache lines' line mode transactions h is all =
    let slots = ap (λ (c : NodeContexts). c.slots) h.contexts_are in
    let after = missed code 0 p slot lines contexts cache lines' line mode h in
    record {
      stands = stands p.number p.width p.height p.per_node (record { slots = p.slots; current = p.current }) contexts (copies_of p p.cache) cache p.transactions transactions is
          (ap length slots ∙ length-set p.slots slot _)
          (λ set. rw after.cache_is (is.cached set))
          (λ l. rw (slots, all) (missed_stands p.slots p.current slot line.0 mode _ p.transactions h.runs is.opened l));
      lines_are = h.sizes.0 ∙ h.lines_are;
    }

pub miss_steps : (code : List ℕ) (p : Processor) (slot lines : ℕ) (contexts : NodeContexts) (cache : Copies) (lines' : ℕ) (line : LineNo) (mode : Mode) (transactions : Transactions) (sent sent' : Sending) → HasRun code p slot lines contexts cache lines' (ends.Miss line mode) → sent.src ≡ p.number
    → transactions ≡ (opened p.transactions line.0 mode slot (value_at p.transactions line.0)).0
    → sent' ≡ with_requests p.per_node sent (opened p.transactions line.0 mode slot (value_at p.transactions line.0)).1
    → IsProcessorStep p (processor_from p.number p.width p.height p.per_node contexts cache transactions) sent sent' (Missed slot) (instr code sent.stamp p (running p.slots p.current))
miss_steps code p slot lines contexts cache lines' line mode transactions sent sent' h by all sends =
    let after = missed code sent.stamp p slot lines contexts cache lines' line mode h in
    let step = ap (instr code sent.stamp p) h.runs ∙ after.step in
    let slots = ap (λ (c : NodeContexts). c.slots) h.contexts_are ∙ ap (λ (r : Regs). ran p.slots slot r (Waiting line)) after.regs_are in
    let current = ap (λ (c : NodeContexts). c.current) h.contexts_are in
    let taken : IsProcessorStep p (processor_from p.number p.width p.height p.per_node contexts cache transactions) sent sent' (Missed slot) (miss sent.stamp p slot line.0 mode) =
    record {
      side = λ i. record { number = p.number; width = p.width; height = p.height; per_node = p.per_node; sets = h.sizes.1 i; slots = slots i; current = current i; cache = after.cache_is i; transactions = all i };
      sends = subst (λ n. sent' ≡ with_messages sent (homeward p.per_node n sent.stamp (opened p.transactions line.0 mode slot (value_at p.transactions line.0)).1)) by sends;
      outcome = refl;
    } in
    subst (IsProcessorStep p _ sent sent' (Missed slot)) (sym step) taken
