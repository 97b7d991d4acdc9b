-- The induction over a journal: contexts and transactions stand after every legal entry.
use Rattle.std.proofs.Common.{◌≡◌, ℕ, zero, suc, ◌+◌, ◌<◌, ◌≤◌, nat_lt, Bool, true, false, cond, Option, Some, None, List, [], ◌∷◌, ◌++◌, map, IsTrue, refl, sym, subst, ap, ◌∙◌, arith}
use Rattle.std.specs.Prelude.{is_some}
use Rattle.std.specs.List.{range_with_len}
use Rattle.std.proofs.lemmas.Bool.{eq-eqb, eqb-true, false≢true}
use Rattle.std.proofs.lemmas.List.{length-map}
use Rattle.std.proofs.lemmas.List.FromFn.{length-range_with_len}
use Rattle.alw_num.proofs.Weigh.{at_nodes}
use Rattle.alw_num.proofs.MapLaws.{value-empty}
use Rattle.law_machine.proofs.Vocabulary.{Line, Mode, Read, Write, empty_map, value_at, passes, Msg, Event, Instr, Handle, Deliver, Evict, Entry, Ready, Halted, Parts, node_count, line_count}
use Rattle.law_machine.proofs.Vocabulary.{body_of, Parameters, ToCache, RDATA, WDATA, INV, BUSY, Content, ForMemory, ForCache, content, reply_in, is_rdata, Copy, Transaction, copy_at, waits_on}
use Rattle.law_machine.proofs.Vocabulary.{Slot, slot_at, no_slot, slot_start, home_node, is_fit, node_of, node_start, stamp_of, may_deliver, front, behind, count_of, MachineState, machine_start}
use Rattle.law_machine.proofs.Vocabulary.{node_at, link_at, taken_by, is_enabled, step, stepped_by, after, state, IsNext, AreLegal, IsLegal, LineNode, downs, line_node, line_of, trapped_rightly}
use Rattle.law_machine.proofs.Vocabulary.{is_read, is_write, copies_of, transactions_of, census, CensusFits, role}
use Rattle.alw_image.specs.Images as images
use Rattle.alw_model.proofs.Journals.{and_parts}
use Rattle.law_lines.proofs.Links.{read_set}
use Rattle.law_lines.proofs.CacheSide.{old_part}
use Rattle.law_lines.proofs.Taken.{split_front}
use Rattle.law_lines.proofs.Views.{seen_copy, seen_transaction}
use Rattle.law_lines.proofs.Steps.{Fit, fit_is, enabled_is}
use Rattle.law_machine.specs.Values.{MachineIsSoundWith}
use Rattle.law_machine.proofs.Runs.{node_at_start, step_sound, start_sound_with}
use Rattle.law_machine.proofs.ContextFacts.{SlotStands, NodeContexts}
use Rattle.law_machine.proofs.ContextEvents.{Awaited, AwaitedIn, AwaitedHead, event_contexts}

-- ---- what a line's soundness says of a message that brings it to read

read_mode : (o : Option Transaction) (t : Transaction) → o ≡ Some t → 1 ≤ transactions_of is_read (seen_transaction o) → t.mode ≡ Read
read_mode o t e some = go t.mode refl
  where
    counted : 1 ≤ is_read t.mode
    counted = subst (λ (p : Option Transaction). 1 ≤ transactions_of is_read (seen_transaction p)) e some

    go : (mode : Mode) → t.mode ≡ mode → t.mode ≡ Read
    go Read is = is
    go Write is = absurd (let none : is_read t.mode ≡ 0 = ap is_read is in let c = counted in omega arith)

no_copy : (o : Option Copy) → copies_of is_read (seen_copy o) + copies_of is_write (seen_copy o) ≡ 0 → o ≡ None
no_copy None e = refl
no_copy (Some copy) e = absurd (go copy.mode e)
  where
    go : (mode : Mode) → is_read mode + is_write mode ≡ 0 → ⊥
    go Read e = omega arith
    go Write e = omega arith

module _ (parts : Parts) (parameters : Parameters) (s : MachineState) (values : ℕ → Line) (sound : MachineIsSoundWith parts parameters values s) where
  -- a node's numbers of a line
  pub fits_at : (l n : ℕ) → l < line_count parts → n < node_count parts → CensusFits (role (line_of parts parameters s l).home n) (census (values l) (line_node parts parameters s l n))
  fits_at l n lines here = subst (λ (v : LineNode). CensusFits (role (line_of parts parameters s l).home n) (census (values l) v)) (old_part parts parameters s n l here) ((sound.lines l lines).each n)

  -- the front of a link is the front of what is on its way about its line
  pub down_at : (from n : ℕ) (msg : Msg) (said : ToCache) → front (link_at parts s from n) ≡ Some msg → home_node parts msg.line.0 ≡ from → content msg ≡ ForCache said
      → (line_node parts parameters s msg.line.0 n).down ≡ said ∷ downs msg.line.0 (behind (link_at parts s from n))
  down_at from n msg said e home is = ap (λ h. downs msg.line.0 (link_at parts s h n)) home ∙ (ap (downs msg.line.0) (split_front (link_at parts s from n) msg e)
      ∙ (λ x. cond (eq-eqb msg.line.0 msg.line.0 refl x) (reply_in (is x)) [] ++ downs msg.line.0 (behind (link_at parts s from n))))

  awaited_read : (from n : ℕ) → n < node_count parts → (msg : Msg) (body : Line) → front (link_at parts s from n) ≡ Some msg → Fit parts from n msg (ForCache (RDATA body)) → content msg ≡ ForCache (RDATA body) → Awaited parameters.sets (node_at s n) msg.line.0
  awaited_read from n here msg body e fit is =
      let l = msg.line.0 in
      let c = fits_at l n fit.exists here in
      let d = ap (count_of is_rdata) (down_at from n msg (RDATA body) e (eqb-true (home_node parts l) from fit.home) is) in
      record {
        absent = no_copy (copy_at parameters.sets (node_at s n).cache l) (omega arith);
        reads = λ t f. read_mode (value_at (node_at s n).transactions l) t f (omega arith);
      }

  awaited_msg : (from n : ℕ) → n < node_count parts → (msg : Msg) (c : Content) → front (link_at parts s from n) ≡ Some msg → Fit parts from n msg c → content msg ≡ c → AwaitedIn parameters.sets (node_at s n) msg.line.0 c
  awaited_msg from n here msg (ForMemory said) e fit is = tt
  awaited_msg from n here msg (ForCache (RDATA body)) e fit is = awaited_read from n here msg body e fit is
  awaited_msg from n here msg (ForCache (WDATA body)) e fit is = tt
  awaited_msg from n here msg (ForCache INV) e fit is = tt
  awaited_msg from n here msg (ForCache BUSY) e fit is = tt

  awaited_head : (from n : ℕ) → n < node_count parts → (head : Option Msg) → front (link_at parts s from n) ≡ head → IsTrue (passes (may_deliver parts parameters from n (node_at s n)) head) → AwaitedHead parameters.sets (node_at s n) head
  awaited_head from n here None e may_be = tt
  awaited_head from n here (Some msg) e may_be = awaited_msg from n here msg (content msg) e (fit_is parts from n msg (and_parts (is_fit parts from n msg) _ may_be).0) refl

  awaited : (event : Event) → IsTrue (is_enabled parts parameters s event) → AwaitedHead parameters.sets (node_at s (node_of event)) (taken_by parts s event)
  awaited (Instr at) enabled = tt
  awaited (Handle at) enabled = tt
  awaited (Evict at set) enabled = tt
  awaited (Deliver from to) enabled =
      let en = enabled_is parts parameters s (Deliver from to) enabled in
      awaited_head from.0 to.0 en.here (front (link_at parts s from.0 to.0)) refl (and_parts (nat_lt from.0 (node_count parts)) _ en.may_be).1

  -- ---- one event

  pub step_contexts : ((n : ℕ) → n < node_count parts → NodeContexts parts parameters (node_at s n)) → (event : Event) → IsTrue (is_enabled parts parameters s event)
      → (m : ℕ) → m < node_count parts → NodeContexts parts parameters (node_at (step parts parameters s event) m)
  step_contexts stand event enabled m here =
      let n = node_of event in
      let en = enabled_is parts parameters s event enabled in
      let v = (stepped_by parts parameters s event).node in
      subst (NodeContexts parts parameters) (sym (read_set s.nodes n v _ m (rw sound.standing.nodes en.here)))
      (at_nodes (λ j u. j < node_count parts → NodeContexts parts parameters u) (node_at s) n v
      (λ l. event_contexts parts parameters n (stamp_of (node_at s n).clock (taken_by parts s event)) (node_at s n) (stand n l) event (taken_by parts s event) refl en.may_be (awaited event enabled))
      (λ j other l. stand j l) m here)

-- ---- the start

pub mapped : (P : Slot → Type 0) (f : ℕ → Slot) (low count i : ℕ) → ((k : ℕ) → P (f k)) → P no_slot → P (slot_at (map f (range_with_len low count)) i)
mapped P f low zero i each none = none
mapped P f low (suc count) zero each none = each low
mapped P f low (suc count) (suc i) each none = mapped P f (low + 1) count i each none

module _ (parts : Parts) (parameters : Parameters) where
  slot_stands_at_start : (n k : ℕ) → SlotStands parts parameters empty_map empty_map (slot_start parts n k)
  slot_stands_at_start n k = record { waits = λ line e. absurd (waits_not (is_some (images.started_at parts n k)) line e); holds = λ line e. absurd (cc); trapped = not_trapped (is_some (images.started_at parts n k)) }
    where
      waits_not : (b : Bool) (line : ℕ) → waits_on line (cond b Ready Halted) ≡ true → ⊥
      waits_not true line e = false≢true e
      waits_not false line e = false≢true e

      not_trapped : (b : Bool) → trapped_rightly (slot_start parts n k).regs.pc (cond b Ready Halted) ≡ true
      not_trapped true = refl
      not_trapped false = refl

  contexts_at_start : (n : ℕ) → 1 ≤ parts.contexts → NodeContexts parts parameters (node_start parts n)
  contexts_at_start n some = record {
    size = length-map (range_with_len 0 parts.contexts) (slot_start parts n) ∙ length-range_with_len 0 parts.contexts;
    chosen = some;
    each = λ i. mapped (SlotStands parts parameters empty_map empty_map) (slot_start parts n) 0 parts.contexts i (slot_stands_at_start n) (record { waits = λ line e. absurd (false≢true e); holds = λ line e. absurd (cc); trapped = refl });
    opened = λ line t e. absurd (let none : None ≡ Some t = sym (value-empty line) ∙ e in cc);
  }

  -- ---- a journal

  -- what each entry keeps is kept by a journal
  pub after_keeps : (P : MachineState → Type 0) → ((s : MachineState) (entry : Entry) → IsNext parts parameters s entry → P s → P (step parts parameters s entry.event))
      → (s : MachineState) (journal : List Entry) → AreLegal parts parameters s journal → P s → P (after parts parameters s journal)
  after_keeps P keeps s [] legal p = p
  after_keeps P keeps s (entry ∷ rest) (next, legal) p = after_keeps P keeps (step parts parameters s entry.event) rest legal (keeps s entry next p)

-- a machine whose lines are sound, and whose contexts stand
pub record HasContexts (parts : Parts) (parameters : Parameters) (s : MachineState) : Type 0 where
  pub values : ℕ → Line
  pub sound : MachineIsSoundWith parts parameters values s
  pub contexts : (n : ℕ) → n < node_count parts → NodeContexts parts parameters (node_at s n)

module _ (parts : Parts) (parameters : Parameters) (some : 1 ≤ parameters.pointers) where
  pub entry_contexts : (s : MachineState) (entry : Entry) → IsNext parts parameters s entry → HasContexts parts parameters s → HasContexts parts parameters (step parts parameters s entry.event)
  entry_contexts s entry next has = record {
    values = _;
    sound = step_sound parts parameters some s entry.event next.enabled has.values has.sound;
    contexts = step_contexts parts parameters s has.values has.sound has.contexts entry.event next.enabled;
  }

  pub start_contexts : 1 ≤ parts.contexts → HasContexts parts parameters (machine_start parts)
  start_contexts slots = record {
    values = body_of parts;
    sound = start_sound_with parts parameters some;
    contexts = λ n here. subst (NodeContexts parts parameters) (sym (node_at_start parts n here)) (contexts_at_start parts parameters n slots);
  }

  pub always_contexts : 1 ≤ parts.contexts → (journal : List Entry) → IsLegal parts parameters journal → HasContexts parts parameters (state parts parameters journal)
  unfolding state
  always_contexts slots journal legal = after_keeps parts parameters (HasContexts parts parameters) entry_contexts (machine_start parts) journal legal (start_contexts slots)
