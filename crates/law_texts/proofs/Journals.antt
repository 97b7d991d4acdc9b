-- The induction over a journal: each entry keeps a machine's words, and what it lists.
use Rattle.std.proofs.Common.{◌≡◌, ℕ, zero, suc, ◌*◌, ◌<◌, ◌==◌, true, cond, Option, Some, None, List, [], ◌∷◌, get_or, replicate, IsTrue, refl, sym, subst, ◌∙◌}
use Rattle.std.specs.Prelude.{IsSome}
use Rattle.std.specs.List.{AllByRecursion}
use Rattle.std.proofs.lemmas.Bool.{eqb-true, false≢true}
use Rattle.alw_num.proofs.Weigh.{at_nodes}
use Rattle.alw_msg.specs.declared.contexts.Status.{Status}
use Rattle.alw_msg.specs.declared.contexts.Status.TheVariants.{Ready, Trapped}
use Rattle.alw_msg.specs.declared.messages.Msg.{Msg}
use Rattle.alw_msg.specs.declared.events.Event.{Event}
use Rattle.alw_msg.specs.declared.events.Event.TheVariants.{Instr, Handle, Deliver, Evict}
use Rattle.alw_msg.specs.declared.events.Entry.{Entry}
use Rattle.alw_msg.specs.Events.{node_of}
use Rattle.alw_msg.specs.Lists.{front, behind}
use Rattle.alw_image.specs.declared.parts.Parts.{Parts}
use Rattle.alw_image.specs.Images.{node_count, line_count, is_always, IsImage}
use Rattle.alw_image.specs.Numbers as numbers
use Rattle.alw_image.specs.Parameters.{Parameters, AreParameters}
use Rattle.alw_model.specs.Caches.{Cache, Transactions}
use Rattle.alw_model.specs.Contexts.{Slot, slot_at}
use Rattle.alw_model.specs.Lines.{entry_of}
use Rattle.alw_model.specs.Messages.{home_node}
use Rattle.alw_model.specs.NodeStates.{NodeState, home_at, place_of}
use Rattle.alw_model.specs.Machine.{MachineState, machine_start, no_node, node_at, link_at, link_place, taken_by, links_taken, links_sent, step, stepped_by, state, is_enabled, IsNext, IsLegal}
use Rattle.alw_model.specs.MachineInvariant.{trapped_rightly}
use Rattle.law_lines.proofs.Following.{home_below}
use Rattle.law_lines.proofs.Links.{read_set}
use Rattle.law_lines.proofs.Steps.{enabled_is}
use Rattle.law_order.proofs.Aims.{every_set, every_at}
use Rattle.law_machine.proofs.Runs.{node_at_start}
use Rattle.law_machine.proofs.ContextFacts.{SlotStands}
use Rattle.law_machine.proofs.ContextRuns.{after_keeps}
use Rattle.law_machine.proofs.MachineRuns.{IsKept, entry_kept, start_kept}
use Rattle.law_texts.specs.Words.{AreWords, SlotHasWords, MachineHasWords}
use Rattle.law_texts.proofs.Messages.{AllSend}
use Rattle.law_texts.proofs.NodeEvents.{AllMessages, TakesWords, NodeWords, StepWords, entry_words, slot_words, step_leaves}
use Rattle.law_texts.proofs.Starts.{start_words, start_listed}
use Rattle.alw_num.proofs.Alls.{all_push}

abbrev AllLinks : List (List Msg) → Type 0
AllLinks links = AllByRecursion AllMessages links

-- what each entry keeps of a machine's words
record IsWorded (parts : Parts) (s : MachineState) : Type 0 where
  nodes : (n : ℕ) → n < node_count parts → NodeWords (node_at s n)
  always : (line : ℕ) → line < line_count parts → (entry_of parts s line).always ≡ is_always parts line
  links : AllLinks s.links

-- ---- links

front_words : (queue : List Msg) → AllMessages queue → TakesWords (front queue)
front_words [] all = tt
front_words (msg ∷ rest) all = all.0

behind_words : (queue : List Msg) → AllMessages queue → AllMessages (behind queue)
behind_words [] all = tt
behind_words (msg ∷ rest) all = all.1

module _ (parts : Parts) where
  link_words : (links : List (List Msg)) (place : ℕ) → AllLinks links → AllMessages (get_or links place [])
  link_words links place all = every_at AllMessages links place [] all tt

  taken_words : (s : MachineState) (event : Event) → AllLinks s.links → TakesWords (taken_by parts s event)
  taken_words s (Instr at) all = tt
  taken_words s (Handle at) all = tt
  taken_words s (Deliver from to) all = front_words (link_at parts s from.0 to.0) (link_words s.links (link_place parts from.0 to.0) all)
  taken_words s (Evict at emptied) all = tt

  left_words : (links : List (List Msg)) (event : Event) → AllLinks links → AllLinks (links_taken parts links event)
  left_words links (Instr at) all = all
  left_words links (Handle at) all = all
  left_words links (Deliver from to) all =
      let place = link_place parts from.0 to.0 in
      every_set AllMessages links place _ all (behind_words (get_or links place []) (link_words links place all))
  left_words links (Evict at emptied) all = all

  sent_words : (from : ℕ) (sends : List (ℕ × Msg)) (links : List (List Msg)) → AllSend sends → AllLinks links → AllLinks (links_sent parts links from sends)
  sent_words from [] links sent all = all
  sent_words from (send ∷ rest) links sent all =
      let place = link_place parts from send.0 in
      let one = all_push (λ (msg : Msg). AreWords msg.body) (get_or links place []) send.1 (link_words links place all) sent.0 in
      sent_words from rest _ sent.1 (every_set AllMessages links place _ all one)

no_messages : (count : ℕ) → AllLinks (replicate count [])
no_messages zero = tt
no_messages (suc count) = (tt, no_messages count)

-- ---- one entry

module _ (parts : Parts) (image : IsImage parts) (parameters : Parameters) (are : AreParameters parameters) where
  module _ (s : MachineState) (event : Event) (enabled : IsTrue (is_enabled parts parameters s event)) (kept : IsKept parts parameters s)
      (worded : IsWorded parts s) where
    abbrev n : ℕ
    n = node_of event

    abbrev v : NodeState
    v = (stepped_by parts parameters s event).node

    here : n < node_count parts
    here = (enabled_is parts parameters s event enabled).here

    next_node : (m : ℕ) → node_at (step parts parameters s event) m ≡ cond (m == n) v (node_at s m)
    next_node m = read_set s.nodes n v no_node m (rw kept.has.sound.standing.nodes here)

    leaves : StepWords (node_at s n) (stepped_by parts parameters s event)
    leaves = step_leaves parts parameters n (node_at s n) (worded.nodes n here) event (taken_by parts s event) (taken_words parts s event worded.links)

    -- how a line's entry is listed, by the node with this number
    abbrev listed : ℕ → NodeState → ℕ → Type 0
    listed line u j = (home_at parts u line).always ≡ (home_at parts (node_at s j) line).always

    still : (line : ℕ) → (entry_of parts (step parts parameters s event) line).always ≡ (entry_of parts s line).always
    still line =
        let home = home_node parts line in
        let each = at_nodes (λ j u. listed line u j) (node_at s) n v (leaves.always (place_of parts line)) (λ j other. refl) home in
        subst (λ (u : NodeState). listed line u home) (sym (next_node home)) each

    step_worded : IsWorded parts (step parts parameters s event)
    step_worded = record {
      nodes = λ m exists. subst NodeWords (sym (next_node m))
          (at_nodes (λ j u. j < node_count parts → NodeWords u) (node_at s) n v (λ l. leaves.left) (λ j other l. worded.nodes j l) m exists);
      always = λ line exists. still line ∙ worded.always line exists;
      links = sent_words parts n _ (links_taken parts s.links event) leaves.sends (left_words parts s.links event worded.links);
    }

  -- ---- a journal

  abbrev Both : MachineState → Type 0
  Both s = IsKept parts parameters s × IsWorded parts s

  entry_worded : (s : MachineState) (entry : Entry) → IsNext parts parameters s entry → Both s → Both (step parts parameters s entry.event)
  entry_worded s entry next both = (entry_kept parts image parameters are s entry next both.0, step_worded s entry.event next.enabled both.0 both.1)

  start_worded : numbers.HasWords parts → Both (machine_start parts)
  start_worded words = (
    start_kept parts image parameters are,
    record {
      nodes = λ m exists. subst NodeWords (sym (node_at_start parts m exists)) (start_words parts image words m exists);
      always = λ line exists. subst (λ (u : NodeState). (home_at parts u line).always ≡ is_always parts line)
          (sym (node_at_start parts (home_node parts line) (home_below parts line exists))) (start_listed parts image words line exists);
      links = no_messages (node_count parts * node_count parts);
    },
  )

  always_worded : (journal : List Entry) → IsLegal parts parameters journal → numbers.HasWords parts → Both (state parts parameters journal)
  unfolding state
  always_worded journal legal words = after_keeps parts parameters Both entry_worded (machine_start parts) journal legal (start_worded words)

-- ---- the words

trapped_at : (at : ℕ) (status : Status) → trapped_rightly at status ≡ true → (pc type : ℕ) → status ≡ Trapped pc type → pc ≡ at
trapped_at at status right pc type e = eqb-true pc at (subst (λ (st : Status). trapped_rightly at st ≡ true) e right)

module _ (parts : Parts) (parameters : Parameters) (s : MachineState) (kept : IsKept parts parameters s) (worded : IsWorded parts s) where
  held_ready : (slot : Slot) (cache : Cache) (open_ones : Transactions) → SlotStands parts parameters cache open_ones slot
      → (o : Option ℕ) → slot.hold ≡ o → IsSome o → slot.status ≡ Ready
  held_ready slot cache open_ones stands None e some = absurd (false≢true some)
  held_ready slot cache open_ones stands (Some line) e some = (stands.holds line e).ready

  slot_is : (n slot : ℕ) → n < node_count parts → SlotHasWords (slot_at (node_at s n).slots slot)
  slot_is n slot here =
      let at = slot_at (node_at s n).slots slot in
      let stands = (kept.has.contexts n here).each slot in
      let words = slot_words (node_at s n).slots slot (worded.nodes n here).slots in
      record {
        regs = words.regs;
        trapped = λ pc type e. (trapped_at at.regs.pc at.status stands.trapped pc type e, words.trap pc type e);
        held = held_ready at (node_at s n).cache (node_at s n).transactions stands at.hold refl;
      }

  words_are : MachineHasWords parts s
  words_are = record {
    slots = λ n slot here there. slot_is n slot here;
    copies = λ n here. (worded.nodes n here).copies;
    homes = λ line lines.
        let home = home_node parts line in
        entry_words (node_at s home).homes (place_of parts line) (worded.nodes home (home_below parts line lines)).homes;
    always = worded.always;
    packets = λ n here. (worded.nodes n here).packets;
    links = λ from to here there. link_words parts s.links (link_place parts from to) worded.links;
  }

pub always_words : (parts : Parts) → IsImage parts → (parameters : Parameters) → AreParameters parameters
    → (journal : List Entry) → IsLegal parts parameters journal → numbers.HasWords parts → MachineHasWords parts (state parts parameters journal)
always_words parts image parameters are journal legal words =
    let both = always_worded parts image parameters are journal legal words in
    words_are parts parameters (state parts parameters journal) both.0 both.1
