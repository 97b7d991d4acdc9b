-- What an event acts on is what the line's home acts on: of a node's messages about the line, the first that it sent.
use Rattle.std.proofs.Common.{◌≡◌, ℕ, ◌<◌, ◌==◌, nat_lt, Bool, true, false, cond, Option, Some, None, List}
use Rattle.std.proofs.Common.{[], ◌∷◌, ◌++◌, map, take, flat_map, option_to_list, IsTrue, refl, sym, subst, ap, ◌∙◌}
use Rattle.std.specs.List.{AllByRecursion}
use Rattle.std.proofs.lemmas.Bool.{eq-eqb, ne_eqb, eqb-true, ltb-true, false≢true}
use Rattle.alw_num.specs.Maps.{value_at, passes}
use Rattle.alw_num.specs.declared.addresses.Line.{Line}
use Rattle.alw_num.specs.declared.states.Mode.{Mode}
use Rattle.alw_num.specs.declared.states.Mode.TheVariants.{Read, Write}
use Rattle.alw_num.proofs.Weigh.{is_node}
use Rattle.sparc_table.specs.declared.outcomes.Need.{Need}
use Rattle.sparc_table.specs.declared.outcomes.Need.TheVariants as needs
use Rattle.sparc_table.specs.Turns.{need_of, turn_of}
use Rattle.alw_msg.specs.declared.messages.Msg.{Msg}
use Rattle.alw_msg.specs.declared.events.Event.{Event}
use Rattle.alw_msg.specs.declared.events.Event.TheVariants.{Instr, Handle, Deliver, Evict}
use Rattle.alw_msg.specs.declared.events.Entry.{Entry}
use Rattle.alw_msg.specs.Contents.{ToMemory, ToCache, Content, ForMemory, ForCache, content, is_to_memory, brings_line, request_in}
use Rattle.alw_msg.specs.Events.{node_of}
use Rattle.alw_msg.specs.Lists.{front, is_nonempty}
use Rattle.alw_image.specs.declared.parts.Parts.{Parts}
use Rattle.alw_image.specs.Images.{node_count, line_count}
use Rattle.alw_image.specs.Parameters.{Parameters}
use Rattle.alw_model.specs.declared.steps.Did.{Did}
use Rattle.alw_model.specs.declared.steps.Did.TheVariants.{Took}
use Rattle.alw_model.specs.LimitLess.{is_trapped, is_in_progress}
use Rattle.alw_model.specs.Caches.{Copy, Transaction, granted_copy, replaced}
use Rattle.alw_model.specs.Contexts.{slot_at, running}
use Rattle.alw_model.specs.Messages.{is_fit}
use Rattle.alw_model.specs.NodeStates.{NodeState, home_at, stamp_of, may_reach, may_deliver}
use Rattle.alw_model.specs.NodeSteps.{clocked, access, instr_by, instr, at_home, deliver_by, deliver, handle_by, handle_front}
use Rattle.alw_model.specs.Machine.{MachineState, node_at, link_at, taken_by, is_enabled, stepped_by}
use Rattle.alw_model.specs.Lines.{LineState, LineNode, line_of}
use Rattle.alw_model.specs.Runs.{Moment, moment_of, acted_message, acted_by}
use Rattle.alw_model.proofs.Journals.{and_parts}
use Rattle.law_line.specs.Protocol.{LineEvent, Opens, Stores, Leaves, Comes, Acts, run}
use Rattle.law_line.specs.Exchanges.{acted_at, acted_in}
use Rattle.law_line.proofs.Acted.{acted_in-append}
use Rattle.law_lines.specs.LineEvents.{about, in_leaving, in_miss, in_turn, in_access, in_need, in_instr}
use Rattle.law_lines.specs.LineEvents.{in_cache, in_home, in_delivery, in_packet, in_queue, in_taken, line_events}
use Rattle.law_lines.specs.Standing.{IsPacket, IsStanding}
use Rattle.law_lines.proofs.CacheSide.{old_part}
use Rattle.law_lines.proofs.Arrivals.{down_is}
use Rattle.law_lines.proofs.HomeEvents.{front_up, packet_first}
use Rattle.law_lines.proofs.Steps.{Fit, fit_is, not_is, enabled_is}

-- ---- events at which no home acts

module _ (k : ℕ) where
  idle : (t : LineState) (l : ℕ) (e : LineEvent) → acted_at t e ≡ [] → acted_in t (about k l e) ≡ []
  idle t l e none = go (k == l)
    where
      go : (b : Bool) → acted_in t (cond b (e ∷ []) []) ≡ []
      go true = ap (λ (messages : List (ℕ × ToMemory)). messages ++ []) none
      go false = refl

  leaving_idle : (t : LineState) (n : ℕ) (o : Option Copy) → acted_in t (in_leaving k n o) ≡ []
  leaving_idle t n None = refl
  leaving_idle t n (Some copy) = idle t copy.line (Leaves n) refl

  miss_idle : (t : LineState) (n l : ℕ) (mode : Mode) (o : Option Transaction) → acted_in t (in_miss k n l mode o) ≡ []
  miss_idle t n l mode None = idle t l (Opens n mode) refl
  miss_idle t n l mode (Some transaction) = refl

  turn_idle : (t : LineState) (n l : ℕ) (mode : Mode) (body : Line) → acted_in t (in_turn k n l mode body) ≡ []
  turn_idle t n l Read body = refl
  turn_idle t n l Write body = idle t l (Stores n body) refl

  cache_idle : (t : LineState) (n sets : ℕ) (node : NodeState) (l : ℕ) (said : ToCache) → acted_in t (in_cache k n sets node l said) ≡ []
  cache_idle t n sets node l said =
      acted_in-append t (about k l (Comes n)) _
      ∙ (ap (λ (messages : List (ℕ × ToMemory)). messages ++ acted_in
      (run t (about k l (Comes n))) (cond (brings_line said) (in_leaving k n (replaced sets node.cache l)) [])) (idle t l (Comes n) refl)
      ∙ go (brings_line said) (run t (about k l (Comes n))))
    where
      go : (b : Bool) (u : LineState) → acted_in u (cond b (in_leaving k n (replaced sets node.cache l)) []) ≡ []
      go true u = leaving_idle u n (replaced sets node.cache l)
      go false u = refl

-- ---- what an event acts on

-- what a message says, with its sender
abbrev from_sender : Msg → ToMemory → ℕ × ToMemory
from_sender msg said = (msg.src.0, said)

module _ (parts : Parts) (parameters : Parameters) (s : MachineState) (standing : IsStanding parts parameters s) where
  module _ (k : ℕ) (exists : k < line_count parts) where
    abbrev line : LineState
    line = line_of parts parameters s k

    -- what an event acts on, as its moment has it, is what the home acts on at these events of the line
    abbrev ActsAs : Moment → Did → List LineEvent → Type 0
    ActsAs moment did events = acted_by k moment did ≡ acted_in line events

    -- a message of the line is acted on, the first of its sender's
    acts_first : (msg : Msg) (said : ToMemory) (rest : List ToMemory) → content msg ≡ ForMemory said →
        (k ≡ msg.line.0 → (line.node msg.src.0).up ≡ said ∷ rest) → acted_message k msg ++ [] ≡ acted_in line (about k msg.line.0 (Acts msg.src.0))
    acts_first msg said rest is up =
        let from : ToMemory → ℕ × ToMemory = from_sender msg in
        is_node _ k msg.line.0
        (λ same. ap (λ b. map from (cond b (request_in (content msg)) []) ++ []) (eq-eqb msg.line.0 k (sym same))
        ∙ (ap (λ (c : Content). map from (request_in c) ++ []) is
        ∙ (sym (ap (λ (q : List ToMemory). map from (take 1 q) ++ []) (up same))
        ∙ sym (ap (λ b. acted_in line (cond b (Acts msg.src.0 ∷ []) [])) (eq-eqb k msg.line.0 same)))))
        (λ other. ap (λ b. map from (cond b (request_in (content msg)) []) ++ []) (ne_eqb msg.line.0 k (λ e. other (sym e)))
        ∙ sym (ap (λ b. acted_in line (cond b (Acts msg.src.0 ∷ []) [])) (ne_eqb k msg.line.0 other)))

    -- ---- an instruction

    module _ (moment : Moment) (n stamp : ℕ) where
      access_acts : (slot l : ℕ) (mode : Mode) (o : Option Copy) →
          ActsAs moment (clocked stamp (access parts parameters n stamp (node_at s n) slot l mode o)).did (in_access parts n (node_at s n) slot l mode k o)
      access_acts slot l mode None = sym (miss_idle k line n l mode (value_at (node_at s n).transactions l))
      access_acts slot l mode (Some copy) =
          sym (turn_idle k line n l mode (turn_of parts.code (slot_at (node_at s n).slots slot).regs (line_count parts) copy.body).1)

      need_acts : (slot : ℕ) (need : Need) →
          ActsAs moment (clocked stamp (instr_by parts parameters n stamp (node_at s n) slot need)).did (in_need parts parameters n (node_at s n) slot k need)
      need_acts slot (needs.Copy l mode) = access_acts slot l.0 mode (granted_copy parameters.sets (node_at s n).cache l.0 mode)
      need_acts slot needs.Nothing = refl
      need_acts slot (needs.Trap tt) = refl

      instr_acts : (slot : Option ℕ) → moment.taken ≡ None →
          ActsAs moment (clocked stamp (instr parts parameters n stamp (node_at s n) slot)).did (in_instr parts parameters n (node_at s n) k slot)
      instr_acts None none = ap (λ (o : Option Msg). flat_map (acted_message k) (option_to_list o)) none
      instr_acts (Some slot) none = need_acts slot (need_of parts.code (slot_at (node_at s n).slots slot).regs (line_count parts))

    -- ---- a delivery

    module _ (moment : Moment) (from n stamp : ℕ) (f : from < node_count parts) (here : n < node_count parts) (msg : Msg)
        (e : front (link_at parts s from n) ≡ Some msg) (taken : moment.taken ≡ Some msg) where
      took : acted_by k moment Took ≡ acted_message k msg ++ []
      took = ap (λ (o : Option Msg). flat_map (acted_message k) (option_to_list o)) taken

      memory_acts : (said : ToMemory) → content msg ≡ ForMemory said → Fit parts from n msg (ForMemory said) →
          is_in_progress (home_at parts (node_at s n) msg.line.0).meta ≡ false
          → (b : Bool) → ActsAs moment (clocked stamp (at_home parts parameters n stamp (node_at s n) msg said b)).did (in_home k msg.line.0 msg.src.0 b)
      memory_acts said is fit free true = refl
      memory_acts said is fit free false = took
          ∙ acts_first msg said _ is
          (λ same. ap (λ i. (line.node i).up) fit.source
          ∙ front_up parts parameters s standing from n f here stamp k exists msg e (eqb-true _ _ fit.home) fit.exists fit.source said is free same)

      message_acts : (c : Content) → content msg ≡ c → Fit parts from n msg c → IsTrue (may_reach parts parameters (node_at s n) msg.line.0 c) →
          ActsAs moment (clocked stamp (deliver_by parts parameters n stamp (node_at s n) msg c)).did (in_delivery parts parameters n (node_at s n) k msg c)
      message_acts (ForMemory said) is fit reach =
          memory_acts said is fit (not_is _ reach) (is_trapped parameters.pointers (home_at parts (node_at s n) msg.line.0) msg.src.0 said)
      message_acts (ForCache said) is fit reach = took ∙ (ap (λ (c : Content). map (from_sender msg) (cond (msg.line.0 == k) (request_in c) []) ++ []) is
          ∙ (none (msg.line.0 == k) ∙ sym (cache_idle k line n parameters.sets (node_at s n) msg.line.0 said)))
        where
          none : (b : Bool) → map (from_sender msg) (cond {A = List ToMemory} b [] []) ++ [] ≡ []
          none true = refl
          none false = refl

    delivery_acts : (moment : Moment) (from n stamp : ℕ) → from < node_count parts → n < node_count parts → (head : Option Msg) →
        front (link_at parts s from n) ≡ head → moment.taken ≡ head → IsTrue (passes (may_deliver parts parameters from n (node_at s n)) head)
        → ActsAs moment (clocked stamp (deliver parts parameters n stamp (node_at s n) head)).did (in_taken parts parameters n (node_at s n) k head)
    delivery_acts moment from n stamp f here None e taken may_be = absurd (false≢true may_be)
    delivery_acts moment from n stamp f here (Some msg) e taken may_be =
        let p = and_parts (is_fit parts from n msg) _ may_be in
        message_acts moment from n stamp f here msg e taken (content msg) refl (fit_is parts from n msg p.0) p.1

    -- ---- a packet

    packet_acts : (moment : Moment) (n stamp : ℕ) → n < node_count parts → (packet : Msg) (waiting : List Msg) → (node_at s n).packets ≡ packet ∷ waiting →
        moment.before.packets ≡ packet ∷ waiting → IsPacket parts n packet → (c : Content) → content packet ≡ c
        → ActsAs moment (clocked stamp (handle_by parts parameters n stamp (record (node_at s n) { packets = waiting }) packet c)).did (in_packet k packet c)
    packet_acts moment n stamp here packet waiting queue before packed (ForMemory said) is =
        ap (λ (q : List Msg). flat_map (acted_message k) (take 1 q)) before
        ∙ acts_first packet said _ is (packet_first parts parameters s standing n here stamp k exists packet waiting queue packed said is)
    packet_acts moment n stamp here packet waiting queue before packed (ForCache said) is = absurd (false≢true (sym (ap is_to_memory is) ∙ packed.to_memory))

    queue_acts : (moment : Moment) (n stamp : ℕ) → n < node_count parts → moment.before ≡ node_at s n → (q : List Msg) → (node_at s n).packets ≡ q →
        IsTrue (is_nonempty q) → ActsAs moment (clocked stamp (handle_front parts parameters n stamp (node_at s n) q)).did (in_queue k q)
    queue_acts moment n stamp here before [] e some = absurd (false≢true some)
    queue_acts moment n stamp here before (packet ∷ waiting) e some =
        packet_acts moment n stamp here packet waiting e (ap (λ (u : NodeState). u.packets) before ∙ e)
        (subst (AllByRecursion (IsPacket parts n)) e (standing.each n here).packets).0 (content packet) refl

    -- ---- an event

    moment_acts : (moment : Moment) (event : Event) → moment.before ≡ node_at s (node_of event) → moment.taken ≡ taken_by parts s event →
        IsTrue (is_enabled parts parameters s event) → ActsAs moment (stepped_by parts parameters s event).did (line_events parts parameters s event k)
    moment_acts moment (Instr at) before taken enabled =
        instr_acts moment at.0 (stamp_of (node_at s at.0).clock None) (running (node_at s at.0).slots (node_at s at.0).current) taken
    moment_acts moment (Handle at) before taken enabled =
        let en = enabled_is parts parameters s (Handle at) enabled in
        queue_acts moment at.0 (stamp_of (node_at s at.0).clock None) en.here before (node_at s at.0).packets refl en.may_be
    moment_acts moment (Deliver from to) before taken enabled =
        let en = enabled_is parts parameters s (Deliver from to) enabled in
        let p = and_parts (nat_lt from.0 (node_count parts)) _ en.may_be in
        let head = front (link_at parts s from.0 to.0) in
        delivery_acts moment from.0 to.0 (stamp_of (node_at s to.0).clock head) (ltb-true from.0 (node_count parts) p.0) en.here head refl taken p.1
    moment_acts moment (Evict at set) before taken enabled = sym (leaving_idle k line at.0 (value_at (node_at s at.0).cache set))

    pub event_acts : (entry : Entry) → IsTrue (is_enabled parts parameters s entry.event) →
        ActsAs (moment_of parts parameters s entry) (moment_of parts parameters s entry).stepped.did (line_events parts parameters s entry.event k)
    event_acts entry enabled = moment_acts (moment_of parts parameters s entry) entry.event refl refl enabled

  -- ---- a message that comes to a cache

  -- it is of a line that exists, and the first that its node is sent about it
  abbrev ComesFirst : ℕ → Msg → ToCache → Type 0
  ComesFirst n msg said = (msg.line.0 < line_count parts) × ((rest : List ToCache) × (((line_of parts parameters s msg.line.0).node n).down ≡ said ∷ rest))

  delivery_comes : (from n : ℕ) → from < node_count parts → n < node_count parts → (msg : Msg) → front (link_at parts s from n) ≡ Some msg → (c : Content) →
      Fit parts from n msg c → content msg ≡ c → (said : ToCache) → c ≡ ForCache said → ComesFirst n msg said
  delivery_comes from n f here msg e (ForMemory other) fit is said cache = absurd cc
  delivery_comes from n f here msg e (ForCache other) fit is said cache = (
    fit.exists,
    (
      _,
      ap (λ (u : LineNode). u.down) (old_part parts parameters s n msg.line.0 here)
          ∙ down_is parts parameters s standing from n f here 0 msg.line.0 fit.exists msg e (eqb-true _ _ fit.home) fit.exists said (is ∙ cache) refl,
    ),
  )

  pub event_comes : (event : Event) → IsTrue (is_enabled parts parameters s event) → (msg : Msg) → taken_by parts s event ≡ Some msg → (said : ToCache) →
      content msg ≡ ForCache said → ComesFirst (node_of event) msg said
  event_comes (Instr at) enabled msg taken said is = absurd (let none : None ≡ Some msg = taken in cc)
  event_comes (Handle at) enabled msg taken said is = absurd (let none : None ≡ Some msg = taken in cc)
  event_comes (Evict at set) enabled msg taken said is = absurd (let none : None ≡ Some msg = taken in cc)
  event_comes (Deliver from to) enabled msg taken said is =
      let en = enabled_is parts parameters s (Deliver from to) enabled in
      let p = and_parts (nat_lt from.0 (node_count parts)) _ en.may_be in
      let q = and_parts (is_fit parts from.0 to.0 msg) _
      (subst (λ o. IsTrue (passes (may_deliver parts parameters from.0 to.0 (node_at s to.0)) o)) taken p.1) in
      delivery_comes from.0 to.0 (ltb-true from.0 (node_count parts) p.0) en.here msg taken (content msg) (fit_is parts from.0 to.0 msg q.0) refl said is
