-- A request and an answer to it are never both on their way; and what is no answer wakes no slot.
use Rattle.std.proofs.Common.{◌≡◌, ℕ, zero, suc, ◌<◌, ◌≤◌, ◌+◌, ◌==◌, ◌&&◌, not, nat_lt, Bool, true, false, cond, Option, Some, None, List, [], ◌∷◌, ◌++◌, map, slice_index_or, IsTrue, refl, sym, subst, ap, ◌∙◌, arith}
use Rattle.std.proofs.lemmas.Bool.{eq-eqb, eqb-true, false≢true}
use Rattle.alw_num.specs.declared.addresses.Line.{Line}
use Rattle.alw_num.specs.declared.addresses.LineNo.{LineNo}
use Rattle.alw_num.specs.Maps.{passes}
use Rattle.alw_num.specs.Weights.{digit}
use Rattle.alw_num.proofs.Weigh.{weigh-append}
use Rattle.alw_msg.specs.declared.messages.Kind.{Kind}
use Rattle.alw_msg.specs.declared.messages.Kind.TheVariants as kinds
use Rattle.alw_msg.specs.declared.messages.Msg.{Msg}
use Rattle.alw_msg.specs.declared.events.Event.{Event}
use Rattle.alw_msg.specs.declared.events.Event.TheVariants.{Instr, Handle, Deliver, Evict}
use Rattle.alw_msg.specs.Contents.{ToMemory, RREQ, WREQ, ToCache, RDATA, WDATA, BUSY, ForMemory, ForCache, content, content_by, request_in, is_rreq, is_wreq, is_rdata, is_wdata, is_busy}
use Rattle.alw_msg.specs.Lists.{front, behind, count_of}
use Rattle.alw_msg.specs.Statuses.{is_ready}
use Rattle.alw_image.specs.declared.parts.Parts.{Parts}
use Rattle.alw_image.specs.Images.{node_count}
use Rattle.alw_image.specs.Parameters.{Parameters}
use Rattle.alw_model.specs.declared.steps.Did.{Did}
use Rattle.alw_model.specs.declared.steps.Did.TheVariants.{Turn, Missed, Took, Packet, Handled, Evicted}
use Rattle.alw_model.specs.Contexts.{Slot, slot_at}
use Rattle.alw_model.specs.Messages.{home_node, is_at_home, is_fit}
use Rattle.alw_model.specs.NodeStates.{NodeState, may_deliver}
use Rattle.alw_model.specs.NodeSteps.{deliver_by, deliver}
use Rattle.alw_model.specs.Machine.{MachineState, node_at, link_at, taken_by, is_enabled}
use Rattle.alw_model.specs.Lines.{ups, sent_by, packets_at}
use Rattle.alw_model.proofs.Journals.{and_parts}
use Rattle.law_lines.proofs.Steps.{Fit, fit_is, enabled_is}
use Rattle.law_lines.proofs.Taken.{split_front}
use Rattle.law_machine.specs.Values.{MachineIsSoundWith}
use Rattle.law_machine.proofs.ContextRuns.{fits_at, down_at}
use Rattle.alw_times.specs.Happening.{becomes_ready}
use Rattle.alw_waits.specs.Waits.{is_request, is_answer, is_line}
use Rattle.law_times.proofs.Lines.{is_of, Apart}
use Rattle.law_times.proofs.Misses.{came_of, left_of, coming, leaving}

-- ---- what a request and an answer say

-- a request
pub record SaysRequest (kind : Kind) (body : Line) : Type 0 where
  pub said : ToMemory
  pub is : content_by kind body ≡ ForMemory said
  pub counts : 1 ≤ digit (is_rreq said) + digit (is_wreq said)

request_said : (kind : Kind) (body : Line) → is_request kind ≡ true → SaysRequest kind body
request_said kinds.RREQ body is = record { said = RREQ; is = refl; counts = omega arith }
request_said kinds.WREQ body is = record { said = WREQ; is = refl; counts = omega arith }
request_said kinds.REPM body is = absurd (false≢true is)
request_said kinds.UPDATE body is = absurd (false≢true is)
request_said kinds.ACKC body is = absurd (false≢true is)
request_said kinds.RDATA body is = absurd (false≢true is)
request_said kinds.WDATA body is = absurd (false≢true is)
request_said kinds.INV body is = absurd (false≢true is)
request_said kinds.BUSY body is = absurd (false≢true is)

-- an answer
pub record SaysAnswer (kind : Kind) (body : Line) : Type 0 where
  pub said : ToCache
  pub is : content_by kind body ≡ ForCache said
  pub counts : 1 ≤ digit (is_rdata said) + digit (is_wdata said) + digit (is_busy said)

answer_said : (kind : Kind) (body : Line) → is_answer kind ≡ true → SaysAnswer kind body
answer_said kinds.RDATA body is = record { said = RDATA body; is = refl; counts = omega arith }
answer_said kinds.WDATA body is = record { said = WDATA body; is = refl; counts = omega arith }
answer_said kinds.BUSY body is = record { said = BUSY; is = refl; counts = omega arith }
answer_said kinds.RREQ body is = absurd (false≢true is)
answer_said kinds.WREQ body is = absurd (false≢true is)
answer_said kinds.REPM body is = absurd (false≢true is)
answer_said kinds.UPDATE body is = absurd (false≢true is)
answer_said kinds.ACKC body is = absurd (false≢true is)
answer_said kinds.INV body is = absurd (false≢true is)

-- ---- both on their way

module _ (parts : Parts) (parameters : Parameters) (s : MachineState) where
  -- an enabled delivery takes a message that is fit
  fit_of : (from to : ℕ) (msg : Msg) → IsTrue (nat_lt from (node_count parts) && passes (may_deliver parts parameters from to (node_at s to)) (front (link_at parts s from to))) →
      front (link_at parts s from to) ≡ Some msg → Fit parts from to msg (content msg)
  fit_of from to msg may is =
      let test = and_parts (nat_lt from (node_count parts)) _ may in
      let passed : IsTrue (may_deliver parts parameters from to (node_at s to) msg) =
      subst (λ (head : Option Msg). IsTrue (passes (may_deliver parts parameters from to (node_at s to)) head)) is test.1 in
      fit_is parts from to msg (and_parts (is_fit parts from to msg) _ passed).0

  -- the messages to a line's home on a link that begins with a request
  request_counts : (from n : ℕ) (msg : Msg) (said : ToMemory) → front (link_at parts s from n) ≡ Some msg → home_node parts msg.line.0 ≡ n → content msg ≡ ForMemory said →
      ups msg.line.0 (link_at parts s from (home_node parts msg.line.0)) ≡ said ∷ ups msg.line.0 (behind (link_at parts s from n))
  request_counts from n msg said e home is =
      ap (λ (h : ℕ). ups msg.line.0 (link_at parts s from h)) home
      ∙ (ap (ups msg.line.0) (split_front (link_at parts s from n) msg e)
      ∙ (λ x. cond (eq-eqb msg.line.0 msg.line.0 refl x) (request_in (is x)) [] ++ ups msg.line.0 (behind (link_at parts s from n))))

  -- requests of a node about a line that are on their way
  abbrev requests_of : ℕ → ℕ → ℕ
  requests_of from line = count_of is_rreq (ups line (link_at parts s from (home_node parts line))) + count_of is_wreq (ups line (link_at parts s from (home_node parts line)))

  one_request : (from n : ℕ) (msg : Msg) → front (link_at parts s from n) ≡ Some msg → Fit parts from n msg (content msg) → is_request msg.kind ≡ true → 1 ≤ requests_of from msg.line.0
  one_request from n msg e fit is =
      let says = request_said msg.kind msg.body is in
      let home : home_node parts msg.line.0 ≡ n = at_home says.said says.is in
      let all = request_counts from n msg says.said e home says.is in
      let reads = ap (count_of is_rreq) all in
      let writes = ap (count_of is_wreq) all in
      omega (arith, reads, writes, says.counts)
    where
      at_home : (said : ToMemory) → content msg ≡ ForMemory said → home_node parts msg.line.0 ≡ n
      at_home said says = eqb-true (home_node parts msg.line.0) n (subst (λ c. IsTrue (is_at_home c (home_node parts msg.line.0) from n)) says fit.home)

  module _ (values : ℕ → Line) (sound : MachineIsSoundWith parts parameters values s) where
    never_both : (from n b m : ℕ) (msg answer : Msg) → m < node_count parts → front (link_at parts s from n) ≡ Some msg → front (link_at parts s b m) ≡ Some answer →
        Fit parts from n msg (content msg) → Fit parts b m answer (content answer) → is_request msg.kind ≡ true → is_answer answer.kind ≡ true →
        from ≡ m → msg.line.0 ≡ answer.line.0 → ⊥
    never_both from n b m msg answer here e f fit fits asks tells node line =
        let l = answer.line.0 in
        let says = answer_said answer.kind answer.body tells in
        let home : home_node parts l ≡ b = eqb-true (home_node parts l) b (subst (λ c. IsTrue (is_at_home c (home_node parts l) b m)) says.is fits.home) in
        let down = down_at parts parameters s values sound b m answer says.said f home says.is in
        let c = fits_at parts parameters s values sound l m fits.exists here in
        let rdata = ap (count_of is_rdata) down in
        let wdata = ap (count_of is_wdata) down in
        let busy = ap (count_of is_busy) down in
        let asked : 1 ≤ requests_of m l = subst (λ (k : ℕ). 1 ≤ requests_of k l) node (subst (λ (k : ℕ). 1 ≤ requests_of from k) line (one_request from n msg e fit asks)) in
        let packets = ups l (sent_by m (packets_at parts s l)) in
        let link = ups l (link_at parts s m (home_node parts l)) in
        let reads = weigh-append (λ (said : ToMemory). digit (is_rreq said)) packets link in
        let writes = weigh-append (λ (said : ToMemory). digit (is_wreq said)) packets link in
        absurd (omega (arith, rdata, wdata, busy, asked, reads, writes, says.counts, c.tokens, c.one_transaction))

    -- so a line doesn't come to a node's where it leaves them
    apart_lines : (from n b m : ℕ) (msg answer : Msg) (did : Did) → m < node_count parts → front (link_at parts s from n) ≡ Some msg → front (link_at parts s b m) ≡ Some answer →
        Fit parts from n msg (content msg) → Fit parts b m answer (content answer) → Apart (came_of from did msg) (left_of m answer)
    apart_lines from n b m msg answer (Turn slot outcome) here e f fit fits node line = refl
    apart_lines from n b m msg answer (Missed slot) here e f fit fits node line = refl
    apart_lines from n b m msg answer Took here e f fit fits node line = refl
    apart_lines from n b m msg answer (Handled kind state) here e f fit fits node line = refl
    apart_lines from n b m msg answer Evicted here e f fit fits node line = refl
    apart_lines from n b m msg answer Packet here e f fit fits node line = go (is_request msg.kind) (is_answer answer.kind) refl refl
      where
        never : is_request msg.kind ≡ true → is_answer answer.kind ≡ true → (c d g h : Bool) → (node == from) ≡ c → (line.0 == msg.line.0) ≡ d → (node == m) ≡ g → (line.0 == answer.line.0) ≡ h →
            ((c && d) && (g && h)) ≡ false
        never asks tells true true true true one two three four =
            absurd (never_both from n b m msg answer here e f fit fits asks tells (sym (eqb-true node from one) ∙ eqb-true node m three)
            (sym (eqb-true line.0 msg.line.0 two) ∙ eqb-true line.0 answer.line.0 four))
        never asks tells false d g h one two three four = refl
        never asks tells true false g h one two three four = refl
        never asks tells true true false h one two three four = refl
        never asks tells true true true false one two three four = refl

        and_none : (b : Bool) → (b && false) ≡ false
        and_none true = refl
        and_none false = refl

        go : (asks tells : Bool) → is_request msg.kind ≡ asks → is_answer answer.kind ≡ tells →
            (is_of (cond asks (Some (from, msg.line)) None) node line && is_of (cond tells (Some (m, answer.line)) None) node line) ≡ false
        go false tells is also = refl
        go true false is also = and_none (node == from && is_line line msg.line)
        go true true is also = never is also (node == from) (line.0 == msg.line.0) (node == m) (line.0 == answer.line.0) refl refl refl refl

    none_left : (o : Option (ℕ × LineNo)) → Apart o None
    none_left None node line = refl
    none_left (Some one) node line = and_none (node == one.0 && is_line line one.1)
      where
        and_none : (b : Bool) → (b && false) ≡ false
        and_none true = refl
        and_none false = refl

    -- two enabled events
    pub events_apart : (e f : Event) (did : Did) → IsTrue (is_enabled parts parameters s e) → IsTrue (is_enabled parts parameters s f) → Apart (coming e did (taken_by parts s e)) (leaving f (taken_by parts s f))
    events_apart (Instr at) f did one other node line = refl
    events_apart (Handle at) f did one other node line = refl
    events_apart (Evict at set) f did one other node line = refl
    events_apart (Deliver from n) (Instr at) did one other node line = none_left (coming (Deliver from n) did (taken_by parts s (Deliver from n))) node line
    events_apart (Deliver from n) (Handle at) did one other node line = none_left (coming (Deliver from n) did (taken_by parts s (Deliver from n))) node line
    events_apart (Deliver from n) (Evict at set) did one other node line = none_left (coming (Deliver from n) did (taken_by parts s (Deliver from n))) node line
    events_apart (Deliver from n) (Deliver b m) did one other node line = go (front (link_at parts s from.0 n.0)) (front (link_at parts s b.0 m.0)) refl refl
      where
        go : (o p : Option Msg) → front (link_at parts s from.0 n.0) ≡ o → front (link_at parts s b.0 m.0) ≡ p →
            (is_of (coming (Deliver from n) did o) node line && is_of (leaving (Deliver b m) p) node line) ≡ false
        go None p is also = refl
        go (Some msg) None is also = none_left (came_of from.0 did msg) node line
        go (Some msg) (Some answer) is also =
            let first = enabled_is parts parameters s (Deliver from n) one in
            let second = enabled_is parts parameters s (Deliver b m) other in
            apart_lines from.0 n.0 b.0 m.0 msg answer did second.here is also (fit_of from.0 n.0 msg first.may_be is) (fit_of b.0 m.0 answer second.may_be also) node line

-- ---- what is no answer wakes no slot

-- no flag is set
pub flags_none : (test : ℕ → Bool) (xs : List ℕ) (slot : ℕ) → ((k : ℕ) → test k ≡ false) → slice_index_or (map test xs) slot false ≡ false
flags_none test [] slot each = refl
flags_none test (x ∷ xs) zero each = each x
flags_none test (x ∷ xs) (suc slot) each = flags_none test xs slot each

not_and : (b : Bool) → (not b && b) ≡ false
not_and true = refl
not_and false = refl

-- no slot becomes Ready where slots stay
pub none_ready : (before after : List Slot) (k : ℕ) → after ≡ before → becomes_ready before after k ≡ false
none_ready before after k same =
    ap (λ (slots : List Slot). becomes_ready before slots k) same ∙ not_and (is_ready (slot_at before k).status)

-- what is no answer leaves the slots
pub slots_stay : (parts : Parts) (parameters : Parameters) (n stamp : ℕ) (node : NodeState) (msg : Msg) → is_answer msg.kind ≡ false → (deliver parts parameters n stamp node (Some msg)).node.slots ≡ node.slots
slots_stay parts parameters n stamp node msg is = go msg.kind is
  where
    go : (kind : Kind) → is_answer kind ≡ false → (deliver_by parts parameters n stamp node msg (content_by kind msg.body)).node.slots ≡ node.slots
    go kinds.RREQ free = refl
    go kinds.WREQ free = refl
    go kinds.REPM free = refl
    go kinds.UPDATE free = refl
    go kinds.ACKC free = refl
    go kinds.RDATA free = absurd (false≢true (sym free))
    go kinds.WDATA free = absurd (false≢true (sym free))
    go kinds.INV free = refl
    go kinds.BUSY free = absurd (false≢true (sym free))
