-- What a message weighs: more than all that its delivery sends.
use Rattle.std.proofs.Common.{◌≡◌, ℕ, zero, suc, ◌+◌, ◌*◌, ◌<◌, ◌≤◌, ◌==◌, Bool, true, false, cond, Option, Some, None, List, [], ◌∷◌, ◌++◌, length, get_or, set, refl, ap, ◌∙◌, arith}
use Rattle.std.proofs.lemmas.List.{set_past}
use Rattle.alw_num.specs.Weights.{digit, weigh, times}
use Rattle.alw_num.proofs.Weigh.{weigh_push, weigh-none, cases_lt_then, sum_le, sum_ones, sum_times}
use Rattle.alw_num.proofs.Sets.{times-drop}
use Rattle.alw_num.specs.NodeSets.{Nodes, has_node}
use Rattle.alw_num.specs.declared.addresses.Line.{Line}
use Rattle.alw_num.specs.declared.states.Mode.{Mode}
use Rattle.alw_num.specs.declared.states.Mode.TheVariants.{Read, Write}
use Rattle.alw_num.specs.declared.states.State.{State}
use Rattle.alw_num.specs.declared.states.State.TheVariants.{RO, RW, RT, WT}
use Rattle.alw_msg.specs.declared.messages.Msg.{Msg}
use Rattle.alw_msg.specs.Contents.{ToMemory, RREQ, WREQ, REPM, UPDATE, ACKC, ToCache, RDATA, WDATA, INV, BUSY, Content, ForMemory, ForCache, content}
use Rattle.alw_image.specs.declared.parts.Parts.{Parts}
use Rattle.alw_model.specs.FullMap.{Home, Sends, act, row, others, sole, invs, write_shared, recall, recall_from, give_back, give_back_from, end_read, end_write, acknowledge}
use Rattle.alw_model.specs.Caches.{Copy, Cache, Requests, react, invalidate, evicted, give_up, inv_answer, replaced, copy_at}
use Rattle.alw_model.specs.Messages.{message, to_caches, homeward}
use Rattle.alw_model.specs.Machine.{links_sent, link_place}
use Rattle.law_lines.proofs.Contents.{content_is}
use Rattle.law_machine.proofs.Sums.{weigh_set}

-- as a packet, a message to memory weighs 1 more than all that is sent when the home acts on it; INV goes to at most n nodes
abbrev pub packed : ℕ → ToMemory → ℕ
packed n RREQ = 6 * n + 1
packed n WREQ = 6 * n + 1
packed n (REPM body) = 1
packed n (UPDATE body) = 4
packed n ACKC = 4

abbrev pub cached : ToCache → ℕ
cached (RDATA body) = 3
cached (WDATA body) = 3
cached INV = 6
cached BUSY = 1

-- as a packet, and on a link
abbrev pub packed_in : ℕ → Content → ℕ
packed_in n (ForMemory said) = packed n said
packed_in n (ForCache said) = cached said

abbrev pub heft_in : ℕ → Content → ℕ
heft_in n (ForMemory said) = packed n said + 1
heft_in n (ForCache said) = cached said

abbrev pub packet_heft : ℕ → Msg → ℕ
packet_heft n msg = packed_in n (content msg)

abbrev pub heft : ℕ → Msg → ℕ
heft n msg = heft_in n (content msg)

-- 1 for a BUSY
abbrev pub busy_in : Content → ℕ
busy_in (ForMemory said) = 0
busy_in (ForCache BUSY) = 1
busy_in (ForCache said) = 0

abbrev pub busy : Msg → ℕ
busy msg = busy_in (content msg)

-- ---- weights of what is sent

module _ (f : Content → ℕ) where
  abbrev pub of_msg : Msg → ℕ
  of_msg msg = f (content msg)

  pub sends_weigh : (node stamp line : ℕ) (sends : Sends) → weigh (λ (send : ℕ × Msg). of_msg send.1) (to_caches node stamp line sends) ≡ weigh (λ (send : ℕ × ToCache). f (ForCache send.1)) sends
  sends_weigh node stamp line [] = refl
  sends_weigh node stamp line (send ∷ rest) = λ x. f (content_is node stamp line (ForCache send.1) x) + sends_weigh node stamp line rest x

  pub requests_weigh : (per_node node stamp : ℕ) (requests : Requests) → weigh (λ (send : ℕ × Msg). of_msg send.1) (homeward per_node node stamp requests) ≡ weigh (λ (request : ℕ × ToMemory). f (ForMemory request.1)) requests
  requests_weigh per_node node stamp [] = refl
  requests_weigh per_node node stamp (request ∷ rest) = λ x. f (content_is node stamp request.0 (ForMemory request.1) x) + requests_weigh per_node node stamp rest x

  -- ---- links

  one_more : (links : List (List Msg)) (place : ℕ) (msg : Msg) → weigh (weigh of_msg) (set links place (get_or links place [] ++ msg ∷ [])) ≤ weigh (weigh of_msg) links + of_msg msg
  one_more links place msg = cases_lt_then (length links) place
      (λ fits. omega (arith, weigh_set (weigh of_msg) links place (get_or links place [] ++ msg ∷ []) [] fits, weigh_push of_msg (get_or links place []) msg))
      (λ past. let same = ap (weigh (weigh of_msg)) (set_past links place (get_or links place [] ++ msg ∷ []) past) in omega arith)

  pub links_more : (parts : Parts) (from : ℕ) (sends : List (ℕ × Msg)) (links : List (List Msg)) → weigh (weigh of_msg) (links_sent parts links from sends) ≤ weigh (weigh of_msg) links + weigh (λ (send : ℕ × Msg). of_msg send.1) sends
  links_more parts from [] links = omega arith
  links_more parts from (send ∷ rest) links =
      let place = link_place parts from send.0 in
      omega (arith, links_more parts from rest (set links place (get_or links place [] ++ send.1 ∷ [])), one_more links place send.1)

-- ---- what caches answer

module _ (n : ℕ) where
  abbrev requests_heft : Requests → ℕ
  requests_heft requests = weigh (λ (request : ℕ × ToMemory). heft_in n (ForMemory request.1)) requests

  evicted_light : (o : Option Copy) → requests_heft (evicted o) ≤ 2
  evicted_light None = omega arith
  evicted_light (Some copy) = go copy.mode
    where
      go : (mode : Mode) → requests_heft (give_up copy.line mode copy.body) ≤ 2
      go Write = omega arith
      go Read = omega arith

  invalidate_light : (sets : ℕ) (cache : Cache) (line : ℕ) (o : Option Copy) → requests_heft (invalidate sets cache line o).1 ≤ 5
  invalidate_light sets cache line None = omega arith
  invalidate_light sets cache line (Some copy) = go copy.mode
    where
      go : (mode : Mode) → requests_heft ((line, inv_answer mode copy.body) ∷ []) ≤ 5
      go Write = omega arith
      go Read = omega arith

  pub react_light : (sets : ℕ) (cache : Cache) (line : ℕ) (said : ToCache) → requests_heft (react sets cache line said).1 + 1 ≤ cached said
  react_light sets cache line (RDATA body) = omega (arith, evicted_light (replaced sets cache line))
  react_light sets cache line (WDATA body) = omega (arith, evicted_light (replaced sets cache line))
  react_light sets cache line INV = omega (arith, invalidate_light sets cache line (copy_at sets cache line))
  react_light sets cache line BUSY = omega arith

-- ---- what homes send

abbrev pub sends_heft : Sends → ℕ
sends_heft sends = weigh (λ (send : ℕ × ToCache). cached send.1) sends

abbrev pub sends_busy : Sends → ℕ
sends_busy sends = weigh (λ (send : ℕ × ToCache). busy_in (ForCache send.1)) sends

invs_heft : (js : List ℕ) → sends_heft (invs js) ≡ 6 * length js
invs_heft [] = refl
invs_heft (j ∷ rest) = omega (arith, invs_heft rest)

pub invs_busy : (js : List ℕ) → sends_busy (invs js) ≡ 0
invs_busy [] = refl
invs_busy (j ∷ rest) = omega (arith, invs_busy rest)

-- the members but one of a set of nodes below n are at most n
pub others_few : (n : ℕ) (P : Nodes) (i : ℕ) → ((k : ℕ) → has_node P k ≡ true → k < n) → length (others P i) ≤ n
others_few n P i below =
    let all = sum_times n (others P i) (λ k past. times-drop P i k ∙ none (k == i) (has_node P k) (λ has. absurd (let l = below k has in omega arith))) in
    let few = sum_le n (λ k. times k (others P i)) (λ k. 1) (λ k l. let t = times-drop P i k in omega (arith, one (k == i) (has_node P k))) in
    let ones = sum_ones n in
    omega arith
  where
    none : (b c : Bool) → (c ≡ true → ⊥) → cond b 0 (digit c) ≡ 0
    none true c not = refl
    none false true not = absurd (not refl)
    none false false not = refl

    one : (b c : Bool) → cond b 0 (digit c) ≤ 1
    one true c = omega arith
    one false true = omega arith
    one false false = omega arith

module _ (n : ℕ) (some : 1 ≤ n) (h : Home) (i : ℕ) where
  shared_light : (js : List ℕ) → length js ≤ n → sends_heft (write_shared h i js).1 ≤ 6 * n
  shared_light [] few = omega arith
  shared_light (j ∷ rest) few = omega (arith, invs_heft rest)

  recall_light : (st : State) (o : Option ℕ) → sends_heft (recall h i st o).1 ≤ 6 * n
  recall_light st None = omega arith
  recall_light st (Some owner) = go (i == owner)
    where
      go : (b : Bool) → sends_heft (recall_from h i st owner b).1 ≤ 6 * n
      go true = omega arith
      go false = omega arith

  back_light : (body : Line) (o : Option ℕ) → sends_heft (give_back h i body o).1 ≡ 0
  back_light body None = refl
  back_light body (Some owner) = go (i == owner)
    where
      go : (b : Bool) → sends_heft (give_back_from h body b).1 ≡ 0
      go true = refl
      go false = refl

  read_light : (body : Line) (o : Option ℕ) → sends_heft (end_read h body o).1 ≤ 3
  read_light body None = omega arith
  read_light body (Some k) = omega arith

  write_light : (body : Line) (o : Option ℕ) → sends_heft (end_write h body o).1 ≤ 3
  write_light body None = omega arith
  write_light body (Some k) = omega arith

  acknowledge_light : (ended : Home × Sends) (acks : ℕ) → sends_heft ended.1 ≤ 3 → sends_heft (acknowledge h ended acks).1 ≤ 3
  acknowledge_light ended zero few = omega arith
  acknowledge_light ended (suc zero) few = few
  acknowledge_light ended (suc (suc left)) few = omega arith

  row_light : (st : State) (said : ToMemory) → length (others h.pointers i) ≤ n → sends_heft (row h i st said).1 + 1 ≤ packed n said
  row_light RO RREQ few = omega arith
  row_light RO WREQ few = omega (arith, shared_light (others h.pointers i) few)
  row_light RO (REPM body) few = omega arith
  row_light RO (UPDATE body) few = omega arith
  row_light RO ACKC few = omega arith
  row_light RW RREQ few = omega (arith, recall_light RT (sole h.pointers))
  row_light RW WREQ few = omega (arith, recall_light WT (sole h.pointers))
  row_light RW (REPM body) few = omega (arith, back_light body (sole h.pointers))
  row_light RW (UPDATE body) few = omega arith
  row_light RW ACKC few = omega arith
  row_light RT RREQ few = omega arith
  row_light RT WREQ few = omega arith
  row_light RT (REPM body) few = omega arith
  row_light RT (UPDATE body) few = omega (arith, read_light body (sole h.pointers))
  row_light RT ACKC few = omega (arith, acknowledge_light (end_read h h.body (sole h.pointers)) h.acks (read_light h.body (sole h.pointers)))
  row_light WT RREQ few = omega arith
  row_light WT WREQ few = omega arith
  row_light WT (REPM body) few = omega arith
  row_light WT (UPDATE body) few = omega (arith, write_light body (sole h.pointers))
  row_light WT ACKC few = omega (arith, acknowledge_light (end_write h h.body (sole h.pointers)) h.acks (write_light h.body (sole h.pointers)))

  -- a home sends less than it took
  pub act_light : (said : ToMemory) → ((k : ℕ) → has_node h.pointers k ≡ true → k < n) → sends_heft (act h i said).1 + 1 ≤ packed n said
  act_light said below = row_light h.state said (others_few n h.pointers i below)

-- nothing that a cache sends is a BUSY
pub busy_none : (requests : Requests) → weigh (λ (request : ℕ × ToMemory). busy_in (ForMemory request.1)) requests ≡ 0
busy_none requests = weigh-none (λ (request : ℕ × ToMemory). busy_in (ForMemory request.1)) (λ request. refl) requests
