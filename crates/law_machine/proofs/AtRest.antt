-- Once every context has halted: no transaction is open, REPM is all that is on its way, and there is at most one message per line.
use Rattle.std.proofs.Common.{◌≡◌, ℕ, ◌+◌, ◌<◌, ◌≤◌, ◌==◌, Bool, true, false, cond, Option, Some, None, List, [], ◌∷◌, ◌++◌, length, refl, sym, ap, ◌∙◌, arith}
use Rattle.std.specs.List.{list_all}
use Rattle.std.proofs.lemmas.Bool.{eq-eqb, eqb-true}
use Rattle.std.proofs.lemmas.List.Folds.{list_all-append}
use Rattle.law_machine.proofs.Vocabulary.{weigh, sum_below, value_at, State, RO, RW, RT, WT, Msg, Status, Ready, Waiting, Halted, Trapped, Parts, node_count, line_count, Parameters, ToMemory}
use Rattle.law_machine.proofs.Vocabulary.{RREQ, WREQ, REPM, UPDATE, ACKC, ToCache, ForMemory, ForCache, content, request_in, is_repm, Home, act, row, sole, give_back, give_back_from, Transaction}
use Rattle.law_machine.proofs.Vocabulary.{is_halted, waits_on, slot_at, home_node, NodeState, front, behind, MachineState, node_at, link_at, has_halted, LineNode, ups, downs, sent_by, packets_at}
use Rattle.law_machine.proofs.Vocabulary.{line_node, line_of, IsPacket}
use Rattle.alw_num.proofs.Weigh.{sum_le, sum_ones, cases_lt_then}
use Rattle.alw_model.proofs.Journals.{and_parts}
use Rattle.law_line.proofs.Consequences.{rests, one_left}
use Rattle.law_lines.proofs.CacheSide.{old_part}
use Rattle.law_lines.proofs.Taken.{split_front}
use Rattle.law_lines.proofs.Steps.{Fit}
use Rattle.law_lines.proofs.Views.{seen_transaction}
use Rattle.law_machine.proofs.ContextRuns.{HasContexts, down_at}
use Rattle.law_machine.proofs.Ended.{halted_at}
use Rattle.law_machine.proofs.Timing.{HasTimes}
use Rattle.law_machine.proofs.Traffic.{all_counted}

halted_not_waiting : (line : ℕ) (status : Status) → is_halted status ≡ true → waits_on line status ≡ true → ⊥
halted_not_waiting line Ready halted waits = cc
halted_not_waiting line (Waiting waited) halted waits = cc
halted_not_waiting line Halted halted waits = cc
halted_not_waiting line (Trapped pc type) halted waits = cc

-- a home sends nothing on REPM
pub repm_silent : (h : Home) (i : ℕ) (said : ToMemory) → is_repm said ≡ true → (act h i said).1 ≡ []
repm_silent h i RREQ is = absurd (cc)
repm_silent h i WREQ is = absurd (cc)
repm_silent h i (UPDATE body) is = absurd (cc)
repm_silent h i ACKC is = absurd (cc)
repm_silent h i (REPM body) is = go h.state
  where
    from_owner : (b : Bool) → (give_back_from h body b).1 ≡ []
    from_owner true = refl
    from_owner false = refl

    by_owner : (o : Option ℕ) → (give_back h i body o).1 ≡ []
    by_owner None = refl
    by_owner (Some owner) = from_owner (i == owner)

    go : (st : State) → (row h i st (REPM body)).1 ≡ []
    go RO = refl
    go RW = by_owner (sole h.pointers)
    go RT = refl
    go WT = refl

module _ (parts : Parts) (parameters : Parameters) (s : MachineState) (has : HasContexts parts parameters s) (halted : has_halted s ≡ true) where
  -- no transaction is open: its opener would wait
  pub none_open : (n line : ℕ) → n < node_count parts → (o : Option Transaction) → value_at (node_at s n).transactions line ≡ o → o ≡ None
  none_open n line here None e = refl
  none_open n line here (Some t) e = absurd (halted_not_waiting line (slot_at (node_at s n).slots t.opener).status (halted_at s halted n t.opener) ((has.contexts n here).opened line t e).waits)

  idle : (l : ℕ) → l < line_count parts → (i : ℕ) → ((line_of parts parameters s l).node i).transaction ≡ None
  idle l lines i = cases_lt_then (node_count parts) i
      (λ here. ap (λ (v : LineNode). v.transaction) (old_part parts parameters s i l here) ∙ ap seen_transaction (none_open i l here (value_at (node_at s i).transactions l) refl))
      (λ beyond. ap (λ (v : LineNode). v.transaction) ((has.sound.lines l lines).beyond i beyond))

  -- nothing is on its way to a cache, and REPM alone from one
  nothing_down : (l n : ℕ) → l < line_count parts → n < node_count parts → (line_node parts parameters s l n).down ≡ []
  nothing_down l n lines here = ap (λ (v : LineNode). v.down) (sym (old_part parts parameters s n l here)) ∙ (rests (node_count parts) (has.values l) (line_of parts parameters s l) (has.sound.lines l lines) (idle l lines) n).0

  repm_up : (l n : ℕ) → l < line_count parts → n < node_count parts → list_all is_repm (line_node parts parameters s l n).up ≡ true
  repm_up l n lines here = ap (λ (v : LineNode). list_all is_repm v.up) (sym (old_part parts parameters s n l here)) ∙ (rests (node_count parts) (has.values l) (line_of parts parameters s l) (has.sound.lines l lines) (idle l lines) n).1

  -- the head of a link isn't for a cache
  pub no_reply : (from n : ℕ) → n < node_count parts → (msg : Msg) (said : ToCache) → front (link_at parts s from n) ≡ Some msg → Fit parts from n msg (ForCache said) → content msg ≡ ForCache said → ⊥
  no_reply from n here msg said e fit is =
      let down = down_at parts parameters s has.values has.sound from n msg said e (eqb-true (home_node parts msg.line.0) from fit.home) is in
      let none = nothing_down msg.line.0 n fit.exists here in
      let length_none : length (said ∷ downs msg.line.0 (behind (link_at parts s from n))) ≡ 0 = ap length (sym down ∙ none) in
      omega arith

  -- the head of a link to memory is REPM
  pub head_repm : (from n : ℕ) → from < node_count parts → (msg : Msg) (said : ToMemory) → front (link_at parts s from n) ≡ Some msg → Fit parts from n msg (ForMemory said) → content msg ≡ ForMemory said → is_repm said ≡ true
  head_repm from n f msg said e fit is =
      let l = msg.line.0 in
      let home : home_node parts l ≡ n = eqb-true (home_node parts l) n fit.home in
      let waiting = ups l (sent_by from (packets_at parts s l)) in
      let all : list_all is_repm (waiting ++ ups l (link_at parts s from (home_node parts l))) ≡ true = repm_up l from fit.exists f in
      let on_link = (and_parts (list_all is_repm waiting) _ (sym (list_all-append is_repm waiting (ups l (link_at parts s from (home_node parts l)))) ∙ all)).1 in
      (and_parts (is_repm said) (list_all is_repm (ups l (behind (link_at parts s from n)))) (sym (ap (list_all is_repm) (front_up l home)) ∙ on_link)).0
    where
      front_up : (l : ℕ) → home_node parts l ≡ n → ups msg.line.0 (link_at parts s from (home_node parts l)) ≡ said ∷ ups msg.line.0 (behind (link_at parts s from n))
      front_up l home = ap (λ h. ups msg.line.0 (link_at parts s from h)) home ∙ (ap (ups msg.line.0) (split_front (link_at parts s from n) msg e)
          ∙ (λ x. cond (eq-eqb msg.line.0 msg.line.0 refl x) (request_in (is x)) [] ++ ups msg.line.0 (behind (link_at parts s from n))))

  -- the front packet is REPM
  pub packet_repm : (n : ℕ) (packet : Msg) (waiting : List Msg) (said : ToMemory) → (node_at s n).packets ≡ packet ∷ waiting → IsPacket parts n packet → content packet ≡ ForMemory said → is_repm said ≡ true
  packet_repm n packet waiting said queue packed is =
      let l = packet.line.0 in
      let i = packet.src.0 in
      let rest = ups l (sent_by i waiting) in
      let link = ups l (link_at parts s i (home_node parts l)) in
      let own : ups l (sent_by i (packets_at parts s l)) ≡ said ∷ rest = ap (λ h. ups l (sent_by i (node_at s h).packets)) packed.home ∙ (ap (λ (q : List Msg). ups l (sent_by i q)) queue
      ∙ (ap (λ b. ups l (cond b (packet ∷ sent_by i waiting) (sent_by i waiting))) (eq-eqb i i refl) ∙ (λ x. cond (eq-eqb l l refl x) (request_in (is x)) [] ++ rest))) in
      let all : list_all is_repm (ups l (sent_by i (packets_at parts s l)) ++ link) ≡ true = repm_up l i packed.line packed.source in
      (and_parts (is_repm said) (list_all is_repm (rest ++ link)) (sym (ap (λ (u : List ToMemory). list_all is_repm (u ++ link)) own) ∙ all)).0

  -- at most one message or packet per line is left
  pub few_left : HasTimes parts parameters s → weigh length s.links + weigh (λ (node : NodeState). length node.packets) s.nodes ≤ line_count parts
  few_left times =
      let ones = sum_ones (line_count parts) in
      let few = sum_le (line_count parts) (λ l. sum_below (node_count parts) (λ i. length ((line_of parts parameters s l).node i).up + length ((line_of parts parameters s l).node i).down)) (λ l. 1)
      (λ l lines. one_left (node_count parts) (has.values l) (line_of parts parameters s l) (has.sound.lines l lines) (idle l lines)) in
      omega (arith, all_counted parts parameters s has.sound.standing times)
