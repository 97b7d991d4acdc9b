-- The induction over turns.
use Rattle.std.proofs.Common.{◌≡◌, ℕ, ◌+◌, ◌*◌, ◌<◌, ◌≤◌, true, map, List, [], ◌∷◌, ◌++◌, length, get_or, refl, sym, subst, ap, ◌∙◌, append_assoc, arith, ◌⊎◌, inl, inr}
use Rattle.std.specs.List.{flat_map}
use Rattle.std.proofs.lemmas.Bool.{eq-eqb, false≢true}
use Rattle.std.proofs.lemmas.List.{append-nil, map-append, get_or_past}
use Rattle.std.proofs.lemmas.Grind.{flat_map-append}
use Rattle.std.proofs.Math.Nat.{suc-mul}
use Rattle.alw_num.proofs.Weigh.{cases_lt_then}
use Rattle.sparc_table.specs.declared.outcomes.Outcome.{Outcome}
use Rattle.sparc_table.specs.Registers.{start_of}
use Rattle.alw_image.specs.declared.parts.Parts.{Parts}
use Rattle.alw_image.specs.Images.{node_count, IsImage}
use Rattle.alw_image.specs.Parameters.{Parameters}
use Rattle.alw_msg.specs.declared.events.Entry.{Entry}
use Rattle.alw_msg.specs.declared.contexts.Status.{Status}
use Rattle.alw_msg.specs.declared.contexts.Status.TheVariants as statuses
use Rattle.alw_msg.specs.Statuses.{is_ready, waits_on}
use Rattle.alw_model.specs.Contexts.{slot_at}
use Rattle.alw_model.specs.Machine.{MachineState, machine_start, node_at, step, after, state, AreLegal, IsLegal}
use Rattle.alw_model.specs.Flat.{Flat, Context, AreReady, are_ready, flat_start, flat_after, context_at, flat_turn, turns_after, turns_ready}
use Rattle.alw_model.specs.Runs.{Moment, number_of, moments_from, moments, turn_in, turns_of, flat_view, flat_status, flat_context}
use Rattle.alw_model.proofs.Journals.{after-append, moments_from-append, and_parts}
use Rattle.law_machine.proofs.FlatStarts.{flat_view_is, contexts_length}
use Rattle.law_machine.proofs.FlatViews.{HaveSlots, context_read}
use Rattle.law_machine.proofs.MachineRuns.{IsKept}
use Rattle.law_turns.specs.Limits.{IsKeptBack}
use Rattle.law_turns.proofs.Draining.{StopsThere}
use Rattle.law_turns.proofs.Means.{AreMeans, always_kept}
use Rattle.law_turns.specs.Turns.{IsAtRest, greatest_clock, turns_from, turn_events, AllServe, ServesTurn, ServesTurns}

-- what is shown of each turn: a context that is Ready in a machine at rest is served, or the limit keeps an event back
abbrev pub EachIsServed : Parts → Parameters → Type 0
EachIsServed parts parameters = (s : MachineState) → IsKept parts parameters s → IsAtRest parts s → (c : ℕ) → c < node_count parts → (slot_at (node_at s c).slots 0).status ≡ statuses.Ready
    → (more : List Entry) × (ServesTurn parts parameters s c more ⊎ StopsThere parts parameters c s (turn_events parts) more)

-- a machine at rest has no context that waits
abbrev pub NobodyWaits : Parts → Parameters → Type 0
NobodyWaits parts parameters = (s : MachineState) → IsKept parts parameters s → IsAtRest parts s → (n slot line : ℕ) → n < node_count parts → waits_on line (slot_at (node_at s n).slots slot).status ≡ true → ⊥

module _ (parts : Parts) (parameters : Parameters) where
  pub legal_more : (s : MachineState) (journal more : List Entry) → AreLegal parts parameters s journal → AreLegal parts parameters (after parts parameters s journal) more → AreLegal parts parameters s (journal ++ more)
  legal_more s [] more legal also = also
  legal_more s (entry ∷ rest) more (next, legal) also = (next, legal_more (step parts parameters s entry.event) rest more legal also)

  pub state_more : (journal more : List Entry) → state parts parameters (journal ++ more) ≡ after parts parameters (state parts parameters journal) more
  unfolding state
  state_more journal more = after-append parts parameters (machine_start parts) journal more

  pub journal_more : (journal more : List Entry) → IsLegal parts parameters journal → AreLegal parts parameters (state parts parameters journal) more → IsLegal parts parameters (journal ++ more)
  unfolding state
  journal_more journal more legal also = legal_more (machine_start parts) journal more legal also

  pub turns_more : (s : MachineState) (journal more : List Entry) → turns_from parts parameters s (journal ++ more) ≡ turns_from parts parameters s journal ++ turns_from parts parameters (after parts parameters s journal) more
  turns_more s journal more = ap (flat_map (λ (moment : Moment). turn_in parts (number_of moment) moment.stepped.did)) (moments_from-append parts parameters s journal more)
      ∙ flat_map-append (λ (moment : Moment). turn_in parts (number_of moment) moment.stepped.did) (moments_from parts parameters s journal) (moments_from parts parameters (after parts parameters s journal) more)

  pub turns_of_more : (journal more : List Entry) → turns_of parts parameters (journal ++ more) ≡ turns_of parts parameters journal ++ map (λ (turn : ℕ × Outcome). turn.0) (turns_from parts parameters (state parts parameters journal) more)
  unfolding state moments
  turns_of_more journal more = ap (map (λ (turn : ℕ × Outcome). turn.0)) (turns_more (machine_start parts) journal more)
      ∙ map-append (λ (turn : ℕ × Outcome). turn.0) (turns_from parts parameters (machine_start parts) journal) (turns_from parts parameters (after parts parameters (machine_start parts) journal) more)

-- of turns that are Ready, one behind others is
ready_next : (parts : Parts) (flat : Flat) (done : List ℕ) (c : ℕ) (rest : List ℕ) → turns_ready parts flat (done ++ c ∷ rest) ≡ true → is_ready (context_at (turns_after parts flat done) c).status ≡ true
ready_next parts flat [] c rest is = (and_parts (is_ready (context_at flat c).status) _ is).0
ready_next parts flat (d ∷ done) c rest is = ready_next parts (flat_turn parts flat d).0 done c rest (and_parts (is_ready (context_at flat d).status) _ is).1

pub next_is_ready : (parts : Parts) (done : List ℕ) (c : ℕ) (rest : List ℕ) → AreReady parts (done ++ c ∷ rest) → is_ready (context_at (flat_after parts done) c).status ≡ true
unfolding are_ready flat_after
next_is_ready parts done c rest is = ready_next parts (flat_start parts) done c rest is

-- who is Ready on the flat memory and doesn't wait is Ready
ready_by : (status : Status) → is_ready (flat_status status) ≡ true → ((line : ℕ) → waits_on line status ≡ true → ⊥) → status ≡ statuses.Ready
ready_by statuses.Ready is not = refl
ready_by (statuses.Waiting line) is not = absurd (not line.0 (eq-eqb line.0 line.0 refl))
ready_by statuses.Halted is not = absurd (false≢true is)
ready_by (statuses.Trapped pc tt) is not = absurd (false≢true is)

module _ (parts : Parts) (image : IsImage parts) (one : parts.contexts ≡ 1) (parameters : Parameters) (are : AreMeans parameters) (waits_not : NobodyWaits parts parameters) (serve : EachIsServed parts parameters) where
  -- a legal journal that has some turns goes on to one that serves these behind them, and ends at rest
  pub record HasTurnsBehind (journal : List Entry) (done rest : List ℕ) : Type 0 where
    pub more : List Entry
    pub legal : IsLegal parts parameters (journal ++ more)
    pub taken : turns_of parts parameters (journal ++ more) ≡ done ++ rest
    pub served : ServesTurns parts parameters (state parts parameters journal) rest more
    pub rests : IsAtRest parts (state parts parameters (journal ++ more))

  -- a context of the flat machine, where the journal has these turns
  context_is : (journal : List Entry) → IsLegal parts parameters journal → (c : ℕ) → c < node_count parts
      → context_at (flat_after parts (turns_of parts parameters journal)) c ≡ flat_context (slot_at (node_at (state parts parameters journal) c).slots 0)
  context_is journal legal c here =
      let s = state parts parameters journal in
      let kept = always_kept parts image parameters are journal legal in
      let have : HaveSlots parts.contexts s.nodes = λ n l. (kept.has.contexts n (subst (λ k. n < k) kept.has.sound.standing.nodes l)).size in
      let place : c * parts.contexts + 0 ≡ c = ap (λ k. c * k + 0) one ∙ omega arith in
      ap (λ (f : Flat). context_at f c) (sym (flat_view_is parts parameters are.some_pointer journal legal))
      ∙ (ap (λ p. get_or (flat_view parts parameters s).contexts p (record { regs = start_of 0 0 0; status = statuses.Halted })) (sym place)
      ∙ context_read parts.contexts s.nodes c 0 _ have (subst (λ k. c < k) (sym kept.has.sound.standing.nodes) here) (omega (arith, one)))

  none_past : (journal : List Entry) → IsLegal parts parameters journal → (c : ℕ) → node_count parts ≤ c → context_at (flat_after parts (turns_of parts parameters journal)) c ≡ record { regs = start_of 0 0 0; status = statuses.Halted }
  none_past journal legal c past =
      let s = state parts parameters journal in
      let kept = always_kept parts image parameters are journal legal in
      let have : HaveSlots parts.contexts s.nodes = λ n l. (kept.has.contexts n (subst (λ k. n < k) kept.has.sound.standing.nodes l)).size in
      let size : length (flat_view parts parameters s).contexts ≡ node_count parts * 1 = contexts_length parts.contexts s.nodes have ∙ (λ x. kept.has.sound.standing.nodes x * one x) in
      ap (λ (f : Flat). context_at f c) (sym (flat_view_is parts parameters are.some_pointer journal legal))
      ∙ get_or_past (flat_view parts parameters s).contexts c _ (omega arith)

  -- or it goes on to one that serves the first of them, and begins one of which the limit keeps an event back
  pub record StopsBehind (journal : List Entry) (done rest : List ℕ) : Type 0 where
    pub more : List Entry
    pub legal : IsLegal parts parameters (journal ++ more)
    pub front : List ℕ
    pub next : ℕ
    pub left : List ℕ
    pub split : front ++ next ∷ left ≡ rest
    pub taken : turns_of parts parameters (journal ++ more) ≡ done ++ front
    pub first : List Entry
    pub begun : List Entry
    pub all : first ++ begun ≡ more
    pub served : ServesTurns parts parameters (state parts parameters journal) front first
    pub own : AllServe next begun
    pub back : IsKeptBack parts parameters (state parts parameters (journal ++ more)) next (greatest_clock (state parts parameters journal) + length rest * turn_events parts)

  abbrev pub RunsOrStops : List Entry → List ℕ → List ℕ → Type 0
  RunsOrStops journal done rest = HasTurnsBehind journal done rest ⊎ StopsBehind journal done rest

  back_later : (t : MachineState) (c most more : ℕ) → most ≤ more → IsKeptBack parts parameters t c most → IsKeptBack parts parameters t c more
  back_later t c most more less b = record { event = b.event; own = b.own; enabled = b.enabled; above = b.above; stamp = omega (arith, b.stamp) }

  -- one turn, and then the others
  turn_then : (c : ℕ) (rest done : List ℕ) (journal : List Entry) (m : List Entry) → IsLegal parts parameters journal → turns_of parts parameters journal ≡ done → ServesTurn parts parameters (state parts parameters journal) c m
      → RunsOrStops (journal ++ m) (done ++ c ∷ []) rest → RunsOrStops journal done (c ∷ rest)
  turn_then c rest done journal m legal taken v (inl r) =
      let joined : (journal ++ m) ++ r.more ≡ journal ++ (m ++ r.more) = append_assoc journal m r.more in
      inl (record {
        more = m ++ r.more;
        legal = subst (IsLegal parts parameters) joined r.legal;
        taken = ap (turns_of parts parameters) (sym joined) ∙ (r.taken ∙ append_assoc done (c ∷ []) rest);
        served = (m, (r.more, (refl, (v, subst (λ (t : MachineState). ServesTurns parts parameters t rest r.more) (state_more parts parameters journal m) r.served))));
        rests = subst (λ (j : List Entry). IsAtRest parts (state parts parameters j)) joined r.rests;
      })
  turn_then c rest done journal m legal taken v (inr r) =
      let joined : (journal ++ m) ++ r.more ≡ journal ++ (m ++ r.more) = append_assoc journal m r.more in
      let clocks : greatest_clock (state parts parameters (journal ++ m)) ≤ greatest_clock (state parts parameters journal) + turn_events parts = subst (λ (t : MachineState). greatest_clock t ≤ greatest_clock (state parts parameters journal) + turn_events parts) (sym (state_more parts parameters journal m)) v.clocks in
      let one_more = suc-mul (length rest) (turn_events parts) in
      inr (record {
        more = m ++ r.more;
        legal = subst (IsLegal parts parameters) joined r.legal;
        front = c ∷ r.front;
        next = r.next;
        left = r.left;
        split = ap (λ (ts : List ℕ). c ∷ ts) r.split;
        taken = ap (turns_of parts parameters) (sym joined) ∙ (r.taken ∙ append_assoc done (c ∷ []) r.front);
        first = m ++ r.first;
        begun = r.begun;
        all = append_assoc m r.first r.begun ∙ ap (λ (es : List Entry). m ++ es) r.all;
        served = (m, (r.first, (refl, (v, subst (λ (t : MachineState). ServesTurns parts parameters t r.front r.first) (state_more parts parameters journal m) r.served))));
        own = r.own;
        back = subst (λ (j : List Entry). IsKeptBack parts parameters (state parts parameters j) r.next (greatest_clock (state parts parameters journal) + length (c ∷ rest) * turn_events parts)) joined (back_later _ _ _ _ (omega arith) r.back);
      })

  -- where no turn is taken any more
  stops_here : (c : ℕ) (rest done : List ℕ) (journal : List Entry) (m : List Entry) → IsLegal parts parameters journal → turns_of parts parameters journal ≡ done → StopsThere parts parameters c (state parts parameters journal) (turn_events parts) m → StopsBehind journal done (c ∷ rest)
  stops_here c rest done journal m legal taken x =
      let one_more = suc-mul (length rest) (turn_events parts) in
      record {
        more = m;
        legal = journal_more parts parameters journal m legal x.legal;
        front = [];
        next = c;
        left = rest;
        split = refl;
        taken = turns_of_more parts parameters journal m ∙ (λ i. taken i ++ map (λ (turn : ℕ × Outcome). turn.0) (x.turns i));
        first = [];
        begun = m;
        all = refl;
        served = refl;
        own = x.own;
        back = subst (λ (t : MachineState). IsKeptBack parts parameters t c (greatest_clock (state parts parameters journal) + length (c ∷ rest) * turn_events parts)) (sym (state_more parts parameters journal m))
            (record { event = x.event; own = x.event_own; enabled = x.enabled; above = x.above; stamp = omega (arith, x.stamp) });
      }

  -- from a machine at rest, turn by turn
  pub turns_run : (rest done : List ℕ) (journal : List Entry) → IsLegal parts parameters journal → turns_of parts parameters journal ≡ done → IsAtRest parts (state parts parameters journal) → AreReady parts (done ++ rest) → RunsOrStops journal done rest
  turns_run [] done journal legal taken rests ready = inl (record { more = []; legal = subst (IsLegal parts parameters) (sym (append-nil journal)) legal; taken = ap (turns_of parts parameters) (append-nil journal) ∙ (taken ∙ sym (append-nil done)); served = refl; rests = subst (λ (j : List Entry). IsAtRest parts (state parts parameters j)) (sym (append-nil journal)) rests })
  turns_run (c ∷ rest) done journal legal taken rests ready =
      let s = state parts parameters journal in
      let kept = always_kept parts image parameters are journal legal in
      let is_so : is_ready (context_at (flat_after parts (turns_of parts parameters journal)) c).status ≡ true = ap (λ (ts : List ℕ). is_ready (context_at (flat_after parts ts) c).status) taken ∙ next_is_ready parts done c rest ready in
      cases_lt_then (node_count parts) c
      (λ here.
      let goes : (slot_at (node_at s c).slots 0).status ≡ statuses.Ready = ready_by (slot_at (node_at s c).slots 0).status (sym (ap (λ (x : Context). is_ready x.status) (context_is journal legal c here)) ∙ is_so) (λ line waits. waits_not s kept rests c 0 line here waits) in
      let m = serve s kept rests c here goes in
      by_served m.0 m.1 (λ v. turns_run rest (done ++ c ∷ []) (journal ++ m.0) (journal_more parts parameters journal m.0 legal v.legal) (turns_of_more parts parameters journal m.0 ∙ (λ x. taken x ++ v.turn x))
      (subst (IsAtRest parts) (sym (state_more parts parameters journal m.0)) v.rests) (subst (AreReady parts) (sym (append_assoc done (c ∷ []) rest)) ready)))
      (λ past. absurd (false≢true (sym (ap (λ (x : Context). is_ready x.status) (none_past journal legal c past)) ∙ is_so)))
    where
      by_served : (m : List Entry) → ServesTurn parts parameters (state parts parameters journal) c m ⊎ StopsThere parts parameters c (state parts parameters journal) (turn_events parts) m
          → (ServesTurn parts parameters (state parts parameters journal) c m → RunsOrStops (journal ++ m) (done ++ c ∷ []) rest) → RunsOrStops journal done (c ∷ rest)
      by_served m (inl v) others = turn_then c rest done journal m legal taken v (others v)
      by_served m (inr x) others = inr (stops_here c rest done journal m legal taken x)
