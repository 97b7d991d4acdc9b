-- One turn of a context on a machine: what holds while it is under way, and what it comes to.
use Rattle.std.proofs.Common.{◌≡◌, ℕ, ◌+◌, ◌*◌, ◌/◌, ◌%◌, ◌<◌, ◌&&◌, Bool, true, false, find, filter, map, Option, Some, None, inl, List, [], ◌∷◌, ◌++◌, length, refl, sym, subst, ap, ◌∙◌, arith, append_assoc, append-nil}
use Rattle.std.proofs.Common.{length-append}
use Rattle.std.proofs.lemmas.Bool.{eq-eqb}
use Rattle.std.proofs.lemmas.Nat.{div-add-mod'}
use Rattle.std.proofs.Math.Nat.{div-one}
use Rattle.sparc_table.specs.declared.outcomes.Outcome.{Outcome}
use Rattle.alw_image.specs.declared.parts.Parts.{Parts}
use Rattle.alw_image.specs.Images.{node_count, context_count, line_count}
use Rattle.alw_image.specs.Parameters.{Parameters}
use Rattle.alw_msg.specs.declared.events.Event.{Event}
use Rattle.alw_msg.specs.declared.events.Event.TheVariants.{Instr}
use Rattle.alw_msg.specs.declared.contexts.Status.TheVariants.{Ready}
use Rattle.alw_msg.specs.declared.events.Entry.{Entry}
use Rattle.alw_msg.specs.Statuses.{is_ready, has_trapped}
use Rattle.alw_model.specs.declared.steps.Did.{Did}
use Rattle.alw_model.specs.declared.steps.Did.TheVariants as acts
use Rattle.alw_model.specs.Machine.{MachineState, machine_start, node_at, IsLegal, AreLegal, IsNext, is_enabled, is_within_limit, is_settled, main_events, stamp_at, step, stepped_by, state, after}
use Rattle.alw_model.specs.Flat.{flat_after, context_at}
use Rattle.alw_num.specs.declared.addresses.NodeNo.{NodeNo}
use Rattle.alw_num.specs.declared.states.Mode.{Mode}
use Rattle.sparc_table.specs.Turns.{need_of}
use Rattle.sparc_table.specs.declared.outcomes.Need.{Need}
use Rattle.sparc_table.specs.declared.outcomes.Need.TheVariants as needs
use Rattle.alw_model.specs.Caches.{Copy, granted_copy}
use Rattle.alw_model.specs.Contexts.{slot_at, running}
use Rattle.alw_model.specs.NodeStates.{NodeState}
use Rattle.alw_model.specs.NodeSteps.{access, instr_by, instr}
use Rattle.alw_model.specs.Runs.{turn_in}
use Rattle.alw_model.proofs.Journals.{and_parts}
use Rattle.law_machine.proofs.FlatSlots.{ready_is}
use Rattle.law_machine.proofs.MachineRuns.{always_kept}
use Rattle.law_turns.specs.Turns.{IsAtRest, greatest_clock, turn_events, turns_from, serves, AllServe, ServesTurn}
use Rattle.law_turns.specs.Limits.{IsKeptBack}
use Rattle.law_turns.proofs.Draining.{quiet_own}
use Rattle.law_turns.specs.Orders.{is_quiet, AllQuiet, entry_for, HasQuiet}
use Rattle.law_turns.proofs.Scheduled.{legal_before, legal_behind}
use Rattle.law_turns.proofs.Serving.{can_run}
use Rattle.law_turns.proofs.Turns.{state_more, turns_of_more}
use Rattle.alw_mesh.specs.Histories.{History, IsRun, state_of, entry_of, grown, may_be_next}
use Rattle.alw_mesh.specs.Ends.{next_events}
use Rattle.alw_mesh.specs.Readings.{turns_in}
use Rattle.alw_serve.specs.declared.errors.Hindrance.{Hindrance}
use Rattle.alw_serve.specs.declared.errors.Hindrance.TheVariants.{NotReady, NotCurrent, AboveLimit}
use Rattle.alw_serve.specs.Serving.{with_more, GoesOnBy, TurnIsTaken, TurnIsLate, TurnIsHindered, IsHindered, IsNotReady, MayGo, IsLate, Hinders, HasSettled}
use Rattle.alw_serve.proofs.Turning.{TurnIsBegun, quiet_turns, quiet_serve, no_turn, kept_back, moves_so, turn_so, begun_so, above_so, none_quiet}
use Rattle.alw_num.proofs.Alls.{all_append}

-- the node of a context
abbrev pub node_for : History → ℕ → ℕ
node_for h context = context / h.image.contexts

abbrev pub own_event : ℕ → Event
own_event n = Instr (record { 0 = n })

-- the slot of a turn is the one that ran
copied : (parts : Parts) (parameters : Parameters) (n stamp : ℕ) (node : NodeState) (slot line : ℕ) (mode : Mode) (copy : Option Copy) (s : ℕ) (outcome : Outcome)
    → (access parts parameters n stamp node slot line mode copy).did ≡ acts.Turn s outcome → s ≡ slot
copied parts parameters n stamp node slot line mode None s outcome e = absurd (cc)
copied parts parameters n stamp node slot line mode (Some copy) s outcome e = cc

needed : (parts : Parts) (parameters : Parameters) (n stamp : ℕ) (node : NodeState) (slot : ℕ) (need : Need) (s : ℕ) (outcome : Outcome) → (instr_by parts parameters n stamp node slot need).did ≡ acts.Turn s outcome → s ≡ slot
needed parts parameters n stamp node slot (needs.Copy line mode) s outcome e = copied parts parameters n stamp node slot line.0 mode (granted_copy parameters.sets node.cache line.0 mode) s outcome e
needed parts parameters n stamp node slot needs.Nothing s outcome e = cc
needed parts parameters n stamp node slot (needs.Trap tt') s outcome e = cc

slot_is : (parts : Parts) (parameters : Parameters) (n stamp : ℕ) (node : NodeState) (o : Option ℕ) (slot : ℕ) → o ≡ Some slot → (s : ℕ) (outcome : Outcome) → (instr parts parameters n stamp node o).did ≡ acts.Turn s outcome → s ≡ slot
slot_is parts parameters n stamp node None slot some s outcome e = absurd (cc)
slot_is parts parameters n stamp node (Some other) slot some s outcome e =
    let same : other ≡ slot = cc in
    needed parts parameters n stamp node other (need_of parts.code (slot_at node.slots other).regs (line_count parts)) s outcome e ∙ same

whole_place : (context count : ℕ) → context / count * count + context % count ≡ context
whole_place context count = div-add-mod' context count

-- ---- a turn under way

-- with one context a node a context's number is its node's
pub alone_is : (before : History) (context : ℕ) → before.image.contexts ≡ 1 → node_for before context ≡ context
alone_is before context one = ap (λ k. context / k) one ∙ div-one context

-- what was done of a context's turn so far
pub record TurnIsUnderWay (before : History) (context : ℕ) (more : List Entry) : Type 0 where
  pub own : AllServe (node_for before context) more
  pub turns : turns_in (with_more before more) ≡ turns_in before
  pub begun : before.image.contexts ≡ 1 → IsAtRest before.image (state_of before) → TurnIsBegun before.image before.parameters (state_of before) (node_for before context) more × (is_settled (state_of (with_more before more)) ≡ true)

module _ (before : History) (context : ℕ) where
  abbrev n : ℕ
  n = node_for before context

  abbrev image : Parts
  image = before.image

  abbrev parameters : Parameters
  parameters = before.parameters

  none_more : with_more before [] ≡ before
  none_more = ap (λ (j : List Entry). record before { journal = j }) (append-nil before.journal)

  pub begins : TurnIsUnderWay before context []
  begins = record { own = tt; turns = ap turns_in none_more; begun = λ one rests. (inl refl, ap (λ (x : History). is_settled (state_of x)) none_more ∙ rests.settled) }

  module _ (more : List Entry) (way : TurnIsUnderWay before context more) where
    abbrev h : History
    h = with_more before more

    joined : (es : List Entry) → with_more h es ≡ with_more before (more ++ es)
    joined es = ap (λ (j : List Entry). record before { journal = j }) (append_assoc before.journal more es)

    -- more entries, with these turns
    goes_by : (es : List Entry) (taken : List ℕ) → AllServe n es → map (λ (turn : ℕ × Outcome). turn.0) (turns_from image parameters (state_of h) es) ≡ taken → GoesOnBy before context taken (with_more h es) (more ++ es)
    goes_by es taken own turns = record {
      after_is = joined es;
      own = all_append (λ (entry : Entry). serves n entry.event ≡ true) more es way.own own;
      turns = turns_of_more image parameters (before.journal ++ more) es ∙ (λ i. way.turns i ++ turns i);
    }

    module _ (run : IsRun h) where
      legal_first : IsLegal image parameters before.journal
      legal_first = legal_before image parameters (machine_start image) before.journal more run.legal

      behind : AreLegal image parameters (state_of before) more
      unfolding state
      behind = legal_behind image parameters (machine_start image) before.journal more run.legal

      stands : state_of h ≡ after image parameters (state_of before) more
      stands = state_more image parameters before.journal more

      next_is : (event : Event) → may_be_next h event ≡ true → IsNext image parameters (state_of h) (entry_of h event)
      next_is event may = let both = and_parts _ _ may in record { enabled = both.0; within = both.1; stamp = refl }

      -- ---- a turn was taken

      pub taken_so : MayGo h context → (slot : ℕ) (outcome : Outcome) → (stepped_by image parameters (state_of h) (own_event n)).did ≡ acts.Turn slot outcome → IsRun (grown h (own_event n))
          → TurnIsTaken before context (grown h (own_event n))
      taken_so may slot outcome did run_after =
          let same : slot ≡ context % image.contexts = slot_is image parameters n _ (node_at (state_of h) n) (running (node_at (state_of h) n).slots (node_at (state_of h) n).current) (context % image.contexts) may.runs slot outcome did in
          let place : n * image.contexts + slot ≡ context = ap (λ k. n * image.contexts + k) same ∙ whole_place context image.contexts in
          let turns : map (λ (turn : ℕ × Outcome). turn.0) (turn_in image n (stepped_by image parameters (state_of h) (own_event n)).did ++ []) ≡ context ∷ [] =
          ap (λ (d : Did). map (λ (turn : ℕ × Outcome). turn.0) (turn_in image n d ++ [])) did ∙ ap (λ k. k ∷ []) place in
          record {
            more = more ++ entry_of h (own_event n) ∷ [];
            goes = goes_by (entry_of h (own_event n) ∷ []) (context ∷ []) (eq-eqb n n refl, tt) turns;
            run = run_after;
            calm = λ other. ap (λ (done : List ℕ). has_trapped (context_at (flat_after image done) other).status) (sym way.turns) ∙ may.calm other;
            served = λ one rests.
                let b = way.begun one rests in
                let alone : n ≡ context = by_one one in
                subst (λ k. ServesTurn image parameters (state_of before) k (more ++ entry_of h (own_event n) ∷ [])) alone
                (subst (λ (t : MachineState). ServesTurn image parameters (state_of before) n (more ++ entry_for image t (own_event n) ∷ [])) (sym stands)
                (turn_so image run.image one parameters run.parameters before.journal legal_first rests n more b.0 behind
                (subst (λ (t : MachineState). is_settled t ≡ true) stands b.1)
                (subst (λ (t : MachineState). IsNext image parameters t (entry_for image t (own_event n))) stands (next_is (own_event n) may.may))
                (here_is may.here one)
                (λ none. no_pair (sym (ap (λ (d : Did). turn_in image n d) did) ∙ (ap (λ (t : MachineState). turn_in image n (stepped_by image parameters t (own_event n)).did) stands ∙ none)))));
          }
        where
          by_one : image.contexts ≡ 1 → n ≡ context
          by_one one = alone_is before context one

          here_is : context < context_count image → image.contexts ≡ 1 → n < node_count image
          here_is here one = let alone = by_one one in let count : node_count image * image.contexts ≡ node_count image * 1 = ap (λ k. node_count image * k) one in omega arith

          no_pair : {p : ℕ × Outcome} → p ∷ [] ≡ [] → ⊥
          no_pair e = let sizes = ap length e in omega arith

      -- ---- a turn was begun, and what it brought about was taken

      module _ (may : MayGo h context)
          (miss : (slot : ℕ) (outcome : Outcome) → (stepped_by image parameters (state_of h) (own_event n)).did ≡ acts.Turn slot outcome → ⊥)
          (quiet : List Entry) (are_quiet : AllQuiet quiet) (far : History) (far_is : far ≡ with_more (grown h (own_event n)) quiet) (far_run : IsRun far) where
        abbrev es : List Entry
        es = entry_of h (own_event n) ∷ quiet

        no_turn_is : turn_in image n (stepped_by image parameters (state_of h) (own_event n)).did ≡ []
        no_turn_is = no_turn image n (stepped_by image parameters (state_of h) (own_event n)).did miss

        own_es : AllServe n es
        own_es = (eq-eqb n n refl, quiet_serve n quiet are_quiet)

        none_es : map (λ (turn : ℕ × Outcome). turn.0) (turns_from image parameters (state_of h) es) ≡ []
        none_es = ap (map (λ (turn : ℕ × Outcome). turn.0)) (λ i. no_turn_is i ++ quiet_turns image parameters (step image parameters (state_of h) (own_event n)) quiet are_quiet i)

        pub whole : far ≡ with_more before (more ++ es)
        whole = far_is ∙ (ap (λ (j : List Entry). record before { journal = j }) (append_assoc (before.journal ++ more) (entry_of h (own_event n) ∷ []) quiet) ∙ joined es)

        goes_far : GoesOnBy before context [] (with_more h es) (more ++ es)
        goes_far = goes_by es [] own_es none_es

        begun_far : image.contexts ≡ 1 → IsAtRest image (state_of before) → TurnIsBegun image parameters (state_of before) n (more ++ es)
        begun_far one rests =
            let b = way.begun one rests in
            subst (λ (t : MachineState). TurnIsBegun image parameters (state_of before) n (more ++ entry_for image t (own_event n) ∷ quiet)) (sym stands)
            (begun_so image run.image one parameters run.parameters before.journal legal_first rests n more b.0 behind (subst (λ (t : MachineState). is_settled t ≡ true) stands b.1)
            (subst (λ (t : MachineState). IsNext image parameters t (entry_for image t (own_event n))) stands (next_is (own_event n) may.may))
            (ap (λ (t : MachineState). turn_in image n (stepped_by image parameters t (own_event n)).did) (sym stands) ∙ no_turn_is) quiet are_quiet)

        pub goes_on : is_settled (state_of far) ≡ true → TurnIsUnderWay before context (more ++ es)
        goes_on settled = record {
          own = goes_far.own;
          turns = ap turns_in (sym (joined es)) ∙ (goes_far.turns ∙ append-nil (turns_in before));
          begun = λ one rests. (begun_far one rests, ap (λ (x : History). is_settled (state_of x)) (sym whole) ∙ settled);
        }

        -- ---- or the limit stands against what it brought about

        legal_far : AreLegal image parameters (state_of before) (more ++ es)
        unfolding state
        legal_far = legal_behind image parameters (machine_start image) before.journal (more ++ es) (subst (λ (x : History). IsLegal x.image x.parameters x.journal) whole far_run.legal)

        stands_far : state_of far ≡ after image parameters (state_of before) (more ++ es)
        stands_far = ap state_of whole ∙ state_more image parameters before.journal (more ++ es)

        back_far : (one : image.contexts ≡ 1) (rests : IsAtRest image (state_of before)) → HasQuiet image parameters (after image parameters (state_of before) (more ++ es))
            → find is_quiet (next_events (with_more before (more ++ es))) ≡ None
            → IsKeptBack image parameters (after image parameters (state_of before) (more ++ es)) n (greatest_clock (state_of before) + turn_events image)
        back_far one rests q none =
            let t = after image parameters (state_of before) (more ++ es) in
            let none_here : find is_quiet (filter (λ event. is_enabled image parameters t event && is_within_limit image parameters t event) (main_events image)) ≡ None =
            subst (λ (u : MachineState). find is_quiet (filter (λ event. is_enabled image parameters u event && is_within_limit image parameters u event) (main_events image)) ≡ None)
            (state_more image parameters before.journal (more ++ es)) none in
            kept_back image run.image one parameters run.parameters before.journal legal_first rests n (more ++ es) (begun_far one rests) legal_far q.event (quiet_own n q.event q.quiet) q.enabled
            (above_so image parameters t q.event q.enabled (none_quiet image parameters t none_here q.event q.quiet q.enabled))

        pub stops_so : is_settled (state_of far) ≡ false → find is_quiet (next_events far) ≡ None → TurnIsHindered before context far AboveLimit
        stops_so not none = record {
          more = more ++ es;
          goes = record { after_is = whole; own = goes_far.own; turns = ap turns_in (whole ∙ sym (joined es)) ∙ goes_far.turns };
          run = far_run;
          stands = λ one rests. record {
            ready = ap (λ (done : List ℕ). is_ready (context_at (flat_after image done) context).status) (sym way.turns) ∙ may.flat;
            back = subst (λ (t : MachineState). IsKeptBack image parameters t context (greatest_clock (state_of before) + turn_events image)) (sym stands_far)
                (subst (λ k. IsKeptBack image parameters (after image parameters (state_of before) (more ++ es)) k (greatest_clock (state_of before) + turn_events image)) (alone_is before context one)
                (back_far one rests (moves_so image run.image one parameters run.parameters before.journal legal_first rests n (more ++ es) (begun_far one rests) legal_far (ap is_settled (sym stands_far) ∙ not))
                (subst (λ (x : History). find is_quiet (next_events x) ≡ None) whole none)));
          };
        }

      -- ---- something stands against the instruction itself

      slot_zero : image.contexts ≡ 1 → context % image.contexts ≡ 0
      slot_zero one = ap (λ k. context % k) one ∙ omega (arith, whole_place context 1, div-one context)

      late_so : (one : image.contexts ≡ 1) (rests : IsAtRest image (state_of before)) → IsLate h context → TurnIsLate before context h
      late_so one rests late =
          let b = way.begun one rests in
          let t = after image parameters (state_of before) more in
          let here : n < node_count image = (let alone = alone_is before context one in let count : node_count image * image.contexts ≡ node_count image * 1 = ap (λ k. node_count image * k) one in let below = late.here in omega arith) in
          let ready : (slot_at (node_at (state_of h) n).slots 0).status ≡ Ready =
          ready_is (slot_at (node_at (state_of h) n).slots 0).status (ap (λ k. is_ready (slot_at (node_at (state_of h) n).slots k).status) (sym (slot_zero one)) ∙ late.ready) in
          let enabled = can_run image run.image one parameters run.parameters n here (state_of h) (always_kept image run.image parameters run.parameters (before.journal ++ more) run.legal) ready in
          let above = above_so image parameters (state_of h) (own_event n) enabled late.not in
          record {
            ready = ap (λ (done : List ℕ). is_ready (context_at (flat_after image done) context).status) (sym way.turns) ∙ late.flat;
            back = subst (λ k. IsKeptBack image parameters (state_of h) k (greatest_clock (state_of before) + turn_events image)) (alone_is before context one)
                (subst (λ (t : MachineState). IsKeptBack image parameters t n (greatest_clock (state_of before) + turn_events image)) (sym stands)
                (kept_back image run.image one parameters run.parameters before.journal legal_first rests n more b.0 behind (own_event n) (eq-eqb n n refl)
                (ap (λ (u : MachineState). is_enabled image parameters u (own_event n)) (sym stands) ∙ enabled) (subst (λ (u : MachineState). parameters.limit < stamp_at image u (own_event n)) stands above)));
          }

      pub hindered_so : (why : Hindrance) → Hinders h context (Some why) → TurnIsHindered before context h why
      hindered_so why stands_it = record {
        more = more;
        goes = record { after_is = refl; own = way.own; turns = way.turns ∙ sym (append-nil (turns_in before)) };
        run = run;
        stands = by_cause why stands_it;
      }
        where
          by_cause : (why : Hindrance) → Hinders h context (Some why) → IsHindered before context h why
          by_cause NotReady is = λ one rests. subst (λ (done : List ℕ). IsNotReady image done context) way.turns (is one (way.begun one rests).1)
          by_cause NotCurrent is = is
          by_cause AboveLimit is = λ one rests. late_so one rests is

-- ---- the same of a machine that is so, with its node

node_is : (node : NodeNo) (k : ℕ) → node.0 ≡ k → Instr node ≡ own_event k
node_is node k e = λ i. Instr (record { 0 = e i })

module _ (before : History) (context : ℕ) (more : List Entry) (way : TurnIsUnderWay before context more) where
  abbrev here : History
  here = with_more before more

  abbrev own_of : History → Event
  own_of m = own_event (node_for m context)

  taken_here : (m : History) → here ≡ m → IsRun m → MayGo m context → (slot : ℕ) (outcome : Outcome) → (stepped_by m.image m.parameters (state_of m) (own_of m)).did ≡ acts.Turn slot outcome → IsRun (grown m (own_of m))
      → TurnIsTaken before context (grown m (own_of m))
  taken_here m is =
      subst (λ (x : History). IsRun x → MayGo x context → (slot : ℕ) (outcome : Outcome)
      → (stepped_by x.image x.parameters (state_of x) (own_of x)).did ≡ acts.Turn slot outcome → IsRun (grown x (own_of x)) → TurnIsTaken before context (grown x (own_of x))) is
      (taken_so before context more way)

  -- a turn was taken
  pub taken_at : (m : History) → m ≡ here → IsRun m → MayGo m context → (node : NodeNo) → node.0 ≡ node_for m context → (far : History) → far ≡ grown m (Instr node) → IsRun far
      → (slot : ℕ) (outcome : Outcome) → (stepped_by m.image m.parameters (state_of m) (Instr node)).did ≡ acts.Turn slot outcome → TurnIsTaken before context far
  taken_at m is run may node at far far_is far_run slot outcome did =
      let same = node_is node (node_for m context) at in
      let grows : far ≡ grown m (own_of m) = far_is ∙ ap (grown m) same in
      subst (TurnIsTaken before context) (sym grows)
      (taken_here m (sym is) run may slot outcome (ap (λ (e : Event). (stepped_by m.image m.parameters (state_of m) e).did) (sym same) ∙ did) (subst IsRun grows far_run))

  -- more was begun of it
  pub record IsOnItsWay (far : History) : Type 0 where
    pub more_of : List Entry
    pub far_is : far ≡ with_more before more_of
    pub way_of : TurnIsUnderWay before context more_of

  abbrev Goes : History → Bool → Type 0
  Goes far true = IsOnItsWay far
  Goes far false = TurnIsHindered before context far AboveLimit

  begun_here : (m : History) → here ≡ m → IsRun m → MayGo m context → ((slot : ℕ) (outcome : Outcome) → (stepped_by m.image m.parameters (state_of m) (own_of m)).did ≡ acts.Turn slot outcome → ⊥)
      → (far : History) (settled : Bool) → HasSettled (grown m (own_of m)) far settled → Goes far settled
  begun_here m is = subst (λ (x : History). IsRun x → MayGo x context → ((slot : ℕ) (outcome : Outcome) → (stepped_by x.image x.parameters (state_of x) (own_of x)).did ≡ acts.Turn slot outcome → ⊥)
      → (far : History) (settled : Bool) → HasSettled (grown x (own_of x)) far settled → Goes far settled) is go
    where
      go : IsRun here → MayGo here context → ((slot : ℕ) (outcome : Outcome) → (stepped_by here.image here.parameters (state_of here) (own_of here)).did ≡ acts.Turn slot outcome → ⊥)
          → (far : History) (settled : Bool) → HasSettled (grown here (own_of here)) far settled → Goes far settled
      go run may miss far true q = record {
        more_of = more ++ entry_of here (own_of here) ∷ q.more;
        far_is = whole before context more way run may miss q.more q.quiet far q.after_is q.run;
        way_of = goes_on before context more way run may miss q.more q.quiet far q.after_is q.run q.is;
      }
      go run may miss far false q = stops_so before context more way run may miss q.more q.quiet far q.after_is q.run q.is (q.none refl)

  pub begun_at : (m : History) → m ≡ here → IsRun m → MayGo m context → (node : NodeNo) → node.0 ≡ node_for m context → (next : History) → next ≡ grown m (Instr node)
      → ((slot : ℕ) (outcome : Outcome) → (stepped_by m.image m.parameters (state_of m) (Instr node)).did ≡ acts.Turn slot outcome → ⊥) → (far : History) (settled : Bool) → HasSettled next far settled → Goes far settled
  begun_at m is run may node at next next_is miss far settled q =
      let same = node_is node (node_for m context) at in
      begun_here m (sym is) run may (λ slot outcome did. miss slot outcome (ap (λ (e : Event). (stepped_by m.image m.parameters (state_of m) e).did) same ∙ did)) far settled
      (subst (λ (x : History). HasSettled x far settled) (next_is ∙ ap (grown m) same) q)

  -- or something stands against it
  pub hindered_at : (m : History) → m ≡ here → IsRun m → (why : Hindrance) → Hinders m context (Some why) → TurnIsHindered before context m why
  hindered_at m is run why stands = subst (λ (x : History). TurnIsHindered before context x why) (sym is) (hindered_so before context more way (subst IsRun is run) why (subst (λ (x : History). Hinders x context (Some why)) is stands))

-- the journal is longer
pub far_longer : (m next far : History) (event : Event) (settled : Bool) → next ≡ grown m event → HasSettled next far settled → length m.journal < length far.journal
far_longer m next far event settled is q =
    let one = ap (λ (x : History). length x.journal) is ∙ length-append m.journal (entry_of m event ∷ []) in
    let others = ap (λ (x : History). length x.journal) q.after_is ∙ length-append next.journal q.more in
    omega arith
