-- Turns taken one after the other from a machine's start on, and what stands against the next one.
use Rattle.std.proofs.Common.{◌≡◌, ℕ, zero, suc, ◌+◌, ◌*◌, ◌/◌, ◌<◌, ◌≤◌, Bool, true, false, Some, ◌⊎◌, List, [], ◌∷◌, ◌++◌, length, take, drop, slice_get, slice_index_or, Err, refl, sym, subst, ap, ◌∙◌, arith}
use Rattle.std.proofs.Common.{append-nil, length-append}
use Rattle.std.specs.List.{AllByRecursion}
use Rattle.std.proofs.Math.Nat.{suc-mul}
use Rattle.std.proofs.lemmas.Nat.{mul-le}
use Rattle.std.proofs.lemmas.List.{length-map, length-take-le, take_all, take_more}
use Rattle.sparc_table.specs.declared.outcomes.Outcome.{Outcome}
use Rattle.alw_image.specs.declared.parts.Parts.{Parts}
use Rattle.alw_image.specs.Parameters.{Parameters}
use Rattle.alw_msg.specs.declared.events.Entry.{Entry}
use Rattle.alw_msg.specs.Events.{is_evict, node_of}
use Rattle.alw_msg.specs.Statuses.{is_ready, has_trapped}
use Rattle.alw_model.specs.declared.steps.Did.{Did}
use Rattle.alw_model.specs.declared.steps.Did.TheVariants as acts
use Rattle.alw_model.specs.Machine.{MachineState, machine_start, state, step, stepped_by, end_of, IsLegal, Halted, Trapped}
use Rattle.alw_model.specs.Flat.{flat_after, context_at, AreReady}
use Rattle.alw_model.specs.Runs.{moments, turn_in, turns_of}
use Rattle.law_machine.proofs.FlatStarts.{turns_are_ready}
use Rattle.law_turns.specs.Turns.{IsAtRest, greatest_clock, turn_events, NoneTrapsEarly, turns_from, serves, AllServe, ServesTurns, IsServedRun}
use Rattle.law_turns.specs.Limits.{IsKeptBack, StopsAtLimit}
use Rattle.law_turns.proofs.Ends.{start_clock, start_rests}
use Rattle.law_turns.proofs.Runs.{ends_so}
use Rattle.law_turns.proofs.Scheduled.{serves_keeps, legal_before, scheduled_so}
use Rattle.law_turns.proofs.Turns.{state_more}
use Rattle.alw_mesh.specs.Histories.{History, IsRun, state_of, stamps_of, begun}
use Rattle.alw_mesh.specs.Limits.{most_steps}
use Rattle.alw_mesh.proofs.Journals.{journal_fits}
use Rattle.alw_mesh.specs.Readings.{turns_in}
use Rattle.alw_places.specs.Outcomes.{flat_halted}
use Rattle.alw_serve.specs.declared.errors.Hindrance.{Hindrance}
use Rattle.alw_serve.specs.declared.errors.Hindrance.TheVariants.{NotReady, NotCurrent, AboveLimit}
use Rattle.alw_serve.specs.declared.errors.ServeErr.{ServeErr}
use Rattle.alw_serve.specs.declared.errors.ServeErr.TheVariants as errors
use Rattle.alw_serve.specs.Serving.{Serves, TakesTurns, IsOver, HasTaken, IsNotReady, IsUnfinished, StandsAgainst, TurnIsTaken, TurnIsHindered, TurnIsLate, GoesOnBy}
use Rattle.alw_serve.proofs.Listing.{serves_push, served_clock, early_push, ready_push}
use Rattle.alw_serve.proofs.Stepping.{alone_is}
use Rattle.alw_num.proofs.Alls.{all_append, all_weaker}

-- the machine of a journal that was made event by event
abbrev pub made_of : Parts → Parameters → List Entry → History
made_of image parameters journal = record { image = image; parameters = parameters; journal = journal; joined = 0 }

-- a journal has these turns, and has served them with one context a node
pub record HasServed (image : Parts) (parameters : Parameters) (done : List ℕ) (journal : List Entry) : Type 0 where
  pub taken : turns_of image parameters journal ≡ done
  pub evicts : AllByRecursion (λ (entry : Entry). is_evict entry.event ≡ false) journal
  pub early : NoneTrapsEarly image done
  pub served : image.contexts ≡ 1 → ServesTurns image parameters (machine_start image) done journal × IsAtRest image (state image parameters journal)

-- a list is what stands before a place, the member there, and what stands behind it
whole_at : {X : Type 0} (xs : List X) (k : ℕ) (x : X) → slice_get xs k ≡ Some x → take k xs ++ x ∷ drop (suc k) xs ≡ xs
whole_at [] k x e = absurd (cc)
whole_at (y ∷ xs) zero x e = let same : x ≡ y = cc in ap (λ z. z ∷ xs) same
whole_at (y ∷ xs) (suc k) x e = ap (λ l. y ∷ l) (whole_at xs k x e)

module _ (image : Parts) (parameters : Parameters) where
  pub none_served : HasServed image parameters [] []
  unfolding state moments
  none_served = record {
    taken = refl;
    evicts = tt;
    early = λ front rest next context is. absurd (let sizes = ap length is in let size = length-append front (next ∷ rest) in omega arith);
    served = λ one. (refl, start_rests image);
  }

  module _ (done : List ℕ) (journal : List Entry) (has : HasServed image parameters done journal) (c : ℕ) where
    abbrev before : History
    before = made_of image parameters journal

    -- one turn more
    pub one_more : (far : History) (t : TurnIsTaken before c far) → HasServed image parameters (done ++ c ∷ []) (journal ++ t.more)
    unfolding state
    one_more far t = record {
      taken = sym (ap turns_in t.goes.after_is) ∙ (t.goes.turns ∙ ap (λ (ts : List ℕ). ts ++ c ∷ []) has.taken);
      evicts = all_append (λ (entry : Entry). is_evict entry.event ≡ false) journal t.more has.evicts
          (all_weaker (λ (entry : Entry). serves (c / image.contexts) entry.event ≡ true) (λ (entry : Entry). is_evict entry.event ≡ false) (λ entry. serves_keeps (c / image.contexts) entry.event) t.more t.goes.own);
      early = early_push image done c has.early (λ other. ap (λ (ts : List ℕ). has_trapped (context_at (flat_after image ts) other).status) (sym has.taken) ∙ t.calm other);
      served = λ one.
          let s = has.served one in
          let v = t.served one s.1 in
          (serves_push image parameters (machine_start image) done journal c t.more s.0 v, subst (IsAtRest image) (sym (state_more image parameters journal t.more)) v.rests);
    }

    -- or the limit stands against the next one
    limit_stands : (turns left : List ℕ) → done ++ c ∷ left ≡ turns → image.contexts ≡ 1 → (far : History) (more : List Entry) → IsLegal image parameters (journal ++ more) → GoesOnBy before c [] far more → TurnIsLate before c far
        → StopsAtLimit image parameters turns (journal ++ more)
    unfolding state
    limit_stands turns left split one far more legal goes late =
        let s = has.served one in
        let clocks = served_clock image parameters (machine_start image) done journal s.0 in
        let start = start_clock image parameters in
        let sizes = ap length split in
        let parts = length-append done (c ∷ left) in
        let one_turn = suc-mul (length done) (turn_events image) in
        let bound = mul-le (suc (length done)) (turn_events image) (length turns) (turn_events image) (omega arith) (omega arith) in
        let most : greatest_clock (state image parameters journal) + turn_events image ≤ length turns * turn_events image = omega arith in
        let b = late.back in
        let alone : c / image.contexts ≡ c = alone_is before c one in
        record {
          front = done;
          next = c;
          left = left;
          split = split;
          legal = legal;
          taken = sym (ap turns_in goes.after_is) ∙ (goes.turns ∙ (append-nil (turns_in before) ∙ has.taken));
          first = journal;
          begun = more;
          all = refl;
          served = s.0;
          own = subst (λ k. AllServe k more) alone goes.own;
          back = subst (λ (t : MachineState). IsKeptBack image parameters t c (length turns * turn_events image)) (ap state_of goes.after_is)
              (record { event = b.event; own = b.own; enabled = b.enabled; above = b.above; stamp = omega (arith, b.stamp, most) });
        }

  -- what stands against the turn behind those that were taken
  pub stands_so : (turns : List ℕ) (k c : ℕ) → slice_get turns k ≡ Some c → (journal : List Entry) → HasServed image parameters (take k turns) journal → (far : History) (why : Hindrance)
      → TurnIsHindered (made_of image parameters journal) c far why → StandsAgainst image parameters turns k why
  unfolding limit_stands
  stands_so turns k c at journal has far NotReady t = λ one context is.
      let same : c ≡ context = cc in
      subst (λ d. IsNotReady image (take k turns) d) same (subst (λ (ts : List ℕ). IsNotReady image ts c) has.taken (t.stands one (has.served one).1))
  stands_so turns k c at journal has far NotCurrent t = t.stands
  stands_so turns k c at journal has far AboveLimit t = λ one.
      let late = t.stands one (has.served one).1 in
      let run = subst IsRun t.goes.after_is t.run in
      let first = legal_before image parameters (machine_start image) journal t.more run.legal in
      record {
        journal = journal ++ t.more;
        stops = limit_stands (take k turns) journal has c turns (drop (suc k) turns) (whole_at turns k c at) one far t.more run.legal t.goes late;
        front = refl;
        ready = ready_push image (take k turns) c (subst (AreReady image) has.taken (turns_are_ready image parameters run.parameters.some_pointer journal first))
            (subst (λ (ts : List ℕ). is_ready (context_at (flat_after image ts) c).status ≡ true) has.taken late.ready);
      }

  -- behind all turns
  pub all_taken : (turns : List ℕ) (journal : List Entry) → HasServed image parameters turns journal → IsRun (made_of image parameters journal)
      → (end_of image parameters (state image parameters journal) ≡ Some Halted) ⊎ (end_of image parameters (state image parameters journal) ≡ Some Trapped) → HasTaken image parameters turns (made_of image parameters journal)
  all_taken turns journal has run ended = record {
    begun = refl;
    run = run;
    taken = has.taken;
    evicts = has.evicts;
    early = has.early;
    ended = ended;
    served = λ one. run_of one;
  }
    where
      run_of : image.contexts ≡ 1 → IsServedRun image parameters turns journal
      run_of one =
          let s = has.served one in
          let e = ends_so image run.image one parameters run.parameters turns journal run.legal has.taken s.1 in
          record {
            legal = run.legal;
            taken = has.taken;
            served = s.0;
            rests = s.1;
            halted = e.halted;
            trapped = e.trapped;
            scheduled = λ early. scheduled_so image run.image parameters run.parameters turns journal run.legal has.taken s.0 early;
          }

  -- or the flat memory is at no end behind them
  pub none_ended : (turns : List ℕ) (journal : List Entry) → HasServed image parameters turns journal → IsRun (made_of image parameters journal)
      → (end_of image parameters (state image parameters journal) ≡ Some Halted → ⊥) → (end_of image parameters (state image parameters journal) ≡ Some Trapped → ⊥) → IsUnfinished image parameters turns
  none_ended turns journal has run halted trapped = λ one.
      let s = has.served one in
      let e = ends_so image run.image one parameters run.parameters turns journal run.legal has.taken s.1 in
      (not_so (flat_halted (flat_after image turns)) (λ is. halted (e.halted is)), λ context. not_so (has_trapped (context_at (flat_after image turns) context).status) (λ is. trapped (e.trapped context is)))
    where
      not_so : (b : Bool) → (b ≡ true → ⊥) → b ≡ false
      not_so true not = absurd (not refl)
      not_so false not = refl

-- ---- as the loop has it

turn_one : (parts : Parts) (n : ℕ) (did : Did) → length (turn_in parts n did) ≤ 1
turn_one parts n (acts.Turn slot outcome) = omega arith
turn_one parts n (acts.Missed slot) = omega arith
turn_one parts n acts.Took = omega arith
turn_one parts n acts.Packet = omega arith
turn_one parts n (acts.Handled kind state) = omega arith
turn_one parts n acts.Evicted = omega arith

turns_few : (parts : Parts) (parameters : Parameters) (s : MachineState) (journal : List Entry) → length (turns_from parts parameters s journal) ≤ length journal
turns_few parts parameters s [] = omega arith
turns_few parts parameters s (entry ∷ rest) =
    let one = turn_one parts (node_of entry.event) (stepped_by parts parameters s entry.event).did in
    let others = turns_few parts parameters (step parts parameters s entry.event) rest in
    let both = length-append (turn_in parts (node_of entry.event) (stepped_by parts parameters s entry.event).did) (turns_from parts parameters (step parts parameters s entry.event) rest) in
    omega arith

of_few : (parts : Parts) (parameters : Parameters) (journal : List Entry) → length (turns_of parts parameters journal) ≤ length journal
unfolding moments
of_few parts parameters journal = omega (arith, length-map (turns_from parts parameters (machine_start parts) journal) (λ (turn : ℕ × Outcome). turn.0), turns_few parts parameters (machine_start parts) journal)

-- the member at a place
pub got_at : (xs : List ℕ) (k : ℕ) → k < length xs → slice_get xs k ≡ Some (slice_index_or xs k 0)
got_at [] k below = absurd (omega arith)
got_at (x ∷ xs) zero below = refl
got_at (x ∷ xs) (suc k) below = got_at xs k (omega arith)

module _ (image : Parts) (parameters : Parameters) (turns : List ℕ) (k : ℕ) where
  -- so many turns were taken
  pub record IsServedTo (machine : History) : Type 0 where
    pub journal : List Entry
    pub is : machine ≡ made_of image parameters journal
    pub has : HasServed image parameters (take k turns) journal

  module _ (m : History) (served : IsServedTo m) where
    abbrev c : ℕ
    c = slice_index_or turns k 0

    module _ (below : k < length turns) where
      -- a turn that isn't taken has a number that fits
      pub turn_fits : (far : History) (why : Hindrance) → TurnIsHindered m c far why → k < 4294967295
      turn_fits far why t =
          let fits = journal_fits far t.run in
          let few = of_few image parameters served.journal in
          let taken = ap length served.has.taken in
          let size = length-take-le k turns (omega arith) in
          let first = ap (λ (x : History). length x.journal) served.is in
          let more = ap (λ (x : History). length x.journal) t.goes.after_is ∙ length-append m.journal t.more in
          omega arith

      pub stands_at : (far : History) (why : Hindrance) → TurnIsHindered m c far why → StandsAgainst image parameters turns k why
      stands_at far why t = stands_so image parameters turns k c (got_at turns k below) served.journal served.has far why (subst (λ (x : History). TurnIsHindered x c far why) served.is t)

  -- behind all turns
  module _ (m : History) (served : IsServedTo m) (run : IsRun m) (all : length turns ≤ k) where
    has_all : HasServed image parameters turns served.journal
    has_all = subst (λ (ts : List ℕ). HasServed image parameters ts served.journal) (take_all k turns all) served.has

    pub taken_at_end : (over : Bool) → over ≡ true → IsOver m over → HasTaken image parameters turns m
    taken_at_end over is ended = subst (HasTaken image parameters turns) (sym served.is)
        (all_taken image parameters turns served.journal has_all (subst IsRun served.is run) (subst (λ (x : History). IsOver x true) served.is (subst (IsOver m) is ended)))

    pub unfinished_at_end : (over : Bool) → over ≡ false → IsOver m over → IsUnfinished image parameters turns
    unfinished_at_end over is ended =
        let both = subst (λ (x : History). IsOver x false) served.is (subst (IsOver m) is ended) in
        none_ended image parameters turns served.journal has_all (subst IsRun served.is run) both.0 both.1

module _ (image : Parts) (parameters : Parameters) (turns : List ℕ) where
  pub served_to_none : (m : History) → m ≡ made_of image parameters [] → IsServedTo image parameters turns 0 m
  served_to_none m is = record { journal = []; is = is; has = none_served image parameters }

  -- one turn more
  pub served_to_more : (k : ℕ) (m : History) → IsServedTo image parameters turns k m → k < length turns → (far : History) → TurnIsTaken m (slice_index_or turns k 0) far → IsServedTo image parameters turns (k + 1) far
  served_to_more k m served below far t =
      let taken : TurnIsTaken (made_of image parameters served.journal) (slice_index_or turns k 0) far = subst (λ (x : History). TurnIsTaken x (slice_index_or turns k 0) far) served.is t in
      record {
        journal = served.journal ++ taken.more;
        is = taken.goes.after_is;
        has = subst (λ (ts : List ℕ). HasServed image parameters ts (served.journal ++ taken.more)) (sym (take_more turns k 0 below)) (one_more image parameters (take k turns) served.journal served.has (slice_index_or turns k 0) far taken);
      }

-- what a machine of this image answers
pub answered : (image : Parts) (parameters : Parameters) (turns : List ℕ) (started left : History) → started ≡ begun image parameters → stamps_of image parameters ≤ most_steps → (e : ServeErr) → TakesTurns started turns left (Err e)
    → Serves image parameters turns (Err e)
answered image parameters turns started left is fits (errors.DoesNotFit number most) t = absurd t
answered image parameters turns started left is fits (errors.NotTaken turn why) t = (t.0, subst (λ (x : History). StandsAgainst x.image x.parameters turns turn why) is t.1)
answered image parameters turns started left is fits errors.NotFinished t = subst (λ (x : History). IsUnfinished x.image x.parameters turns) is t
answered image parameters turns started left is fits errors.NoMemory t = fits
