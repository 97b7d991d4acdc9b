-- The first main event that is enabled, and the end that holds.
use Rattle.std.proofs.Common.{◌≡◌, ℕ, zero, suc, ◌+◌, ◌-◌, ◌<◌, ◌≤◌, ◌&&◌, ◌||◌, Bool, true, false, cond, Option, Some, None, List, [], ◌∷◌, ◌++◌, map, flat_map, find, length, refl, sym, ap, subst, ◌∙◌, arith}
use Rattle.std.specs.List.{range_with_len, list_any}
use Rattle.std.proofs.lemmas.Bool.{false≢true}
use Rattle.alw_msg.specs.declared.events.Entry.{Entry}
use Rattle.alw_msg.specs.declared.events.Event.{Event}
use Rattle.alw_msg.specs.Lists.{is_nonempty}
use Rattle.alw_msg.specs.Sending.{Sending}
use Rattle.alw_model.specs.Machine.{MachineState, state, any_trapped, has_halted, is_settled, goes_on, end_of, is_enabled, main_events}
use Rattle.alw_model.specs.Machine as machine
use Rattle.alw_model.specs.declared.ends.Ended.TheVariants as ends
use Rattle.alw_model.specs.declared.ends.TrapAt.{TrapAt}
use Rattle.alw_model.specs.Ends.{first_trap, IsEnd}
use Rattle.alw_model.specs.Runs.{moments}
use Rattle.law_machine.proofs.RunFacts.{always_limit}
use Rattle.alw_tally.specs.Told.{Told}
use Rattle.alw_tally.specs.Tallies.{Tallied}
use Rattle.alw_ready.specs.declared.rows.Row.{Row}
use Rattle.alw_ready.specs.Rows.{events_of}
use Rattle.alw_ready.proofs.MainEvents.{goes_on_is}
use Rattle.alw_mesh.specs.Histories.{History, state_of, IsRun}
use Rattle.alw_mesh.specs.Grids.{Grid}
use Rattle.alw_mesh.specs.Keeping.{IsMachine}
use Rattle.alw_mesh.proofs.Remaining.{untrapped}

-- ---- the first that passes a test

module _ {X : Type 0} (test : X → Bool) where
  abbrev first_of_two : Option X → List X → Option X
  first_of_two None rest = find test rest
  first_of_two (Some x) rest = Some x

  find-append : (xs ys : List X) → find test (xs ++ ys) ≡ first_of_two (find test xs) ys
  find-append [] ys = refl
  find-append (x ∷ rest) ys = go (test x) (find-append rest ys)
    where
      go : (b : Bool) → find test (rest ++ ys) ≡ first_of_two (find test rest) ys → cond b (Some x) (find test (rest ++ ys)) ≡ first_of_two (cond b (Some x) (find test rest)) ys
      go true more = refl
      go false more = more

  pub found_any : (xs : List X) → find test xs ≡ None → list_any test xs ≡ false
  found_any [] none = refl
  found_any (x ∷ rest) none = go (test x) none (found_any rest)
    where
      go : (b : Bool) → cond b (Some x) (find test rest) ≡ None → (find test rest ≡ None → list_any test rest ≡ false) → (b || list_any test rest) ≡ false
      go true is more = absurd (cc)
      go false is more = more is

  -- among those of numbers in a range: of the first, or else of the others
  range_first : (a n b : ℕ) → a < b → b - a ≡ suc n → b - (a + 1) ≡ n
  range_first a n b l e = omega arith

  -- each number gives a list
  pub at_first : (f : ℕ → List X) (a b : ℕ) (x : X) → a < b → find test (f a) ≡ Some x → find test (flat_map f (range_with_len a (b - a))) ≡ Some x
  at_first f a b x l found = go (b - a) refl
    where
      go : (n : ℕ) → b - a ≡ n → find test (flat_map f (range_with_len a n)) ≡ Some x
      go zero e = absurd (omega arith)
      go (suc n) e = find-append (f a) _ ∙ ap (λ o. first_of_two o (flat_map f (range_with_len (a + 1) n))) found

  pub at_others : (f : ℕ → List X) (a b : ℕ) → a < b → find test (f a) ≡ None → find test (flat_map f (range_with_len a (b - a))) ≡ find test (flat_map f (range_with_len (a + 1) (b - (a + 1))))
  at_others f a b l none = go (b - a) refl
    where
      go : (n : ℕ) → b - a ≡ n → find test (flat_map f (range_with_len a n)) ≡ find test (flat_map f (range_with_len (a + 1) (b - (a + 1))))
      go zero e = absurd (omega arith)
      go (suc n) e =
          let left : n ≡ b - (a + 1) = omega arith in
          find-append (f a) _ ∙ (ap (λ o. first_of_two o (flat_map f (range_with_len (a + 1) n))) none ∙ ap (λ k. find test (flat_map f (range_with_len (a + 1) k))) left)

  -- each number gives one
  pub one_first : (f : ℕ → X) (a b : ℕ) → a < b → test (f a) ≡ true → find test (map f (range_with_len a (b - a))) ≡ Some (f a)
  one_first f a b l passes = go (b - a) refl
    where
      go : (n : ℕ) → b - a ≡ n → find test (map f (range_with_len a n)) ≡ Some (f a)
      go zero e = absurd (omega arith)
      go (suc n) e = ap (λ b. cond b (Some (f a)) (find test (map f (range_with_len (a + 1) n)))) passes

  pub one_others : (f : ℕ → X) (a b : ℕ) → a < b → test (f a) ≡ false → find test (map f (range_with_len a (b - a))) ≡ find test (map f (range_with_len (a + 1) (b - (a + 1))))
  one_others f a b l fails = go (b - a) refl
    where
      go : (n : ℕ) → b - a ≡ n → find test (map f (range_with_len a n)) ≡ find test (map f (range_with_len (a + 1) (b - (a + 1))))
      go zero e = absurd (omega arith)
      go (suc n) e =
          let left : n ≡ b - (a + 1) = omega arith in
          ap (λ b. cond b (Some (f a)) (find test (map f (range_with_len (a + 1) n)))) fails ∙ ap (λ k. find test (map f (range_with_len (a + 1) k))) left

-- ---- the end that holds

module _ (h : History) where
  abbrev here : MachineState
  here = state_of h

  pub trapped_end : any_trapped here ≡ true → end_of h.image h.parameters here ≡ Some machine.Trapped
  trapped_end trapped = rw trapped refl

  pub halted_end : any_trapped here ≡ false → (has_halted here && is_settled here) ≡ true → end_of h.image h.parameters here ≡ Some machine.Halted
  halted_end trapped rest = rw (trapped, rest) refl

  pub no_end : any_trapped here ≡ false → (has_halted here && is_settled here) ≡ false → goes_on h.image h.parameters here ≡ true → end_of h.image h.parameters here ≡ None
  no_end trapped rest on = rw (trapped, rest, on) refl

  pub limit_end : any_trapped here ≡ false → (has_halted here && is_settled here) ≡ false → goes_on h.image h.parameters here ≡ false → end_of h.image h.parameters here ≡ Some machine.Limit
  limit_end trapped rest off = rw (trapped, rest, off) refl

  -- a run at its limit has a main event enabled
  pub limit_has_event : IsRun h → end_of h.image h.parameters here ≡ Some machine.Limit → find (is_enabled h.image h.parameters here) (main_events h.image) ≡ None → ⊥
  limit_has_event run limit none =
      false≢true (sym (found_any (is_enabled h.image h.parameters here) (main_events h.image) none) ∙ always_limit h.image run.image h.parameters run.parameters h.journal run.legal limit)

-- ---- with what a machine keeps

some_event : (events : List Event) → 0 < length events → is_nonempty events ≡ true
some_event [] some = absurd (omega arith)
some_event (event ∷ rest) some = refl

no_event : (events : List Event) → length events ≤ 0 → is_nonempty events ≡ false
no_event [] none = refl
no_event (event ∷ rest) none = absurd (omega arith)

module _ {grid : Grid} {journal : List Entry} {joined : ℕ} {sent : Sending} {tally : Tallied} {ready : List Row} (is : IsMachine grid journal joined sent tally ready) where
  abbrev whole : History
  whole = record { image = grid.image; parameters = grid.parameters; journal = journal; joined = joined }

  -- a test of the machine is one of the state
  tested : (test : MachineState → Bool) (b : Bool) → test grid.machine ≡ b → test (state_of whole) ≡ b
  tested test b passes = subst (λ (m : MachineState). test m ≡ b) is.state_is passes

  trap_is : tally.told.trap ≡ first_trap 0 (moments grid.image grid.parameters journal)
  trap_is = ap (λ (told : Told). told.trap) is.told

  pub trap_known : any_trapped grid.machine ≡ true → tally.told.trap ≡ None → ⊥
  trap_known trapped untold = untrapped grid.image grid.parameters is.run.image journal is.run.legal (sym trap_is ∙ untold) (tested any_trapped true trapped)

  pub ended_trapped : any_trapped grid.machine ≡ true → (at : TrapAt) → tally.told.trap ≡ Some at → IsEnd grid.image grid.parameters journal (ends.Trapped at)
  ended_trapped trapped at told = (trapped_end whole (tested any_trapped true trapped), sym trap_is ∙ told)

  module _ (untrapped : any_trapped grid.machine ≡ false) where
    pub ended_halted : (has_halted grid.machine && is_settled grid.machine) ≡ true → IsEnd grid.image grid.parameters journal ends.Halted
    ended_halted rest = halted_end whole (tested any_trapped false untrapped) (tested (λ m. has_halted m && is_settled m) true rest)

    module _ (restless : (has_halted grid.machine && is_settled grid.machine) ≡ false) (count : ℕ) (counted : count ≡ length (events_of ready)) where
      going : (b : Bool) → is_nonempty (events_of ready) ≡ b → goes_on grid.image grid.parameters (state_of whole) ≡ b
      going b some = tested (goes_on grid.image grid.parameters) b (goes_on_is grid.image grid.parameters grid.machine ready is.rows ∙ some)

      pub not_ended : 0 < count → end_of grid.image grid.parameters (state_of whole) ≡ None
      not_ended some = no_end whole (tested any_trapped false untrapped) (tested (λ m. has_halted m && is_settled m) false restless) (going true (some_event (events_of ready) (rw (← counted) some)))

      limited : count ≤ 0 → end_of grid.image grid.parameters (state_of whole) ≡ Some machine.Limit
      limited none = limit_end whole (tested any_trapped false untrapped) (tested (λ m. has_halted m && is_settled m) false restless) (going false (no_event (events_of ready) (rw (← counted) none)))

      found_so : (o : Option Event) → o ≡ find (is_enabled grid.image grid.parameters grid.machine) (main_events grid.image) → find (is_enabled grid.image grid.parameters (state_of whole)) (main_events grid.image) ≡ o
      found_so o found = subst (λ (m : MachineState). find (is_enabled grid.image grid.parameters m) (main_events grid.image) ≡ o) is.state_is (sym found)

      pub limit_known : count ≤ 0 → None ≡ find (is_enabled grid.image grid.parameters grid.machine) (main_events grid.image) → ⊥
      limit_known none nothing = limit_has_event whole is.run (limited none) (found_so None nothing)

      pub ended_limit : count ≤ 0 → (event : Event) → Some event ≡ find (is_enabled grid.image grid.parameters grid.machine) (main_events grid.image) → IsEnd grid.image grid.parameters journal (ends.Limit event)
      ended_limit none event found = (limited none, found_so (Some event) found)
