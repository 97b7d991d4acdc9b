-- A journal that is legal under a limit is legal under a greater one, and comes to the same machine by the same turns.
use Rattle.std.proofs.Common.{◌≡◌, ℕ, ◌≤◌, nat_le, ◌&&◌, ◌||◌, Bool, true, false, cond, map, inl, inr, Some, None, List, [], ◌∷◌, ◌++◌, refl, sym, subst, ap, ◌∙◌, arith}
use Rattle.std.specs.List.{flat_map}
use Rattle.std.proofs.lemmas.Bool.{le-leb, leb-true}
use Rattle.std.proofs.Math.Bool.{or-true}
use Rattle.sparc_table.specs.declared.outcomes.Outcome.{Outcome}
use Rattle.alw_msg.specs.declared.events.Event.{Event}
use Rattle.alw_msg.specs.declared.events.Event.TheVariants.{Instr, Handle, Deliver, Evict}
use Rattle.alw_msg.specs.declared.events.Entry.{Entry}
use Rattle.alw_msg.specs.Events.{node_of}
use Rattle.alw_image.specs.declared.parts.Parts.{Parts}
use Rattle.alw_image.specs.Parameters.{Parameters}
use Rattle.alw_model.specs.Machine.{MachineState, machine_start, node_at, taken_by, is_enabled, stamp_at, any_trapped, has_halted, is_settled, goes_on, stepped_by, after_step, step, after, state, AreLegal, IsLegal}
use Rattle.alw_model.specs.Machine.{end_of, Halted, Trapped, Limit}
use Rattle.alw_model.specs.Runs.{Moment, number_of, moments_from, moments, turn_in, turns_of}
use Rattle.law_turns.specs.Stuck.{with_limit, HasEnded, EndsWith}

module _ (parts : Parts) (p : Parameters) (limit : ℕ) where
  abbrev raised : Parameters
  raised = with_limit p limit

  same_stepped : (s : MachineState) (event : Event) → stepped_by parts raised s event ≡ stepped_by parts p s event
  same_stepped s (Instr at) = refl
  same_stepped s (Handle at) = refl
  same_stepped s (Deliver from to) = refl
  same_stepped s (Evict at set) = refl

  same_step : (s : MachineState) (event : Event) → step parts raised s event ≡ step parts p s event
  same_step s event = ap (after_step parts s event) (same_stepped s event)

  same_enabled : (s : MachineState) (event : Event) → is_enabled parts raised s event ≡ is_enabled parts p s event
  same_enabled s (Instr at) = refl
  same_enabled s (Handle at) = refl
  same_enabled s (Deliver from to) = refl
  same_enabled s (Evict at set) = refl

  module _ (more : p.limit ≤ limit) where
    still_within : (stamp : ℕ) (halted : Bool) → (nat_le stamp p.limit || halted) ≡ true → (nat_le stamp limit || halted) ≡ true
    still_within stamp true is = or-true (nat_le stamp limit)
    still_within stamp false is = go (nat_le stamp p.limit) refl is
      where
        go : (b : Bool) → nat_le stamp p.limit ≡ b → (b || false) ≡ true → (nat_le stamp limit || false) ≡ true
        go true e is = let below = leb-true stamp p.limit e in ap (λ b. b || false) (le-leb stamp limit (omega arith))
        go false e is = absurd (cc)

    legal_raised : (s : MachineState) (journal : List Entry) → AreLegal parts p s journal → AreLegal parts raised s journal
    legal_raised s [] legal = tt
    legal_raised s (entry ∷ rest) (next, legal) = (
      record { enabled = same_enabled s entry.event ∙ next.enabled; within = still_within (stamp_at parts s entry.event) (has_halted s) next.within; stamp = next.stamp },
      subst (λ (t : MachineState). AreLegal parts raised t rest) (sym (same_step s entry.event)) (legal_raised (step parts p s entry.event) rest legal),
    )

    pub journal_raised : (journal : List Entry) → IsLegal parts p journal → IsLegal parts raised journal
    journal_raised journal legal = legal_raised (machine_start parts) journal legal

  after_raised : (s : MachineState) (journal : List Entry) → after parts raised s journal ≡ after parts p s journal
  after_raised s [] = refl
  after_raised s (entry ∷ rest) = ap (λ (t : MachineState). after parts raised t rest) (same_step s entry.event) ∙ after_raised (step parts p s entry.event) rest

  pub state_raised : (journal : List Entry) → state parts raised journal ≡ state parts p journal
  unfolding state
  state_raised journal = after_raised (machine_start parts) journal

  -- ---- turns

  from_raised : (s : MachineState) (journal : List Entry) → moments_from parts raised s journal ≡ moments_from parts p s journal
  from_raised s [] = refl
  from_raised s (entry ∷ rest) =
      let later : moments_from parts raised (step parts raised s entry.event) rest ≡ moments_from parts p (step parts p s entry.event) rest =
      ap (λ (t : MachineState). moments_from parts raised t rest) (same_step s entry.event) ∙ from_raised (step parts p s entry.event) rest in
      (λ i. record { entry = entry; before = node_at s (node_of entry.event); taken = taken_by parts s entry.event; stepped = same_stepped s entry.event i } ∷ later i)

  pub turns_raised : (journal : List Entry) → turns_of parts raised journal ≡ turns_of parts p journal
  unfolding moments
  turns_raised journal = ap (λ (ms : List Moment). map (λ (turn : ℕ × Outcome). turn.0) (flat_map (λ (moment : Moment). turn_in parts (number_of moment) moment.stepped.did) ms)) (from_raised (machine_start parts) journal)

  -- ---- ends

  halted_raised : (s : MachineState) → end_of parts p s ≡ Some Halted → end_of parts raised s ≡ Some Halted
  halted_raised s ends = go (any_trapped s) (has_halted s && is_settled s) (goes_on parts p s) (goes_on parts raised s) ends
    where
      go : (a b c d : Bool) → cond a (Some Trapped) (cond b (Some Halted) (cond c None (Some Limit))) ≡ Some Halted → cond a (Some Trapped) (cond b (Some Halted) (cond d None (Some Limit))) ≡ Some Halted
      go true b c d e = e
      go false true c d e = refl
      go false false true d e = absurd cc
      go false false false d e = absurd cc

  trapped_raised : (s : MachineState) → end_of parts p s ≡ Some Trapped → end_of parts raised s ≡ Some Trapped
  trapped_raised s ends = go (any_trapped s) (has_halted s && is_settled s) (goes_on parts p s) (goes_on parts raised s) ends
    where
      go : (a b c d : Bool) → cond a (Some Trapped) (cond b (Some Halted) (cond c None (Some Limit))) ≡ Some Trapped → cond a (Some Trapped) (cond b (Some Halted) (cond d None (Some Limit))) ≡ Some Trapped
      go true b c d e = refl
      go false true c d e = absurd cc
      go false false true d e = absurd cc
      go false false false d e = absurd cc

  ended_raised : (journal : List Entry) → HasEnded parts p journal → HasEnded parts raised journal
  ended_raised journal (inl ends) = inl (ap (end_of parts raised) (state_raised journal) ∙ halted_raised (state parts p journal) ends)
  ended_raised journal (inr ends) = inr (ap (end_of parts raised) (state_raised journal) ∙ trapped_raised (state parts p journal) ends)

  -- so what ends with some turns does so under a greater limit
  pub ends_raised : p.limit ≤ limit → (journal : List Entry) (turns : List ℕ) → EndsWith parts p journal turns → EndsWith parts raised journal turns
  ends_raised more journal turns e = record {
    more = e.more;
    legal = journal_raised more (journal ++ e.more) e.legal;
    taken = turns_raised (journal ++ e.more) ∙ (e.taken ∙ ap (λ (done : List ℕ). done ++ turns) (sym (turns_raised journal)));
    ended = ended_raised (journal ++ e.more) e.ended;
  }
