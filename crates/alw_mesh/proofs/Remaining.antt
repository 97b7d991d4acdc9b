-- Trapped contexts and packets are no more than the entries of a journal; and where a context has trapped, the journal has a trapping turn.
use Rattle.std.proofs.Common.{◌≡◌, ℕ, ◌+◌, ◌<◌, ◌≤◌, ◌==◌, true, not, Option, Some, None, List, [], ◌∷◌, length, refl, sym, ap, subst, ◌∙◌, arith}
use Rattle.std.proofs.lemmas.Bool.{false≢true}
use Rattle.std.proofs.lemmas.List.{length-set}
use Rattle.sparc_table.specs.declared.outcomes.Outcome.TheVariants as outcomes
use Rattle.alw_msg.specs.declared.events.Entry.{Entry}
use Rattle.alw_msg.specs.declared.events.Event.{Event}
use Rattle.alw_msg.specs.declared.events.Event.TheVariants.{Instr, Handle, Deliver, Evict}
use Rattle.alw_msg.specs.Events.{node_of}
use Rattle.alw_image.specs.declared.parts.Parts.{Parts}
use Rattle.alw_image.specs.Images.{IsImage, node_count}
use Rattle.alw_image.specs.Parameters.{Parameters}
use Rattle.alw_model.specs.declared.ends.TrapAt.{TrapAt}
use Rattle.alw_model.specs.declared.steps.Did.{Did}
use Rattle.alw_model.specs.declared.steps.Did.TheVariants.{Turn, Missed, Took, Packet, Handled, Evicted}
use Rattle.alw_model.specs.Machine.{MachineState, machine_start, step, stepped_by, after, state, any_trapped, AreLegal, IsLegal}
use Rattle.alw_model.specs.Runs.{Moment, moment_of, moments_from, moments}
use Rattle.alw_model.specs.Ends.{trap_in, or_else, first_trap}
use Rattle.law_order.proofs.Aimed.{start_aimed}
use Rattle.alw_tally.specs.declared.remains.Remains.{Remains}
use Rattle.alw_tally.specs.Remaining.{remains_of, left_by, remains_after, AreFew}
use Rattle.alw_tally.proofs.Following.{remains_are, grows_by_one}
use Rattle.alw_tally.proofs.Starting.{remains_at_start}
use Rattle.alw_tally.proofs.Ending.{trapped_is}

-- trapped contexts and packets together
abbrev troubles : MachineState → ℕ
troubles s = (remains_of s.nodes).trapped + (remains_of s.nodes).packets

-- what traps is named
either_none : (a b : Option TrapAt) → or_else a b ≡ None → (a ≡ None) × (b ≡ None)
either_none None b none = (refl, none)
either_none (Some at) b none = absurd (cc)

none_by : (all : Remains) (k : ℕ) (moment : Moment) (did : Did) → trap_in k moment did ≡ None → (left_by all did).trapped ≡ all.trapped
none_by all k moment (Turn slot (outcomes.Trap type)) e = absurd (cc)
none_by all k moment (Turn slot outcomes.Halt) e = refl
none_by all k moment (Turn slot outcomes.Done) e = refl
none_by all k moment (Turn slot (outcomes.Miss line mode)) e = refl
none_by all k moment (Turn slot (outcomes.Out word)) e = refl
none_by all k moment (Missed slot) e = refl
none_by all k moment Took e = refl
none_by all k moment Packet e = refl
none_by all k moment (Handled kind state) e = refl
none_by all k moment Evicted e = refl

still_none : (all : Remains) (k : ℕ) (moment : Moment) (event : Event) (did : Did) → trap_in k moment did ≡ None → (remains_after all event did).trapped ≡ all.trapped
still_none all k moment (Handle node) did none = refl
still_none all k moment (Instr node) did none = none_by all k moment did none
still_none all k moment (Deliver from to) did none = none_by all k moment did none
still_none all k moment (Evict node emptied) did none = none_by all k moment did none

module _ (parts : Parts) (parameters : Parameters) where
  pub size_kept : (s : MachineState) (event : Event) → length s.nodes ≡ node_count parts → length (step parts parameters s event).nodes ≡ node_count parts
  size_kept s event size = length-set s.nodes (node_of event) (stepped_by parts parameters s event).node ∙ size

  troubles_grow : (s : MachineState) (journal : List Entry) → length s.nodes ≡ node_count parts → AreLegal parts parameters s journal → troubles (after parts parameters s journal) ≤ troubles s + length journal
  troubles_grow s [] size legal = omega arith
  troubles_grow s (entry ∷ rest) size (next, legal) =
      let one = grows_by_one (remains_of s.nodes) entry.event (stepped_by parts parameters s entry.event).did in
      let now : troubles (step parts parameters s entry.event) ≤ troubles s + 1
      = subst (λ (all : Remains). all.trapped + all.packets ≤ troubles s + 1) (sym (remains_are parts parameters s entry.event size next.enabled)) one in
      omega (arith, troubles_grow (step parts parameters s entry.event) rest (size_kept s entry.event size) legal)

  no_traps : (s : MachineState) (journal : List Entry) (k : ℕ) → length s.nodes ≡ node_count parts → AreLegal parts parameters s journal → (remains_of s.nodes).trapped ≡ 0
      → first_trap k (moments_from parts parameters s journal) ≡ None → (remains_of (after parts parameters s journal).nodes).trapped ≡ 0
  no_traps s [] k size legal none untold = none
  no_traps s (entry ∷ rest) k size (next, legal) none untold =
      let moment = moment_of parts parameters s entry in
      let neither = either_none (trap_in k moment moment.stepped.did) _ untold in
      let now : (remains_of (step parts parameters s entry.event).nodes).trapped ≡ 0
      = ap (λ (all : Remains). all.trapped) (remains_are parts parameters s entry.event size next.enabled) ∙ (still_none (remains_of s.nodes) k moment entry.event moment.stepped.did neither.0 ∙ none) in
      no_traps (step parts parameters s entry.event) rest (k + 1) (size_kept s entry.event size) legal now neither.1

  pub start_size : length (machine_start parts).nodes ≡ node_count parts
  start_size = (start_aimed parts parameters).nodes

  -- at the start nothing has trapped, and no packet waits
  start_is : (image : IsImage parts) → remains_of (machine_start parts).nodes ≡ record { live = length parts.starts; trapped = 0; packets = 0 }
  start_is image = sym (remains_at_start parts image (length parts.starts) refl)

  pub remains_few : IsImage parts → (journal : List Entry) → IsLegal parts parameters journal → length journal < 4294967295 → AreFew (remains_of (state parts parameters journal).nodes)
  unfolding state
  remains_few image journal legal fits =
      let grow = troubles_grow (machine_start parts) journal start_size legal in
      let none : troubles (machine_start parts) ≡ 0 = ap (λ (all : Remains). all.trapped + all.packets) (start_is image) in
      record { trapped = omega arith; packets = omega arith }

  -- a machine without a trapping turn has no trapped context
  pub untrapped : IsImage parts → (journal : List Entry) → IsLegal parts parameters journal → first_trap 0 (moments parts parameters journal) ≡ None → any_trapped (state parts parameters journal) ≡ true → ⊥
  unfolding state moments
  untrapped image journal legal untold trapped =
      let s = after parts parameters (machine_start parts) journal in
      let none = no_traps (machine_start parts) journal 0 start_size legal (ap (λ (all : Remains). all.trapped) (start_is image)) untold in
      false≢true (ap (λ n. not (n == 0)) (sym none) ∙ (trapped_is (remains_of s.nodes) s refl ∙ trapped))
