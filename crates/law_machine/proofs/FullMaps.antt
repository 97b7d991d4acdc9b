-- Each home is, at every moment, the full-map entry that acted on the same messages, each of which is listed; replies that are delivered meet transactions.
use Rattle.std.proofs.Common.{◌≡◌, ℕ, ◌<◌, ◌≤◌, Option, Some, None, List, [], ◌∷◌, flat_map, option_map, IsTrue, refl, sym, subst, ap, ◌∙◌}
use Rattle.std.specs.Prelude.{IsSome}
use Rattle.std.specs.List.{AllByRecursion}
use Rattle.law_machine.proofs.Vocabulary.{Line, value_at, Entry, ToMemory, node_of, Parts, node_count, line_count, body_of, Parameters, Home, home_start, full_map_of, Transaction, MachineState}
use Rattle.law_machine.proofs.Vocabulary.{machine_start, node_at, is_enabled, step, after, AreLegal, IsLegal, state, LineNode, LineState, line_of, entry_of, Moment, moment_of, moments_from}
use Rattle.law_machine.proofs.Vocabulary.{moments, acted_by, acted_messages, acted_on, full_map_after, last_stored, AreListed, acted_in, line_events}
use Rattle.law_line.proofs.Consequences.{reply_meets}
use Rattle.law_line.proofs.Acted.{ActsOn, acts_then, run_acts}
use Rattle.law_lines.proofs.CacheSide.{old_part}
use Rattle.law_lines.proofs.Steps.{line_follows, enabled_is}
use Rattle.law_lines.proofs.Acted.{event_acts, event_comes}
use Rattle.law_machine.specs.Replies.{MeetsTransaction}
use Rattle.law_machine.specs.Values.{MachineIsSoundWith, AfterEveryJournal}
use Rattle.law_machine.proofs.Runs.{step_sound, start_sound_with, line_at_start}

-- ---- what a home acts on

module _ (parts : Parts) (parameters : Parameters) (some : 1 ≤ parameters.pointers) (k : ℕ) (exists : k < line_count parts) where
  abbrev home_of : MachineState → Home
  home_of s = full_map_of (entry_of parts s k)

  abbrev acted : Moment → List (ℕ × ToMemory)
  acted moment = acted_by k moment moment.stepped.did

  -- as its line does
  entry_acts : (s : MachineState) (values : ℕ → Line) (entry : Entry) → IsTrue (is_enabled parts parameters s entry.event) →
      MachineIsSoundWith parts parameters values s →
      ActsOn (home_of s) (acted (moment_of parts parameters s entry)) (home_of (step parts parameters s entry.event))
  entry_acts s values entry enabled sound =
      let events = line_events parts parameters s entry.event k in
      let follows = line_follows parts parameters s sound.standing (λ l lines. (sound.lines l lines).members) k exists entry.event enabled in
      let acts = run_acts (node_count parts) (values k) (line_of parts parameters s k) events (sound.lines k exists) follows.legal in
      let same : acted_in (line_of parts parameters s k) events ≡ acted (moment_of parts parameters s entry) =
      sym (event_acts parts parameters s sound.standing k exists entry enabled) in
      record {
        listed = subst (AreListed (home_of s)) same acts.listed;
        home = ap (λ (t : LineState). t.home) follows.state ∙ (acts.home ∙ ap (acted_on (home_of s)) same);
      }

  entries_act : (s : MachineState) (values : ℕ → Line) (journal : List Entry) → AreLegal parts parameters s journal →
      MachineIsSoundWith parts parameters values s →
      ActsOn (home_of s) (flat_map acted (moments_from parts parameters s journal)) (home_of (after parts parameters s journal))
  entries_act s values [] legal sound = record { listed = tt; home = refl }
  entries_act s values (entry ∷ rest) (next, legal) sound =
      let then = step parts parameters s entry.event in
      acts_then (home_of s) (acted (moment_of parts parameters s entry)) (flat_map acted (moments_from parts parameters then rest)) (home_of then)
      (home_of (after parts parameters then rest)) (entry_acts s values entry next.enabled sound)
      (entries_act then (λ l. last_stored (values l) (line_events parts parameters s entry.event l)) rest legal
      (step_sound parts parameters some s entry.event next.enabled values sound))

  -- in a legal journal a home acts on messages that are listed, as the full map's entry
  journal_acts : (journal : List Entry) → IsLegal parts parameters journal →
      ActsOn (home_start (body_of parts k)) (acted_messages parts parameters journal k) (home_of (state parts parameters journal))
  unfolding state moments
  journal_acts journal legal =
      subst (λ (home : Home). ActsOn home (acted_messages parts parameters journal k) (home_of (state parts parameters journal)))
      (ap (λ (t : LineState). t.home) (line_at_start parts parameters k exists))
      (entries_act (machine_start parts) (body_of parts) journal legal (start_sound_with parts parameters some))

pub always_acted_listed : AfterEveryJournal
    (λ parts parameters journal machine. (line : ℕ) → line < line_count parts →
    AreListed (home_start (body_of parts line)) (acted_messages parts parameters journal line))
always_acted_listed parts parameters some journal legal line exists = (journal_acts parts parameters some line exists journal legal).listed

pub always_full_maps : AfterEveryJournal
    (λ parts parameters journal machine. (line : ℕ) → line < line_count parts →
    full_map_of (entry_of parts machine line) ≡ full_map_after parts parameters journal line)
always_full_maps parts parameters some journal legal line exists = (journal_acts parts parameters some line exists journal legal).home

-- two journals in which a home acted on the same messages leave it the same
pub same_home : (parts : Parts) → (one other : Parameters) → 1 ≤ one.pointers → 1 ≤ other.pointers → (first second : List Entry) → IsLegal parts one first →
    IsLegal parts other second → (line : ℕ) → line < line_count parts → acted_messages parts one first line ≡ acted_messages parts other second line
    → full_map_of (entry_of parts (state parts one first) line) ≡ full_map_of (entry_of parts (state parts other second) line)
same_home parts one other some more first second legal also line exists same =
    always_full_maps parts one some first legal line exists
    ∙ (ap (acted_on (home_start (body_of parts line))) same ∙ sym (always_full_maps parts other more second also line exists))

-- ---- replies that are delivered

module _ (parts : Parts) (parameters : Parameters) (some : 1 ≤ parameters.pointers) where
  has_one : (o : Option Transaction) → IsSome (option_map (λ (transaction : Transaction). transaction.mode) o) → IsSome o
  has_one None is = is
  has_one (Some transaction) is = refl

  entry_meets : (s : MachineState) (values : ℕ → Line) (entry : Entry) → IsTrue (is_enabled parts parameters s entry.event) →
      MachineIsSoundWith parts parameters values s → MeetsTransaction (moment_of parts parameters s entry)
  entry_meets s values entry enabled sound msg taken said is reply =
      let n = node_of entry.event in
      let l = msg.line.0 in
      let first = event_comes parts parameters s sound.standing entry.event enabled msg taken said is in
      has_one (value_at (node_at s n).transactions l)
      (subst (λ (v : LineNode). IsSome v.transaction) (old_part parts parameters s n l (enabled_is parts parameters s entry.event enabled).here)
      (reply_meets (node_count parts) (values l) (line_of parts parameters s l) (sound.lines l first.0) n said first.1.0 first.1.1 reply))

  entries_meet : (s : MachineState) (values : ℕ → Line) (journal : List Entry) → AreLegal parts parameters s journal →
      MachineIsSoundWith parts parameters values s → AllByRecursion MeetsTransaction (moments_from parts parameters s journal)
  entries_meet s values [] legal sound = tt
  entries_meet s values (entry ∷ rest) (next, legal) sound = (
    entry_meets s values entry next.enabled sound,
    entries_meet (step parts parameters s entry.event) (λ l. last_stored (values l) (line_events parts parameters s entry.event l)) rest legal
        (step_sound parts parameters some s entry.event next.enabled values sound),
  )

pub always_came : AfterEveryJournal (λ parts parameters journal machine. AllByRecursion MeetsTransaction (moments parts parameters journal))
unfolding moments
always_came parts parameters some journal legal =
    entries_meet parts parameters some (machine_start parts) (body_of parts) journal legal (start_sound_with parts parameters some)
