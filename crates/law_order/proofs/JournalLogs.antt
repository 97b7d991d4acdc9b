-- The logs of a legal journal whose stamps are within the limit are local runs, and their links agree.
use Rattle.std.proofs.Common.{◌≡◌, ℕ, ◌<◌, ◌==◌, Bool, true, false, cond, is_some, List, [], ◌∷◌, ◌++◌, length, map, IsTrue, refl, sym, subst, ap, ◌∙◌, append-nil, arith}
use Rattle.std.specs.Prelude.{filter}
use Rattle.std.proofs.lemmas.Bool.{eq-eqb, ne_eqb}
use Rattle.std.proofs.lemmas.List.FromFn.{length-map-range_with_len, get_or-map-range_with_len}
use Rattle.alw_num.proofs.Weigh.{is_node}
use Rattle.alw_msg.specs.declared.messages.Msg.{Msg}
use Rattle.alw_msg.specs.declared.events.Event.{Event}
use Rattle.alw_msg.specs.declared.events.Event.TheVariants.{Instr, Handle, Deliver, Evict}
use Rattle.alw_msg.specs.declared.events.Entry.{Entry}
use Rattle.alw_image.specs.declared.parts.Parts.{Parts}
use Rattle.alw_image.specs.Images.{node_count}
use Rattle.alw_image.specs.Parameters.{Parameters}
use Rattle.alw_msg.specs.Events.{node_of}
use Rattle.alw_model.specs.NodeStates.{NodeState, node_start}
use Rattle.alw_model.specs.Machine.{MachineState, machine_start, node_at, link_at, taken_by, is_enabled, stepped_by, step, after, AreLegal, IsLegal, IsNext}
use Rattle.alw_model.specs.Runs.{Moment, number_of, moment_of, moments_from, moments}
use Rattle.alw_model.specs.Rows.{log_in, logs_of}
use Rattle.alw_model.specs.Threads.{Logged, IsNextLogged, IsRunFrom, takes_rightly, took_from, sent_to, log_at}
use Rattle.law_order.specs.Merges.{AreLocalRuns, JournalIsWithin}
use Rattle.law_order.proofs.Local.{node_kept, has_front}
use Rattle.law_order.specs.Aims.{IsAimed}
use Rattle.law_order.proofs.Aimed.{start_aimed, step_aimed, node_at_start}
use Rattle.law_order.proofs.Clocks.{node_stepped}
use Rattle.law_order.proofs.LogOrders.{mine, entries}
use Rattle.law_order.proofs.LogSends.{took_here, sent_here, took_split, sent_split}
use Rattle.law_order.proofs.LogMoves.{link_moves, moves_back}
use Rattle.law_order.proofs.Merging.{link_at_start}

-- an event of a run, as a log has it
abbrev pub logged_of : Moment → Logged
logged_of moment = record { entry = moment.entry; taken = moment.taken; sent = moment.stepped.sends }

pub log_is_mine : (n : ℕ) (run : List Moment) → log_in n run ≡ mine n (map logged_of run)
log_is_mine n [] = refl
log_is_mine n (moment ∷ rest) = go (node_of moment.entry.event == n) (log_is_mine n rest)
  where
    go : (b : Bool) → log_in n rest ≡ mine n (map logged_of rest)
        → map logged_of (cond b (moment ∷ filter (λ (m : Moment). number_of m == n) rest) (filter (λ (m : Moment). number_of m == n) rest)) ≡ cond b (logged_of moment ∷ mine n (map logged_of rest)) (mine n (map logged_of rest))
    go true same = ap (λ (xs : List Logged). logged_of moment ∷ xs) same
    go false same = same

module _ (parts : Parts) (parameters : Parameters) where
  -- a journal with what each entry took and sent
  abbrev pub logged_run : MachineState → List Entry → List Logged
  logged_run s journal = map logged_of (moments_from parts parameters s journal)

  pub run_entries : (s : MachineState) (journal : List Entry) → entries (logged_run s journal) ≡ journal
  run_entries s [] = refl
  run_entries s (entry ∷ rest) = ap (λ (xs : List Entry). entry ∷ xs) (run_entries (step parts parameters s entry.event) rest)

  takes_right : (s : MachineState) (event : Event) → IsTrue (is_enabled parts parameters s event) → IsTrue (takes_rightly event (taken_by parts s event))
  takes_right s (Instr at) enabled = refl
  takes_right s (Handle at) enabled = refl
  takes_right s (Evict at emptied) enabled = refl
  takes_right s (Deliver from to) enabled = ap is_some (has_front parts parameters s (Deliver from to) enabled).1

  module _ (s : MachineState) (entry : Entry) (rest : List Entry) (aimed : IsAimed parts s) (next : IsNext parts parameters s entry) where
    abbrev logged : Logged
    logged = logged_of (moment_of parts parameters s entry)

    abbrev m : ℕ
    m = node_of entry.event

    next_logged : JournalIsWithin parameters (entry ∷ rest) → IsNextLogged parts parameters m (node_at s m) logged
    next_logged within = record {
      taken = takes_right s entry.event next.enabled;
      enabled = next.enabled;
      stamp = next.stamp;
      within = within.stamps.0;
      evicts = λ none. (within.evicts none).0;
      sent = refl;
    }

    runs_before : JournalIsWithin parameters (entry ∷ rest) → ((n : ℕ) → IsRunFrom parts parameters n (node_at (step parts parameters s entry.event) n) (mine n (logged_run (step parts parameters s entry.event) rest)))
        → (n : ℕ) → IsRunFrom parts parameters n (node_at s n) (mine n (logged_run s (entry ∷ rest)))
    runs_before within deeper n = is_node _ n m
        (λ same. subst (λ (a : ℕ). IsRunFrom parts parameters a (node_at s a) (mine a (logged_run s (entry ∷ rest)))) (sym same) own)
        (λ other. subst (IsRunFrom parts parameters n (node_at s n)) (ap (λ b. cond b (logged ∷ mine n later) (mine n later)) (sym (ne_eqb m n (λ same. other (sym same)))))
        (subst (λ (node : NodeState). IsRunFrom parts parameters n node (mine n later)) (node_kept parts parameters s entry.event (stepped_by parts parameters s entry.event) n other) (deeper n)))
      where
        later : List Logged
        later = logged_run (step parts parameters s entry.event) rest

        own : IsRunFrom parts parameters m (node_at s m) (mine m (logged_run s (entry ∷ rest)))
        own = subst (IsRunFrom parts parameters m (node_at s m)) (ap (λ b. cond b (logged ∷ mine m (logged_run (step parts parameters s entry.event) rest)) (mine m (logged_run (step parts parameters s entry.event) rest))) (sym (eq-eqb m m refl)))
            (next_logged within, subst (λ (node : NodeState). IsRunFrom parts parameters m node (mine m (logged_run (step parts parameters s entry.event) rest))) (node_stepped parts parameters s entry.event aimed next.enabled) (deeper m))

  within_rest : (entry : Entry) (rest : List Entry) → JournalIsWithin parameters (entry ∷ rest) → JournalIsWithin parameters rest
  within_rest entry rest within = record { stamps = within.stamps.1; evicts = λ none. (within.evicts none).1 }

  journal_runs : (s : MachineState) (journal : List Entry) → IsAimed parts s → AreLegal parts parameters s journal → JournalIsWithin parameters journal → (n : ℕ) → IsRunFrom parts parameters n (node_at s n) (mine n (logged_run s journal))
  journal_runs s [] aimed legal within n = tt
  journal_runs s (entry ∷ rest) aimed (next, legal) within n =
      runs_before s entry rest aimed next within (journal_runs (step parts parameters s entry.event) rest (step_aimed parts parameters s entry.event next.enabled aimed) legal (within_rest entry rest within)) n

  journal_links : (s : MachineState) (journal : List Entry) → IsAimed parts s → AreLegal parts parameters s journal → (a b : ℕ) → b < node_count parts
      → took_from a (mine b (logged_run s journal)) ++ link_at parts (after parts parameters s journal) a b ≡ link_at parts s a b ++ sent_to b (mine a (logged_run s journal))
  journal_links s [] aimed legal a b m = sym (append-nil (link_at parts s a b))
  journal_links s (entry ∷ rest) aimed (next, legal) a b m =
      let event = entry.event in
      let t = step parts parameters s event in
      let logged = logged_of (moment_of parts parameters s entry) in
      let later = logged_run t rest in
      let final = link_at parts (after parts parameters t rest) a b in
      ap (λ (xs : List Msg). xs ++ final) (took_split a b logged later)
      ∙ (moves_back (took_here a b logged) (took_from a (mine b later)) final (link_at parts s a b) (sent_here a b logged) (sent_to b (mine a later)) (link_at parts t a b)
      (link_moves parts parameters s aimed logged next.enabled refl refl a b m) (journal_links t rest (step_aimed parts parameters s event next.enabled aimed) legal a b m)
      ∙ ap (λ (xs : List Msg). link_at parts s a b ++ xs) (sym (sent_split a b logged later)))

  module _ (journal : List Entry) (legal : IsLegal parts parameters journal) where
    abbrev pub whole_run : List Logged
    whole_run = logged_run (machine_start parts) journal

    pub log_of_journal : (n : ℕ) → n < node_count parts → log_at (logs_of parts parameters journal) n ≡ mine n whole_run
    unfolding moments
    log_of_journal n l = get_or-map-range_with_len (λ number. log_in number (moments parts parameters journal)) 0 (node_count parts) n n [] l (omega arith) ∙ log_is_mine n (moments parts parameters journal)

    -- the logs of a legal journal within the limit
    pub journal_logs : JournalIsWithin parameters journal → AreLocalRuns parts parameters (logs_of parts parameters journal)
    journal_logs within = record {
      count = count;
      runs = λ n l. subst (IsRunFrom parts parameters n (node_start parts n)) (sym (log_of_journal n l))
          (subst (λ (node : NodeState). IsRunFrom parts parameters n node (mine n whole_run)) (node_at_start parts parameters n l) (journal_runs (machine_start parts) journal (start_aimed parts parameters) legal within n));
      agree = λ from to l m.
          let a : from < node_count parts = rw (← count) l in
          let b : to < node_count parts = rw (← count) m in (
            link_at parts (after parts parameters (machine_start parts) journal) from to,
            ap (λ (log : List Logged). took_from from log ++ link_at parts (after parts parameters (machine_start parts) journal) from to) (log_of_journal to b)
                ∙ (journal_links (machine_start parts) journal (start_aimed parts parameters) legal from to b
                ∙ (λ x. link_at_start parts from to x ++ sent_to to (sym (log_of_journal from a) x))),
          );
    }
      where
        count : length (logs_of parts parameters journal) ≡ node_count parts
        count = length-map-range_with_len (λ number. log_in number (moments parts parameters journal)) 0 (node_count parts)
