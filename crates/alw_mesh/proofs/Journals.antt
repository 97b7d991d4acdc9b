-- A machine's journal, and one event more.
use Rattle.std.proofs.Common.{◌≡◌, ℕ, suc, ◌<◌, ◌≤◌, ◌&&◌, Bool, true, false, not, IsTrue, List, [], ◌∷◌, ◌++◌, length, drop, filter, refl, sym, ap, subst, ◌∙◌, arith}
use Rattle.std.proofs.lemmas.Nat.{mul-le}
use Rattle.std.proofs.lemmas.List.{drop-append-le, length-append}
use Rattle.alw_msg.specs.declared.messages.Msg.{Msg}
use Rattle.alw_msg.specs.declared.events.Event.{Event}
use Rattle.alw_msg.specs.declared.events.Entry.{Entry}
use Rattle.alw_msg.specs.Events.{node_of}
use Rattle.alw_msg.specs.Sending.{Sending}
use Rattle.alw_image.specs.declared.parts.Parts.{Parts}
use Rattle.alw_image.specs.Images.{IsImage, node_count}
use Rattle.alw_image.specs.Parameters.{Parameters, AreParameters}
use Rattle.alw_model.specs.Machine.{MachineState, machine_start, state, has_halted, stamp_at, taken_by, is_enabled, is_within_limit, step, stepped_by, main_events, end_of, IsNext, IsLegal}
use Rattle.alw_model.specs.Runs.{moment_of, moments_from, moments}
use Rattle.alw_model.specs.Runs as runs
use Rattle.alw_model.proofs.Journals.{and_parts, state_push, legal_push, moments_push}
use Rattle.law_lines.specs.Links.{GoBelow}
use Rattle.law_order.specs.Aims.{IsAimed}
use Rattle.law_order.proofs.Aimed.{sends_below}
use Rattle.law_order.proofs.Reached.{state_aimed}
use Rattle.law_machine.proofs.Bound.{sets_range}
use Rattle.law_machine.proofs.RunFacts.{always_bounded, always_halted}
use Rattle.law_machine.proofs.MachineFacts.{always_fit}
use Rattle.alw_tally.specs.declared.moments.Moment.{Moment}
use Rattle.alw_tally.specs.Remaining.{remains_of, AreFew}
use Rattle.alw_tally.specs.Told.{Told, told_of, told_with}
use Rattle.alw_tally.specs.Tallies.{Tallied}
use Rattle.alw_tally.specs.Moments.{MomentIsTold}
use Rattle.alw_tally.proofs.Telling.{told_entry}
use Rattle.alw_ready.specs.declared.changes.Happened as changes
use Rattle.alw_ready.specs.declared.rows.Row.{Row}
use Rattle.alw_ready.specs.Rows.{events_of}
use Rattle.alw_ready.specs.Fits.{may_happen, HeadsAreFit, RowsFit}
use Rattle.alw_ready.specs.Changes.{ComesFromBelow, is_wide, is_wide_event, EventIsTold}
use Rattle.alw_ready.proofs.MainEvents.{comes_from, filter_main}
use Rattle.alw_mesh.specs.declared.stepping.Happening.{Happening}
use Rattle.alw_mesh.specs.Grids.{Grid, grid_start, Happens}
use Rattle.alw_mesh.specs.Histories.{History, state_of, entry_of, grown, stamps_of, may_be_next, IsRun, sent_last, last_sends}
use Rattle.alw_mesh.specs.Limits.{most_timed_steps}
use Rattle.alw_mesh.specs.Keeping.{IsMachine}
use Rattle.alw_mesh.specs.Ends.{next_events, EndStays, HasPassed}
use Rattle.alw_mesh.specs.Moments.{IsMomentOf}
use Rattle.alw_mesh.proofs.OneNode.{few_nodes}
use Rattle.alw_mesh.proofs.Remaining.{remains_few}
use Rattle.alw_mesh.proofs.Quiet.{quiet_rows, quiet_end}

-- nodes times the limit
pub stamps_within : (image : Parts) (parameters : Parameters) → IsImage image → AreParameters parameters → stamps_of image parameters ≤ most_timed_steps
stamps_within image parameters is are = mul-le (node_count image) parameters.limit 256 1048576 (few_nodes image is) are.limit

-- no machine's journal comes near 2^32 entries
pub journal_fits : (h : History) → IsRun h → length h.journal < 4294967295
journal_fits h run =
    let nodes = few_nodes h.image run.image in
    let sets = mul-le (node_count h.image) h.parameters.sets 256 4096 nodes (sets_range h.parameters run.parameters).1 in
    let lines = mul-le (node_count h.image) h.image.per_node 256 4096 nodes run.image.per_node.1 in
    omega (arith, always_bounded h.image run.image h.parameters run.parameters h.journal run.legal, stamps_within h.image h.parameters run.image run.parameters)

-- a journal has an event for each entry
moments_from_long : (parts : Parts) (parameters : Parameters) (machine : MachineState) (journal : List Entry) → length (moments_from parts parameters machine journal) ≡ length journal
moments_from_long parts parameters machine [] = refl
moments_from_long parts parameters machine (entry ∷ rest) = ap suc (moments_from_long parts parameters (step parts parameters machine entry.event) rest)

pub moments_long : (parts : Parts) (parameters : Parameters) (journal : List Entry) → length (moments parts parameters journal) ≡ length journal
unfolding moments
moments_long parts parameters journal = moments_from_long parts parameters (machine_start parts) journal

-- one event more sends what it sends
sent_push : (run : List runs.Moment) (moment : runs.Moment) → sent_last (run ++ moment ∷ []) ≡ moment.stepped.sends
sent_push [] moment = refl
sent_push (first ∷ []) moment = refl
sent_push (first ∷ next ∷ rest) moment = sent_push (next ∷ rest) moment

pub last_push : (h : History) → h.joined ≤ length h.journal → (event : Event) → last_sends (grown h event) ≡ (stepped_by h.image h.parameters (state_of h) event).sends
last_push h within event =
    let run = moments h.image h.parameters h.journal in
    let moment = moment_of h.image h.parameters (state_of h) (entry_of h event) in
    let some : h.joined ≤ length run = omega (arith, within, moments_long h.image h.parameters h.journal) in
    ap (λ (all : List runs.Moment). sent_last (drop h.joined all)) (moments_push h.image h.parameters h.journal (entry_of h event))
    ∙ (ap sent_last (drop-append-le h.joined run (moment ∷ []) some) ∙ sent_push (drop h.joined run) moment)

-- what a tally is told more
abbrev pub TallyAdds : Parts → Tallied → Tallied → Moment → Bool → ℕ → List (ℕ × Msg) → Type 0
TallyAdds image before after told used pc sends = (moment : runs.Moment) → MomentIsTold told used pc sends moment → after.told ≡ told_with image before.told moment

-- what rows are made of others, over a machine after an event
abbrev pub Renews : Grid → List Row → List Row → changes.Happened → List (ℕ × Msg) → Type 0
Renews after rows rows' change sends = (journal : List Entry) → IsLegal after.image after.parameters journal
    → EventIsTold after.image after.parameters (state after.image after.parameters journal) after.machine change sends
    → RowsFit after.image after.parameters (state after.image after.parameters journal) rows → RowsFit after.image after.parameters after.machine rows'

module _ {grid : Grid} {journal : List Entry} {joined : ℕ} {sent : Sending} {tally : Tallied} {ready : List Row} (is : IsMachine grid journal joined sent tally ready) where
  abbrev here : History
  here = record { image = grid.image; parameters = grid.parameters; journal = journal; joined = joined }

  -- the rows say which main events may be next
  pub events_are : events_of ready ≡ next_events here
  events_are = filter_main grid.image grid.parameters grid.machine ready is.rows ∙ ap (λ m. filter (may_happen grid.image grid.parameters m) (main_events grid.image)) is.state_is

  -- few contexts have trapped, and few packets wait
  pub few_remain : AreFew (remains_of grid.machine.nodes)
  few_remain = subst (λ (m : MachineState). AreFew (remains_of m.nodes)) (sym is.state_is)
      (remains_few grid.image grid.parameters is.run.image journal is.run.legal (journal_fits here is.run))

  -- what may be next may happen
  pub next_may : (event : Event) → IsTrue (may_be_next here event) → IsTrue (may_happen grid.image grid.parameters grid.machine event)
  next_may event may = subst (λ (m : MachineState). IsTrue (may_happen grid.image grid.parameters m event)) (sym is.state_is) may

  module _ (event : Event) (may : IsTrue (may_happen grid.image grid.parameters grid.machine event)) where
    may_here : IsTrue (is_enabled grid.image grid.parameters (state_of here) event) × IsTrue (is_within_limit grid.image grid.parameters (state_of here) event)
    may_here = and_parts _ _ (subst (λ (m : MachineState). IsTrue (may_happen grid.image grid.parameters m event)) is.state_is may)

    -- a delivery comes from a node that has a row
    pub comes_from_row : ComesFromBelow (length ready) event
    comes_from_row = subst (λ n. ComesFromBelow n event) (sym is.rows.counted) (comes_from grid.image grid.parameters grid.machine event may)

    pub enabled : IsTrue (is_enabled grid.image grid.parameters grid.machine event)
    enabled = (and_parts _ _ may).0

    next_is : IsNext grid.image grid.parameters (state_of here) (entry_of here event)
    next_is = record { enabled = may_here.0; within = may_here.1; stamp = refl }

    module _ {room stamp : ℕ} {after : Grid} {sent' : Sending} {happening : Happening} (happens : Happens (record grid { room = room }) after (record { stamp = stamp; event = event }) sent' happening) where
      machine_next : after.machine ≡ step grid.image grid.parameters (state_of here) event
      machine_next = happens.machine ∙ ap (λ m. step grid.image grid.parameters m event) is.state_is

      sends_next : sent'.messages ≡ (stepped_by grid.image grid.parameters (state_of here) event).sends
      sends_next = happens.sends ∙ ap (λ m. (stepped_by grid.image grid.parameters m event).sends) is.state_is

      pub sends_below_rows : GoBelow (length ready) sent'.messages
      sends_below_rows = rw (is.rows.counted, sends_next)
          (sends_below grid.image grid.parameters (state_of here) event may_here.0 (state_aimed grid.image grid.parameters journal is.run.legal))

      -- where it isn't told that every context halted with the event, all had halted before where they have now
      goes_on : (flips : Bool) → flips ≡ (not (has_halted grid.machine) && has_halted after.machine) → flips ≡ false → has_halted after.machine ≡ has_halted (state_of here)
      goes_on flips flips_is none = go (has_halted (state_of here)) refl
        where
          both_halted : has_halted (state_of here) ≡ true → has_halted after.machine ≡ true
          both_halted halted = ap has_halted machine_next ∙ always_halted grid.image is.run.image grid.parameters is.run.parameters journal is.run.legal (entry_of here event) next_is halted

          go : (b : Bool) → has_halted (state_of here) ≡ b → has_halted after.machine ≡ has_halted (state_of here)
          go true halted = both_halted halted ∙ sym halted
          go false running = (ap (λ b. not b && has_halted after.machine) (sym (ap has_halted is.state_is ∙ running)) ∙ (sym flips_is ∙ none)) ∙ sym running

      -- what the rows are told
      told_is : (wide flips : Bool) → wide ≡ is_wide happening.moment.did happening.moment.taken happening.changes_holds → flips ≡ (not (has_halted grid.machine) && has_halted after.machine)
          → EventIsTold grid.image grid.parameters (state_of here) after.machine (record { event = event; wide = wide; halted = flips }) sent'.messages
      told_is wide flips wide_is flips_is =
          let wide_so : wide ≡ is_wide_event grid.image grid.parameters grid.machine event = wide_is ∙ (λ i. is_wide (happens.did i) (happens.taken i) (happens.holds i)) in
          record {
            enabled = may_here.0;
            sends_are = sends_next;
            after_is = machine_next;
            narrow = λ narrow. sym (wide_so ∙ ap (λ m. is_wide_event grid.image grid.parameters m event) is.state_is) ∙ narrow;
            goes_on = goes_on flips flips_is;
          }

      -- the journal after it
      pub grown_is : {journal' : List Entry} → stamp ≡ stamp_at grid.image grid.machine event → journal' ≡ journal ++ record { stamp = stamp; event = event } ∷ []
          → ◌≡◌ {A = History} (record { image = after.image; parameters = after.parameters; journal = journal'; joined = joined }) (grown here event)
      grown_is stamp_at_is pushed =
          let stamp_is = stamp_at_is ∙ ap (λ (m : MachineState). stamp_at grid.image m event) is.state_is in
          let journal_is = pushed ∙ (λ i. journal ++ record { stamp = stamp_is i; event = event } ∷ []) in
          λ i. record { image = happens.image i; parameters = happens.parameters i; journal = journal_is i; joined = joined }

      run_grows : IsRun (grown here event)
      run_grows = record {
        image = is.run.image;
        parameters = is.run.parameters;
        legal = legal_push grid.image grid.parameters journal (entry_of here event) is.run.legal next_is;
        joined = omega (arith, is.run.joined, length-append journal (entry_of here event ∷ []));
      }

      -- the moment that is told of it
      moment_told : MomentIsTold happening.moment happening.used happening.pc sent'.messages (moment_of grid.image grid.parameters grid.machine (record { stamp = stamp; event = event }))
      moment_told = record { node = ap (λ (e : Entry). node_of e.event) happens.entry_is; did = happens.did; taken = happens.taken; used_is = happens.used; pc_is = happens.pc; sends_are = happens.sends }

      -- what taking it answers
      pub take_answers : {journal' : List Entry} → stamp ≡ stamp_at grid.image grid.machine event → journal' ≡ journal ++ record { stamp = stamp; event = event } ∷ []
          → (quiet : Bool) → (quiet ≡ true → EndStays here (grown here event))
          → HasPassed here event (record { image = after.image; parameters = after.parameters; journal = journal'; joined = joined }) quiet
          × IsMomentOf here event (record { image = after.image; parameters = after.parameters; journal = journal'; joined = joined }) (record happening.moment { quiet = quiet })
      take_answers stamp_at_is pushed quiet stays =
          let grown_so = grown_is stamp_at_is pushed in
          let stamp_is = stamp_at_is ∙ ap (λ (m : MachineState). stamp_at grid.image m event) is.state_is in (
            record { after_is = grown_so; run = subst IsRun (sym grown_so) run_grows; stays = λ so. subst (EndStays here) (sym grown_so) (stays so) },
            record {
              entry = happens.entry_is ∙ (λ i. record { stamp = stamp_is i; event = event });
              taken = happens.taken ∙ ap (λ m. taken_by grid.image m event) is.state_is;
              did = happens.did ∙ ap (λ m. (stepped_by grid.image grid.parameters m event).did) is.state_is;
              sends = ap last_sends grown_so ∙ last_push here is.run.joined event;
            },
          )

      -- the heads of its links are fit
      pub heads_fit : HeadsAreFit after.image after.machine
      heads_fit =
          let entries = journal ++ entry_of here event ∷ [] in
          let legal = legal_push grid.image grid.parameters journal (entry_of here event) is.run.legal next_is in
          let state_next : after.machine ≡ state grid.image grid.parameters entries = machine_next ∙ sym (state_push grid.image grid.parameters journal (entry_of here event)) in
          subst (λ (p : Parts × MachineState). HeadsAreFit p.0 p.1) (λ i. (sym happens.image i, sym state_next i)) (always_fit grid.image is.run.image grid.parameters is.run.parameters entries legal)

      -- the machine after an event
      pub machine_grows : {journal' : List Entry} {tally' : Tallied} {ready' : List Row} → stamp ≡ stamp_at grid.image grid.machine event
          → journal' ≡ journal ++ record { stamp = stamp; event = event } ∷ [] → TallyAdds after.image tally tally' happening.moment happening.used happening.pc sent'.messages
          → RowsFit after.image after.parameters after.machine ready' → IsMachine after journal' joined sent' tally' ready'
      machine_grows {journal' = journal'} {tally' = tally'} stamp_at_is pushed adds rows =
          let entry : Entry = record { stamp = stamp; event = event } in
          let stamp_is = stamp_at_is ∙ ap (λ (m : MachineState). stamp_at grid.image m event) is.state_is in
          let entry_is : entry ≡ entry_of here event = λ i. record { stamp = stamp_is i; event = event } in
          let journal_is : journal' ≡ journal ++ entry_of here event ∷ [] = pushed ∙ ap (λ e. journal ++ e ∷ []) entry_is in
          let grown_so = grown_is stamp_at_is pushed in
          let pushed_state = state_push grid.image grid.parameters journal (entry_of here event) in
          let adds_so : TallyAdds grid.image tally tally' happening.moment happening.used happening.pc sent'.messages
          = subst (λ p. TallyAdds p tally tally' happening.moment happening.used happening.pc sent'.messages) happens.image adds in
          record {
            run = subst IsRun (sym grown_so) run_grows;
            state_is = machine_next ∙ (sym pushed_state ∙ sym (ap state_of grown_so));
            room = happens.room ∙ ap node_count (sym happens.image);
            sends = sends_next ∙ (sym (last_push here is.run.joined event) ∙ sym (ap last_sends grown_so));
            told = adds_so (moment_of grid.image grid.parameters grid.machine entry) moment_told
                ∙ ((λ i. told_with grid.image (is.told i) (moment_of grid.image grid.parameters (is.state_is i) (entry_is i)))
                ∙ (sym (told_entry grid.image grid.parameters journal (entry_of here event)) ∙ sym (ap told_by grown_so)));
            rows = rows;
          }
        where
          told_by : History → Told
          told_by h = told_of h.image (moments h.image h.parameters h.journal)

      -- rows that were renewed fit it, over the image and the parameters as they were
      pub rows_renewed : {ready' : List Row} (wide flips : Bool) → wide ≡ is_wide happening.moment.did happening.moment.taken happening.changes_holds
          → flips ≡ (not (has_halted grid.machine) && has_halted after.machine) → Renews after ready ready' (record { event = event; wide = wide; halted = flips }) sent'.messages
          → RowsFit after.image after.parameters after.machine ready'
      rows_renewed wide flips wide_is flips_is renews =
          let told = told_is wide flips wide_is flips_is in
          let fits = subst (λ (m : MachineState). RowsFit grid.image grid.parameters m ready) is.state_is is.rows in
          renews journal
          (subst (λ (p : Parts × Parameters). IsLegal p.0 p.1 journal) same is.run.legal)
          (subst (λ (p : Parts × Parameters). EventIsTold p.0 p.1 (state p.0 p.1 journal) after.machine (record { event = event; wide = wide; halted = flips }) sent'.messages) same told)
          (subst (λ (p : Parts × Parameters). RowsFit p.0 p.1 (state p.0 p.1 journal) ready) same fits)
        where
          same : ◌≡◌ {A = Parts × Parameters} (grid.image, grid.parameters) (after.image, after.parameters)
          same = λ i. (sym happens.image i, sym happens.parameters i)

      -- behind a quiet turn before the limit they fit as they were, and the end stays
      module _ (reached limit : ℕ) (reached_is : reached ≡ stamp_at grid.image grid.machine event) (limit_is : limit ≡ after.parameters.limit) (early : reached < limit)
          (quiet : happening.moment.quiet ≡ true) where
        aimed : IsAimed grid.image grid.machine
        aimed = subst (IsAimed grid.image) (sym is.state_is) (state_aimed grid.image grid.parameters journal is.run.legal)

        rows_keep : RowsFit grid.image grid.parameters (step grid.image grid.parameters grid.machine event) ready
        rows_keep =
            let allowed = ap (λ (p : Parameters). p.limit) happens.parameters in
            quiet_rows event happening.moment.did happening.changes_holds (happens.quiet quiet) grid.image grid.parameters grid.machine ready aimed may happens.did happens.holds
            (omega (arith, reached_is, limit_is, allowed)) is.run.parameters.limit is.rows

        pub rows_stay : RowsFit after.image after.parameters after.machine ready
        rows_stay = subst (λ (p : Parts × (Parameters × MachineState)). RowsFit p.0 p.1.0 p.1.1 ready) (λ i. (sym happens.image i, (sym happens.parameters i, sym happens.machine i))) rows_keep

        pub end_stays : EndStays here (grown here event)
        end_stays =
            let end = end_of grid.image grid.parameters in
            let next = state_push grid.image grid.parameters journal (entry_of here event) ∙ ap (λ m. step grid.image grid.parameters m event) (sym is.state_is) in
            ap end next
            ∙ (quiet_end event happening.moment.did happening.changes_holds (happens.quiet quiet) grid.image grid.parameters grid.machine ready aimed enabled happens.did is.rows rows_keep ∙ ap end is.state_is)

-- the heads of the links are fit in a machine that hasn't begun, and in one that was joined
pub heads_fit_at : (image : Parts) → IsImage image → (parameters : Parameters) → AreParameters parameters → (journal : List Entry) → IsLegal image parameters journal
    → (machine : MachineState) → machine ≡ state image parameters journal → HeadsAreFit image machine
heads_fit_at image is parameters are journal legal machine machine_is = subst (HeadsAreFit image) (sym machine_is) (always_fit image is parameters are journal legal)

pub heads_fit_first : {grid : Grid} (image : Parts) (parameters : Parameters) → grid ≡ grid_start image parameters → IsImage image → AreParameters parameters → HeadsAreFit grid.image grid.machine
unfolding state
heads_fit_first image parameters starts is are = subst (λ (g : Grid). HeadsAreFit g.image g.machine) (sym starts) (heads_fit_at image is parameters are [] tt (machine_start image) refl)

-- the machine at the start
pub machine_begins : {grid : Grid} {sent : Sending} {tally : Tallied} {ready : List Row} (image : Parts) (parameters : Parameters) → grid ≡ grid_start image parameters
    → IsImage image → AreParameters parameters → sent.room ≡ node_count image → sent.messages ≡ []
    → ((parts : Parts) → tally.told ≡ told_of parts []) → RowsFit grid.image grid.parameters grid.machine ready → IsMachine grid [] 0 sent tally ready
unfolding state moments
machine_begins {sent = sent} {tally = tally} {ready = ready} image parameters starts is are room empty told rows =
    let rows_so : RowsFit image parameters (machine_start image) ready = subst (λ (g : Grid). RowsFit g.image g.parameters g.machine ready) starts rows in
    let begins : IsMachine (grid_start image parameters) [] 0 sent tally ready
    = record {
      run = record { image = is; parameters = are; legal = tt; joined = omega arith };
      state_is = refl;
      room = room;
      sends = empty;
      rows = rows_so;
      told = told image;
    } in
    subst (λ (g : Grid). IsMachine g [] 0 sent tally ready) (sym starts) begins
