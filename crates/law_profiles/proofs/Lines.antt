-- The rows of all lines count together what a report counts: each line that an event names exists.
use Rattle.std.proofs.Common.{◌≡◌, ◌≢◌, ℕ, ◌+◌, ◌<◌, ◌≤◌, ◌==◌, Option, Some, None, List, ◌++◌, flat_map, slice_index, refl, ◌∙◌, arith}
use Rattle.std.specs.List.{AllByRecursion}
use Rattle.alw_num.specs.Weights.{digit, weigh}
use Rattle.alw_num.proofs.Weigh.{weigh-append, weigh-none, weigh-same, weigh-both, weigh-le, weigh_flat}
use Rattle.alw_num.specs.declared.states.Mode.TheVariants.{Read, Write}
use Rattle.alw_num.specs.NodeSets.{Nodes}
use Rattle.sparc_table.specs.declared.outcomes.Need.{Need}
use Rattle.sparc_table.specs.declared.outcomes.Need.TheVariants as needs
use Rattle.alw_msg.specs.declared.messages.Kind.{Kind}
use Rattle.alw_msg.specs.declared.messages.Kind.TheVariants.{RREQ, WREQ, REPM, UPDATE, ACKC, RDATA, WDATA, INV, BUSY}
use Rattle.alw_msg.specs.declared.messages.Msg.{Msg}
use Rattle.alw_msg.specs.Kinds.{kind_number}
use Rattle.alw_image.specs.declared.parts.Parts.{Parts}
use Rattle.alw_image.specs.Images.{line_count}
use Rattle.alw_image.specs.Parameters.{Parameters}
use Rattle.alw_model.specs.declared.steps.Did.{Did}
use Rattle.alw_model.specs.Runs.{Moment, moments}
use Rattle.alw_model.specs.Counts.{is_turn, is_miss, is_handling, is_spill, count_did, count_sent, counts_of}
use Rattle.alw_profile.specs.declared.sights.Ran.{Ran}
use Rattle.alw_profile.specs.Counted.{LineCounts}
use Rattle.alw_profile.specs.Events.{is_inv, is_busy, writes_back, about_marks, sent_marks, ran_marks, handled_marks, lines_marked, accesses_told, seen_in}
use Rattle.alw_profile.specs.Marks.{has_count}
use Rattle.alw_profile.specs.Places.{nodes_at}
use Rattle.alw_profile.specs.Rows.{line_row, told}
use Rattle.law_profiles.specs.Sums.{over_lines, LinesCount, LineSumsAreCounts}
use Rattle.law_profiles.proofs.Rows.{in_column, inside, off, inside_all, weigh_each, row_weight, column_is}
use Rattle.law_profiles.proofs.Acts.{HasActs, all_act}
use Rattle.law_profiles.proofs.Standing.{OfLines, lines_exist}

-- ---- columns that a list of marks leaves out

ran_off : (did : Did) (ran : Option Ran) (column : ℕ) → 4 ≤ column → weigh (in_column column) (ran_marks did ran) ≡ 0
ran_off did None column high = refl
ran_off did (Some ran) column high = by_need ran.need
  where
    by_need : (need : Need) → weigh (in_column column) (ran_marks did (Some (record ran { need = need }))) ≡ 0
    by_need (needs.Copy line Read) = omega (arith, off 0 column (digit (is_turn did)) (λ e. omega (arith, e)), off 1 column (digit (is_miss did)) (λ e. omega (arith, e)))
    by_need (needs.Copy line Write) = omega (arith, off 2 column (digit (is_turn did)) (λ e. omega (arith, e)), off 3 column (digit (is_miss did)) (λ e. omega (arith, e)))
    by_need needs.Nothing = refl
    by_need (needs.Trap type) = refl

handled_off : (did : Did) (packet : Option Msg) (column : ℕ) → column < 7 → weigh (in_column column) (handled_marks did packet) ≡ 0
handled_off did None column low = refl
handled_off did (Some packet) column low =
    omega (arith, off 7 column (digit (is_handling did)) (λ e. omega (arith, e)), off 8 column (digit (is_spill did)) (λ e. omega (arith, e)))

about_off : (msg : Msg) (column : ℕ) → 4 ≢ column → 5 ≢ column → 6 ≢ column → weigh (in_column column) (about_marks msg) ≡ 0
about_off msg column inv busy back =
    omega (arith, off 4 column (digit (is_inv msg.kind)) inv, off 5 column (digit (is_busy msg.kind)) busy, off 6 column (digit (writes_back msg.kind)) back)

sent_off : (sends : List (ℕ × Msg)) (column : ℕ) → 4 ≢ column → 5 ≢ column → 6 ≢ column → weigh (in_column column) (flat_map sent_marks sends) ≡ 0
sent_off sends column inv busy back =
    weigh_flat (in_column column) sent_marks sends ∙ weigh-none (λ send. weigh (in_column column) (sent_marks send)) (λ send. about_off send.1 column inv busy back) sends

-- ---- kinds by their numbers

inv_is : (kind : Kind) → digit (is_inv kind) ≡ digit (kind_number kind == 7)
inv_is RREQ = refl
inv_is WREQ = refl
inv_is REPM = refl
inv_is UPDATE = refl
inv_is ACKC = refl
inv_is RDATA = refl
inv_is WDATA = refl
inv_is INV = refl
inv_is BUSY = refl

busy_is : (kind : Kind) → digit (is_busy kind) ≡ digit (kind_number kind == 8)
busy_is RREQ = refl
busy_is WREQ = refl
busy_is REPM = refl
busy_is UPDATE = refl
busy_is ACKC = refl
busy_is RDATA = refl
busy_is WDATA = refl
busy_is INV = refl
busy_is BUSY = refl

back_is : (kind : Kind) → digit (writes_back kind) ≡ digit (kind_number kind == 2) + digit (kind_number kind == 3)
back_is RREQ = refl
back_is WREQ = refl
back_is REPM = refl
back_is UPDATE = refl
back_is ACKC = refl
back_is RDATA = refl
back_is WDATA = refl
back_is INV = refl
back_is BUSY = refl

-- ---- what an event adds to each column

module _ (image : Parts) (moment : Moment) where
  abbrev did : Did
  did = moment.stepped.did

  abbrev sends : List (ℕ × Msg)
  sends = moment.stepped.sends

  abbrev ran : Option Ran
  ran = (seen_in image moment).ran

  abbrev packet : Option Msg
  packet = (seen_in image moment).front

  abbrev all_in : ℕ → ℕ
  all_in column = weigh (in_column column) (lines_marked image moment)

  split : (column : ℕ) → all_in column
      ≡ weigh (in_column column) (ran_marks did ran) + (weigh (in_column column) (handled_marks did packet) + weigh (in_column column) (flat_map sent_marks sends))
  split column =
      let first = weigh-append (in_column column) (ran_marks did ran) (handled_marks did packet ++ flat_map sent_marks sends) in
      let rest = weigh-append (in_column column) (handled_marks did packet) (flat_map sent_marks sends) in
      omega (arith, first, rest)

  access_is : (column : ℕ) → column < 4 → all_in column ≡ weigh (in_column column) (ran_marks did ran)
  access_is column low =
      omega (arith, split column, handled_off did packet column (omega arith), sent_off sends column (λ e. omega (arith, e)) (λ e. omega (arith, e)) (λ e. omega (arith, e)))

  handled_is : (column : ℕ) → 7 ≤ column → all_in column ≡ weigh (in_column column) (handled_marks did packet)
  handled_is column high =
      omega (arith, split column, ran_off did ran column (omega arith), sent_off sends column (λ e. omega (arith, e)) (λ e. omega (arith, e)) (λ e. omega (arith, e)))

  sent_are : (column : ℕ) → 4 ≤ column → column < 7 → (own : ℕ × Msg → ℕ) → ((send : ℕ × Msg) → weigh (in_column column) (sent_marks send) ≡ own send)
      → all_in column ≡ weigh own sends
  sent_are column high low own is =
      let each = weigh-same (λ send. weigh (in_column column) (sent_marks send)) own is sends in
      omega (arith, split column, ran_off did ran column high, handled_off did packet column low, weigh_flat (in_column column) sent_marks sends, each)

  hits_few : all_in 0 + all_in 2 ≤ digit (is_turn did)
  hits_few =
      let few = by_ran ran in
      omega (arith, access_is 0 (omega arith), access_is 2 (omega arith), few)
    where
      by_need : (ran : Ran) (need : Need)
          → weigh (in_column 0) (ran_marks did (Some (record ran { need = need }))) + weigh (in_column 2) (ran_marks did (Some (record ran { need = need }))) ≤ digit (is_turn did)
      by_need ran (needs.Copy line Read) = omega arith
      by_need ran (needs.Copy line Write) = omega arith
      by_need ran needs.Nothing = omega arith
      by_need ran (needs.Trap type) = omega arith

      by_ran : (o : Option Ran) → weigh (in_column 0) (ran_marks did o) + weigh (in_column 2) (ran_marks did o) ≤ digit (is_turn did)
      by_ran None = omega arith
      by_ran (Some ran) = by_need ran ran.need

-- ---- a run

module _ (image : Parts) (parameters : Parameters) (run : List Moment) (all : AllByRecursion (λ (moment : Moment). OfLines image (lines_marked image moment)) run)
    (acts : AllByRecursion (HasActs image) run) where
  abbrev added : ℕ → Moment → ℕ
  added column moment = weigh (in_column column) (lines_marked image moment)

  -- a column over all rows
  lines_are : (pick : LineCounts → ℕ) (column : ℕ) → column < 9
      → ((line : ℕ) (counts : List ℕ) (readers writers : Nodes) → weigh pick (line_row line counts readers writers) ≡ slice_index counts column)
      → over_lines pick (told image parameters run) ≡ weigh (added column) run
  lines_are pick column small is =
      let readers : ℕ → Nodes = λ line. nodes_at (flat_map (accesses_told Read image) run) line in
      let writers : ℕ → Nodes = λ line. nodes_at (flat_map (accesses_told Write image) run) line in
      column_is (lines_marked image) (λ line counts. line_row line counts (readers line) (writers line)) (line_count image) 9 run pick column small
      (λ line counts. is line counts (readers line) (writers line))
      ∙ weigh_each (λ moment. OfLines image (lines_marked image moment)) (λ moment. weigh (inside (line_count image) column) (lines_marked image moment)) (added column)
      (λ moment there. inside_all (line_count image) column (lines_marked image moment) there) run all

  abbrev rows : List LineCounts
  rows = (told image parameters run).lines

  hits : over_lines (λ row. row.load_hits + row.store_hits) (told image parameters run) ≤ count_did is_turn run
  hits =
      let loads = lines_are (λ row. row.load_hits) 0 (omega arith) (λ line counts readers writers. row_weight (λ row. row.load_hits) _ 0 counts refl (has_count counts) (λ e. e)) in
      let stores = lines_are (λ row. row.store_hits) 2 (omega arith) (λ line counts readers writers. row_weight (λ row. row.store_hits) _ 2 counts refl (has_count counts) (λ e. e)) in
      omega (
        arith,
        weigh-both (λ row. row.load_hits) (λ row. row.store_hits) rows,
        loads,
        stores,
        weigh-both (added 0) (added 2) run,
        weigh-le (λ moment. added 0 moment + added 2 moment) (λ moment. digit (is_turn moment.stepped.did)) (hits_few image) run,
      )

  misses : over_lines (λ row. row.load_misses + row.store_misses) (told image parameters run) ≡ count_did is_miss run
  misses =
      let loads = lines_are (λ row. row.load_misses) 1 (omega arith) (λ line counts readers writers. row_weight (λ row. row.load_misses) _ 1 counts refl (has_count counts) (λ e. e)) in
      let stores = lines_are (λ row. row.store_misses) 3 (omega arith) (λ line counts readers writers. row_weight (λ row. row.store_misses) _ 3 counts refl (has_count counts) (λ e. e)) in
      omega (
        arith,
        weigh-both (λ row. row.load_misses) (λ row. row.store_misses) rows,
        loads,
        stores,
        weigh-both (added 1) (added 3) run,
        weigh_each (HasActs image) (λ moment. added 1 moment + added 3 moment) (λ moment. digit (is_miss moment.stepped.did))
            (λ moment act. omega (arith, access_is image moment 1 (omega arith), access_is image moment 3 (omega arith), act.misses)) run acts,
      )

  -- messages of a kind, in their column
  abbrev of_kind : ℕ → ℕ × Msg → ℕ
  of_kind number send = digit (kind_number send.1.kind == number)

  inv : over_lines (λ row. row.inv) (told image parameters run) ≡ count_sent INV run
  inv =
      lines_are (λ row. row.inv) 4 (omega arith) (λ line counts readers writers. row_weight (λ row. row.inv) _ 4 counts refl (has_count counts) (λ e. e))
      ∙ weigh-same (added 4) (λ moment. weigh (of_kind 7) moment.stepped.sends)
      (λ moment. sent_are image moment 4 (omega arith) (omega arith) (of_kind 7) (λ send. omega (arith, inv_is send.1.kind))) run

  busy : over_lines (λ row. row.busy) (told image parameters run) ≡ count_sent BUSY run
  busy =
      lines_are (λ row. row.busy) 5 (omega arith) (λ line counts readers writers. row_weight (λ row. row.busy) _ 5 counts refl (has_count counts) (λ e. e))
      ∙ weigh-same (added 5) (λ moment. weigh (of_kind 8) moment.stepped.sends)
      (λ moment. sent_are image moment 5 (omega arith) (omega arith) (of_kind 8) (λ send. omega (arith, busy_is send.1.kind))) run

  written_back : over_lines (λ row. row.written_back) (told image parameters run) ≡ count_sent REPM run + count_sent UPDATE run
  written_back =
      lines_are (λ row. row.written_back) 6 (omega arith) (λ line counts readers writers. row_weight (λ row. row.written_back) _ 6 counts refl (has_count counts) (λ e. e))
      ∙ (weigh-same (added 6) (λ moment. weigh (of_kind 2) moment.stepped.sends + weigh (of_kind 3) moment.stepped.sends)
      (λ moment. sent_are image moment 6 (omega arith) (omega arith) (λ send. of_kind 2 send + of_kind 3 send) (λ send. omega (arith, back_is send.1.kind))
      ∙ weigh-both (of_kind 2) (of_kind 3) moment.stepped.sends) run
      ∙ weigh-both (λ moment. weigh (of_kind 2) moment.stepped.sends) (λ moment. weigh (of_kind 3) moment.stepped.sends) run)

  handlers : over_lines (λ row. row.handlers) (told image parameters run) ≡ count_did is_handling run
  handlers =
      lines_are (λ row. row.handlers) 7 (omega arith) (λ line counts readers writers. row_weight (λ row. row.handlers) _ 7 counts refl (has_count counts) (λ e. e))
      ∙ weigh_each (HasActs image) (added 7) (λ moment. digit (is_handling moment.stepped.did)) (λ moment act. handled_is image moment 7 (omega arith) ∙ act.handlers) run acts

  spills : over_lines (λ row. row.spills) (told image parameters run) ≡ count_did is_spill run
  spills =
      lines_are (λ row. row.spills) 8 (omega arith) (λ line counts readers writers. row_weight (λ row. row.spills) _ 8 counts refl (has_count counts) (λ e. e))
      ∙ weigh_each (HasActs image) (added 8) (λ moment. digit (is_spill moment.stepped.did)) (λ moment act. handled_is image moment 8 (omega arith) ∙ act.spills) run acts

  sums : LinesCount (counts_of image run) (told image parameters run)
  sums = record { hits = hits; misses = misses; inv = inv; busy = busy; written_back = written_back; handlers = handlers; spills = spills }

pub lines_count : LineSumsAreCounts
lines_count image parameters some journal legal =
    sums image parameters (moments image parameters journal) (lines_exist image parameters some journal legal) (all_act image parameters journal)
