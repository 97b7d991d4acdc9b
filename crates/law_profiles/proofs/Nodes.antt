-- The rows of all nodes count together what a report counts: each event is of one node.
use Rattle.std.proofs.Common.{◌≡◌, ◌≢◌, ℕ, ◌+◌, ◌<◌, ◌≤◌, ◌==◌, ◌||◌, not, Bool, true, false, List, [], ◌∷◌, flat_map, slice_index, refl, ◌∙◌, arith}
use Rattle.std.specs.List.{AllByRecursion}
use Rattle.alw_num.specs.Weights.{digit, weigh}
use Rattle.alw_num.proofs.Weigh.{weigh-append, weigh-none, weigh-same, weigh_flat}
use Rattle.alw_msg.specs.declared.messages.Kind.{Kind}
use Rattle.alw_msg.specs.declared.messages.Kind.TheVariants.{RREQ, WREQ, REPM, UPDATE, ACKC, RDATA, WDATA, INV, BUSY}
use Rattle.alw_msg.specs.declared.messages.Msg.{Msg}
use Rattle.alw_msg.specs.declared.events.Entry.{Entry}
use Rattle.alw_msg.specs.Kinds.{kind_number}
use Rattle.alw_image.specs.declared.parts.Parts.{Parts}
use Rattle.alw_image.specs.Images.{node_count, hops_between}
use Rattle.alw_image.specs.Parameters.{Parameters}
use Rattle.alw_model.specs.Machine.{MachineState, machine_start, step, AreLegal}
use Rattle.alw_model.specs.Runs.{Moment, number_of, moments_from, moments}
use Rattle.alw_model.specs.Counts.{is_turn, is_miss, is_handling, count_sent, counts_of}
use Rattle.alw_profile.specs.declared.rows.NodeRow.{NodeRow}
use Rattle.alw_profile.specs.declared.tables.Mark.{Mark}
use Rattle.alw_profile.specs.Events.{did_marks, send_marks, nodes_marked, packets_told}
use Rattle.alw_profile.specs.Marks.{has_count}
use Rattle.alw_profile.specs.Places.{most_at}
use Rattle.alw_profile.specs.Rows.{node_counts, node_row, told}
use Rattle.law_lines.proofs.Steps.{enabled_is}
use Rattle.law_profiles.specs.Sums.{over_nodes, NodesCount, NodeSumsAreCounts}
use Rattle.law_profiles.proofs.Rows.{in_column, inside, off, inside_all, weigh_each, row_weight, column_is}

-- ---- the marks of a run

module _ (image : Parts) where
  sends_within : (n node : ℕ) (sends : List (ℕ × Msg)) → node < n → AllByRecursion (λ (mark : Mark). mark.row < n) (flat_map (send_marks image node) sends)
  sends_within n node [] here = tt
  sends_within n node (send ∷ rest) here = (here, (here, sends_within n node rest here))

  rows_within : (n : ℕ) (moment : Moment) → number_of moment < n → AllByRecursion (λ (mark : Mark). mark.row < n) (nodes_marked image moment)
  rows_within n moment here = (here, (here, (here, sends_within n (number_of moment) moment.stepped.sends here)))

  -- what messages add to a column
  weigh_sends : (column node : ℕ) (own : ℕ × Msg → ℕ) → ((send : ℕ × Msg) → weigh (in_column column) (send_marks image node send) ≡ own send)
      → (sends : List (ℕ × Msg)) → weigh (in_column column) (flat_map (send_marks image node) sends) ≡ weigh own sends
  weigh_sends column node own is sends =
      weigh_flat (in_column column) (send_marks image node) sends ∙ weigh-same (λ send. weigh (in_column column) (send_marks image node send)) own is sends

-- ---- what an event adds to each column

kind_small : (kind : Kind) → kind_number kind < 9
kind_small RREQ = omega arith
kind_small WREQ = omega arith
kind_small REPM = omega arith
kind_small UPDATE = omega arith
kind_small ACKC = omega arith
kind_small RDATA = omega arith
kind_small WDATA = omega arith
kind_small INV = omega arith
kind_small BUSY = omega arith

module _ (image : Parts) (moment : Moment) where
  abbrev node : ℕ
  node = number_of moment

  abbrev sends : List (ℕ × Msg)
  sends = moment.stepped.sends

  split : (column : ℕ) → weigh (in_column column) (nodes_marked image moment)
      ≡ weigh (in_column column) (did_marks node moment.stepped.did) + weigh (in_column column) (flat_map (send_marks image node) sends)
  split column = weigh-append (in_column column) (did_marks node moment.stepped.did) (flat_map (send_marks image node) sends)

  kind_off : (send : ℕ × Msg) (column : ℕ) → 9 ≤ column → digit (kind_number send.1.kind == column) ≡ 0
  kind_off send column high = off (kind_number send.1.kind) column 1 (λ e. let small = kind_small send.1.kind in omega arith)

  -- a column of what it did
  did_is : (column value : ℕ) → 9 ≤ column → 12 ≢ column → weigh (in_column column) (did_marks node moment.stepped.did) ≡ value
      → weigh (in_column column) (nodes_marked image moment) ≡ value
  did_is column value high apart is =
      let none = weigh_sends image column node (λ send. 0) (λ send.
      let kind = kind_off send column high in
      let hops = off 12 column (hops_between image node send.0) apart in
      omega (arith, kind, hops)) sends in
      omega (arith, split column, none, weigh-none {A = ℕ × Msg} (λ send. 0) (λ send. refl) sends, is)

  hops_are : weigh (in_column 12) (nodes_marked image moment) ≡ weigh (λ send. hops_between image node send.0) sends
  hops_are =
      let all = weigh_sends image 12 node (λ send. hops_between image node send.0) (λ send. let kind = kind_off send 12 (omega arith) in omega (arith, kind)) sends in
      omega (arith, split 12, all)

  kinds_are : (column : ℕ) → column < 9 → weigh (in_column column) (nodes_marked image moment) ≡ weigh (λ send. digit (kind_number send.1.kind == column)) sends
  kinds_are column low =
      let all = weigh_sends image column node (λ send. digit (kind_number send.1.kind == column)) (λ send.
      let hops = off 12 column (hops_between image node send.0) (λ e. omega (arith, e)) in
      omega (arith, hops)) sends in
      let turns = off 9 column (digit (is_turn moment.stepped.did)) (λ e. omega (arith, e)) in
      let misses = off 10 column (digit (is_miss moment.stepped.did)) (λ e. omega (arith, e)) in
      let handlers = off 11 column (digit (is_handling moment.stepped.did)) (λ e. omega (arith, e)) in
      omega (arith, split column, all, turns, misses, handlers)

-- ---- a run

-- a row is left out only where nothing is counted
unlisted : (a b : Bool) → (a || b) ≡ false → a ≡ false
unlisted false b is = refl
unlisted true b is = is

module _ (image : Parts) (parameters : Parameters) (run : List Moment) (all : AllByRecursion (λ moment. number_of moment < node_count image) run) where
  -- a column over all rows
  nodes_are : (pick : NodeRow → ℕ) (column : ℕ) → column < 13
      → ((node : ℕ) (counts : List ℕ) (packets : ℕ) → pick (node_counts node counts packets) ≡ slice_index counts column)
      → (own : Moment → ℕ) → ((moment : Moment) → weigh (in_column column) (nodes_marked image moment) ≡ own moment)
      → over_nodes pick (told image parameters run) ≡ weigh own run
  nodes_are pick column small is own each =
      let packets : ℕ → ℕ = λ node. most_at (flat_map (packets_told image) run) node in
      column_is (nodes_marked image) (λ node counts. node_row node counts (packets node)) (node_count image) 13 run pick column small
      (λ node counts. row_weight pick (node_counts node counts (packets node)) column counts (is node counts (packets node))
      (has_count counts || not (packets node == 0)) (unlisted (has_count counts) (not (packets node == 0))))
      ∙ weigh_each (λ moment. number_of moment < node_count image) (λ moment. weigh (inside (node_count image) column) (nodes_marked image moment)) own
      (λ moment here. inside_all (node_count image) column (nodes_marked image moment) (rows_within image (node_count image) moment here) ∙ each moment) run all

  -- a kind's column
  sent_is : (pick : NodeRow → ℕ) (kind : Kind) → ((node : ℕ) (counts : List ℕ) (packets : ℕ) → pick (node_counts node counts packets) ≡ slice_index counts (kind_number kind))
      → over_nodes pick (told image parameters run) ≡ count_sent kind run
  sent_is pick kind is =
      let low = kind_small kind in
      nodes_are pick (kind_number kind) (omega (arith, low)) is
      (λ moment. weigh (λ (send : ℕ × Msg). digit (kind_number send.1.kind == kind_number kind)) moment.stepped.sends) (λ moment. kinds_are image moment (kind_number kind) low)

  sums : NodesCount (counts_of image run) (told image parameters run)
  sums = record {
    turns = nodes_are (λ row. row.turns) 9 (omega arith) (λ node counts packets. refl) (λ moment. digit (is_turn moment.stepped.did))
        (λ moment. did_is image moment 9 (digit (is_turn moment.stepped.did)) (omega arith) (λ e. omega (arith, e)) (omega arith));
    misses = nodes_are (λ row. row.misses) 10 (omega arith) (λ node counts packets. refl) (λ moment. digit (is_miss moment.stepped.did))
        (λ moment. did_is image moment 10 (digit (is_miss moment.stepped.did)) (omega arith) (λ e. omega (arith, e)) (omega arith));
    handlers = nodes_are (λ row. row.handlers) 11 (omega arith) (λ node counts packets. refl) (λ moment. digit (is_handling moment.stepped.did))
        (λ moment. did_is image moment 11 (digit (is_handling moment.stepped.did)) (omega arith) (λ e. omega (arith, e)) (omega arith));
    hops = nodes_are (λ row. row.hops) 12 (omega arith) (λ node counts packets. refl)
        (λ moment. weigh (λ (send : ℕ × Msg). hops_between image (number_of moment) send.0) moment.stepped.sends) (λ moment. hops_are image moment);
    rreq = sent_is (λ row. row.rreq) RREQ (λ node counts packets. refl);
    wreq = sent_is (λ row. row.wreq) WREQ (λ node counts packets. refl);
    repm = sent_is (λ row. row.repm) REPM (λ node counts packets. refl);
    update = sent_is (λ row. row.update) UPDATE (λ node counts packets. refl);
    ackc = sent_is (λ row. row.ackc) ACKC (λ node counts packets. refl);
    rdata = sent_is (λ row. row.rdata) RDATA (λ node counts packets. refl);
    wdata = sent_is (λ row. row.wdata) WDATA (λ node counts packets. refl);
    inv = sent_is (λ row. row.inv) INV (λ node counts packets. refl);
    busy = sent_is (λ row. row.busy) BUSY (λ node counts packets. refl);
  }

-- the nodes of a legal journal's events exist
nodes_exist : (image : Parts) (parameters : Parameters) (machine : MachineState) (journal : List Entry) → AreLegal image parameters machine journal
    → AllByRecursion (λ moment. number_of moment < node_count image) (moments_from image parameters machine journal)
nodes_exist image parameters machine [] legal = tt
nodes_exist image parameters machine (entry ∷ rest) legal =
    ((enabled_is image parameters machine entry.event legal.0.enabled).here, nodes_exist image parameters (step image parameters machine entry.event) rest legal.1)

pub nodes_count : NodeSumsAreCounts
unfolding moments
nodes_count image parameters journal legal =
    sums image parameters (moments image parameters journal) (nodes_exist image parameters (machine_start image) journal legal)
