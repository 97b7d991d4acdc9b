-- The events of rows: how many they are, and which is number k.
use Rattle.std.proofs.Common.{◌≡◌, ℕ, zero, suc, add-zero, ◌+◌, ◌-◌, ◌^◌, ◌<◌, ◌≤◌, ◌==◌, Bool, true, false, cond, not, List, [], ◌∷◌, ◌++◌, length, map, replicate, get_or, set, slice_get, slice_index, Some, refl, sym, ap, ◌∙◌, arith}
use Rattle.std.proofs.lemmas.List.{length-append, length-map, length-set, length-replicate, map-set, set-get_or, get_or_read, get_or-map}
use Rattle.std.proofs.lemmas.Bool.{eq-eqb, ne_eqb}
use Rattle.std.proofs.Math.Bool.{beq}
use Rattle.std.proofs.lemmas.Option.{slice_get-map}
use Rattle.std.specs.Option.{option_map}
use Rattle.alw_num.specs.declared.node_sets.NodeSet.{NodeSet}
use Rattle.alw_num.specs.NodeSets.{Nodes, has_node, add_node, members, count_nodes, nodes_of}
use Rattle.alw_num.specs.Weights.{digit, sum_below}
use Rattle.alw_num.proofs.Sets.{same_nodes, has-add, count-add}
use Rattle.alw_num.proofs.Weigh.{is_node, digit_le}
use Rattle.alw_num.proofs.Words.{count_at_most}
use Rattle.alw_msg.specs.declared.events.Event.{Event}
use Rattle.alw_ready.specs.declared.rows.Row.{Row}
use Rattle.alw_ready.specs.Rows.{instr_at, handle_at, delivery, event_if, row_events, row_count, events_from, events_of, no_row, row_at, RowsAreCounted}
use Rattle.alw_ready.specs.Changes.{SenderIsLookedAt}
use Rattle.alw_num.specs.PlaceCounts.{sum_before, total, IsPlace}

-- ---- one row

length-if : (b : Bool) (event : Event) (rest : List Event) → length (event_if b event rest) ≡ digit b + length rest
length-if true event rest = omega arith
length-if false event rest = omega arith

pub row_length : (at : ℕ) (row : Row) → length (row_events at row) ≡ row_count row
row_length at row = go row.in_time (map (λ from. delivery from at) (members (nodes_of row.senders))) (length-map (members (nodes_of row.senders)) (λ from. delivery from at))
  where
    go : (b : Bool) (deliveries : List Event) → length deliveries ≡ count_nodes (nodes_of row.senders)
        → length (cond b (event_if row.instr (instr_at at) (event_if row.handle (handle_at at) deliveries)) []) ≡ cond b (digit row.instr + (digit row.handle + count_nodes (nodes_of row.senders))) 0
    go true deliveries e = omega (arith, length-if row.instr (instr_at at) (event_if row.handle (handle_at at) deliveries), length-if row.handle (handle_at at) deliveries)
    go false deliveries e = refl

past_if : (b : Bool) (event : Event) (rest : List Event) (k : ℕ) → digit b ≤ k → slice_get (event_if b event rest) k ≡ slice_get rest (k - digit b)
past_if true event rest zero l = absurd (omega arith)
past_if true event rest (suc k) l = let e : k ≡ suc k - 1 = omega arith in ap (slice_get rest) e
past_if false event rest k l = let e : k ≡ k - 0 = omega arith in ap (slice_get rest) e

module _ (at : ℕ) (row : Row) (k : ℕ) (timely : row.in_time ≡ true) where
  inside_is : row_events at row ≡ event_if row.instr (instr_at at) (event_if row.handle (handle_at at) (map (λ from. delivery from at) (members (nodes_of row.senders))))
  inside_is = rw timely refl

  pub nth_delivery : (from skip : ℕ) → skip ≡ digit row.instr + digit row.handle → skip ≤ k → slice_get (members (nodes_of row.senders)) (k - skip) ≡ Some from → slice_get (row_events at row) k ≡ Some (delivery from at)
  nth_delivery from skip two past is =
      let e : k - digit row.instr - digit row.handle ≡ k - skip = omega arith in
      ap (λ events. slice_get events k) inside_is
      ∙ (past_if row.instr (instr_at at) _ k (omega arith)
      ∙ (past_if row.handle (handle_at at) _ (k - digit row.instr) (omega arith)
      ∙ (slice_get-map (λ from. delivery from at) (members (nodes_of row.senders)) (k - digit row.instr - digit row.handle)
      ∙ ap (option_map (λ from. delivery from at)) (ap (slice_get (members (nodes_of row.senders))) e ∙ is))))

-- a row with events is in time, and counts its senders behind the two others
pub counts_in_time : (row : Row) (k : ℕ) → k < row_count row → (row.in_time ≡ true) × (k < digit row.instr + digit row.handle + count_nodes (nodes_of row.senders))
counts_in_time row k l = go row.in_time refl l
  where
    go : (b : Bool) → row.in_time ≡ b → k < cond b (digit row.instr + (digit row.handle + count_nodes (nodes_of row.senders))) 0 → (row.in_time ≡ true) × (k < digit row.instr + digit row.handle + count_nodes (nodes_of row.senders))
    go true is m = (is, omega arith)
    go false is m = absurd (omega arith)

-- ---- all rows

get_front : (xs ys : List Event) (k : ℕ) → k < length xs → slice_get (xs ++ ys) k ≡ slice_get xs k
get_front [] ys k l = absurd (omega arith)
get_front (x ∷ xs) ys zero l = refl
get_front (x ∷ xs) ys (suc k) l = get_front xs ys k (omega arith)

get_behind : (xs ys : List Event) (k : ℕ) → slice_get (xs ++ ys) (length xs + k) ≡ slice_get ys k
get_behind [] ys k = let e : 0 + k ≡ k = omega arith in ap (slice_get ys) e
get_behind (x ∷ xs) ys k = let e : suc (length xs) + k ≡ suc (length xs + k) = omega arith in ap (slice_get (x ∷ xs ++ ys)) e ∙ get_behind xs ys k

-- a sum of one number more at its front
sum_front : (n : ℕ) (f : ℕ → ℕ) → sum_below (suc n) f ≡ f 0 + sum_below n (λ k. f (suc k))
sum_front zero f = refl
sum_front (suc n) f = omega (arith, sum_front n f)

pub events_counted : (at : ℕ) (rows : List Row) → length (events_from at rows) ≡ total (map row_count rows)
events_counted at [] = refl
events_counted at (row ∷ rows) =
    omega (arith, length-append (row_events at row) (events_from (at + 1) rows), row_length at row, events_counted (at + 1) rows, sum_front (length (map row_count rows)) (slice_index (row_count row ∷ map row_count rows)))

-- number k stands in the row of its place
pub nth_event : (at : ℕ) (rows : List Row) (k place left : ℕ) → IsPlace (map row_count rows) k place left → slice_get (events_from at rows) k ≡ slice_get (row_events (at + place) (row_at rows place)) left
nth_event at [] k place left found = absurd (omega (arith, found.below))
nth_event at (row ∷ rows) k zero left found =
    let e : k ≡ left = omega (arith, found.before) in
    let l : left < length (row_events at row) = omega (arith, found.below, row_length at row) in
    rw (add-zero, e) (get_front (row_events at row) (events_from (at + 1) rows) left l)
nth_event at (row ∷ rows) k (suc place) left found =
    let e : k ≡ length (row_events at row) + (sum_before (map row_count rows) place + left) = omega (arith, found.before, sum_front place (slice_index (row_count row ∷ map row_count rows)), row_length at row) in
    let next : at + 1 + place ≡ at + suc place = omega arith in
    ap (slice_get (events_from at (row ∷ rows))) e
    ∙ (get_behind (row_events at row) (events_from (at + 1) rows) (sum_before (map row_count rows) place + left)
    ∙ (nth_event (at + 1) rows (sum_before (map row_count rows) place + left) place left (record { before = refl; below = found.below })
    ∙ ap (λ n. slice_get (row_events n (row_at rows place)) left) next))

-- ---- an index

pub few_senders : (row : Row) → count_nodes (nodes_of row.senders) ≤ 256
few_senders row = count_at_most row.senders

none_counted : (n : ℕ) → replicate n 0 ≡ map row_count (replicate n no_row)
none_counted zero = refl
none_counted (suc n) = ap (λ counts. 0 ∷ counts) (none_counted n)

pub starts : (n : ℕ) (rows : List Row) (counts : List ℕ) → n ≤ 256 → rows ≡ replicate n no_row → counts ≡ replicate n 0 → RowsAreCounted rows counts
starts n rows counts few rows_are counts_are = record {
  few = omega (arith, ap length rows_are, length-replicate {A = Row} n no_row);
  counted = counts_are ∙ (none_counted n ∙ ap (map row_count) (sym rows_are));
}

module _ (rows : List Row) (counts : List ℕ) (are : RowsAreCounted rows counts) where
  pub total_is : (now : List Row) → rows ≡ now → total counts ≡ length (events_of now)
  total_is now is = ap total are.counted ∙ (sym (events_counted 0 rows) ∙ ap (λ (seen : List Row). length (events_of seen)) is)

  places : length counts ≡ length rows
  places = ap length are.counted ∙ length-map rows row_count

  pub nth_found : (now : List Row) (k place left : ℕ) (row : Row) → rows ≡ now → IsPlace counts k place left → place < length counts → row ≡ get_or rows place row → slice_get (events_of now) k ≡ slice_get (row_events place row) left
  nth_found now k place left row is found within read =
      let here : place < length rows = omega (arith, places) in
      let e : 0 + place ≡ place = omega arith in
      ap (λ (seen : List Row). slice_get (events_of seen) k) (sym is)
      ∙ (nth_event 0 rows k place left (rw (← are.counted) found)
      ∙ (λ x. slice_get (row_events (e x) (sym (get_or_read rows place row here read no_row) x)) left))

  pub at_counted : (place count : ℕ) (row : Row) → place < length rows → row ≡ get_or rows place row → count ≡ slice_index counts place → count ≡ row_count row
  at_counted place count row here read is = is ∙ (ap (λ (all : List ℕ). slice_index all place) are.counted ∙ (get_or-map row_count rows place row 0 here ∙ ap row_count (sym read)))

  pub set_counted : (place count : ℕ) (row : Row) (next : List ℕ) → next ≡ set counts place count → count ≡ row_count row → RowsAreCounted (set rows place row) next
  set_counted place count row next next_is count_is = record {
    few = omega (arith, are.few, length-set rows place row);
    counted = next_is ∙ ((λ x. set (are.counted x) place (count_is x)) ∙ sym (map-set row_count rows place row));
  }

-- bits that are found to be equal, or not
pub same_bits : (a b : Bool) → beq a b ≡ true → a ≡ b
same_bits true true is = refl
same_bits false false is = refl
same_bits true false is = sym is
same_bits false true is = is

pub other_bits : (a b : Bool) → beq a b ≡ false → a ≡ not b
other_bits true true is = is
other_bits false false is = sym is
other_bits true false is = refl
other_bits false true is = refl

-- ---- a sender that comes or goes

-- a sender more or less, where it wasn't so already
pub sender_counted : (P Q : Nodes) (n : ℕ) (may : Bool) → ((k : ℕ) → has_node Q k ≡ cond (k == n) may (has_node P k)) → has_node P n ≡ not may → count_nodes Q + digit (not may) ≡ count_nodes P + digit may
sender_counted P Q n true put new =
    let more : Q ≡ add_node P n = same_nodes Q (add_node P n) (λ k. put k ∙ sym (has-add P n k)) in
    omega (arith, ap count_nodes more, count-add P n, ap digit new)
sender_counted P Q n false put was =
    let gone : has_node Q n ≡ false = put n ∙ ap (λ b. cond b false (has_node P n)) (eq-eqb n n refl) in
    let more : P ≡ add_node Q n = same_nodes P (add_node Q n) (λ k. back k ∙ sym (has-add Q n k)) in
    omega (arith, ap count_nodes more, count-add Q n, ap digit gone)
  where
    back : (k : ℕ) → has_node P k ≡ cond (k == n) true (has_node Q k)
    back k = is_node _ k n
        (λ same. ap (has_node P) same ∙ was ∙ sym (ap (λ b. cond b true (has_node Q k)) (eq-eqb k n same)))
        (λ apart. sym (put k ∙ ap (λ b. cond b false (has_node P k)) (ne_eqb k n apart)) ∙ sym (ap (λ b. cond b true (has_node Q k)) (ne_eqb k n apart)))

-- the count of a row with a sender more or less
module _ (row : Row) (senders : NodeSet) (from : ℕ) (may : Bool) (count : ℕ) (count_is : count ≡ row_count row) where
  pub counts_few : count < 2 ^ 16 - 1
  counts_few = go row.in_time count_is
    where
      go : (b : Bool) → count ≡ cond b (digit row.instr + (digit row.handle + count_nodes (nodes_of row.senders))) 0 → count < 2 ^ 16 - 1
      go true is = omega (arith, few_senders row, digit_le row.instr, digit_le row.handle)
      go false is = omega arith

  module _ (put : (k : ℕ) → has_node (nodes_of senders) k ≡ cond (k == from) may (has_node (nodes_of row.senders) k)) (other : has_node (nodes_of row.senders) from ≡ not may) where
    pub counts_some : row.in_time ≡ true → may ≡ false → 0 < count
    counts_some timely gone =
        let is : count ≡ digit row.instr + (digit row.handle + count_nodes (nodes_of row.senders)) = count_is ∙ ap (λ b. cond b (digit row.instr + (digit row.handle + count_nodes (nodes_of row.senders))) 0) timely in
        omega (arith, sender_counted (nodes_of row.senders) (nodes_of senders) from may put other, ap digit gone, ap (λ b. digit (not b)) gone)

    pub counted_on : (next : ℕ) → next ≡ cond row.in_time (cond may (count + 1) (count - 1)) 0 → next ≡ row_count (record row { senders = senders })
    counted_on next is = go row.in_time count_is is
      where
        step : (b : Bool) → count_nodes (nodes_of senders) + digit (not b) ≡ count_nodes (nodes_of row.senders) + digit b → count ≡ digit row.instr + (digit row.handle + count_nodes (nodes_of row.senders))
            → next ≡ cond b (count + 1) (count - 1) → next ≡ digit row.instr + (digit row.handle + count_nodes (nodes_of senders))
        step true more before after = omega arith
        step false less before after = omega arith

        go : (b : Bool) → count ≡ cond b (digit row.instr + (digit row.handle + count_nodes (nodes_of row.senders))) 0 → next ≡ cond b (cond may (count + 1) (count - 1)) 0
            → next ≡ cond b (digit row.instr + (digit row.handle + count_nodes (nodes_of senders))) 0
        go true before after = step may (sender_counted (nodes_of row.senders) (nodes_of senders) from may put other) before after
        go false before after = after

-- a row that is read twice is one
pub read_again : (rows : List Row) (at : ℕ) (one other : Row) → at < length rows → one ≡ get_or rows at one → other ≡ get_or rows at other → one ≡ other
read_again rows at one other here first second = get_or_read rows at one here first no_row ∙ sym (get_or_read rows at other here second no_row)

-- a row whose sender came or went, in its place
pub sender_set : (rows : List Row) (counts : List ℕ) → RowsAreCounted rows counts → (place count next from : ℕ) (may : Bool) (row : Row) (senders : NodeSet) (after : List ℕ)
    → ((k : ℕ) → has_node (nodes_of senders) k ≡ cond (k == from) may (has_node (nodes_of row.senders) k)) → has_node (nodes_of row.senders) from ≡ not may
    → count ≡ row_count row → next ≡ cond row.in_time (cond may (count + 1) (count - 1)) 0 → after ≡ set counts place next → RowsAreCounted (set rows place (record row { senders = senders })) after
sender_set rows counts are place count next from may row senders after put other count_is next_is after_is =
    set_counted rows counts are place next (record row { senders = senders }) after after_is (counted_on row senders from may count count_is put other next next_is)

-- such a sender was looked at, and all else of the rows stays
pub sender_looked : (rows : List Row) (at from : ℕ) (may : Bool) (row : Row) (senders : NodeSet) → at < length rows → row ≡ get_or rows at row
    → ((k : ℕ) → has_node (nodes_of senders) k ≡ cond (k == from) may (has_node (nodes_of row.senders) k)) → SenderIsLookedAt (λ event. may) from at rows (set rows at (record row { senders = senders }))
sender_looked rows at from may row senders here read put =
    let is : row ≡ row_at rows at = get_or_read rows at row here read no_row in
    record {
      senders = senders;
      rows_are = ap (λ (r : Row). set rows at (record r { senders = senders })) is;
      looked = λ k. put k ∙ ap (λ (r : Row). cond (k == from) may (has_node (nodes_of r.senders) k)) is;
    }

-- a sender that is as it was said to be: nothing changes
pub sender_stays : (rows : List Row) (at from : ℕ) (may : Bool) (row : Row) → at < length rows → row ≡ get_or rows at row → has_node (nodes_of row.senders) from ≡ may → SenderIsLookedAt (λ event. may) from at rows rows
sender_stays rows at from may row here read was =
    let is : row ≡ row_at rows at = get_or_read rows at row here read no_row in
    record {
      senders = row.senders;
      rows_are = sym (ap (λ (r : Row). set rows at (record (row_at rows at) { senders = r.senders })) is ∙ set-get_or rows at no_row);
      looked = λ k. is_node _ k from
          (λ it. ap (has_node (nodes_of row.senders)) it ∙ (was ∙ sym (ap (λ b. cond b may (has_node (nodes_of (row_at rows at).senders) k)) (eq-eqb k from it))))
          (λ apart. ap (λ (r : Row). has_node (nodes_of r.senders) k) is ∙ sym (ap (λ b. cond b may (has_node (nodes_of (row_at rows at).senders) k)) (ne_eqb k from apart)));
    }
