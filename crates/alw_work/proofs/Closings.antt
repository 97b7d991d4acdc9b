-- Links are closed one after the other, from the last. What each tells is that what has come over it is a front of what was sent.
use Rattle.std.proofs.Common.{◌≡◌, ◌≢◌, ◌↔◌, ⊎_elim, ℕ, zero, suc, ◌+◌, ◌*◌, ◌/◌, ◌%◌, ◌<◌, ◌≤◌, Option, Some, List, [], ◌∷◌, ◌++◌, length, slice_get, slice_set, refl, sym, ap, subst, ◌∙◌, arith, append_assoc, length-append, add-mul, one-mul}
use Rattle.std.specs.Prelude.{option_to_list}
use Rattle.std.specs.Option.{option_map}
use Rattle.std.proofs.lemmas.List.{length-map, map-append}
use Rattle.std.proofs.lemmas.Nat.{div-add-mod', div-mul-add, mod-mul-add, mul-add-lt}
use Rattle.std.proofs.Math.Nat.{mod-lt, div-lt_iff_lt-mul}
use Rattle.std.proofs.lemmas.Option.{same_Some, slice_get-map}
use Rattle.alw_num.proofs.Weigh.{cases_lt_then}
use Rattle.alw_msg.specs.declared.messages.Msg.{Msg}
use Rattle.alw_model.specs.Threads.{sent_to, IsFront}
use Rattle.alw_cells.specs.Cells.{Cell, picked, as_carried}
use Rattle.alw_ruled.specs.Ends.{LinkName}
use Rattle.alw_work.specs.declared.ends.Out.{Out}
use Rattle.alw_work.specs.declared.ends.In.{In}
use Rattle.alw_work.specs.declared.closing.Left.{Left}
use Rattle.alw_work.specs.Seats.{EachAt, came_of, CellsAreAlone, CellsAreFinished}
use Rattle.alw_work.specs.Ties.{all_carried, SendsPlain, SendPlain, FitsOut, FitsIn, cells_in, IsTied, EndsAreTied, Keeps, AgreesAt, AllAgree, HasOut, HasIn, TakesOut, TakesIn}
use Rattle.alw_work.proofs.Finishing.{get_last, get_left, get_within, set_length, at_place}

-- ---- one link

pub agrees_one : (links : List LinkName) (nodes from to : ℕ) (one other : Cell) (out : Out) (come : In) (left : List Msg) → SendsPlain one
    → FitsOut links nodes from one to out
    → FitsIn links nodes to other from come → out.end.pushed ≡ come.end.popped ++ left → IsFront (came_of other from) (sent_to to one.log)
agrees_one links nodes from to one other out come left plain fits_out fits_in closed =
    let came = came_of other from in
    let held = all_carried (option_to_list come.kept) in
    let behind : List Msg = left ++ (option_to_list out.kept ++ picked to one.pending) in
    let sent : sent_to to one.log ≡ come.end.popped ++ behind = sym fits_out.words
    ∙ (ap (λ (xs : List Msg). (xs ++ option_to_list out.kept) ++ picked to one.pending) closed
    ∙ (append_assoc (come.end.popped ++ left) (option_to_list out.kept) (picked to one.pending)
    ∙ append_assoc come.end.popped left (option_to_list out.kept ++ picked to one.pending))) in (
      held ++ all_carried behind,
      sym (append_assoc came held (all_carried behind))
          ∙ (ap (λ (xs : List Msg). xs ++ all_carried behind) (sym fits_in.words)
          ∙ (sym (map-append as_carried come.end.popped behind) ∙ (ap all_carried (sym sent) ∙ plain to))),
    )

-- the same, of the cells at their places
pub agrees_found : (links : List LinkName) (nodes from to : ℕ) (cells : List Cell) (out : Out) (come : In) (left : List Msg)
    → SendPlain cells → (one : Cell) → slice_get cells from ≡ Some one → FitsOut links nodes from one to out
    → (other : Cell) → slice_get cells to ≡ Some other → FitsIn links nodes to other from come
    → out.end.pushed ≡ come.end.popped ++ left → AgreesAt cells from to
agrees_found links nodes from to cells out come left plain one at_one fits_out other at_other fits_in closed first second at_first at_second =
    subst (λ (y : Cell × Cell). IsFront (came_of y.1 from) (sent_to to y.0.log))
    (λ i. (same_Some one first (sym at_one ∙ at_first) i, same_Some other second (sym at_other ∙ at_second) i))
    (agrees_one links nodes from to one other out come left (plain from one at_one) fits_out fits_in closed)

-- ---- the links from a place on

abbrev pub AgreesFrom : ℕ → ℕ → List Cell → Type 0
AgreesFrom least nodes cells = (place : ℕ) → least ≤ place → place < nodes * nodes → AgreesAt cells (place / nodes) (place % nodes)

pub agrees_none : (least nodes : ℕ) (cells : List Cell) → least ≡ nodes * nodes → AgreesFrom least nodes cells
agrees_none least nodes cells all place more less = absurd (lt_irrefl_at place (nodes * nodes) (subst (λ k. k ≤ place) all more) less)
  where
    lt_irrefl_at : (a b : ℕ) → b ≤ a → a < b → ⊥
    lt_irrefl_at a b more less = omega (arith, more, less)

pub agrees_next : (least place nodes : ℕ) (cells : List Cell) → least ≡ place + 1 → AgreesFrom least nodes cells
    → AgreesAt cells (place / nodes) (place % nodes) → AgreesFrom place nodes cells
agrees_next least place nodes cells is done last k more less = cases_lt_then k place
    (λ above. done k (omega (arith, is, above)) less)
    (λ not_above. subst (λ j. AgreesAt cells (j / nodes) (j % nodes)) (the_same place k more not_above) last)
  where
    the_same : (a b : ℕ) → a ≤ b → b ≤ a → a ≡ b
    the_same a b x y = omega (arith, x, y)

get_in : (cells : List Cell) (k : ℕ) (cell : Cell) → slice_get cells k ≡ Some cell → k < length cells
get_in [] k cell is = absurd (cc)
get_in (first ∷ rest) zero cell is = omega arith
get_in (first ∷ rest) (suc k) cell is = omega (arith, get_in rest k cell is)

pub agrees_all : (nodes least : ℕ) (cells : List Cell) → length cells ≡ nodes → least ≡ 0 → AgreesFrom least nodes cells → AllAgree cells
agrees_all nodes least cells count none done from to one other at_one at_other =
    let from_below : from < nodes = omega (arith, get_in cells from one at_one, count) in
    let to_below : to < nodes = omega (arith, get_in cells to other at_other, count) in
    let agrees = done (from * nodes + to) (omega (arith, none)) (mul-add-lt from nodes to nodes from_below to_below) in
    subst (λ (y : ℕ × ℕ). AgreesAt cells y.0 y.1) (λ i. (div-mul-add from nodes to to_below i, mod-mul-add from nodes to to_below i)) agrees one other
    at_one at_other

-- ---- which ends are left

-- row a of places that come n to a row is before row b
row_before : (a b n j : ℕ) → j < n → (a < b) ↔ (a * n + j < b * n)
row_before a b n j within =
    subst (λ (k : ℕ). (k < b) ↔ (a * n + j < b * n)) (div-mul-add a n j within) (div-lt_iff_lt-mul (omega (arith, within)))

less_other : (a b : ℕ) → a < b + 1 → a ≢ b → a < b
less_other a b less other = cases_lt_then b a (λ below. below) (λ not_below. absurd (other (omega (arith, less, not_below))))

each_changed : {X : Type 0} (P Q : ℕ → X → Type 0) (xs : List X) (n : ℕ) (x : X) → EachAt P xs → Q n x
    → ((k : ℕ) (y : X) → k ≢ n → slice_get xs k ≡ Some y → P k y → Q k y) → EachAt Q (slice_set xs n x)
each_changed {X = X} P Q xs n x each is others k y at =
    ⊎_elim (λ (h : (k ≡ n) × (x ≡ y)). subst (λ (z : ℕ × X). Q z.0 z.1) (λ i. (sym h.0 i, h.1 i)) is)
    (λ (h : (k ≢ n) × (slice_get xs k ≡ Some y)). others k y h.0 h.1 (each k y h.1)) (at_place xs n x k y at)

-- the ends that are left of a node, tied to its log: its sender's ends of the links below one place, and its receiver's ends of those below another
pub record IsTiedBelow (all : List LinkName) (nodes outs_end ins_end number : ℕ) (left : Left) : Type 0 where
  pub row : (to : ℕ) → (to < length left.outs.items) ↔ ((to < nodes) × (number * nodes + to < outs_end))
  pub column : (from : ℕ) → (from < length left.ins.items) ↔ (from * nodes + number < ins_end)
  pub outs : EachAt (FitsOut all nodes number left.cell) left.outs.items
  pub ins : EachAt (FitsIn all nodes number left.cell) left.ins.items

-- all of them
tied_all : (all : List LinkName) (nodes number : ℕ) (left : Left) → length all ≡ nodes * nodes → number < nodes → IsTied all nodes number left
    → IsTiedBelow all nodes (length all) (length all) number left
tied_all all nodes number left count below is = record {
  row = λ to. (
    (λ less. let within : to < nodes = omega (arith, less, is.outs.count) in (
      within,
      subst (λ (k : ℕ). number * nodes + to < k) (sym count) ((row_before number nodes nodes to within).0 below),
    )),
    (λ h. omega (arith, h.0, is.outs.count)),
  );
  column = λ from. (
    (λ less. subst (λ (k : ℕ). from * nodes + number < k) (sym count) ((row_before from nodes nodes number below).0 (omega (arith, less, is.ins.count)))),
    (λ less.
        let within : from < nodes = (row_before from nodes nodes number below).1 (subst (λ (k : ℕ). from * nodes + number < k) count less) in
        omega (arith, within, is.ins.count)),
  );
  outs = is.outs.each;
  ins = is.ins.each;
}

-- ---- an end is taken off

cells_set : (lefts : List Left) (k : ℕ) (was now : Left) → slice_get lefts k ≡ Some was → now.cell ≡ was.cell
    → cells_in (slice_set lefts k now) ≡ cells_in lefts
cells_set [] k was now at same = refl
cells_set (first ∷ rest) zero was now at same = ap (λ (c : Cell). c ∷ cells_in rest) (same ∙ ap (λ (l : Left). l.cell) (sym (same_Some first was at)))
cells_set (first ∷ rest) (suc k) was now at same = ap (λ (cs : List Cell). first.cell ∷ cs) (cells_set rest k was now at same)

cell_at : (lefts : List Left) (k : ℕ) (left : Left) → slice_get lefts k ≡ Some left → slice_get (cells_in lefts) k ≡ Some left.cell
cell_at lefts k left at = slice_get-map (λ (l : Left). l.cell) lefts k ∙ ap (λ (o : Option Left). option_map (λ (l : Left). l.cell) o) at

-- a place of a list that is long enough
get_some : {X : Type 0} (xs : List X) (k : ℕ) → k < length xs → (x : X) × (slice_get xs k ≡ Some x)
get_some [] k below = absurd (omega (arith, below))
get_some (first ∷ rest) zero below = (first, refl)
get_some (first ∷ rest) (suc k) below = get_some rest k (omega (arith, below))

-- ---- one link more is closed

-- the links that are left stand at their places, the ends that are left are theirs, and the links behind them tell of their pairs
pub record AreClosed (all : List LinkName) (nodes : ℕ) (start : List Left) (links : List LinkName) (lefts : List Left) : Type 0 where
  pub keeps : Keeps links all
  pub few : length links ≤ nodes * nodes
  pub count : length lefts ≡ nodes
  pub cells : cells_in lefts ≡ cells_in start
  pub tied : EachAt (IsTiedBelow all nodes (length links) (length links)) lefts
  pub done : AgreesFrom (length links) nodes (cells_in start)

pub closed_none : (all : List LinkName) (nodes : ℕ) (start : List Left) → length all ≡ nodes * nodes → length start ≡ nodes → EndsAreTied all nodes start
    → AreClosed all nodes start all start
closed_none all nodes start links count tied = record {
  keeps = λ place link at. at;
  few = omega (arith, links);
  count = count;
  cells = refl;
  tied = λ number left at. tied_all all nodes number left links (omega (arith, get_within start number left at, count)) (tied number left at);
  done = agrees_none (length all) nodes (cells_in start) links;
}

pub closed_all : (all : List LinkName) (nodes : ℕ) (start : List Left) (links : List LinkName) (lefts : List Left) → AreClosed all nodes start links lefts
    → length start ≡ nodes
    → length links ≡ 0 → AllAgree (cells_in start)
closed_all all nodes start links lefts closed count none =
    agrees_all nodes (length links) (cells_in start) (length-map start (λ (l : Left). l.cell) ∙ count) none closed.done

module _ (all : List LinkName) (nodes : ℕ) (start : List Left) (links rest : List LinkName) (link : LinkName) (from to : ℕ) (lefts : List Left)
    (some : 0 < nodes) (popped : links ≡ rest ++ link ∷ []) (from_is : from ≡ length rest / nodes) (to_is : to ≡ length rest % nodes)
    (closed : AreClosed all nodes start links lefts) where
  more : length links ≡ length rest + 1
  more = ap length popped ∙ length-append rest (link ∷ [])

  place_is : from * nodes + to ≡ length rest
  place_is = (λ i. from_is i * nodes + to_is i) ∙ div-add-mod' (length rest) nodes

  to_below : to < nodes
  to_below = subst (λ (k : ℕ). k < nodes) (sym to_is) (mod-lt (length rest) some)

  from_below : from < nodes
  from_below = (row_before from nodes nodes to to_below).1 (omega (arith, place_is, more, closed.few))

  -- the link of another row, or of another column, doesn't stand last
  other_row : (k j : ℕ) → j < nodes → k ≢ from → k * nodes + j ≢ length rest
  other_row k j within other same =
      other (sym (div-mul-add k nodes j within) ∙ (ap (λ (place : ℕ). place / nodes) same ∙ sym from_is))

  other_column : (k j : ℕ) → j < nodes → j ≢ to → k * nodes + j ≢ length rest
  other_column k j within other same =
      other (sym (mod-mul-add k nodes j within) ∙ (ap (λ (place : ℕ). place % nodes) same ∙ sym to_is))

  -- the name of an end is that of the link that was popped from its place
  name_is : (end : LinkName) → slice_get all (from * nodes + to) ≡ Some end → end ≡ link
  name_is end name =
      let there = subst (λ (ls : List LinkName). Keeps ls all) popped closed.keeps in
      same_Some end link (sym name ∙ (ap (λ k. slice_get all k) place_is ∙ there (length rest) link (get_last rest link)))

  module _ (left : Left) (here : slice_get lefts from ≡ Some left) where
    row_is : length left.outs.items ≡ to + 1
    row_is =
        let is = closed.tied from left here in
        let has : to < length left.outs.items = (is.row to).1 (to_below, omega (arith, place_is, more)) in
        cases_lt_then (length left.outs.items) (to + 1)
        (λ longer. absurd (let beyond = ((is.row (to + 1)).0 longer).1 in omega (arith, beyond, place_is, more)))
        (λ not_longer. omega (arith, has, not_longer))

  pub has_out : HasOut from lefts
  has_out =
      let at = get_some lefts from (omega (arith, from_below, closed.count)) in
      record { left = at.0; here = at.1; some = omega (arith, row_is at.0 at.1) }

  module _ (mid : List Left) (out : Out) (takes : TakesOut from lefts mid out) where
    is_tied : IsTiedBelow all nodes (length links) (length links) from takes.was
    is_tied = closed.tied from takes.was takes.here

    kept_row : length takes.now.outs.items ≡ to
    kept_row =
        let whole = ap length takes.outs ∙ length-append takes.now.outs.items (out ∷ []) in
        omega (arith, whole, row_is takes.was takes.here)

    own_row : IsTiedBelow all nodes (length rest) (length links) from takes.now
    own_row = record {
      row = λ k. (
        (λ less. (omega (arith, less, kept_row, to_below), omega (arith, less, kept_row, place_is))),
        (λ h. omega (arith, h.1, kept_row, place_is)),
      );
      column = λ k. subst (λ (xs : List In). (k < length xs) ↔ (k * nodes + from < length links)) (sym takes.ins) (is_tied.column k);
      outs = λ k one at. subst (λ (c : Cell). FitsOut all nodes from c k one) (sym takes.cell)
          (is_tied.outs k one (ap (λ (xs : List Out). slice_get xs k) takes.outs ∙ get_left takes.now.outs.items out one k at));
      ins = λ k one at. subst (λ (c : Cell). FitsIn all nodes from c k one) (sym takes.cell)
          (is_tied.ins k one (ap (λ (xs : List In). slice_get xs k) (sym takes.ins) ∙ at));
    }

    mid_tied : EachAt (IsTiedBelow all nodes (length rest) (length links)) mid
    mid_tied = subst (λ (ls : List Left). EachAt (IsTiedBelow all nodes (length rest) (length links)) ls) (sym takes.after_is)
        (each_changed (IsTiedBelow all nodes (length links) (length links)) (IsTiedBelow all nodes (length rest) (length links)) lefts from takes.now
        closed.tied own_row (λ k left other at is. record {
          row = λ j. (
            (λ less. let h = (is.row j).0 less in (
              h.0,
              less_other (k * nodes + j) (length rest) (omega (arith, h.1, more)) (other_row k j h.0 other),
            )),
            (λ h. (is.row j).1 (h.0, omega (arith, h.1, more))),
          );
          column = is.column;
          outs = is.outs;
          ins = is.ins;
        }))

    mid_count : length mid ≡ nodes
    mid_count = ap length takes.after_is ∙ (set_length lefts from takes.now ∙ closed.count)

    mid_cells : cells_in mid ≡ cells_in start
    mid_cells = ap cells_in takes.after_is ∙ (cells_set lefts from takes.was takes.now takes.here takes.cell ∙ closed.cells)

    fits_out : FitsOut all nodes from takes.was.cell to out
    fits_out = subst (λ (k : ℕ). FitsOut all nodes from takes.was.cell k out) kept_row
        (is_tied.outs (length takes.now.outs.items) out
        (ap (λ (xs : List Out). slice_get xs (length takes.now.outs.items)) takes.outs ∙ get_last takes.now.outs.items out))

    pub sender_is : out.end.link ≡ link
    sender_is = name_is out.end.link fits_out.name

    module _ (left : Left) (here : slice_get mid to ≡ Some left) where
      column_is : length left.ins.items ≡ from + 1
      column_is =
          let is = mid_tied to left here in
          let has : from < length left.ins.items = (is.column from).1 (omega (arith, place_is, more)) in
          cases_lt_then (length left.ins.items) (from + 1)
          (λ longer. absurd
          (let beyond = (is.column (from + 1)).0 longer in
          let wide = add-mul from 1 nodes ∙ ap (λ k. from * nodes + k) (one-mul nodes) in
          omega (arith, beyond, wide, place_is, more, some)))
          (λ not_longer. omega (arith, has, not_longer))

    pub has_in : HasIn to mid
    has_in =
        let at = get_some mid to (omega (arith, to_below, mid_count)) in
        record { left = at.0; here = at.1; some = omega (arith, column_is at.0 at.1) }

    module _ (after : List Left) (come : In) (takes_too : TakesIn to mid after come) where
      was_tied : IsTiedBelow all nodes (length rest) (length links) to takes_too.was
      was_tied = mid_tied to takes_too.was takes_too.here

      kept_column : length takes_too.now.ins.items ≡ from
      kept_column =
          let whole = ap length takes_too.ins ∙ length-append takes_too.now.ins.items (come ∷ []) in
          omega (arith, whole, column_is takes_too.was takes_too.here)

      own_column : IsTiedBelow all nodes (length rest) (length rest) to takes_too.now
      own_column = record {
        row = λ k. subst (λ (xs : List Out). (k < length xs) ↔ ((k < nodes) × (to * nodes + k < length rest))) (sym takes_too.outs) (was_tied.row k);
        column = λ k. (
          (λ less.
              let before = (row_before k from nodes to to_below).0 (omega (arith, less, kept_column)) in
              omega (arith, before, place_is)),
          (λ less.
              let before : k < from = (row_before k from nodes 0 some).1 (omega (arith, less, place_is)) in
              omega (arith, before, kept_column)),
        );
        outs = λ k one at. subst (λ (c : Cell). FitsOut all nodes to c k one) (sym takes_too.cell)
            (was_tied.outs k one (ap (λ (xs : List Out). slice_get xs k) (sym takes_too.outs) ∙ at));
        ins = λ k one at. subst (λ (c : Cell). FitsIn all nodes to c k one) (sym takes_too.cell)
            (was_tied.ins k one (ap (λ (xs : List In). slice_get xs k) takes_too.ins ∙ get_left takes_too.now.ins.items come one k at));
      }

      after_tied : EachAt (IsTiedBelow all nodes (length rest) (length rest)) after
      after_tied = subst (λ (ls : List Left). EachAt (IsTiedBelow all nodes (length rest) (length rest)) ls) (sym takes_too.after_is)
          (each_changed (IsTiedBelow all nodes (length rest) (length links)) (IsTiedBelow all nodes (length rest) (length rest)) mid to takes_too.now
          mid_tied own_column (λ k left other at is.
          let within : k < nodes = omega (arith, get_within mid k left at, mid_count) in
          record {
            row = is.row;
            column = λ j. (
              (λ less. less_other (j * nodes + k) (length rest) (omega (arith, (is.column j).0 less, more)) (other_column j k within other)),
              (λ less. (is.column j).1 (omega (arith, less, more))),
            );
            outs = is.outs;
            ins = is.ins;
          }))

      fits_in : FitsIn all nodes to takes_too.was.cell from come
      fits_in = subst (λ (k : ℕ). FitsIn all nodes to takes_too.was.cell k come) kept_column
          (was_tied.ins (length takes_too.now.ins.items) come
          (ap (λ (xs : List In). slice_get xs (length takes_too.now.ins.items)) takes_too.ins ∙ get_last takes_too.now.ins.items come))

      pub receiver_is : come.end.link ≡ link
      receiver_is = name_is come.end.link fits_in.name

      pub closed_next : SendPlain (cells_in start) → (left : List Msg) → out.end.pushed ≡ come.end.popped ++ left → AreClosed all nodes start rest after
      closed_next plain left ends =
          let cells = cells_in start in
          let at_one = ap (λ (cs : List Cell). slice_get cs from) (sym closed.cells) ∙ cell_at lefts from takes.was takes.here in
          let at_other = ap (λ (cs : List Cell). slice_get cs to) (sym mid_cells) ∙ cell_at mid to takes_too.was takes_too.here in
          let agrees : AgreesAt cells from to = agrees_found all nodes from to cells out come left plain takes.was.cell at_one fits_out takes_too.was.cell
          at_other fits_in ends in
          record {
            keeps = λ place one at. subst (λ (ls : List LinkName). Keeps ls all) popped closed.keeps place one (get_left rest link one place at);
            few = omega (arith, more, closed.few);
            count = ap length takes_too.after_is ∙ (set_length mid to takes_too.now ∙ mid_count);
            cells = ap cells_in takes_too.after_is ∙ (cells_set mid to takes_too.was takes_too.now takes_too.here takes_too.cell ∙ mid_cells);
            tied = after_tied;
            done = agrees_next (length links) (length rest) nodes cells more closed.done
                (subst (λ (y : ℕ × ℕ). AgreesAt cells y.0 y.1) (λ i. (from_is i, to_is i)) agrees);
          }

-- ---- afterwards

-- nothing has come to any cell
pub alone_agree : (cells : List Cell) → CellsAreAlone cells → AllAgree cells
alone_agree cells alone from to one other at_one at_other =
    let none = alone to other at_other in
    (sent_to to one.log, λ i. (none.took from i ++ none.come from i) ++ sent_to to one.log)

-- the caller's steps
pub still_agree : (before after : List Cell) → AllAgree before → CellsAreFinished before after → AllAgree after
still_agree before after agree are from to one other at_one at_other =
    let was_one = are.each from one at_one in
    let was_other = are.each to other at_other in
    let front = agree from to was_one.0 was_other.0 was_one.1.0 was_other.1.0 in
    let came = was_other.1.1.works.came from in
    let more = was_one.1.1.works.sent to in (
      front.0 ++ more.0,
      sym (append_assoc (came_of other from) front.0 more.0)
          ∙ ((λ i. (came i ++ front.0) ++ more.0) ∙ (ap (λ (xs : List Msg). xs ++ more.0) front.1 ∙ sym more.1)),
    )
