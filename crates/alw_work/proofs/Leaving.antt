-- What the parts of cells are: local runs whose links agree, nodes as the logs leave them, and what their events did; and when the nodes are spent.
use Rattle.std.proofs.Common.{◌≡◌, ℕ, Bool, zero, suc, ◌<◌, true, Some, List, [], ◌∷◌, ◌++◌, length, map, slice_get, refl, sym, ap, subst, ◌∙◌, arith, append_assoc, append-nil, length-append, ◌^◌}
use Rattle.std.proofs.lemmas.List.{map-append, length-map}
use Rattle.std.proofs.lemmas.Bool.{true≢false}
use Rattle.std.proofs.lemmas.Option.{same_Some, slice_get-map}
use Rattle.std.specs.Option.{option_map}
use Rattle.std.specs.Prelude.{Option}
use Rattle.alw_image.specs.declared.parts.Parts.{Parts}
use Rattle.alw_image.specs.Images.{node_count}
use Rattle.alw_image.specs.Parameters.{Parameters}
use Rattle.alw_model.specs.declared.steps.Did.{Did}
use Rattle.alw_model.specs.NodeStates.{NodeState, node_start}
use Rattle.alw_model.specs.Threads.{Logged, Logs, log_at, IsLocalRun, node_after, took_from, sent_to, IsFront, LinksAgree}
use Rattle.law_order.specs.Merges.{AreLocalRuns}
use Rattle.alw_node.specs.Nodes.{Whole}
use Rattle.alw_cells.specs.declared.parts.Worked.{Worked}
use Rattle.alw_cells.specs.Cells.{Cell, in_from, dids_of, IsSpent}
use Rattle.alw_cells.specs.Logs.{Written, logged}
use Rattle.alw_cells.specs.Leaving.{whole_after, LogsAreWorked}
use Rattle.alw_cells.proofs.Runs.{local_run, left_alike, answers_alike}
use Rattle.alw_work.specs.Works.{holds_trap, AreSpent, WorkIsLeft}
use Rattle.alw_work.specs.Seats.{EachAt, logs_in, CellsAreSplit, StandsAt, HasTrapped, CellsAreGathered, CellsAreFinished}
use Rattle.alw_work.specs.Ties.{AllAgree}
use Rattle.alw_work.proofs.Trapping.{holds_same}
use Rattle.alw_work.proofs.Finishing.{get_within}
use Rattle.alw_work.proofs.Closings.{still_agree}

-- the cell and the log of a place
log_of : (cells : List Cell) (n : ℕ) → n < length cells → (cell : Cell) × ((slice_get cells n ≡ Some cell) × (log_at (logs_in cells) n ≡ cell.log))
log_of [] n below = absurd (omega (arith, below))
log_of (first ∷ rest) zero below = (first, (refl, refl))
log_of (first ∷ rest) (suc n) below = log_of rest n (omega (arith, below))

module _ (parts : Parts) (parameters : Parameters) (n : ℕ) (cell : Cell) (is : StandsAt parts parameters n cell) where
  run_of : IsLocalRun parts parameters n cell.log
  run_of = local_run parts parameters n cell.log (rw (is.0.share, is.0.parameters_are, is.0.number_is) at is.1.run)

  state_of : cell.node.state ≡ node_after parts parameters n (node_start parts n) cell.log
  state_of = (rw (is.0.share, is.0.parameters_are, is.0.number_is) at is.1.state) ∙ left_alike parts parameters n cell.log

  whole_of : cell.node ≡ whole_after parts parameters n cell.log
  whole_of = λ i. record { number = is.0.number_is i; parts = is.0.share i; parameters = is.0.parameters_are i; state = state_of i }

  dids_are : cell.dids ≡ dids_of parts parameters n cell.log
  dids_are = (rw (is.0.share, is.0.parameters_are, is.0.number_is) at is.1.answers) ∙ answers_alike parts parameters n cell.log

  trap_of : HasTrapped cell → holds_trap parts parameters n cell.log ≡ true
  trap_of traps = sym (holds_same parts parameters n cell.log) ∙ (rw (is.0.share, is.0.parameters_are, is.0.number_is) at traps)

  spent_of : IsSpent cell.node.parameters cell.node.state → IsSpent parameters (node_after parts parameters n (node_start parts n) cell.log)
  spent_of spent =
      subst (λ (state : NodeState). IsSpent parameters state) state_of (subst (λ (p : Parameters). IsSpent p cell.node.state) is.0.parameters_are spent)

module _ (parts : Parts) (parameters : Parameters) (cells : List Cell) (count : length cells ≡ node_count parts)
    (each : EachAt (StandsAt parts parameters) cells) where
  -- a fact of each cell's log, by its place
  pub of_logs : (P : ℕ → List Logged → Type 0) → ((n : ℕ) (cell : Cell) → slice_get cells n ≡ Some cell → P n cell.log)
      → (n : ℕ) → n < node_count parts → P n (log_at (logs_in cells) n)
  of_logs P holds n below =
      let one = log_of cells n (omega (arith, below, count)) in
      subst (λ (log : List Logged). P n log) (sym one.1.1) (holds n one.0 one.1.0)

  runs_of : (n : ℕ) → n < node_count parts → IsLocalRun parts parameters n (log_at (logs_in cells) n)
  runs_of = of_logs (λ n log. IsLocalRun parts parameters n log) (λ n cell at. run_of parts parameters n cell (each n cell at))

  -- each cell is spent
  pub left_spent : ((n : ℕ) (cell : Cell) → slice_get cells n ≡ Some cell → IsSpent cell.node.parameters cell.node.state)
      → (logs : Logs) → logs ≡ logs_in cells → AreSpent parts parameters logs
  left_spent spent logs is = subst (λ (ls : Logs). AreSpent parts parameters ls) (sym is)
      (λ none. of_logs (λ n log. IsSpent parameters (node_after parts parameters n (node_start parts n) log))
      (λ n cell at. spent_of parts parameters n cell (each n cell at) (spent n cell at)))

  -- one of them has trapped
  pub left_trapped : (k : ℕ) (cell : Cell) → slice_get cells k ≡ Some cell → HasTrapped cell
      → (logs : Logs) → logs ≡ logs_in cells → AreSpent parts parameters logs
  left_trapped k cell at traps logs is = subst (λ (ls : Logs). AreSpent parts parameters ls) (sym is) (λ none.
      let below : k < node_count parts = subst (λ (m : ℕ). k < m) count (get_within cells k cell at) in
      let one = log_of cells k (get_within cells k cell at) in
      let same = same_Some one.0 cell (sym one.1.0 ∙ at) in
      let log : log_at (logs_in cells) k ≡ cell.log = one.1.1 ∙ ap (λ (c : Cell). c.log) same in
      absurd (true≢false (sym (trap_of parts parameters k cell (each k cell at) traps)
      ∙ (ap (λ (ls : List Logged). holds_trap parts parameters k ls) (sym log) ∙ none k below))))

-- what has come to each cell of another is a front of what that one sent it, and so is what its log took
pub logs_agree : (cells : List Cell) → AllAgree cells → (logs : Logs) → logs ≡ logs_in cells → LinksAgree logs
logs_agree cells agree logs is = subst (λ (ls : Logs). LinksAgree ls) (sym is) fronts
  where
    count : (xs : List Cell) → length (logs_in xs) ≡ length xs
    count [] = refl
    count (first ∷ rest) = omega (arith, count rest)

    fronts : LinksAgree (logs_in cells)
    fronts from to from_below to_below =
        let one = log_of cells from (omega (arith, from_below, count cells)) in
        let other = log_of cells to (omega (arith, to_below, count cells)) in
        let front = agree from to one.0 other.0 one.1.0 other.1.0 in
        let took = took_from from other.0.log in
        let waits = in_from other.0.come from in
        subst (λ (y : List Logged × List Logged). IsFront (took_from from y.0) (sent_to to y.1)) (λ i. (sym other.1.1 i, sym one.1.1 i))
        (waits ++ front.0, sym (append_assoc took waits front.0) ∙ front.1)

-- ---- what is handed over

-- a part of the cell at a place
part_at : {X : Type 0} (f : Cell → X) (cells : List Cell) (n : ℕ) (cell : Cell) (x : X) → slice_get cells n ≡ Some cell → f cell ≡ x
    → slice_get (map f cells) n ≡ Some x
part_at f cells n cell x at is = slice_get-map f cells n ∙ (ap (λ (o : Option Cell). option_map f o) at ∙ ap (λ y. Some y) is)

pub worked_by : (parts : Parts) (parameters : Parameters) (cells : List Cell) (worked : Worked) → length cells ≡ node_count parts
    → EachAt (StandsAt parts parameters) cells
    → AllAgree cells → CellsAreSplit cells worked → LogsAreWorked parts parameters worked
worked_by parts parameters cells worked count each agree are = record {
  runs = subst (λ (ls : Logs). AreLocalRuns parts parameters ls) (sym are.logs) (record {
    count = length-map cells (λ (cell : Cell). cell.log) ∙ count;
    runs = runs_of parts parameters cells count each;
    agree = logs_agree cells agree (logs_in cells) refl;
  });
  node_places = ap length are.nodes ∙ (length-map cells (λ (cell : Cell). cell.node) ∙ count);
  nodes_are = λ n below.
      let one = log_of cells n (omega (arith, below, count)) in
      let is : one.0.node ≡ whole_after parts parameters n (log_at (logged worked.logs) n) =
      whole_of parts parameters n one.0 (each n one.0 one.1.0) ∙ ap (λ (log : List Logged). whole_after parts parameters n log)
      (sym (ap (λ (ls : Logs). log_at ls n) are.logs ∙ one.1.1)) in
      ap (λ (nodes : List Whole). slice_get nodes n) are.nodes ∙ part_at (λ (cell : Cell). cell.node) cells n one.0 _ one.1.0 is;
  did_places = ap length are.dids ∙ (length-map cells (λ (cell : Cell). cell.dids) ∙ count);
  dids_are = λ n below.
      let one = log_of cells n (omega (arith, below, count)) in
      let is : one.0.dids ≡ dids_of parts parameters n (log_at (logged worked.logs) n) =
      dids_are parts parameters n one.0 (each n one.0 one.1.0) ∙ ap (λ (log : List Logged). dids_of parts parameters n log)
      (sym (ap (λ (ls : Logs). log_at ls n) are.logs ∙ one.1.1)) in
      ap (λ (dids : List (List Did)). slice_get dids n) are.dids ∙ part_at (λ (cell : Cell). cell.dids) cells n one.0 _ one.1.0 is;
}

-- ---- the caller's steps keep what they should

pub still_cells : (parts : Parts) (parameters : Parameters) (before after : List Cell) → EachAt (StandsAt parts parameters) before
    → CellsAreFinished before after → EachAt (StandsAt parts parameters) after
still_cells parts parameters before after each are k cell at =
    let one = are.each k cell at in
    let was = each k one.0 one.1.0 in
    let finishes = one.1.1 in (
      record {
        number_is = finishes.same.number ∙ was.0.number_is;
        share = finishes.same.parts ∙ was.0.share;
        parameters_are = finishes.same.parameters ∙ was.0.parameters_are;
      },
      finishes.stands,
    )

pub all_spent : (before after : List Cell) → CellsAreFinished before after → (k : ℕ) (cell : Cell) → slice_get after k ≡ Some cell
    → IsSpent cell.node.parameters cell.node.state
all_spent before after are k cell at = (are.each k cell at).1.1.spent

-- ---- cells once the links are closed

-- all of them stand in their places, their links agree, and a mark of a trap is of one of them that has trapped
pub record AreTaken (parts : Parts) (parameters : Parameters) (cells : List Cell) (trapped : Bool) : Type 0 where
  pub count : length cells ≡ node_count parts
  pub each : EachAt (StandsAt parts parameters) cells
  pub agree : AllAgree cells
  pub marked : trapped ≡ true → (k : ℕ) × ((cell : Cell) × ((slice_get cells k ≡ Some cell) × HasTrapped cell))

pub taken : (parts : Parts) (parameters : Parameters) (nodes : ℕ) (gathered closed cells : List Cell) (trapped : Bool)
    → CellsAreGathered parts parameters nodes gathered trapped → nodes ≡ node_count parts
    → closed ≡ gathered → AllAgree gathered → cells ≡ closed → AreTaken parts parameters cells trapped
taken parts parameters nodes gathered closed cells trapped are count same agree too =
    subst (λ (cs : List Cell). AreTaken parts parameters cs trapped) (sym (too ∙ same))
    (record { count = are.count ∙ count; each = are.each; agree = agree; marked = are.marked })

module _ (parts : Parts) (parameters : Parameters) (cells : List Cell) (trapped : Bool) (are : AreTaken parts parameters cells trapped) where
  pub left_at_trap : (worked : Worked) → trapped ≡ true → CellsAreSplit cells worked → WorkIsLeft parts parameters worked
  left_at_trap worked traps split =
      let one = are.marked traps in (
        worked_by parts parameters cells worked are.count are.each are.agree split,
        left_trapped parts parameters cells are.count are.each one.0 one.1.0 one.1.1.0 one.1.1.1 (logged worked.logs) split.logs,
      )

  pub left_at_end : (after : List Cell) (worked : Worked) → CellsAreFinished cells after → CellsAreSplit after worked → WorkIsLeft parts parameters worked
  left_at_end after worked finished split =
      let count = finished.count ∙ are.count in
      let each = still_cells parts parameters cells after are.each finished in (
        worked_by parts parameters after worked count each (still_agree cells after are.agree finished) split,
        left_spent parts parameters after count each (all_spent cells after finished) (logged worked.logs) split.logs,
      )

-- ---- cells that are split, one after the other

module _ {X : Type 0} (f : Cell → X) where
  -- what was made of the cells so far, with what is still to be made of the rest
  abbrev pub IsMade : List X → List Cell → List Cell → Type 0
  IsMade made rest all = made ++ map f rest ≡ map f all

  pub made_next : (made : List X) (x : X) (cell : Cell) (rest all : List Cell) → IsMade made (cell ∷ rest) all → x ≡ f cell → IsMade (made ++ x ∷ []) rest all
  made_next made x cell rest all are is = append_assoc made (x ∷ []) (map f rest) ∙ (ap (λ y. made ++ y ∷ map f rest) is ∙ are)

  pub made_few : (made : List X) (cell : Cell) (rest all : List Cell) → IsMade made (cell ∷ rest) all → length all < 2 ^ 32 → length made < 4294967295
  made_few made cell rest all are few =
      let whole = sym (length-append made (f cell ∷ map f rest)) ∙ (ap length are ∙ length-map all f) in
      omega (arith, whole, few)

  pub made_all : (made : List X) (rest all : List Cell) → length rest ≡ 0 → IsMade made rest all → made ≡ map f all
  made_all made [] all none are = sym (append-nil made) ∙ are
  made_all made (cell ∷ rest) all none are = absurd (omega (arith, none))

pub logs_next : (logs : List Written) (log : Written) (cell : Cell) (rest all : List Cell) → IsMade (λ (c : Cell). c.log) (logged logs) (cell ∷ rest) all
    → log.entries ≡ cell.log
    → IsMade (λ (c : Cell). c.log) (logged (logs ++ log ∷ [])) rest all
logs_next logs log cell rest all are is =
    subst (λ (ls : Logs). IsMade (λ (c : Cell). c.log) ls rest all) (sym (map-append (λ (one : Written). one.entries) logs (log ∷ [])))
    (made_next (λ (c : Cell). c.log) (logged logs) log.entries cell rest all are is)
