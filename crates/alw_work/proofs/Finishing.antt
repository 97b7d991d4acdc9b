-- Cells that are stepped one after the other, each until it is spent, and cells that stand in their places.
use Rattle.std.proofs.Common.{◌≡◌, ◌≢◌, ◌⊎◌, inl, inr, ⊎_elim, ℕ, zero, suc, ◌+◌, ◌-◌, ◌<◌, ◌≤◌, Bool, true, false, cond, ◌||◌, Option, Some, None, List, [], ◌∷◌, ◌++◌, length, slice_get, slice_set, replicate, refl, sym, ap, subst, ◌∙◌, arith}
use Rattle.std.specs.Prelude.{option_to_list}
use Rattle.std.proofs.lemmas.List.Concat.{flat_map-append}
use Rattle.std.proofs.lemmas.Option.{same_Some}
use Rattle.alw_num.proofs.Weigh.{cases_lt_then}
use Rattle.alw_image.specs.declared.parts.Parts.{Parts}
use Rattle.alw_image.specs.Images.{node_count}
use Rattle.alw_image.specs.Parameters.{Parameters}
use Rattle.alw_msg.specs.declared.messages.Msg.{Msg}
use Rattle.alw_msg.specs.declared.events.Event.{Event}
use Rattle.alw_msg.specs.declared.events.Event.TheVariants.{Instr, Handle, Deliver, Evict}
use Rattle.alw_msg.specs.Lists.{front, behind}
use Rattle.alw_model.specs.NodeStates.{NodeState, stamp_of}
use Rattle.alw_model.specs.Threads.{Logged, is_from, took_from}
use Rattle.alw_cells.specs.Cells.{Cell, IsCell, cell_start, in_from}
use Rattle.alw_cells.specs.Choice.{taken_by, come_taken, logged_by, after_event}
use Rattle.alw_cells.proofs.Runs.{clock_most}
use Rattle.alw_work.specs.Seats.{EachAt, IsCellOf, StandsAt, HasTrapped, TrapIsMarked, CellIsOfNode, TakesNothing, Works, CellFinishes, CellsAreFinished, CellsAreAlone}
use Rattle.alw_work.proofs.Working.{works_none, works_trans, works_step}
use Rattle.law_order.proofs.Clocks.{stamp_above}

-- ---- one step

-- a step has a greater stamp, and no clock is past the limit
pub sooner : (cell : Cell) (event : Event) → IsCell cell
    → cell.node.parameters.limit + 1 - (after_event cell event).node.state.clock < cell.node.parameters.limit + 1 - cell.node.state.clock
sooner cell event stands =
    let node = cell.node in
    go node.parameters.limit node.state.clock (stamp_of node.state.clock (taken_by cell.come event))
    (subst (λ (state : NodeState). state.clock ≤ node.parameters.limit) (sym stands.state)
    (clock_most node.parts node.parameters node.number cell.log stands.run))
    (stamp_above node.state.clock (taken_by cell.come event))
  where
    go : (limit clock stamp : ℕ) → clock ≤ limit → clock < stamp → limit + 1 - stamp < limit + 1 - clock
    go limit clock stamp within more = omega (arith, within, more)

-- where nothing has come, nothing is taken, and nothing has come afterwards
empty_set : (come : List (List Msg)) (k : ℕ) → ((from : ℕ) → in_from come from ≡ []) → (from : ℕ) → in_from (slice_set come k []) from ≡ []
empty_set [] k none from = none from
empty_set (first ∷ rest) zero none zero = refl
empty_set (first ∷ rest) zero none (suc from) = none (suc from)
empty_set (first ∷ rest) (suc k) none zero = none zero
empty_set (first ∷ rest) (suc k) none (suc from) = empty_set rest k (λ at. none (suc at)) from

none_taken : (come : List (List Msg)) (event : Event) → ((from : ℕ) → in_from come from ≡ []) → taken_by come event ≡ None
none_taken come (Instr at) none = refl
none_taken come (Handle at) none = refl
none_taken come (Evict at set) none = refl
none_taken come (Deliver from to) none = ap (λ (xs : List Msg). front xs) (none from.0)

still_empty : (come : List (List Msg)) (event : Event) → ((from : ℕ) → in_from come from ≡ []) → (k : ℕ) → in_from (come_taken come event) k ≡ []
still_empty come (Instr at) none k = none k
still_empty come (Handle at) none k = none k
still_empty come (Evict at set) none k = none k
still_empty come (Deliver from to) none k = ap (λ (xs : List Msg). in_from (slice_set come from.0 (behind xs)) k) (none from.0) ∙ empty_set come from.0 none k

none_took : (from : ℕ) (log : List Logged) (one : Logged) → one.taken ≡ None → took_from from log ≡ [] → took_from from (log ++ one ∷ []) ≡ []
none_took from log one none before =
    flat_map-append (λ logged. cond (is_from from logged.entry.event) (option_to_list logged.taken) []) log (one ∷ [])
    ∙ (ap (λ (xs : List Msg). xs ++ (cond (is_from from one.entry.event) (option_to_list one.taken) [] ++ [])) before
    ∙ go (is_from from one.entry.event) one.taken none)
  where
    go : (b : Bool) (taken : Option Msg) → taken ≡ None → ([] ++ (cond b (option_to_list taken) [] ++ [])) ≡ []
    go true taken is = ap (λ (o : Option Msg). option_to_list o ++ []) is
    go false taken is = refl

pub alone_step : (cell : Cell) (event : Event) → TakesNothing cell → TakesNothing (after_event cell event)
alone_step cell event alone = record {
  come = still_empty cell.come event alone.come;
  took = λ from. none_took from cell.log (logged_by cell event) (none_taken cell.come event alone.come) (alone.took from);
}

-- nothing has come at the start
pub none_come : (n from : ℕ) → in_from (replicate n []) from ≡ []
none_come zero from = refl
none_come (suc n) zero = refl
none_come (suc n) (suc from) = none_come n from

pub alone_start : (parts : Parts) (parameters : Parameters) (number : ℕ) → TakesNothing (cell_start parts parameters number)
alone_start parts parameters number = record { come = none_come (node_count parts); took = λ from. refl }

-- ---- lists by place

module _ {X : Type 0} where
  pub get_last : (xs : List X) (x : X) → slice_get (xs ++ x ∷ []) (length xs) ≡ Some x
  get_last [] x = refl
  get_last (first ∷ rest) x = get_last rest x

  pub get_left : (xs : List X) (x y : X) (k : ℕ) → slice_get xs k ≡ Some y → slice_get (xs ++ x ∷ []) k ≡ Some y
  get_left [] x y k is = absurd (cc)
  get_left (first ∷ rest) x y zero is = is
  get_left (first ∷ rest) x y (suc k) is = get_left rest x y k is

  pub get_other : (xs : List X) (n : ℕ) (x : X) (k : ℕ) → k ≢ n → slice_get (slice_set xs n x) k ≡ slice_get xs k
  get_other [] n x k other = refl
  get_other (first ∷ rest) zero x zero other = absurd (other refl)
  get_other (first ∷ rest) zero x (suc k) other = refl
  get_other (first ∷ rest) (suc n) x zero other = refl
  get_other (first ∷ rest) (suc n) x (suc k) other = get_other rest n x k (λ same. other (ap suc same))

  pub get_same : (xs : List X) (n : ℕ) (x y z : X) → slice_get xs n ≡ Some z → slice_get (slice_set xs n x) n ≡ Some y → x ≡ y
  get_same [] n x y z was is = absurd (cc)
  get_same (first ∷ rest) zero x y z was is = same_Some x y is
  get_same (first ∷ rest) (suc n) x y z was is = get_same rest n x y z was is

  pub get_within : (xs : List X) (k : ℕ) (x : X) → slice_get xs k ≡ Some x → k < length xs
  get_within [] k x is = absurd (cc)
  get_within (first ∷ rest) zero x is = omega arith
  get_within (first ∷ rest) (suc k) x is = omega (arith, get_within rest k x is)

  pub set_length : (xs : List X) (n : ℕ) (x : X) → length (slice_set xs n x) ≡ length xs
  set_length [] n x = refl
  set_length (first ∷ rest) zero x = refl
  set_length (first ∷ rest) (suc n) x = omega (arith, set_length rest n x)

  -- a place of a list in which one place was written
  pub at_place : (xs : List X) (n : ℕ) (x : X) (k : ℕ) (y : X) → slice_get (slice_set xs n x) k ≡ Some y
      → ((k ≡ n) × (x ≡ y)) ⊎ ((k ≢ n) × (slice_get xs k ≡ Some y))
  at_place [] n x k y is = absurd (cc)
  at_place (first ∷ rest) zero x zero y is = inl (refl, same_Some x y is)
  at_place (first ∷ rest) zero x (suc k) y is = inr ((λ same. omega (arith, same)), is)
  at_place (first ∷ rest) (suc n) x zero y is = inr ((λ same. omega (arith, same)), is)
  at_place (first ∷ rest) (suc n) x (suc k) y is =
      ⊎_elim (λ (h : (k ≡ n) × (x ≡ y)). inl (ap suc h.0, h.1))
      (λ (h : (k ≢ n) × (slice_get rest k ≡ Some y)). inr ((λ same. h.0 (omega (arith, same))), h.1)) (at_place rest n x k y is)

  -- no member
  pub each_none : (P : ℕ → X → Type 0) (xs : List X) → xs ≡ [] → EachAt P xs
  each_none P [] none k x is = absurd (cc)
  each_none P (first ∷ rest) none k x is = absurd (cc)

  -- one member is another
  pub each_set : (P : ℕ → X → Type 0) (xs : List X) (n : ℕ) (x : X) → EachAt P xs → P n x → EachAt P (slice_set xs n x)
  each_set P xs n x each is k y at = ⊎_elim (λ (h : (k ≡ n) × (x ≡ y)). subst (λ (z : ℕ × X). P z.0 z.1) (λ i. (sym h.0 i, h.1 i)) is)
      (λ (h : (k ≢ n) × (slice_get xs k ≡ Some y)). each k y h.1) (at_place xs n x k y at)

  pub each_push : (P : ℕ → X → Type 0) (xs : List X) (x : X) → EachAt P xs → P (length xs) x → EachAt P (xs ++ x ∷ [])
  each_push P [] x each is zero y at = subst (λ (z : X). P 0 z) (same_Some x y at) is
  each_push P [] x each is (suc k) y at = absurd (cc)
  each_push P (first ∷ rest) x each is zero y at = each zero y at
  each_push P (first ∷ rest) x each is (suc k) y at = each_push (λ j. P (suc j)) rest x (λ j z there. each (suc j) z there) is k y at

-- each member from a place on
abbrev pub EachFrom : {X : Type 0} → (ℕ → X → Type 0) → ℕ → List X → Type 0
EachFrom {X = X} P least xs = EachAt (λ k (x : X). least ≤ k → P k x) xs

-- the first of them is another
pub each_given : {X : Type 0} (P : ℕ → X → Type 0) (n : ℕ) (xs : List X) (x : X) → EachFrom P n xs → EachFrom P (n + 1) (slice_set xs n x)
each_given {X = X} P n xs x each =
    each_set (λ k (y : X). n + 1 ≤ k → P k y) xs n x (λ k y at more. each k y at (omega (arith, more))) (λ more. absurd (omega (arith, more)))

-- ---- cells behind locks

pub record AreSoFar (parts : Parts) (parameters : Parameters) (cells : List Cell) (trapped : Bool) : Type 0 where
  pub each : EachAt (StandsAt parts parameters) cells
  pub marked : trapped ≡ true → (k : ℕ) × ((cell : Cell) × ((slice_get cells k ≡ Some cell) × HasTrapped cell))

pub so_far_push : (parts : Parts) (parameters : Parameters) (cells : List Cell) (trapped : Bool) (number : ℕ) (cell : Cell) (has : Bool)
    → AreSoFar parts parameters cells trapped → number ≡ length cells → StandsAt parts parameters number cell → TrapIsMarked has cell
    → AreSoFar parts parameters (cells ++ cell ∷ []) (trapped || has)
so_far_push parts parameters cells trapped number cell has are here stands marked = record {
  each = each_push (StandsAt parts parameters) cells cell are.each (subst (λ n. StandsAt parts parameters n cell) here stands);
  marked = go trapped has are.marked marked;
}
  where
    go : (was is : Bool) → (was ≡ true → (k : ℕ) × ((one : Cell) × ((slice_get cells k ≡ Some one) × HasTrapped one)))
        → (is ≡ true → HasTrapped cell) → (was || is) ≡ true
        → (k : ℕ) × ((one : Cell) × ((slice_get (cells ++ cell ∷ []) k ≡ Some one) × HasTrapped one))
    go true is before last both = let one = before refl in (one.0, (one.1.0, (get_left cells cell one.1.0 one.0 one.1.1.0, one.1.1.1)))
    go false is before last both = (length cells, (cell, (get_last cells cell, last both)))

-- ---- the caller's steps

pub record AreFinishedTo (n : ℕ) (before after : List Cell) : Type 0 where
  pub count : length after ≡ length before
  pub done : (k : ℕ) (cell : Cell) → k < n → slice_get after k ≡ Some cell → (was : Cell) × ((slice_get before k ≡ Some was) × CellFinishes was cell)
  pub rest : (k : ℕ) → n ≤ k → slice_get after k ≡ slice_get before k

pub finished_next : (n : ℕ) (before after : List Cell) (old new : Cell) → slice_get after n ≡ Some old → AreFinishedTo n before after → CellFinishes old new
    → AreFinishedTo (n + 1) before (slice_set after n new)
finished_next n before after old new here are finishes = record {
  count = set_length after n new ∙ are.count;
  done = λ k cell below is. cases_lt_then n k
      (λ less. are.done k cell less (sym (get_other after n new k (λ same. absurd (omega (arith, less, same)))) ∙ is))
      (λ not_less. let same : k ≡ n = omega (arith, below, not_less) in last k cell same is);
  rest = λ k more. get_other after n new k (λ same. absurd (omega (arith, more, same))) ∙ are.rest k (omega (arith, more));
}
  where
    last : (k : ℕ) (cell : Cell) → k ≡ n → slice_get (slice_set after n new) k ≡ Some cell
        → (was : Cell) × ((slice_get before k ≡ Some was) × CellFinishes was cell)
    last k cell same is =
        let at = subst (λ (j : ℕ). slice_get (slice_set after n new) j ≡ Some cell) same is in (
          old,
          (
            subst (λ (j : ℕ). slice_get before j ≡ Some old) (sym same) (sym (are.rest n (omega arith)) ∙ here),
            subst (λ (one : Cell). CellFinishes old one) (get_same after n new cell old here at) finishes,
          ),
        )

pub finished_all : (n : ℕ) (before after : List Cell) → n ≡ length after → AreFinishedTo n before after → CellsAreFinished before after
finished_all n before after all are = record { count = are.count; each = λ k cell at. are.done k cell (omega (arith, all, get_within after k cell at)) at }

-- a cell on its way to be spent
pub record CellGoes (before after : Cell) : Type 0 where
  pub same : CellIsOfNode before after
  pub alone : TakesNothing before → TakesNothing after
  pub works : Works before after

pub goes_none : (cell : Cell) → CellGoes cell cell
goes_none cell = record { same = record { number = refl; parts = refl; parameters = refl }; alone = λ none. none; works = works_none cell }

pub goes_on : (before cell : Cell) (event : Event) → CellGoes before cell → CellGoes before (after_event cell event)
goes_on before cell event goes = record {
  same = record { number = goes.same.number; parts = goes.same.parts; parameters = goes.same.parameters };
  alone = λ none. alone_step cell event (goes.alone none);
  works = works_trans before cell (after_event cell event) goes.works (works_step cell event);
}

-- ---- the cells at the start

pub stands_next : (parts : Parts) (parameters : Parameters) (cells : List Cell) (number : ℕ) (cell : Cell) → number ≡ length cells
    → cell ≡ cell_start parts parameters number → IsCell cell → EachAt (StandsAt parts parameters) cells
    → EachAt (StandsAt parts parameters) (cells ++ cell ∷ [])
stands_next parts parameters cells number cell here is stands each =
    let is_of : IsCellOf parts parameters number cell = record {
      number_is = ap (λ (c : Cell). c.node.number) is;
      share = ap (λ (c : Cell). c.node.parts) is;
      parameters_are = ap (λ (c : Cell). c.node.parameters) is;
    } in
    each_push (StandsAt parts parameters) cells cell each (subst (λ n. StandsAt parts parameters n cell) here (is_of, stands))

pub alone_next : (parts : Parts) (parameters : Parameters) (cells : List Cell) (number : ℕ) (cell : Cell) → cell ≡ cell_start parts parameters number
    → CellsAreAlone cells → CellsAreAlone (cells ++ cell ∷ [])
alone_next parts parameters cells number cell is alone =
    each_push (λ k. TakesNothing) cells cell alone (subst (λ (c : Cell). TakesNothing c) (sym is) (alone_start parts parameters number))
