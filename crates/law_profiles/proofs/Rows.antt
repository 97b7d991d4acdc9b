-- The rows of a table count together what its marks add.
use Rattle.std.proofs.Common.{◌≡◌, ◌≢◌, ℕ, zero, suc, ◌+◌, ◌<◌, ◌≤◌, ◌==◌, ◌&&◌, ◌||◌, nat_lt, not, Bool, true, false, cond, List, [], ◌∷◌, ◌++◌, flat_map, slice_index, refl, sym, ap, ◌∙◌, arith}
use Rattle.std.specs.List.{AllByRecursion, range_with_len}
use Rattle.std.proofs.lemmas.Bool.{false≢true, eqb-true, ltb-true, lt-ltb, ne_eqb, eq-eqb}
use Rattle.std.proofs.lemmas.List.FromFn.{get_or-map-range_with_len}
use Rattle.alw_num.specs.Weights.{weigh, sum_below}
use Rattle.alw_num.proofs.Lists.{number_more}
use Rattle.alw_num.proofs.Weigh.{is_node, weigh-append, sum_same, sum_none, sum_both, weigh_flat}
use Rattle.alw_model.specs.Runs.{Moment}
use Rattle.alw_profile.specs.declared.tables.Mark.{Mark}
use Rattle.alw_profile.specs.Marks.{weight_at, counted, row_of, has_count}

-- what a mark adds to a column, and what it adds to that of a table with n rows
abbrev pub in_column : ℕ → Mark → ℕ
in_column column mark = cond (mark.column == column) mark.weight 0

abbrev pub inside : ℕ → ℕ → Mark → ℕ
inside n column mark = cond (nat_lt mark.row n) (in_column column mark) 0

pub off : (a column weight : ℕ) → a ≢ column → cond (a == column) weight 0 ≡ 0
off a column weight apart = ap (λ (t : Bool). cond t weight 0) (ne_eqb a column apart)

on : (a column weight : ℕ) → a ≡ column → cond (a == column) weight 0 ≡ weight
on a column weight same = ap (λ (t : Bool). cond t weight 0) (eq-eqb a column same)

-- ---- over all rows a mark adds what it adds to its column

sum_outside : (n row weight : ℕ) → n ≤ row → sum_below n (λ k. cond (row == k) weight 0) ≡ 0
sum_outside n row weight past = sum_none n (λ k. cond (row == k) weight 0) (λ k l. off row k weight (λ e. omega arith))

sum_within : (n row weight : ℕ) → row < n → sum_below n (λ k. cond (row == k) weight 0) ≡ weight
sum_within zero row weight l = absurd (omega arith)
sum_within (suc n) row weight l = is_node _ row n
    (λ same. let here = on row n weight same in
    omega (arith, here, sum_outside n row weight (omega arith)))
    (λ apart. omega (arith, off row n weight apart, sum_within n row weight (omega arith)))

sum_row : (n row weight : ℕ) → sum_below n (λ k. cond (row == k) weight 0) ≡ cond (nat_lt row n) weight 0
sum_row n row weight = go (nat_lt row n) refl
  where
    go : (b : Bool) → nat_lt row n ≡ b → sum_below n (λ k. cond (row == k) weight 0) ≡ cond b weight 0
    go true within = sum_within n row weight (ltb-true row n within)
    go false past = is_past (λ l. false≢true (sym past ∙ lt-ltb row n l))
      where
        is_past : ((row < n) → ⊥) → sum_below n (λ k. cond (row == k) weight 0) ≡ 0
        is_past out = sum_outside n row weight (omega (arith, out))

both : (b : Bool) (weight : ℕ) (a : Bool) → cond (a && b) weight 0 ≡ cond a (cond b weight 0) 0
both true weight true = refl
both true weight false = refl
both false weight true = refl
both false weight false = refl

sum_mark : (n column : ℕ) (mark : Mark) → sum_below n (λ k. weight_at k column mark) ≡ inside n column mark
sum_mark n column mark =
    sum_same n (λ k. weight_at k column mark) (λ k. cond (mark.row == k) (in_column column mark) 0) (λ k l. both (mark.column == column) mark.weight (mark.row == k))
    ∙ sum_row n mark.row (in_column column mark)

sum_marks : (n column : ℕ) (marks : List Mark) → sum_below n (λ k. counted marks k column) ≡ weigh (inside n column) marks
sum_marks n column [] = sum_none n (λ k. 0) (λ k l. refl)
sum_marks n column (mark ∷ rest) =
    omega (arith, sum_both n (λ k. weight_at k column mark) (λ k. counted rest k column), sum_mark n column mark, sum_marks n column rest)

-- marks of rows that are there
pub inside_all : (n column : ℕ) (marks : List Mark) → AllByRecursion (λ mark. mark.row < n) marks → weigh (inside n column) marks ≡ weigh (in_column column) marks
inside_all n column [] all = refl
inside_all n column (mark ∷ rest) all =
    let here = ap (λ (b : Bool). cond b (in_column column mark) 0) (lt-ltb mark.row n all.0) in
    omega (arith, here, inside_all n column rest all.1)

-- ---- sums over lists

pub weigh_each : {X : Type 0} (P : X → Type 0) (f g : X → ℕ) → ((x : X) → P x → f x ≡ g x) → (xs : List X) → AllByRecursion P xs → weigh f xs ≡ weigh g xs
weigh_each P f g same [] all = refl
weigh_each P f g same (x ∷ rest) all = omega (arith, same x all.0, weigh_each P f g same rest all.1)

-- ---- the rows that are listed

none_at : (counts : List ℕ) (column : ℕ) → has_count counts ≡ false → slice_index counts column ≡ 0
none_at [] column none = refl
none_at (count ∷ rest) column none = by_count (count == 0) refl none column (none_at rest)
  where
    by_count : (b : Bool) → (count == 0) ≡ b → (not b || has_count rest) ≡ false → (column : ℕ) → ((k : ℕ) → has_count rest ≡ false → slice_index rest k ≡ 0)
        → slice_index (count ∷ rest) column ≡ 0
    by_count true is none zero others = eqb-true count 0 is
    by_count true is none (suc k) others = others k none
    by_count false is none k others = absurd (false≢true (sym none))

-- what a row of counts tells of a column, also where it isn't listed
pub row_weight : {Row : Type 0} (pick : Row → ℕ) (row : Row) (column : ℕ) (counts : List ℕ) → pick row ≡ slice_index counts column
    → (listed : Bool) → (listed ≡ false → has_count counts ≡ false) → weigh pick (cond listed (row ∷ []) []) ≡ slice_index counts column
row_weight pick row column counts is true none = omega (arith, is)
row_weight pick row column counts is false none = sym (none_at counts column (none refl))

weigh_rows : {Row : Type 0} (pick : Row → ℕ) (own : ℕ → List Row) (value : ℕ → ℕ) → ((k : ℕ) → weigh pick (own k) ≡ value k)
    → (n : ℕ) → weigh pick (flat_map own (range_with_len 0 n)) ≡ sum_below n value
weigh_rows pick own value is zero = refl
weigh_rows {Row = Row} pick own value is (suc n) =
    let one_more : suc n ≡ n + 1 = omega arith in
    let listed : ℕ → List Row = λ k. flat_map own (range_with_len 0 k) in
    let next : listed (suc n) ≡ listed n ++ own n = ap listed one_more ∙ number_more own n in
    ap (weigh pick) next ∙ omega (arith, weigh-append pick (listed n) (own n), is n, weigh_rows pick own value is n)

row_cell : (marks : List Mark) (columns row column : ℕ) → column < columns → slice_index (row_of marks columns row) column ≡ counted marks row column
unfolding row_of
row_cell marks columns row column small = get_or-map-range_with_len (counted marks row) 0 columns column column 0 small (omega arith)

-- a column over all rows of a table is what each event adds to it
pub column_is : {Row : Type 0} (marked : Moment → List Mark) (listed : ℕ → List ℕ → List Row) (n columns : ℕ) (run : List Moment) (pick : Row → ℕ) (column : ℕ) → column < columns
    → ((k : ℕ) (counts : List ℕ) → weigh pick (listed k counts) ≡ slice_index counts column)
    → weigh pick (flat_map (λ k. listed k (row_of (flat_map marked run) columns k)) (range_with_len 0 n)) ≡ weigh (λ moment. weigh (inside n column) (marked moment)) run
column_is marked listed n columns run pick column small is =
    let marks : List Mark = flat_map marked run in
    weigh_rows pick (λ k. listed k (row_of marks columns k)) (λ k. counted marks k column)
    (λ k. is k (row_of marks columns k) ∙ row_cell marks columns k column small) n
    ∙ (sum_marks n column marks ∙ weigh_flat (inside n column) marked run)
