-- Rows of places, each with its number.
use Rattle.std.proofs.Common.{◌≡◌, ℕ, zero, suc, ◌+◌, ◌*◌, ◌<◌, ◌≤◌, Bool, false, IsTrue, Some, List, [], ◌∷◌, ◌++◌, length, map, take, drop, slice_index_or, refl, sym, ap, ◌∙◌, subst, arith, length-append}
use Rattle.std.specs.List.{slice_get, range_with_len}
use Rattle.std.proofs.lemmas.Nat.{mul-le}
use Rattle.std.proofs.lemmas.Bool.{false≢true}
use Rattle.std.proofs.lemmas.Option.{slice_get_within, get_or_from_slice_get, slice_get-get_or}
use Rattle.std.proofs.lemmas.List.{take-append-le, drop-append-le, drop_at, length-drop}
use Rattle.std.proofs.lemmas.List.FromFn.{map-range_with_len_more, get_or-map-range_with_len, length-map-range_with_len}
use Rattle.alw_outcomes.specs.declared.explored.Explored.{Explored}
use Rattle.alw_outcomes.specs.Digests.{row_digest}
use Rattle.alw_outcomes.specs.Pools.{IsIndexed}
use Rattle.alw_outcomes.specs.Explored.{Row, IsPlaceRow, rows_of, rows_in, digest_in}
use Rattle.alw_outcomes.proofs.Pooling.{or-append, some_is}
use Rattle.alw_outcomes.proofs.Indexing.{index_none, index_more, index_long}

abbrev row_by : ℕ → List ℕ → List ℕ → ℕ → Row
row_by width memories rows k = record { memory = slice_index_or memories k 0; contexts = take width (drop (k * width) rows) }

pub rows_length : (width : ℕ) (memories rows : List ℕ) → length (rows_of width memories rows) ≡ length memories
unfolding rows_of
rows_length width memories rows = length-map-range_with_len (row_by width memories rows) 0 (length memories)

pub row_get : (width : ℕ) (memories rows : List ℕ) (k : ℕ) → k < length memories
    → slice_get (rows_of width memories rows) k ≡ Some (record { memory = slice_index_or memories k 0; contexts = take width (drop (k * width) rows) })
unfolding rows_of
row_get width memories rows k within =
    let n = length memories in
    let long = length-map-range_with_len (row_by width memories rows) 0 n in
    slice_get-get_or (rows_of width memories rows) k (row_by width memories rows k) (omega (arith, long, within))
    ∙ ap (λ (r : Row). Some r) (get_or-map-range_with_len (row_by width memories rows) 0 n k k (row_by width memories rows k) within (omega arith))

pub is_there : (e : Explored) (at memory : ℕ) (row : List ℕ) → IsPlaceRow e at memory row → slice_get (rows_in e) at ≡ Some (record { memory = memory; contexts = row })
is_there e at memory row is =
    row_get e.width e.memories.items e.rows.items at is.exists
    ∙ (λ i. Some (record { memory = get_or_from_slice_get e.memories.items at memory 0 is.memory_is i; contexts = is.row_is i }))

pub there_is : (e : Explored) (at memory : ℕ) (row : List ℕ) → slice_get (rows_in e) at ≡ Some (record { memory = memory; contexts = row }) → IsPlaceRow e at memory row
there_is e at memory row there =
    let one : Row = record { memory = memory; contexts = row } in
    let within = slice_get_within (rows_in e) at one there in
    let exists : at < length e.memories.items = omega (arith, within, rows_length e.width e.memories.items e.rows.items) in
    let same = some_is (row_by e.width e.memories.items e.rows.items at) one (sym (row_get e.width e.memories.items e.rows.items at exists) ∙ there) in
    record {
      exists = exists;
      memory_is = slice_get-get_or e.memories.items at 0 exists ∙ ap (λ (r : Row). Some r.memory) same;
      row_is = ap (λ (r : Row). r.contexts) same;
    }

-- a row that was compared and is another one
pub other_row : (e : Explored) (at memory : ℕ) (row : List ℕ) (told : Bool) → (IsPlaceRow e at memory row → IsTrue told) → told ≡ false
    → slice_get (rows_in e) at ≡ Some (record { memory = memory; contexts = row }) → ⊥
other_row e at memory row told exact no' there = false≢true (sym no' ∙ exact (there_is e at memory row there))

-- ---- one row more

rows_map : (f g : ℕ → Row) (n : ℕ) → ((k : ℕ) → k < n → f k ≡ g k) → map f (range_with_len 0 n) ≡ map g (range_with_len 0 n)
rows_map f g zero same = refl
rows_map f g (suc n) same =
    let one : suc n ≡ n + 1 = omega arith in
    let rest = rows_map f g n (λ k less. same k (omega arith)) in
    let last = same n (omega arith) in
    ap (λ (m : ℕ). map f (range_with_len 0 m)) one ∙ map-range_with_len_more f 0 n n (omega arith) ∙ (λ i. rest i ++ last i ∷ []) ∙ sym (map-range_with_len_more g 0 n n (omega arith))
    ∙ ap (λ (m : ℕ). map g (range_with_len 0 m)) (sym one)

get_end : (xs : List ℕ) (x : ℕ) → slice_get (xs ++ x ∷ []) (length xs) ≡ Some x
get_end [] x = refl
get_end (y ∷ xs) x = get_end xs x

pub take_whole : (n : ℕ) (xs : List ℕ) → length xs ≡ n → take n xs ≡ xs
take_whole zero [] e = refl
take_whole zero (x ∷ xs) e = absurd (omega (arith, e))
take_whole (suc n) [] e = absurd (omega (arith, e))
take_whole (suc n) (x ∷ xs) e = ap (λ (l : List ℕ). x ∷ l) (take_whole n xs (omega (arith, e)))

pub rows_more : (width : ℕ) (memories rows : List ℕ) (memory : ℕ) (row : List ℕ) → length rows ≡ length memories * width → length row ≡ width
    → rows_of width (memories ++ memory ∷ []) (rows ++ row) ≡ rows_of width memories rows ++ record { memory = memory; contexts = row } ∷ []
unfolding rows_of
rows_more width memories rows memory row sizes long =
    let n = length memories in
    let count : length (memories ++ memory ∷ []) ≡ n + 1 = length-append memories (memory ∷ []) in
    let after = row_by width (memories ++ memory ∷ []) (rows ++ row) in
    let old = rows_map after (row_by width memories rows) n (λ k less. old_row k less) in
    ap (λ (m : ℕ). map after (range_with_len 0 m)) count ∙ map-range_with_len_more after 0 n n (omega arith) ∙ (λ i. old i ++ new_row i ∷ [])
  where
    old_row : (k : ℕ) → k < length memories → row_by width (memories ++ memory ∷ []) (rows ++ row) k ≡ row_by width memories rows k
    old_row k less =
        let m = mul-le (k + 1) width (length memories) width (omega (arith, less)) (omega arith) in
        let e : (k + 1) * width ≡ k * width + width = omega arith in
        let room : k * width + width ≤ length rows = omega (arith, m, e, sizes) in
        let first = or-append memories (memory ∷ []) k 0 less in
        let rest = drop-append-le (k * width) rows row (omega (arith, room)) in
        let kept = take-append-le width (drop (k * width) rows) row (let d = length-drop (k * width) rows in omega (arith, d, room)) in
        λ i. record { memory = first i; contexts = (ap (take width) rest ∙ kept) i }

    new_row : row_by width (memories ++ memory ∷ []) (rows ++ row) (length memories) ≡ record { memory = memory; contexts = row }
    new_row =
        let first : slice_index_or (memories ++ memory ∷ []) (length memories) 0 ≡ memory = get_or_from_slice_get (memories ++ memory ∷ []) (length memories) memory 0 (get_end memories memory) in
        let rest : drop (length memories * width) (rows ++ row) ≡ row = drop_at rows row (length memories * width) sizes in
        λ i. record { memory = first i; contexts = (ap (take width) rest ∙ take_whole width row long) i }

pub rows_same : (rows rows' : List Row) (digests digests' : List ℕ) → rows' ≡ rows → digests' ≡ digests → IsIndexed digest_in rows digests → IsIndexed digest_in rows' digests'
rows_same rows rows' digests digests' same same' indexed = subst (λ (l : List Row). IsIndexed digest_in l digests') (sym same) (subst (λ (l : List ℕ). IsIndexed digest_in rows l) (sym same') indexed)

-- the rows are apart still once another one was put behind them
pub rows_apart : (before : Explored) (width memory : ℕ) (memories rows row digests : List ℕ) → width ≡ before.width → memories ≡ before.memories.items ++ memory ∷ [] → rows ≡ before.rows.items ++ row
    → length before.rows.items ≡ length before.memories.items * before.width → length row ≡ before.width → digests ≡ before.by_row ++ row_digest memory row ∷ []
    → ((at : ℕ) → IsPlaceRow before at memory row → ⊥)
    → IsIndexed digest_in (rows_in before) before.by_row → IsIndexed digest_in (rows_of width memories rows) digests
rows_apart before width memory memories rows row digests width_is memories_is rows_is sizes long digests_is new indexed =
    index_more digest_in (rows_in before) (rows_of width memories rows) before.by_row digests (record { memory = memory; contexts = row }) indexed
    (λ k there. new k (there_is before k memory row there))
    ((λ i. rows_of (width_is i) (memories_is i) (rows_is i)) ∙ rows_more before.width before.memories.items before.rows.items memory row sizes long) digests_is

-- one row alone
pub row_alone : (width memory : ℕ) (memories row digests : List ℕ) → memories ≡ memory ∷ [] → length row ≡ width → digests ≡ row_digest memory row ∷ []
    → IsIndexed digest_in (rows_of width memories row) digests
unfolding rows_of
row_alone width memory memories row digests memories_is long digests_is =
    index_more digest_in [] (rows_of width memories row) [] digests (record { memory = memory; contexts = row }) (index_none digest_in [] [] refl refl) (λ k there. no_row k there)
    (ap (λ (l : List ℕ). rows_of width l row) memories_is ∙ rows_more width [] [] memory row (omega arith) long) digests_is
  where
    no_row : (k : ℕ) → slice_get [] k ≡ Some (let r : Row = record { memory = memory; contexts = row } in r) → ⊥
    no_row k e = cc

-- the digest that was put behind the others is that of a row
pub row_put : (before after : List ℕ) (digest memory : ℕ) (row row' : List ℕ) → after ≡ before ++ digest ∷ [] → digest ≡ row_digest memory row → row ≡ row'
    → after ≡ before ++ row_digest memory row' ∷ []
row_put before after digest memory row row' put is same = put ∙ ap (λ (d : ℕ). before ++ d ∷ []) (is ∙ ap (row_digest memory) same)

pub row_put_first : (before after : List ℕ) (digest memory : ℕ) (row row' : List ℕ) → before ≡ [] → after ≡ before ++ digest ∷ [] → digest ≡ row_digest memory row → row ≡ row'
    → after ≡ row_digest memory row' ∷ []
row_put_first before after digest memory row row' none put is same = row_put before after digest memory row row' put is same ∙ ap (λ (l : List ℕ). l ++ row_digest memory row' ∷ []) none

-- there is a digest for each place
pub digests_as_places : (e : Explored) → IsIndexed digest_in (rows_in e) e.by_row → length e.by_row ≡ length e.memories.items
digests_as_places e indexed = index_long digest_in (rows_in e) e.by_row indexed ∙ rows_length e.width e.memories.items e.rows.items
