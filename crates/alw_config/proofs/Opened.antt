-- The options that stand open behind some words: each makes what its name makes among all of a command's options.
use Rattle.std.proofs.Common.{◌≡◌, ℕ, ◌<◌, ◌==◌, ◌||◌, Bool, true, false, cond, List, [], ◌∷◌, ◌++◌, codes, refl, sym, ap, ◌∙◌, arith}
use Rattle.std.specs.Prelude.{Option, None, Some, option_map, option_and_then, bytes_eq}
use Rattle.std.specs.Option.{option_map_or}
use Rattle.std.specs.List.{AllByRecursion}
use Rattle.std.proofs.lemmas.Bool.{or_parts}
use Rattle.std.proofs.lemmas.Slice.Eq.{bytes_eq-Decides}
use Rattle.alw_config.specs.declared.commands.Form.{Form}
use Rattle.alw_config.specs.declared.commands.TimedForm.TheVariants as timed
use Rattle.alw_config.specs.declared.rows.Meaning.{Meaning}
use Rattle.alw_config.specs.declared.rows.Name.{Name}
use Rattle.alw_config.specs.declared.rows.Name.TheVariants as names
use Rattle.alw_config.specs.declared.rows.Kind.TheVariants as kinds
use Rattle.alw_config.specs.declared.rows.Value.{Value}
use Rattle.alw_config.specs.declared.rows.Value.TheVariants as values
use Rattle.alw_config.specs.Values.{row_of, value_of, forms, timed_forms}
use Rattle.alw_config.specs.Table.{Options, options_of, run_options, timed_options, draw_options, cycles_option, open_by, taken_by, makes, value_behind}

-- what holds of each row of a table holds of the one that is found
pub by_row : {X : Type 0} (P : List ℕ → X → Type 0) (rows : List (List ℕ × X)) (word : List ℕ) (found : X) →
    AllByRecursion (λ row. P row.0 row.1) rows → row_of rows word ≡ Some found → P word found
by_row P [] word found all known = absurd (cc)
by_row {X} P (row ∷ rest) word found all known = go (bytes_eq row.0 word) refl known (by_row P rest word found all.1)
  where
    go : (b : Bool) → bytes_eq row.0 word ≡ b → cond b (Some row.1) (row_of rest word) ≡ Some found → (row_of rest word ≡ Some found → P word found)
        → P word found
    go true e this later =
        let named : row.0 ≡ word = (bytes_eq-Decides row.0 word).0 e in
        let same : row.1 ≡ found = cc in
        rw (named, same) at all.0
    go false e this later = later this

-- an option's row makes what its name makes among these options: the same choice, by the same values
pub record MeaningStands (options : Options) (word : List ℕ) (meaning : Meaning) : Type 0 where
  pub makes_so : (k : ℕ) → makes options k word ≡ (meaning.choice == k)
  pub stands_for : (value : List ℕ) (v : Value) → value_of meaning.kind value ≡ Some v → value_behind options word value ≡ Some v

itself : (options : Options) (word : List ℕ) (meaning : Meaning) → row_of options word ≡ Some meaning → MeaningStands options word meaning
itself options word meaning known = record {
  makes_so = λ k. ap (λ (row : Option Meaning). option_map_or (λ (m : Meaning). m.choice == k) row false) known;
  stands_for = λ value v is. ap (option_and_then (λ (m : Meaning). value_of m.kind value)) known ∙ is;
}

-- what a run is written as, a timed one may be written as
written : (value : List ℕ) (v : Value) → value_of kinds.RunForm value ≡ Some v → value_of kinds.TimedForm value ≡ Some v
written value v found = go (row_of forms value) refl found
  where
    go : (o : Option Form) → row_of forms value ≡ o → option_map (λ form. values.TimedForm (timed.Run form)) o ≡ Some v
        → value_of kinds.TimedForm value ≡ Some v
    go None e none = absurd (cc)
    go (Some form) e some =
        ap (option_map values.TimedForm)
        (by_row (λ word form. row_of timed_forms word ≡ Some (timed.Run form)) forms value form (refl, (refl, (refl, (refl, (refl, (refl, (refl, tt))))))) e) ∙ some

-- each row of a run that isn't timed, among all rows of a run
write_row : MeaningStands (options_of names.Run) (codes "--write") (record { choice = 5; kind = kinds.RunForm })
write_row = record { makes_so = λ k. refl; stands_for = written }

each_of_run : AllByRecursion (λ row. MeaningStands (options_of names.Run) row.0 row.1) run_options
each_of_run = let own = itself (options_of names.Run) in (own _ _ refl, (own _ _ refl, (own _ _ refl, (own _ _ refl, (own _ _ refl, (own _ _ refl, (write_row, tt)))))))

-- a row of a timed run
row_of-append : (options more : Options) (word : List ℕ) (meaning : Meaning) → row_of options word ≡ Some meaning → row_of (options ++ more) word ≡ Some meaning
row_of-append [] more word meaning known = absurd (cc)
row_of-append (row ∷ rest) more word meaning known = go (bytes_eq row.0 word) known (row_of-append rest more word meaning)
  where
    go : (b : Bool) → cond b (Some row.1) (row_of rest word) ≡ Some meaning → (row_of rest word ≡ Some meaning → row_of (rest ++ more) word ≡ Some meaning)
        → cond b (Some row.1) (row_of (rest ++ more) word) ≡ Some meaning
    go true found later = found
    go false found later = later found

pub stands : (name : Name) (chosen : ℕ → Bool) (word : List ℕ) (meaning : Meaning) → row_of (open_by name chosen) word ≡ Some meaning
    → MeaningStands (options_of name) word meaning
stands names.Run chosen word meaning known = go (chosen 6) (chosen 0 || chosen 4) known
  where
    go : (a b : Bool) → row_of (cond a timed_options (cond b run_options (cycles_option ∷ run_options))) word ≡ Some meaning
        → MeaningStands (options_of names.Run) word meaning
    go true b found = itself (options_of names.Run) word meaning (row_of-append timed_options draw_options word meaning found)
    go false true found = by_row (MeaningStands (options_of names.Run)) run_options word meaning each_of_run found
    go false false found = by_row (MeaningStands (options_of names.Run)) (cycles_option ∷ run_options) word meaning (itself _ _ _ refl, each_of_run) found
stands names.Timed chosen word meaning known = itself (options_of names.Timed) word meaning (row_of-append timed_options draw_options word meaning known)
stands _ chosen word meaning known = itself _ word meaning known

-- which options stand open, and which command is meant, depends on what is chosen
pub open_same : (name : Name) (f g : ℕ → Bool) → ((k : ℕ) → k < 17 → f k ≡ g k) → open_by name f ≡ open_by name g
open_same names.Run f g same = rw (same 6 (omega arith), same 0 (omega arith), same 4 (omega arith)) refl
open_same _ f g same = refl

pub taken_same : (name : Name) (f g : ℕ → Bool) → ((k : ℕ) → k < 17 → f k ≡ g k) → taken_by name f ≡ taken_by name g
taken_same names.Run f g same = rw (same 6 (omega arith)) refl
taken_same _ f g same = refl

-- ---- a run that isn't timed

-- a run that isn't timed behind a pair isn't before it, and the pair doesn't make it so
pub untimed_before : (name : Name) (f g : ℕ → Bool) (b : Bool) → taken_by name f ≡ names.Run → f 6 ≡ (g 6 || b) → (taken_by name g ≡ names.Run) × (b ≡ false)
untimed_before names.Run f g b is parts = go (f 6) parts is
  where
    go : (t : Bool) → t ≡ (g 6 || b) → cond t names.Timed names.Run ≡ names.Run → (taken_by names.Run g ≡ names.Run) × (b ≡ false)
    go true e is = absurd (cc)
    go false e is = let both = or_parts (g 6) b (sym e) in (rw both.0 refl, both.1)
untimed_before _ f g b is parts = absurd (cc)

-- then its option is one of its own
pub untimed_row : (name : Name) (chosen : ℕ → Bool) (word : List ℕ) (meaning : Meaning) → taken_by name chosen ≡ names.Run →
    row_of (open_by name chosen) word ≡ Some meaning → (meaning.choice == 6) ≡ false → row_of run_options word ≡ Some meaning
untimed_row names.Run chosen word meaning is known other = go (chosen 6) (chosen 0 || chosen 4) is known
  where
    undecided : (b : Bool) → cond b (Some cycles_option.1) (row_of run_options word) ≡ Some meaning → row_of run_options word ≡ Some meaning
    undecided true found = let same : cycles_option.1 ≡ meaning = cc in absurd (let e = rw (sym same) at other in cc)
    undecided false found = found

    go : (a b : Bool) → cond a names.Timed names.Run ≡ names.Run
        → row_of (cond a timed_options (cond b run_options (cycles_option ∷ run_options))) word ≡ Some meaning → row_of run_options word ≡ Some meaning
    go true b run found = absurd (cc)
    go false true run found = found
    go false false run found = undecided (bytes_eq cycles_option.0 word) found
untimed_row _ chosen word meaning is known other = absurd (cc)
