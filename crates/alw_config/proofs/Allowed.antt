-- What makes a choice is of the kind of an option that makes it.
use Rattle.std.proofs.Common.{◌≡◌, ℕ, zero, suc, ◌+◌, ◌<◌, ◌≤◌, ◌||◌, ◌&&◌, ◌==◌, nat_le, Bool}
use Rattle.std.proofs.Common.{true, false, cond, List, [], ◌∷◌, codes, length, refl, sym, ap, subst, arith}
use Rattle.std.specs.Prelude.{Option, None, Some, IfSome, IsTrue, slice_index_or, option_map, option_and_then, bytes_eq}
use Rattle.std.specs.Option.{option_map_or}
use Rattle.std.specs.List.{list_any}
use Rattle.std.proofs.lemmas.Bool.{and_parts}
use Rattle.alw_image.specs.Parameters.{set_counts}
use Rattle.alw_config.specs.declared.rows.How.TheVariants as hows
use Rattle.alw_config.specs.declared.commands.TimedForm.TheVariants as timed
use Rattle.alw_config.specs.declared.rows.Made.{Made}
use Rattle.alw_config.specs.declared.rows.Meaning.{Meaning}
use Rattle.alw_config.specs.declared.rows.Name.{Name}
use Rattle.alw_config.specs.declared.rows.Name.TheVariants as names
use Rattle.alw_config.specs.declared.rows.Kind.{Kind}
use Rattle.alw_config.specs.declared.rows.Kind.TheVariants as kinds
use Rattle.alw_config.specs.declared.rows.Value.{Value}
use Rattle.alw_config.specs.declared.rows.Value.TheVariants as values
use Rattle.alw_config.specs.Values.{row_of, asm_forms, audit_forms, time_forms, forms, timed_forms, number_if, value_of}
use Rattle.alw_config.specs.Table.{Options, options_of, run_options, defaults_of, rule_of, made_from, made}
use Rattle.alw_config.specs.Choices.{HasChoices, is_chosen, taken_now, allowed_of, is_of, is_allowed, ValuesAreAllowed, value_by}
use Rattle.alw_config.proofs.Made.{made_at}
use Rattle.alw_config.proofs.Spelled.{passed_if}

-- ---- of a kind

number_of_kind : (f : ℕ → Value) (test : ℕ → Bool) (word : List ℕ) (v : Value) (P : Value → Bool) →
    ((n : ℕ) → test n ≡ true → P (f n) ≡ true) → option_map f (number_if test word) ≡ Some v → P v ≡ true
number_of_kind f test word v P is found = go (number_if test word) refl found
  where
    go : (o : Option ℕ) → number_if test word ≡ o → option_map f o ≡ Some v → P v ≡ true
    go None e none = absurd (cc)
    go (Some n) e some = let same : f n ≡ v = cc in subst (λ (u : Value). P u ≡ true) same (is n (passed_if test word n e))

mapped : {A : Type 0} (f : A → Value) (o : Option A) (v : Value) (P : Value → Bool) → ((a : A) → P (f a) ≡ true) → option_map f o ≡ Some v → P v ≡ true
mapped f None v P is found = absurd (cc)
mapped f (Some a) v P is found = let same : f a ≡ v = cc in subst (λ (u : Value). P u ≡ true) same (is a)

-- as many pointers as there can be, or a few
pointers_of_kind : (word : List ℕ) (v : Value) (b : Bool) →
    option_map values.Number (cond b (Some 256) (number_if (λ n. nat_le 1 n && nat_le n 8) word)) ≡ Some v → is_of kinds.Pointers v ≡ true
pointers_of_kind word v true all = let same : values.Number 256 ≡ v = cc in subst (λ (u : Value). is_of kinds.Pointers u ≡ true) same refl
pointers_of_kind word v false few =
    number_of_kind values.Number (λ n. nat_le 1 n && nat_le n 8) word v (is_of kinds.Pointers) (λ n is. rw is refl) few

pub value_of_kind : (kind : Kind) (word : List ℕ) (v : Value) → value_of kind word ≡ Some v → is_of kind v ≡ true
value_of_kind kinds.Seed word v found = mapped _ _ v (is_of kinds.Seed) (λ a. refl) found
value_of_kind kinds.Workers word v found =
    number_of_kind (λ n. values.How (hows.Workers n)) (λ n. nat_le 1 n && nat_le n 256) word v (is_of kinds.Workers) (λ n is. is) found
value_of_kind (kinds.Between least most) word v found =
    number_of_kind values.Number (λ n. nat_le least n && nat_le n most) word v (is_of (kinds.Between least most)) (λ n is. is) found
value_of_kind kinds.SetCount word v found = number_of_kind values.Number (λ n. list_any (λ count. n == count) set_counts) word v (is_of kinds.SetCount) (λ n is. is) found
value_of_kind kinds.Pointers word v found = pointers_of_kind word v (bytes_eq word (codes "all")) found
value_of_kind kinds.AsmForm word v found = mapped values.AsmForm (row_of asm_forms word) v (is_of kinds.AsmForm) (λ a. refl) found
value_of_kind kinds.AuditForm word v found = mapped values.AuditForm (row_of audit_forms word) v (is_of kinds.AuditForm) (λ a. refl) found
value_of_kind kinds.TimeForm word v found = mapped values.TimeForm (row_of time_forms word) v (is_of kinds.TimeForm) (λ a. refl) found
value_of_kind kinds.Form word v found = mapped values.Form (row_of forms word) v (is_of kinds.Form) (λ a. refl) found
value_of_kind kinds.RunForm word v found = mapped (λ form. values.TimedForm (timed.Run form)) (row_of forms word) v (is_of kinds.RunForm) (λ a. refl) found
value_of_kind kinds.TimedForm word v found = mapped values.TimedForm (row_of timed_forms word) v (is_of kinds.TimedForm) (λ a. refl) found

-- ---- of a choice

or_true : (b : Bool) → (b || true) ≡ true
or_true true = refl
or_true false = refl

pub row_allowed : (options : Options) (k : ℕ) (word : List ℕ) (meaning : Meaning) (v : Value) → row_of options word ≡ Some meaning →
    (meaning.choice == k) ≡ true → is_of meaning.kind v ≡ true → is_allowed options k v ≡ true
row_allowed [] k word meaning v known this of = absurd (cc)
row_allowed (row ∷ rest) k word meaning v known this of = go (bytes_eq row.0 word) known (λ later. row_allowed rest k word meaning v later this of)
  where
    go : (b : Bool) → cond b (Some row.1) (row_of rest word) ≡ Some meaning → (row_of rest word ≡ Some meaning → is_allowed rest k v ≡ true)
        → ((row.1.choice == k && is_of row.1.kind v) || is_allowed rest k v) ≡ true
    go true found more = let same : row.1 ≡ meaning = cc in rw (same, this, of) refl
    go false found more = rw (more found) (or_true (row.1.choice == k && is_of row.1.kind v))

made_allowed : (options : Options) (k from : ℕ) (words : List (List ℕ)) (m : Made) → made_from from options k words ≡ Some m →
    is_allowed options k m.value ≡ true
made_allowed options k from [] m found = absurd (cc)
made_allowed options k from (x ∷ []) m found = absurd (cc)
made_allowed options k from (x ∷ y ∷ rest) m found = go (row_of options x) refl found (made_allowed options k (from + 2) rest m)
  where
    go : (row : Option Meaning) → row_of options x ≡ row
        → cond (option_map_or (λ (meaning : Meaning). meaning.choice == k) row false)
        (option_map (made_at (from + 1)) (option_and_then (λ (meaning : Meaning). value_of meaning.kind y) row)) (made_from (from + 2) options k rest) ≡ Some m
        → (made_from (from + 2) options k rest ≡ Some m → is_allowed options k m.value ≡ true) → is_allowed options k m.value ≡ true
    go None e later more = more later
    go (Some meaning) e this more = here (meaning.choice == k) refl this
      where
        taken : (o : Option Value) → value_of meaning.kind y ≡ o →
            (meaning.choice == k) ≡ true → option_map (made_at (from + 1)) o ≡ Some m → is_allowed options k m.value ≡ true
        taken None value same none = absurd (cc)
        taken (Some v) value same found =
            let is : v ≡ m.value = ap (λ (o : Option Made). option_map_or (λ (made : Made). made.value) o v) found in
            subst (λ (u : Value). is_allowed options k u ≡ true) is (row_allowed options k x meaning v e same (value_of_kind meaning.kind y v value))

        here : (b : Bool) → (meaning.choice == k) ≡ b →
            cond b (option_map (made_at (from + 1)) (value_of meaning.kind y)) (made_from (from + 2) options k rest) ≡ Some m
            → is_allowed options k m.value ≡ true
        here true same found = taken (value_of meaning.kind y) refl same found
        here false other later = more later

-- what the words make is allowed
all_allowed : (options : Options) (words : List (List ℕ)) (chosen : List (Option Made)) →
    ((k : ℕ) → k < 17 → slice_index_or chosen k None ≡ made options k words) → ValuesAreAllowed options chosen
all_allowed options words chosen so k l = go (slice_index_or chosen k None) (sym (so k l))
  where
    go : (o : Option Made) → made options k words ≡ o → IfSome o (λ m. IsTrue (is_allowed options k m.value))
    go None e = tt
    go (Some m) e = made_allowed options k 1 words m e

pub chosen_allowed : (name : Name) (words : List (List ℕ)) (chosen : List (Option Made)) →
    ((k : ℕ) → k < 17 → slice_index_or chosen k None ≡ made (options_of name) k words) →
    (taken_now name chosen ≡ names.Run → ValuesAreAllowed run_options chosen) → ValuesAreAllowed (allowed_of (taken_now name chosen)) chosen
chosen_allowed names.Run words chosen so run = go (is_chosen chosen 6) run
  where
    go : (b : Bool) → (cond b names.Timed names.Run ≡ names.Run → ValuesAreAllowed run_options chosen)
        → ValuesAreAllowed (allowed_of (cond b names.Timed names.Run)) chosen
    go true run = all_allowed (options_of names.Run) words chosen so
    go false run = run refl
chosen_allowed _ words chosen so run = all_allowed _ words chosen so

-- and so is each default: these from one choice on are allowed
abbrev are_allowed : Options → ℕ → List Value → Bool
are_allowed options k [] = true
are_allowed options k (default ∷ rest) = is_allowed options k default && are_allowed options (suc k) rest

allowed_at : (options : Options) (from : ℕ) (defaults : List Value) (k choice : ℕ) → choice ≡ from + k → are_allowed options from defaults ≡ true →
    k < length defaults → is_allowed options choice (slice_index_or defaults k (values.Number 0)) ≡ true
allowed_at options from [] k choice place all l = absurd (omega arith)
allowed_at options from (default ∷ rest) zero choice place all l =
    let here : choice ≡ from = omega arith in rw here (and_parts (is_allowed options from default) (are_allowed options (suc from) rest) all).0
allowed_at options from (default ∷ rest) (suc k) choice place all l =
    allowed_at options (suc from) rest k choice (omega arith) (and_parts (is_allowed options from default) (are_allowed options (suc from) rest) all).1
    (omega arith)

defaults_allowed : (name : Name) → are_allowed (allowed_of name) 0 (defaults_of name) ≡ true
defaults_allowed names.Asm = refl
defaults_allowed _ = refl

pub few_defaults : (name : Name) → length (defaults_of name) ≤ 17
few_defaults names.Asm = omega arith
few_defaults _ = omega arith

pub value_allowed : (name : Name) (chosen : List (Option Made)) (k : ℕ) → ValuesAreAllowed (allowed_of name) chosen → k < length (defaults_of name)
    → IsTrue (is_allowed (allowed_of name) k (value_by chosen (defaults_of name) k))
value_allowed name chosen k allowed l = go (slice_index_or chosen k None) (allowed k (omega (arith, few_defaults name)))
  where
    go : (o : Option Made) → IfSome o (λ m. IsTrue (is_allowed (allowed_of name) k m.value))
        → IsTrue (is_allowed (allowed_of name) k (option_map_or (λ m. m.value) o (slice_index_or (defaults_of name) k (values.Number 0))))
    go None is = allowed_at (allowed_of name) 0 (defaults_of name) k k (omega arith) (defaults_allowed name) l
    go (Some m) is = is

-- the choices of a rule have places
pub rule_has : (name : Name) → IfSome (rule_of name) HasChoices
rule_has names.Gen = record { one = omega arith; other = omega arith; third = omega arith }
rule_has _ = tt
