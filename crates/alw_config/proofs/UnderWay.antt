-- The pairs of an option and its value that are read, and what is left of the words.
use Rattle.std.proofs.Common.{◌≡◌, ◌≢◌, ℕ, ◌+◌, ◌-◌, ◌*◌, ◌<◌, ◌≤◌, ◌||◌, Bool, true, false}
use Rattle.std.proofs.Common.{List, [], ◌∷◌, ◌++◌, map, length, refl, sym, subst, ap, ◌∙◌, ⊎_elim, arith, append_assoc, length-append}
use Rattle.std.specs.Prelude.{Option, None, Some, IfSome, IsTrue, is_some, slice_get, slice_index_or, slice_set, option_map, option_and_then}
use Rattle.std.specs.Option.{option_map_or}
use Rattle.std.proofs.lemmas.Bool.{cases_lt, eq-eqb, ne_eqb}
use Rattle.std.proofs.lemmas.List.{append-nil}
use Rattle.std.proofs.lemmas.Grind.{common_steps}
use Rattle.alw_num.proofs.Weigh.{is_node}
use Rattle.alw_config.specs.declared.rows.Made.{Made}
use Rattle.alw_config.specs.declared.rows.Meaning.{Meaning}
use Rattle.alw_config.specs.declared.rows.Name.{Name}
use Rattle.alw_config.specs.declared.rows.Name.TheVariants as names
use Rattle.alw_config.specs.declared.rows.Value.{Value}
use Rattle.alw_config.specs.Values.{row_of, value_of}
use Rattle.alw_config.specs.Table.{Options, options_of, run_options, open_options, makes, value_behind, is_made, made, taken}
use Rattle.alw_config.specs.Places.{IsRefusedBehind, is_bad_option, is_bad_name, is_bad_value}
use Rattle.alw_config.specs.Choices.{HavePlaces, ChoicesAreMade, ValuesAreAllowed, is_allowed, is_chosen, open_now, taken_now}
use Rattle.alw_config.proofs.Allowed.{value_of_kind, row_allowed, chosen_allowed}
use Rattle.alw_config.proofs.Made.{made_at, is_made-more, made-last, made-before, count, count-le, count-set, is_none}
use Rattle.alw_config.proofs.Opened.{by_row, MeaningStands, stands, open_same, taken_same, untimed_before, untimed_row}
use Rattle.alw_config.proofs.Stops.{bad_name, bad_value, right_behind}

pub record WordsAreUnderWay (name : Name) (words left : List (List ℕ)) (chosen : List (Option Made)) (at : ℕ) : Type 0 where
  pub done : List (List ℕ)
  pub parts : words ≡ done ++ left
  pub place : at ≡ length done + 1
  pub pairs : length done ≡ 2 * count chosen
  pub right : (i : ℕ) → i < length done → is_bad_option name words i ≡ false
  pub sized : length chosen ≡ 17
  pub made_so : (k : ℕ) → k < 17 → slice_index_or chosen k None ≡ made (options_of name) k done
  pub is_made_so : (k : ℕ) → k < 17 → is_chosen chosen k ≡ is_made (options_of name) k done
  pub untimed : taken name done ≡ names.Run → ValuesAreAllowed run_options chosen

pub begins : (name : Name) (words : List (List ℕ)) (chosen : List (Option Made)) → length chosen ≡ 17 → count chosen ≡ 0
    → ((k : ℕ) → k < 17 → slice_index_or chosen k None ≡ None) → WordsAreUnderWay name words words chosen 1
begins name words chosen sized none each = record {
  done = [];
  parts = refl;
  place = refl;
  pairs = omega (arith, none);
  right = λ i l. absurd (omega arith);
  sized = sized;
  made_so = each;
  is_made_so = λ k l. ap is_some (each k l);
  untimed = λ is k l. rw (each k l) tt;
}

-- no place is far, since few choices are left
pub near : (name : Name) (words left : List (List ℕ)) (chosen : List (Option Made)) (at : ℕ) → WordsAreUnderWay name words left chosen at →
    at ≤ 2 * 17 + 1
near name words left chosen at way = omega (arith, way.place, way.pairs, way.sized, count-le chosen)

-- what stands open by the choices that are made does so behind the words that are read
open_so : (name : Name) (words left : List (List ℕ)) (chosen : List (Option Made)) (at : ℕ) (way : WordsAreUnderWay name words left chosen at) (word : List ℕ)
    (o : Option Meaning) → row_of (open_now name chosen) word ≡ o → row_of (open_options name way.done) word ≡ o
open_so name words left chosen at way word o known =
    ap (λ (options : Options). row_of options word)
    (open_same name (λ k. is_made (options_of name) k way.done) (is_chosen chosen) (λ k l. sym (way.is_made_so k l))) ∙ known

-- what a value behind a known option is
behind_is : (options : Options) (word value : List ℕ) (meaning : Meaning) → row_of options word ≡ Some meaning →
    value_behind options word value ≡ value_of meaning.kind value
behind_is options word value meaning known = ap (option_and_then (λ (m : Meaning). value_of m.kind value)) known

module _ (name : Name) (words : List (List ℕ)) (word : List ℕ) (left : List (List ℕ)) (chosen : List (Option Made)) (at : ℕ)
    (way : WordsAreUnderWay name words (word ∷ left) chosen at) where
  -- refused at a name
  stops : is_bad_name name way.done word ≡ true → IsRefusedBehind name words at
  stops bad =
      let place : at - 1 ≡ length way.done = omega (arith, way.place) in
      record {
        behind = omega (arith, way.place);
        first = rw place (record {
          here = rw way.parts (bad_name name way.done (count chosen) word left way.pairs ∙ bad);
          none_before = way.right;
        });
      }

  -- what is bad of a name that is found, or isn't
  bad_so : (o : Option Meaning) → row_of (open_now name chosen) word ≡ o
      → is_bad_name name way.done word ≡ option_map_or (λ (meaning : Meaning). is_made (options_of name) meaning.choice way.done) o true
  bad_so o known = ap (λ (row : Option Meaning). option_map_or (λ (meaning : Meaning). is_made (options_of name) meaning.choice way.done) row true)
      (open_so name words (word ∷ left) chosen at way word o known)

  pub unknown : row_of (open_now name chosen) word ≡ None → IsRefusedBehind name words at
  unknown none = stops (bad_so None none)

  module _ (meaning : Meaning) (known : row_of (open_now name chosen) word ≡ Some meaning) (within : meaning.choice < 17) where
    -- a name is bad where its choice is made
    name_is : is_bad_name name way.done word ≡ is_some (slice_index_or chosen meaning.choice None)
    name_is = bad_so (Some meaning) known ∙ sym (way.is_made_so meaning.choice within)

    pub again : is_some (slice_index_or chosen meaning.choice None) ≡ true → IsRefusedBehind name words at
    again twice = stops (name_is ∙ twice)

    module _ (fresh : is_some (slice_index_or chosen meaning.choice None) ≡ false) where
      -- a name that isn't bad
      named : (i : ℕ) → i < length way.done + 1 → is_bad_option name words i ≡ false
      named i l = ⊎_elim (way.right i) here (cases_lt i (length way.done))
        where
          here : length way.done ≤ i → is_bad_option name words i ≡ false
          here past =
              let same : i ≡ length way.done = omega arith in
              rw (same, way.parts) (bad_name name way.done (count chosen) word left way.pairs ∙ name_is ∙ fresh)

      -- what is bad of a value
      value_is : (value : List ℕ) → value_behind (open_options name way.done) word value ≡ value_of meaning.kind value
      value_is value = behind_is (open_options name way.done) word value meaning (open_so name words (word ∷ left) chosen at way word (Some meaning) known)

      -- refused at a value
      at_value : is_bad_value (open_options name way.done) word (slice_get left 0) ≡ true → IsRefusedBehind name words (at + 1)
      at_value bad =
          let place : at + 1 - 1 ≡ length way.done + 1 = omega (arith, way.place) in
          record {
            behind = omega arith;
            first = rw place (record {
              here = rw way.parts (bad_value name way.done (count chosen) word left way.pairs ∙ bad);
              none_before = named;
            });
          }

      pub missing : slice_get left 0 ≡ None → IsRefusedBehind name words (at + 1)
      missing none = at_value (ap (is_bad_value (open_options name way.done) word) none)

      pub disallowed : (value : List ℕ) → slice_get left 0 ≡ Some value → value_of meaning.kind value ≡ None → IsRefusedBehind name words (at + 1)
      disallowed value first none = at_value (ap (is_bad_value (open_options name way.done) word) first ∙ rw (value_is value, none) refl)

-- a list with one place set
set_same : (chosen : List (Option Made)) (k : ℕ) (o : Option Made) → k < length chosen → slice_index_or (slice_set chosen k o) k None ≡ o
set_same chosen k o l = grind (arith, common_steps)

set_other : (chosen : List (Option Made)) (k j : ℕ) (o : Option Made) → j ≢ k → slice_index_or (slice_set chosen k o) j None ≡ slice_index_or chosen j None
set_other chosen k j o other = grind (arith, common_steps)

set_sized : (chosen : List (Option Made)) (k : ℕ) (o : Option Made) → length (slice_set chosen k o) ≡ length chosen
set_sized chosen k o = grind (arith, common_steps)

pub goes_on : (name : Name) (words : List (List ℕ)) (word value : List ℕ) (left : List (List ℕ)) (chosen : List (Option Made)) (at : ℕ) →
    WordsAreUnderWay name words (word ∷ value ∷ left) chosen at
    → (meaning : Meaning) → row_of (open_now name chosen) word ≡ Some meaning → meaning.choice < 17 →
    is_some (slice_index_or chosen meaning.choice None) ≡ false → (v : Value) → value_of meaning.kind value ≡ Some v
    → WordsAreUnderWay name words left (slice_set chosen meaning.choice (Some (made_at (at + 1) v))) (at + 2)
goes_on name words word value left chosen at way meaning known within fresh v allowed = record {
  done = more;
  parts = way.parts ∙ sym (append_assoc way.done (word ∷ value ∷ []) left);
  place = omega (arith, way.place, longer);
  pairs = omega (arith, way.pairs, longer, count-set chosen meaning.choice (made_at (at + 1) v) (omega (arith, way.sized)) (is_none _ fresh));
  right = λ i l. ⊎_elim (named name words word (value ∷ left) chosen at way meaning known within fresh i) (last i l) (cases_lt i (length way.done + 1));
  sized = set_sized chosen meaning.choice (Some (made_at (at + 1) v)) ∙ way.sized;
  made_so = λ k l. is_node _ k meaning.choice (λ same. subst (λ (j : ℕ). slice_index_or now j None ≡ made options j more) (sym same) made_here)
      (made_there k l);
  is_made_so = λ k l. is_node _ k meaning.choice
      (λ same. subst (λ (j : ℕ). is_chosen now j ≡ is_made options j more) (sym same) is_made_here) (is_made_there k l);
  untimed = λ is k l. is_node _ k meaning.choice
      (λ same. subst (λ (j : ℕ). IfSome (slice_index_or now j None) (λ m. IsTrue (is_allowed run_options j m.value))) (sym same) (allowed_here is))
      (λ other. rw (set_other chosen meaning.choice k (Some (made_at (at + 1) v)) other) (way.untimed (before is).0 k l));
}
  where
    options : Options
    options = options_of name

    more : List (List ℕ)
    more = way.done ++ word ∷ value ∷ []

    now : List (Option Made)
    now = slice_set chosen meaning.choice (Some (made_at (at + 1) v))

    whole : MeaningStands options word meaning
    whole = stands name (is_chosen chosen) word meaning known

    longer : length more ≡ length way.done + 2
    longer = length-append way.done (word ∷ value ∷ [])

    last : (i : ℕ) → i < length more → length way.done + 1 ≤ i → is_bad_option name words i ≡ false
    last i l past =
        let same : i ≡ length way.done + 1 = omega (arith, longer) in
        let right : is_bad_value (open_options name way.done) word (Some value) ≡ false =
        rw (value_is name words word (value ∷ left) chosen at way meaning known within fresh value, allowed) refl in
        rw (same, way.parts) (bad_value name way.done (count chosen) word (value ∷ left) way.pairs ∙ right)

    here : slice_index_or now meaning.choice None ≡ Some (made_at (at + 1) v)
    here = set_same chosen meaning.choice (Some (made_at (at + 1) v)) (omega (arith, way.sized))

    makes_here : makes options meaning.choice word ≡ true
    makes_here = whole.makes_so meaning.choice ∙ eq-eqb meaning.choice meaning.choice refl

    none : is_made options meaning.choice way.done ≡ false
    none = sym (way.is_made_so meaning.choice within) ∙ fresh

    made_here : slice_index_or now meaning.choice None ≡ made options meaning.choice more
    made_here = here
        ∙ sym (made-last options meaning.choice word value 1 (at + 1) way.done (count chosen) way.pairs (omega (arith, way.place)) none makes_here
        ∙ ap (option_map (made_at (at + 1))) (whole.stands_for value v allowed))

    is_made_here : is_chosen now meaning.choice ≡ is_made options meaning.choice more
    is_made_here = ap is_some here ∙ sym (is_made-more options meaning.choice word value way.done (count chosen) way.pairs ∙ rw (none, makes_here) refl)

    makes_there : (k : ℕ) → k ≢ meaning.choice → makes options k word ≡ false
    makes_there k other = whole.makes_so k ∙ ne_eqb meaning.choice k (λ same. other (sym same))

    made_there : (k : ℕ) → k < 17 → k ≢ meaning.choice → slice_index_or now k None ≡ made options k more
    made_there k l other = set_other chosen meaning.choice k (Some (made_at (at + 1) v)) other ∙ way.made_so k l
        ∙ sym (made-before options k word value 1 way.done (count chosen) way.pairs (makes_there k other))

    or_false : (b : Bool) → (b || false) ≡ b
    or_false true = refl
    or_false false = refl

    is_made_there : (k : ℕ) → k < 17 → k ≢ meaning.choice → is_chosen now k ≡ is_made options k more
    is_made_there k l other =
        ap is_some (set_other chosen meaning.choice k (Some (made_at (at + 1) v)) other) ∙ way.is_made_so k l
        ∙ sym (is_made-more options k word value way.done (count chosen) way.pairs
        ∙ ap (λ (b : Bool). is_made options k way.done || b) (makes_there k other) ∙ or_false (is_made options k way.done))

    -- where a run isn't timed yet
    before : taken name more ≡ names.Run → (taken name way.done ≡ names.Run) × (makes options 6 word ≡ false)
    before is = untimed_before name (λ k. is_made options k more) (λ k. is_made options k way.done) (makes options 6 word) is
        (is_made-more options 6 word value way.done (count chosen) way.pairs)

    allowed_here : taken name more ≡ names.Run → IfSome (slice_index_or now meaning.choice None) (λ m. IsTrue (is_allowed run_options meaning.choice m.value))
    allowed_here is =
        let row = untimed_row name (is_chosen chosen) word meaning
        (taken_same name (is_chosen chosen) (λ k. is_made options k way.done) way.is_made_so ∙ (before is).0) known
        (sym (whole.makes_so 6) ∙ (before is).1) in
        rw here (row_allowed run_options meaning.choice word meaning v row (eq-eqb meaning.choice meaning.choice refl)
        (value_of_kind meaning.kind value v allowed))

pub ends : (name : Name) (words : List (List ℕ)) (chosen : List (Option Made)) (at : ℕ) → WordsAreUnderWay name words [] chosen at →
    ChoicesAreMade name words chosen
ends name words chosen at way = record {
  right = λ i. ⊎_elim (way.right i)
      (λ past. right_behind name words (count chosen) i (omega (arith, way.pairs, ap length whole)) (omega (arith, ap length whole)))
      (cases_lt i (length way.done));
  made_so = so;
  taken_so = taken_there ∙ ap (taken name) (sym whole);
  allowed = chosen_allowed name words chosen so (λ run. way.untimed (sym taken_there ∙ run));
}
  where
    whole : words ≡ way.done
    whole = way.parts ∙ append-nil way.done

    so : (k : ℕ) → k < 17 → slice_index_or chosen k None ≡ made (options_of name) k words
    so k l = way.made_so k l ∙ ap (made (options_of name) k) (sym whole)

    taken_there : taken_now name chosen ≡ taken name way.done
    taken_there = taken_same name (is_chosen chosen) (λ k. is_made (options_of name) k way.done) way.is_made_so

-- ---- from the code's words

-- each option that is found has a place
pub place_within : (options : Options) (word : List ℕ) (meaning : Meaning) → HavePlaces options → row_of options word ≡ Some meaning →
    meaning.choice < 17
place_within options word meaning places known = by_row (λ word (m : Meaning). m.choice < 17) options word meaning places known

-- no word is left, or a first one
pub first_missing : {X : Type 0} (f : X → List ℕ) (xs : List X) → length xs ≡ 0 → slice_get (map f xs) 0 ≡ None
first_missing f [] e = refl
first_missing f (x ∷ xs) e = absurd (omega (arith, e))

pub first_is : {X : Type 0} (f : X → List ℕ) (xs : List X) (x : X) (rest : List X) → xs ≡ x ∷ rest → slice_get (map f xs) 0 ≡ Some (f x)
first_is f xs x rest parts = rw parts refl

pub no_word : {X : Type 0} (f : X → List ℕ) (xs : List X) → length xs ≡ 0 → map f xs ≡ []
no_word f [] e = refl
no_word f (x ∷ xs) e = absurd (omega (arith, e))
