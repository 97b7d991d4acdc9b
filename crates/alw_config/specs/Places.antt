-- Which places of the words are bad. Place 0 is the command's. Behind it, options stand at the even places,
-- counted from 0, and their values at the odd ones.
use Rattle.std.specs.Prelude.{◌≡◌, ℕ, zero, suc, ◌-◌, ◌%◌, ◌<◌, ◌≤◌, ◌==◌, ◌⊎◌, Bool, true, false, List, [], ◌∷◌, take, slice_get, if◌then◌else◌}
use Rattle.std.specs.Prelude.{Option, None, Some, is_none, option_and_then}
use Rattle.std.specs.Option.{option_map_or}
use Rattle.alw_config.specs.declared.commands.Asked.{Asked}
use Rattle.alw_config.specs.declared.rows.Meaning.{Meaning}
use Rattle.alw_config.specs.declared.rows.Name.{Name}
use Rattle.alw_config.specs.Values.{row_of}
use Rattle.alw_config.specs.Table.{Options, commands, options_of, open_options, defaults_of, rule_of, value_behind, is_made, taken, misfit, values_from, asked_of}

-- behind these words the word is no option of the command that stands open, or one whose choice is made before
abbrev pub is_bad_name : Name → List (List ℕ) → List ℕ → Bool
is_bad_name name before word =
    option_map_or (λ (meaning : Meaning). is_made (options_of name) meaning.choice before) (row_of (open_options name before) word) true

-- the option takes no such value; a missing word is no value
abbrev pub is_bad_value : Options → List ℕ → Option (List ℕ) → Bool
is_bad_value options option word = is_none (option_and_then (value_behind options option) word)

-- place i behind the command's name is bad
abbrev pub is_bad_option : Name → List (List ℕ) → ℕ → Bool
is_bad_option name words i =
    if i % 2 == 0 then option_map_or (is_bad_name name (take i words)) (slice_get words i) false
    else option_map_or (λ option. is_bad_value (open_options name (take (i - 1) words)) option (slice_get words i)) (slice_get words (i - 1)) false

-- a place of the words is bad: at 0 the command is missing or unknown
abbrev pub is_bad : List (List ℕ) → ℕ → Bool
is_bad [] zero = true
is_bad [] (suc i) = false
is_bad (word ∷ rest) zero = is_none (row_of commands word)
is_bad (word ∷ rest) (suc i) = option_map_or (λ name. is_bad_option name rest i) (row_of commands word) false

-- the first place that passes a test
pub record IsFirstPlace (test : ℕ → Bool) (place : ℕ) : Type 0 where
  pub here : test place ≡ true
  pub none_before : (j : ℕ) → j < place → test j ≡ false

-- the words behind a command's name are refused at this place, which counts from the name on
pub record IsRefusedBehind (name : Name) (words : List (List ℕ)) (at : ℕ) : Type 0 where
  pub behind : 1 ≤ at
  pub first : IsFirstPlace (is_bad_option name words) (at - 1)

-- no place of the words is bad
abbrev pub PlacesAreRight : List (List ℕ) → Type 0
PlacesAreRight words = (i : ℕ) → is_bad words i ≡ false

-- the place of a value that the others don't allow
abbrev pub misfit_in : List (List ℕ) → Option ℕ
misfit_in [] = None
misfit_in (word ∷ rest) =
    option_and_then (λ name. option_and_then (λ rule. misfit rule (options_of name) (defaults_of (taken name rest)) rest) (rule_of (taken name rest)))
    (row_of commands word)

-- the words are refused at this place: the first bad one, or where none is, that of a value that the others don't allow
abbrev pub IsRefusedAt : List (List ℕ) → ℕ → Type 0
IsRefusedAt words at = IsFirstPlace (is_bad words) at ⊎ (PlacesAreRight words × (misfit_in words ≡ Some at))

-- what the words ask for, by the tables
abbrev pub asked : List (List ℕ) → Option Asked
asked [] = None
asked (word ∷ rest) =
    option_and_then (λ name. asked_of (taken name rest) (values_from 0 (options_of name) (defaults_of (taken name rest)) rest)) (row_of commands word)

-- no place of the words is bad, the values allow one another, and they ask for this
pub record AskFor (words : List (List ℕ)) (it : Asked) : Type 0 where
  pub right : PlacesAreRight words
  pub fits : misfit_in words ≡ None
  pub asks : asked words ≡ Some it
