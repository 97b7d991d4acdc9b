-- From the words behind a command's name to all words.
use Rattle.std.proofs.Common.{◌≡◌, ℕ, zero, suc, ◌+◌, ◌-◌, ◌<◌, ◌≤◌, Bool, true, false, List, [], ◌∷◌, length, refl, sym, ap, ◌∙◌, inl, inr, arith}
use Rattle.std.specs.Prelude.{Some, None, Option, IfSome, is_none, option_and_then}
use Rattle.std.specs.Option.{option_map_or}
use Rattle.alw_config.specs.declared.commands.Asked.{Asked}
use Rattle.alw_config.specs.declared.rows.Made.{Made}
use Rattle.alw_config.specs.declared.rows.Name.{Name}
use Rattle.alw_config.specs.declared.rows.Rule.{Rule}
use Rattle.alw_config.specs.declared.rows.Value.{Value}
use Rattle.alw_config.specs.Values.{row_of}
use Rattle.alw_config.specs.Table.{commands, options_of, defaults_of, rule_of, taken, misfit, values_from, asked_of}
use Rattle.alw_config.specs.Places.{PlacesAreRight, IsFirstPlace, IsRefusedAt, IsRefusedBehind, AskFor, is_bad, is_bad_option, misfit_in}
use Rattle.alw_config.specs.Choices.{ChoicesAreMade, HasChoices, taken_now, values_by, misfit_by}
use Rattle.alw_config.proofs.Allowed.{few_defaults, rule_has}

-- ---- refused at the name

nothing_before : (test : ℕ → Bool) → test 0 ≡ true → IsFirstPlace test 0
nothing_before test here = record { here = here; none_before = λ j l. absurd (omega arith) }

pub missing_name : (words : List (List ℕ)) → words ≡ [] → IsRefusedAt words 0
missing_name words none = inl (nothing_before (is_bad words) (ap (λ (ws : List (List ℕ)). is_bad ws 0) none))

pub unknown_name : (word : List ℕ) (rest : List (List ℕ)) → row_of commands word ≡ None → IsRefusedAt (word ∷ rest) 0
unknown_name word rest none = inl (nothing_before (is_bad (word ∷ rest)) (ap (λ (row : Option Name). is_none row) none))

-- ---- refused behind it

module _ (word : List ℕ) (rest : List (List ℕ)) (name : Name) (known : row_of commands word ≡ Some name) where
  -- the place of a word behind the name
  behind : (i : ℕ) → is_bad (word ∷ rest) (suc i) ≡ is_bad_option name rest i
  behind i = ap (λ (row : Option Name). option_map_or (λ (n : Name). is_bad_option n rest i) row false) known

  named : is_bad (word ∷ rest) 0 ≡ false
  named = ap (λ (row : Option Name). is_none row) known

  pub refused : (at : ℕ) → IsRefusedBehind name rest at → IsRefusedAt (word ∷ rest) at
  refused zero stop = absurd (omega (arith, stop.behind))
  refused (suc at) stop = inl (record {
    here = behind at ∙ rw same at stop.first.here;
    none_before = before;
  })
    where
      same : suc at - 1 ≡ at
      same = omega arith

      before : (j : ℕ) → j < suc at → is_bad (word ∷ rest) j ≡ false
      before zero l = named
      before (suc j) l = behind j ∙ stop.first.none_before j (omega arith)

-- the choices as the program holds them are those of the words
values_are : (name : Name) (words : List (List ℕ)) (chosen : List (Option Made)) (k : ℕ) (defaults : List Value) → ChoicesAreMade name words chosen →
    k + length defaults ≤ 17
    → values_from k (options_of name) defaults words ≡ values_by k chosen defaults
values_are name words chosen k [] all few = refl
values_are name words chosen k (default ∷ rest) all few =
    rw (all.made_so k (omega (arith, few)), values_are name words chosen (suc k) rest all (omega (arith, few))) refl

-- and so is the place that a rule refuses
misfit_is : (name : Name) (words : List (List ℕ)) (chosen : List (Option Made)) (defaults : List Value) (rule : Rule) → ChoicesAreMade name words chosen
    → HasChoices rule → misfit rule (options_of name) defaults words ≡ misfit_by rule chosen defaults
misfit_is name words chosen defaults rule all has =
    rw (all.made_so rule.one has.one, all.made_so rule.other has.other, all.made_so rule.third has.third) refl

module _ (word : List ℕ) (rest : List (List ℕ)) (name : Name) (chosen : List (Option Made)) (known : row_of commands word ≡ Some name)
    (all : ChoicesAreMade name rest chosen) where
  right : PlacesAreRight (word ∷ rest)
  right zero = named word rest name known
  right (suc i) = behind word rest name known i ∙ all.right i

  -- the command that is meant
  abbrev pub meant : Name
  meant = taken_now name chosen

  -- the place of a misfit
  abbrev pub place : Option ℕ
  place = option_and_then (λ (rule : Rule). misfit_by rule chosen (defaults_of meant)) (rule_of meant)

  misfit_so : misfit_in (word ∷ rest) ≡ place
  misfit_so =
      ap (option_and_then (λ (n : Name). option_and_then (λ (rule : Rule). misfit rule (options_of n) (defaults_of (taken n rest)) rest) (rule_of (taken n rest)))) known
      ∙ ap (λ (n : Name). option_and_then (λ (rule : Rule). misfit rule (options_of name) (defaults_of n) rest) (rule_of n)) (sym all.taken_so)
      ∙ go (rule_of meant) (rule_has meant)
    where
      go : (o : Option Rule) → IfSome o HasChoices
          → option_and_then (λ (rule : Rule). misfit rule (options_of name) (defaults_of meant) rest) o ≡ option_and_then
          (λ (rule : Rule). misfit_by rule chosen (defaults_of meant)) o
      go None has = refl
      go (Some rule) has = misfit_is name rest chosen (defaults_of meant) rule all has

  pub misfitted : (at : ℕ) → place ≡ Some at → IsRefusedAt (word ∷ rest) at
  misfitted at is = inr (right, misfit_so ∙ is)

  pub accepted : (it : Asked) → place ≡ None → asked_of meant (values_by 0 chosen (defaults_of meant)) ≡ Some it → AskFor (word ∷ rest) it
  accepted it none is = record {
    right = right;
    fits = misfit_so ∙ none;
    asks = ap (option_and_then (λ (n : Name). asked_of (taken n rest) (values_from 0 (options_of n) (defaults_of (taken n rest)) rest))) known
        ∙ ap (λ (n : Name). asked_of n (values_from 0 (options_of name) (defaults_of n) rest)) (sym all.taken_so)
        ∙ ap (asked_of meant) (values_are name rest chosen 0 (defaults_of meant) all (omega (arith, few_defaults meant))) ∙ is;
  }
