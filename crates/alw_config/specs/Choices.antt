-- How the program holds the choices that options make.
use Rattle.std.specs.Prelude.{◌≡◌, ℕ, suc, ◌<◌, ◌≤◌, ◌==◌, ◌||◌, ◌&&◌, nat_le, Bool, true, false}
use Rattle.std.specs.Prelude.{⊤, IsTrue, List, [], ◌∷◌, slice_index_or, if◌then◌else◌, Option, None, IfSome, is_some, option_map}
use Rattle.std.specs.Option.{option_map_or}
use Rattle.std.specs.List.{AllByRecursion, list_any}
use Rattle.alw_image.specs.Parameters.{AreParameters, set_counts}
use Rattle.alw_config.specs.declared.commands.Asked.{Asked}
use Rattle.alw_config.specs.declared.commands.Asked.TheVariants as asked
use Rattle.alw_config.specs.declared.commands.Work.{Work}
use Rattle.alw_config.specs.declared.commands.Command.{Command}
use Rattle.alw_config.specs.declared.commands.Command.TheVariants as command
use Rattle.alw_config.specs.declared.rows.How.TheVariants as hows
use Rattle.alw_config.specs.declared.commands.TimedForm.TheVariants as timed
use Rattle.alw_config.specs.declared.rows.Made.{Made}
use Rattle.alw_config.specs.declared.rows.Name.{Name}
use Rattle.alw_config.specs.declared.rows.Name.TheVariants as names
use Rattle.alw_config.specs.declared.rows.Rule.{Rule}
use Rattle.alw_config.specs.declared.rows.Value.{Value}
use Rattle.alw_config.specs.declared.rows.Value.TheVariants as values
use Rattle.alw_config.specs.declared.rows.Kind.{Kind}
use Rattle.alw_config.specs.declared.rows.Kind.TheVariants.{Seed, Workers, Between, SetCount, Pointers, AsmForm, AuditForm, TimeForm, Form, RunForm, TimedForm}
use Rattle.alw_config.specs.Table.{Options, options_of, run_options, open_by, made, taken, taken_by, breaks}
use Rattle.alw_config.specs.Places.{is_bad_option}

-- each option's choice has one of seventeen places
abbrev pub HavePlaces : Options → Type 0
HavePlaces options = AllByRecursion (λ row. row.1.choice < 17) options

-- a choice is made
abbrev pub is_chosen : List (Option Made) → ℕ → Bool
is_chosen chosen choice = is_some (slice_index_or chosen choice None)

-- the options that stand open, and the command that is meant, by the choices that are made
abbrev pub open_now : Name → List (Option Made) → Options
open_now name chosen = open_by name (is_chosen chosen)

abbrev pub taken_now : Name → List (Option Made) → Name
taken_now name chosen = taken_by name (is_chosen chosen)

-- a value is of a kind
abbrev pub is_of : Kind → Value → Bool
is_of Seed (values.How (hows.Seed n)) = true
is_of Workers (values.How (hows.Workers n)) = nat_le 1 n && nat_le n 256
is_of (Between least most) (values.Number n) = nat_le least n && nat_le n most
is_of SetCount (values.Number n) = list_any (λ count. n == count) set_counts
is_of Pointers (values.Number n) = (nat_le 1 n && nat_le n 8) || n == 256
is_of AsmForm (values.AsmForm form) = true
is_of AuditForm (values.AuditForm form) = true
is_of TimeForm (values.TimeForm form) = true
is_of Form (values.Form form) = true
is_of RunForm (values.TimedForm (timed.Run form)) = true
is_of TimedForm (values.TimedForm form) = true
is_of _ _ = false

-- a value is of the kind of an option that makes this choice
abbrev pub is_allowed : Options → ℕ → Value → Bool
is_allowed options choice value = list_any (λ row. row.1.choice == choice && is_of row.1.kind value) options

-- so is each value that makes a choice
abbrev pub ValuesAreAllowed : Options → List (Option Made) → Type 0
ValuesAreAllowed options chosen = (k : ℕ) → k < 17 → IfSome (slice_index_or chosen k None) (λ m. IsTrue (is_allowed options k m.value))

-- the options by which a command's choices are made: where a run isn't a timed one, none of those that a timed one alone has
abbrev pub allowed_of : Name → Options
allowed_of names.Run = run_options
allowed_of name = options_of name

-- no place behind the name is bad, and the choices are made so
pub record ChoicesAreMade (name : Name) (words : List (List ℕ)) (chosen : List (Option Made)) : Type 0 where
  pub right : (i : ℕ) → is_bad_option name words i ≡ false
  pub made_so : (k : ℕ) → k < 17 → slice_index_or chosen k None ≡ made (options_of name) k words
  pub taken_so : taken_now name chosen ≡ taken name words
  pub allowed : ValuesAreAllowed (allowed_of (taken_now name chosen)) chosen

-- the choices from one on, each as it is made, or else its default
abbrev pub values_by : ℕ → List (Option Made) → List Value → List Value
values_by k chosen [] = []
values_by k chosen (default ∷ rest) = option_map_or (λ m. m.value) (slice_index_or chosen k None) default ∷ values_by (suc k) chosen rest

-- what makes one choice
abbrev pub value_by : List (Option Made) → List Value → ℕ → Value
value_by chosen defaults k = option_map_or (λ m. m.value) (slice_index_or chosen k None) (slice_index_or defaults k (values.Number 0))

-- the choices of a rule have places
pub record HasChoices (rule : Rule) : Type 0 where
  pub one : rule.one < 17
  pub other : rule.other < 17
  pub third : rule.third < 17

-- the place of a third number that a rule doesn't allow
abbrev pub misfit_by : Rule → List (Option Made) → List Value → Option ℕ
misfit_by rule chosen defaults = if breaks rule (value_by chosen defaults) then option_map (λ m. m.at) (slice_index_or chosen rule.third None) else None

-- what a value is
abbrev pub IsNumber : Value → Type 0
IsNumber (values.Number n) = ⊤
IsNumber _ = ⊥

abbrev pub IsHow : Value → Type 0
IsHow (values.How how) = ⊤
IsHow _ = ⊥

abbrev pub IsAsmForm : Value → Type 0
IsAsmForm (values.AsmForm form) = ⊤
IsAsmForm _ = ⊥

abbrev pub IsAuditForm : Value → Type 0
IsAuditForm (values.AuditForm form) = ⊤
IsAuditForm _ = ⊥

abbrev pub IsTimeForm : Value → Type 0
IsTimeForm (values.TimeForm form) = ⊤
IsTimeForm _ = ⊥

abbrev pub IsForm : Value → Type 0
IsForm (values.Form form) = ⊤
IsForm _ = ⊥

abbrev pub IsRunForm : Value → Type 0
IsRunForm (values.TimedForm (timed.Run form)) = ⊤
IsRunForm _ = ⊥

abbrev pub IsTimedForm : Value → Type 0
IsTimedForm (values.TimedForm form) = ⊤
IsTimedForm _ = ⊥

-- the numbers of a workload are within their ranges, and its operations fit the mesh
pub record IsWorkload (width height size : ℕ) : Type 0 where
  pub columns : (1 ≤ width) × (width ≤ 16)
  pub rows : (1 ≤ height) × (height ≤ 16)
  pub some : 1 ≤ size
  pub most : size ≤ (if nat_le width 8 && nat_le height 8 then 255 else 63)

-- a run's parameters are parameters, and a workload's numbers fit together
abbrev pub CommandIsWithin : Command → Type 0
CommandIsWithin (command.Run seed params write) = AreParameters params
CommandIsWithin (command.RunByTime costs params write) = AreParameters params
CommandIsWithin (command.Gen seed width height size) = IsWorkload width height size
CommandIsWithin (command.Schedule params) = AreParameters params
CommandIsWithin _ = ⊤

-- workers are 1 to 256
pub record WorkIsWithin (work : Work) : Type 0 where
  pub parameters : AreParameters work.params
  pub some : 1 ≤ work.workers
  pub few : work.workers ≤ 256

abbrev pub AskedIsWithin : Asked → Type 0
AskedIsWithin (asked.Alone it) = CommandIsWithin it
AskedIsWithin (asked.Workers work) = WorkIsWithin work
