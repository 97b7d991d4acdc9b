-- What words without a bad place ask for, by the tables of commands and options. A command leaves choices, numbered from 0, and an option makes
-- one of them, by a value of its kind.
use Rattle.std.specs.Prelude.{ℕ, suc, ◌+◌, ◌==◌, ◌||◌, ◌&&◌, nat_lt, Bool, false, List, [], ◌∷◌, ◌++◌, codes, slice_index_or, if◌then◌else◌}
use Rattle.std.specs.Prelude.{Option, None, Some, option_map, option_and_then}
use Rattle.std.specs.Option.{option_map_or}
use Rattle.alw_config.specs.declared.commands.Asked.{Asked}
use Rattle.alw_config.specs.declared.commands.Asked.TheVariants as asked
use Rattle.alw_config.specs.declared.commands.Command.{Command}
use Rattle.alw_config.specs.declared.commands.Command.TheVariants as command
use Rattle.alw_config.specs.declared.rows.Value.{Value}
use Rattle.alw_config.specs.declared.rows.Value.TheVariants.{Number, How, AsmForm, AuditForm, TimeForm, Form, TimedForm}
use Rattle.alw_config.specs.declared.rows.Name.{Name}
use Rattle.alw_config.specs.declared.rows.Name.TheVariants.{Asm, Run, Timed, Replay, Audit, Gen, Route, Save, Resume, Outcomes, Dis, Schedule, Time}
use Rattle.alw_config.specs.declared.rows.Kind.{Kind}
use Rattle.alw_config.specs.declared.rows.Kind.TheVariants as kinds
use Rattle.alw_config.specs.declared.rows.How.TheVariants as hows
use Rattle.alw_config.specs.declared.commands.AsmForm.TheVariants as asms
use Rattle.alw_config.specs.declared.commands.AuditForm.TheVariants as audits
use Rattle.alw_config.specs.declared.commands.TimeForm.TheVariants as times
use Rattle.alw_config.specs.declared.commands.Form.TheVariants as forms
use Rattle.alw_config.specs.declared.commands.TimedForm.TheVariants as timed
use Rattle.alw_config.specs.declared.rows.Meaning.{Meaning}
use Rattle.alw_config.specs.declared.rows.Made.{Made}
use Rattle.alw_config.specs.declared.rows.Rule.{Rule}
use Rattle.alw_config.specs.Values.{row_of, value_of}

-- the commands, by their names
abbrev pub commands : List (List ℕ × Name)
commands =
    (codes "asm", Asm) ∷ (codes "run", Run) ∷ (codes "replay", Replay) ∷ (codes "audit", Audit) ∷ (codes "gen", Gen) ∷ (codes "route", Route) ∷ (codes "save", Save) ∷
    (codes "resume", Resume) ∷ (codes "outcomes", Outcomes) ∷ (codes "schedule", Schedule) ∷ (codes "time", Time) ∷ (codes "dis", Dis) ∷ []

-- options, by their names
abbrev pub Options : Type 0
Options = List (List ℕ × Meaning)

-- an option that makes a choice by a value of a kind
abbrev pub makes_by : ℕ → Kind → Meaning
makes_by choice kind = record { choice = choice; kind = kind }

-- options of `run`: what the order of events is drawn by, the parameters of the machine, what says that a run is timed, and what each thing costs then
abbrev pub draw_options : Options
draw_options = (codes "--seed", makes_by 0 kinds.Seed) ∷ (codes "--workers", makes_by 0 kinds.Workers) ∷ (codes "--evict", makes_by 4 (kinds.Between 0 255)) ∷ []

abbrev pub machine_options : Options
machine_options =
    (codes "--pointers", makes_by 1 kinds.Pointers) ∷ (codes "--sets", makes_by 2 kinds.SetCount) ∷ (codes "--limit", makes_by 3 (kinds.Between 1 1048576)) ∷ []

abbrev pub cycles_option : List ℕ × Meaning
cycles_option = (codes "--cycles", makes_by 6 (kinds.Between 0 18446744073709551615))

abbrev pub cost_options : Options
cost_options =
    (codes "--hit", makes_by 7 (kinds.Between 1 65535)) ∷ (codes "--switch", makes_by 8 (kinds.Between 0 65535)) ∷ (codes "--hop", makes_by 9 (kinds.Between 0 65535)) ∷
    (codes "--send", makes_by 10 (kinds.Between 0 65535)) ∷ (codes "--data", makes_by 11 (kinds.Between 0 65535)) ∷ (codes "--home", makes_by 12 (kinds.Between 1 65535)) ∷
    (codes "--fill", makes_by 13 (kinds.Between 1 65535)) ∷ (codes "--trap", makes_by 14 (kinds.Between 1 65535)) ∷ (codes "--inv", makes_by 15 (kinds.Between 0 65535)) ∷
    (codes "--retry", makes_by 16 (kinds.Between 0 65535)) ∷ []

-- the options of a run that isn't timed, and of one that is: each has a `--write` of its own
abbrev pub run_options : Options
run_options = draw_options ++ machine_options ++ (codes "--write", makes_by 5 kinds.RunForm) ∷ []

abbrev pub timed_options : Options
timed_options = cycles_option ∷ (codes "--write", makes_by 5 kinds.TimedForm) ∷ machine_options ++ cost_options

-- all options that may stand behind a command's name, by what each makes. A name that stands in two of a run's tables makes the same choice in both
abbrev pub options_of : Name → Options
options_of Asm = (codes "--write", makes_by 0 kinds.AsmForm) ∷ []
options_of Run = timed_options ++ draw_options
options_of Timed = timed_options ++ draw_options
options_of Replay = (codes "--write", makes_by 0 kinds.Form) ∷ []
options_of Audit = (codes "--write", makes_by 0 kinds.AuditForm) ∷ []
options_of Dis = []
options_of Gen =
    (codes "--seed", makes_by 0 (kinds.Between 0 18446744073709551615)) ∷ (codes "--width", makes_by 1 (kinds.Between 1 16)) ∷
    (codes "--height", makes_by 2 (kinds.Between 1 16)) ∷ (codes "--size", makes_by 3 (kinds.Between 1 255)) ∷ []
options_of Route = (codes "--seed", makes_by 0 (kinds.Between 0 18446744073709551615)) ∷ []
options_of Save = (codes "--at", makes_by 0 (kinds.Between 0 4294967295)) ∷ []
options_of Resume =
    (codes "--seed", makes_by 0 (kinds.Between 0 18446744073709551615)) ∷ (codes "--evict", makes_by 1 (kinds.Between 0 255)) ∷ (codes "--write", makes_by 2 kinds.Form) ∷ []
options_of Outcomes = (codes "--most", makes_by 0 (kinds.Between 1 16777216)) ∷ []
options_of Schedule =
    (codes "--pointers", makes_by 0 kinds.Pointers) ∷ (codes "--sets", makes_by 1 kinds.SetCount) ∷ (codes "--limit", makes_by 2 (kinds.Between 1 1048576)) ∷ []
options_of Time =
    (codes "--seed", makes_by 0 (kinds.Between 0 18446744073709551615)) ∷ (codes "--hit", makes_by 1 (kinds.Between 1 65535)) ∷
    (codes "--switch", makes_by 2 (kinds.Between 0 65535)) ∷ (codes "--hop", makes_by 3 (kinds.Between 0 65535)) ∷ (codes "--send", makes_by 4 (kinds.Between 0 65535)) ∷
    (codes "--data", makes_by 5 (kinds.Between 0 65535)) ∷ (codes "--home", makes_by 6 (kinds.Between 1 65535)) ∷ (codes "--fill", makes_by 7 (kinds.Between 1 65535)) ∷
    (codes "--trap", makes_by 8 (kinds.Between 1 65535)) ∷ (codes "--inv", makes_by 9 (kinds.Between 0 65535)) ∷ (codes "--retry", makes_by 10 (kinds.Between 0 65535)) ∷
    (codes "--write", makes_by 11 kinds.TimeForm) ∷ []

-- a command's choices where no option makes them
abbrev pub defaults_of : Name → List Value
defaults_of Asm = AsmForm asms.Image ∷ []
defaults_of Run = How (hows.Seed 0) ∷ Number 4 ∷ Number 256 ∷ Number 32768 ∷ Number 0 ∷ TimedForm (timed.Run forms.Report) ∷ []
defaults_of Timed =
    How (hows.Seed 0) ∷ Number 4 ∷ Number 256 ∷ Number 262144 ∷ Number 0 ∷ TimedForm (timed.Run forms.Report) ∷ Number 0 ∷
    Number 1 ∷ Number 11 ∷ Number 1 ∷ Number 6 ∷ Number 4 ∷ Number 7 ∷ Number 3 ∷ Number 50 ∷ Number 2 ∷ Number 16 ∷ []
defaults_of Replay = Form forms.Report ∷ []
defaults_of Audit = AuditForm audits.Verdict ∷ []
defaults_of Dis = []
defaults_of Gen = Number 0 ∷ Number 4 ∷ Number 4 ∷ Number 16 ∷ []
defaults_of Route = Number 0 ∷ []
defaults_of Save = Number 4294967295 ∷ []
defaults_of Resume = Number 0 ∷ Number 0 ∷ Form forms.Report ∷ []
defaults_of Outcomes = Number 1000000 ∷ []
defaults_of Schedule = Number 4 ∷ Number 256 ∷ Number 32768 ∷ []
defaults_of Time =
    Number 0 ∷ Number 1 ∷ Number 11 ∷ Number 1 ∷ Number 6 ∷ Number 4 ∷ Number 7 ∷ Number 3 ∷ Number 50 ∷ Number 2 ∷ Number 16 ∷ TimeForm times.Cycles ∷ []

-- a word is an option that makes this choice
abbrev pub makes : Options → ℕ → List ℕ → Bool
makes options choice word = option_map_or (λ (meaning : Meaning). meaning.choice == choice) (row_of options word) false

-- what a value stands for behind an option
abbrev pub value_behind : Options → List ℕ → List ℕ → Option Value
value_behind options option word = option_and_then (λ (meaning : Meaning). value_of meaning.kind word) (row_of options option)

-- the words behind a command's name, an option and its value in turn, make this choice
abbrev pub is_made : Options → ℕ → List (List ℕ) → Bool
is_made options choice [] = false
is_made options choice (option ∷ []) = false
is_made options choice (option ∷ word ∷ rest) = makes options choice option || is_made options choice rest

-- what they make it by, with its place, where the first option stands at a place
abbrev pub made_from : ℕ → Options → ℕ → List (List ℕ) → Option Made
made_from at options choice [] = None
made_from at options choice (option ∷ []) = None
made_from at options choice (option ∷ word ∷ rest) =
    if makes options choice option then option_map (λ value. record { value = value; at = at + 1 }) (value_behind options option word)
    else made_from (at + 2) options choice rest

-- the same behind a command's name
abbrev pub made : Options → ℕ → List (List ℕ) → Option Made
made options choice words = made_from 1 options choice words

-- the choices in their order from one on, each as it is made, or else its default
abbrev pub values_from : ℕ → Options → List Value → List (List ℕ) → List Value
values_from choice options [] words = []
values_from choice options (default ∷ rest) words =
    option_map_or (λ m. m.value) (made options choice words) default ∷ values_from (suc choice) options rest words

-- ---- a run that is timed

-- the options that stand open where some choices are made: those of a timed run behind `--cycles` alone, which itself stands behind no option that draws
abbrev pub open_by : Name → (ℕ → Bool) → Options
open_by Run chosen = if chosen 6 then timed_options else if chosen 0 || chosen 4 then run_options else cycles_option ∷ run_options
open_by Timed chosen = timed_options
open_by name chosen = options_of name

-- the same behind a command's name and some words
abbrev pub open_options : Name → List (List ℕ) → Options
open_options name before = open_by name (λ choice. is_made (options_of name) choice before)

-- the command that choices make of one: a run with `--cycles` is a timed one
abbrev pub taken_by : Name → (ℕ → Bool) → Name
taken_by Run chosen = if chosen 6 then Timed else Run
taken_by name chosen = name

-- the same by the words behind its name
abbrev pub taken : Name → List (List ℕ) → Name
taken name words = taken_by name (λ choice. is_made (options_of name) choice words)

-- ---- a rule over several choices

-- a command's rule, where it has one: a mesh of more than 8 columns or rows has at most 63 operations a node
abbrev pub rule_of : Name → Option Rule
rule_of Gen = Some (record { one = 1; other = 2; above = 8; third = 3; most = 63 })
rule_of _ = None

-- the number that a value is, and 0 where it is none
abbrev pub number_in : Value → ℕ
number_in (Number n) = n
number_in _ = 0

-- the rule isn't kept by these values: one of two numbers is above its bound, and the third is above what it may be then
abbrev pub breaks : Rule → (ℕ → Value) → Bool
breaks rule value =
    (nat_lt rule.above (number_in (value rule.one)) || nat_lt rule.above (number_in (value rule.other))) && nat_lt rule.most (number_in (value rule.third))

-- what makes a choice: as the words make it, or else its default
abbrev pub value_at : Options → List Value → List (List ℕ) → ℕ → Value
value_at options defaults words choice = option_map_or (λ m. m.value) (made options choice words) (slice_index_or defaults choice (Number 0))

-- the place of a third number that the rule doesn't allow, where it is given
abbrev pub misfit : Rule → Options → List Value → List (List ℕ) → Option ℕ
misfit rule options defaults words = if breaks rule (value_at options defaults words) then option_map (λ m. m.at) (made options rule.third words) else None

-- ---- what is asked for

-- a command
abbrev alone : Command → Option Asked
alone it = Some (asked.Alone it)

-- what is asked for by these choices
abbrev pub asked_of : Name → List Value → Option Asked
asked_of Asm (AsmForm write ∷ []) = alone (command.Asm write)
asked_of Run (How (hows.Seed seed) ∷ Number pointers ∷ Number sets ∷ Number limit ∷ Number evict ∷ TimedForm (timed.Run write) ∷ []) =
    alone (command.Run seed (record { pointers = pointers; sets = sets; limit = limit; evict = evict }) write)
asked_of Run (How (hows.Workers workers) ∷ Number pointers ∷ Number sets ∷ Number limit ∷ Number evict ∷ TimedForm (timed.Run write) ∷ []) =
    Some (asked.Workers (record { workers = workers; params = record { pointers = pointers; sets = sets; limit = limit; evict = evict }; write = write }))
asked_of Timed (_ ∷ Number pointers ∷ Number sets ∷ Number limit ∷ _ ∷ TimedForm write ∷ Number seed ∷
    Number hit ∷ Number switch ∷ Number hop ∷ Number send ∷ Number body ∷ Number home ∷ Number fill ∷ Number trap ∷ Number inv ∷ Number retry ∷ []) =
    alone (command.RunByTime
    (record { hit = hit; switch = switch; hop = hop; send = send; «data» = body; home = home; fill = fill; trap = trap; inv = inv; retry = retry; seed = seed })
    (record { pointers = pointers; sets = sets; limit = limit; evict = 0 }) write)
asked_of Replay (Form write ∷ []) = alone (command.Replay write)
asked_of Audit (AuditForm write ∷ []) = alone (command.Audit write)
asked_of Dis [] = alone command.Dis
asked_of Gen (Number seed ∷ Number width ∷ Number height ∷ Number size ∷ []) = alone (command.Gen seed width height size)
asked_of Route (Number seed ∷ []) = alone (command.Route seed)
asked_of Save (Number at ∷ []) = alone (command.Save at)
asked_of Resume (Number seed ∷ Number evict ∷ Form write ∷ []) = alone (command.Resume seed evict write)
asked_of Outcomes (Number most ∷ []) = alone (command.Outcomes most)
asked_of Schedule (Number pointers ∷ Number sets ∷ Number limit ∷ []) = alone (command.Schedule (record { pointers = pointers; sets = sets; limit = limit; evict = 0 }))
asked_of Time (Number seed ∷ Number hit ∷ Number switch ∷ Number hop ∷ Number send ∷ Number body ∷ Number home ∷ Number fill ∷ Number trap ∷ Number inv ∷
    Number retry ∷ TimeForm write ∷ []) =
    alone (command.Time (record { hit = hit; switch = switch; hop = hop; send = send; «data» = body; home = home; fill = fill; trap = trap; inv = inv; retry = retry; seed = seed }) write)
asked_of _ _ = None
