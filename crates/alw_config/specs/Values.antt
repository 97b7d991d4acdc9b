-- The words that options take as their values, and what each stands for.
use Rattle.std.specs.Prelude.{ℕ, ◌&&◌, ◌==◌, Bool, List, [], ◌∷◌, ◌++◌, map, codes, nat_le, decimal, bytes_eq, if◌then◌else◌, Option, None, Some, option_map}
use Rattle.std.specs.List.{list_any}
use Rattle.std.specs.Str.Parse.{digits_value}
use Rattle.alw_image.specs.Parameters.{set_counts}
use Rattle.alw_config.specs.declared.commands.AsmForm.{AsmForm}
use Rattle.alw_config.specs.declared.commands.AuditForm.{AuditForm}
use Rattle.alw_config.specs.declared.commands.TimeForm.{TimeForm}
use Rattle.alw_config.specs.declared.commands.Form.{Form}
use Rattle.alw_config.specs.declared.commands.TimedForm.{TimedForm}
use Rattle.alw_config.specs.declared.rows.How.TheVariants as hows
use Rattle.alw_config.specs.declared.rows.Value.{Value}
use Rattle.alw_config.specs.declared.rows.Value.TheVariants as values
use Rattle.alw_config.specs.declared.rows.Kind.{Kind}
use Rattle.alw_config.specs.declared.rows.Kind.TheVariants as kinds
use Rattle.alw_config.specs.declared.commands.AsmForm.TheVariants as asms
use Rattle.alw_config.specs.declared.commands.AuditForm.TheVariants as audits
use Rattle.alw_config.specs.declared.commands.TimeForm.TheVariants as times
use Rattle.alw_config.specs.declared.commands.Form.TheVariants as runs
use Rattle.alw_config.specs.declared.commands.TimedForm.TheVariants as timed

-- what a name stands for in a table: by the first row that has it
abbrev pub row_of : {X : Type 0} → List (List ℕ × X) → List ℕ → Option X
row_of [] name = None
row_of (row ∷ rest) name = if bytes_eq row.0 name then Some row.1 else row_of rest name

-- what is written
abbrev pub asm_forms : List (List ℕ × AsmForm)
asm_forms = (codes "image", asms.Image) ∷ (codes "listing", asms.Listing) ∷ []

abbrev pub audit_forms : List (List ℕ × AuditForm)
audit_forms = (codes "verdict", audits.Verdict) ∷ (codes "log", audits.Log) ∷ []

abbrev pub time_forms : List (List ℕ × TimeForm)
time_forms = (codes "cycles", times.Cycles) ∷ (codes "moments", times.Moments) ∷ []

abbrev pub forms : List (List ℕ × Form)
forms = (codes "report", runs.Report) ∷ (codes "json", runs.Json) ∷ (codes "trace", runs.Trace) ∷ (codes "claim", runs.Claim) ∷ (codes "summary", runs.Summary) ∷ (codes "log", runs.Log) ∷ (codes "profile", runs.Profile) ∷ []

abbrev pub timed_forms : List (List ℕ × TimedForm)
timed_forms = map (λ row. (row.0, timed.Run row.1)) forms ++ map (λ row. (row.0, timed.Time row.1)) time_forms

-- the number whose decimal digits a word is
abbrev pub number_of : List ℕ → ℕ
number_of word = digits_value 10 word

-- the word is the one spelling of a number: its decimal digits, without leading zeros
abbrev pub is_decimal : List ℕ → Bool
is_decimal word = bytes_eq word (decimal (number_of word))

-- the number that a word spells, where it passes a test
abbrev pub number_if : (ℕ → Bool) → List ℕ → Option ℕ
number_if test word = if is_decimal word && test (number_of word) then Some (number_of word) else None

-- how many pointers a word stands for: a few, or as many as there can be
abbrev pub pointers_of : List ℕ → Option ℕ
pointers_of word = if bytes_eq word (codes "all") then Some 256 else number_if (λ n. nat_le 1 n && nat_le n 8) word

-- what a word stands for as a value of a kind: None where it is none
abbrev pub value_of : Kind → List ℕ → Option Value
value_of kinds.Seed word = option_map (λ n. values.How (hows.Seed n)) (number_if (λ n. nat_le 0 n && nat_le n 18446744073709551615) word)
value_of kinds.Workers word = option_map (λ n. values.How (hows.Workers n)) (number_if (λ n. nat_le 1 n && nat_le n 256) word)
value_of (kinds.Between least most) word = option_map values.Number (number_if (λ n. nat_le least n && nat_le n most) word)
value_of kinds.SetCount word = option_map values.Number (number_if (λ n. list_any (λ count. n == count) set_counts) word)
value_of kinds.Pointers word = option_map values.Number (pointers_of word)
value_of kinds.AsmForm word = option_map values.AsmForm (row_of asm_forms word)
value_of kinds.AuditForm word = option_map values.AuditForm (row_of audit_forms word)
value_of kinds.TimeForm word = option_map values.TimeForm (row_of time_forms word)
value_of kinds.Form word = option_map values.Form (row_of forms word)
value_of kinds.RunForm word = option_map (λ form. values.TimedForm (timed.Run form)) (row_of forms word)
value_of kinds.TimedForm word = option_map values.TimedForm (row_of timed_forms word)
