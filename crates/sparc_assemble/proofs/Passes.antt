-- What holds of all that the passes can make holds of what a source is assembled to.
use Rattle.std.proofs.Common.{◌≡◌, ℕ, ◌==◌, Bool, true, false, if◌then◌else◌, Option, Some, None, Result, Ok, Err, List, map, refl, subst}
use Rattle.sparc_asm.specs.declared.faults.AsmErr.{AsmErr}
use Rattle.sparc_asm.specs.declared.faults.AsmErr.TheVariants as error
use Rattle.sparc_asm.specs.declared.statements.Line.{Line}
use Rattle.sparc_asm.specs.Ranges.{EachFits}
use Rattle.sparc_asm.specs.Sources.{read_source}
use Rattle.sparc_asm.proofs.LineRanges.{lines_fit}
use Rattle.sparc_place.specs.declared.cursors.Position.{Position}
use Rattle.sparc_place.specs.Places.{Layout, nothing_laid, places, places_of}
use Rattle.sparc_assemble.specs.declared.assembling.Assembled.{Assembled}
use Rattle.sparc_assemble.specs.Assembly.{Filled, nothing_filled, all_filled, parts_of, whole_of, values_fault, after_values, after_places, after_lines, assembled}

-- what is made of what lines lay down and fill in
abbrev pub made : Layout → Filled → Assembled
made l f = record { image = parts_of l f; lines = map (λ (w : ℕ × ℕ). w.1) f.words }

module _ (P : Assembled → Type 0) (a : Assembled) where
  past_whole : (l : Layout) (f : Filled) → P (made l f) → whole_of l f ≡ Ok a → P a
  past_whole l f holds whole = by_test (l.code == 0) whole
    where
      of_ok : ◌≡◌ {A = Result Assembled AsmErr} (Ok (made l f)) (Ok a) → made l f ≡ a
      of_ok same = cc

      by_test : (test : Bool) → ◌≡◌ {A = Result Assembled AsmErr} (if test then Err (error.Range 0) else Ok (made l f)) (Ok a) → P a
      by_test true same = absurd (let e : ◌≡◌ {A = Result Assembled AsmErr} (Err (error.Range 0)) (Ok a) = same in cc)
      by_test false same = subst P (of_ok same) holds

  past_values : (fault : Option AsmErr) (rest : Result Assembled AsmErr) → after_values fault rest ≡ Ok a → rest ≡ Ok a
  past_values None rest is = is
  past_values (Some e) rest is = absurd (let w : ◌≡◌ {A = Result Assembled AsmErr} (Err e) (Ok a) = is in cc)

  past_places : (ps : List Position) (lines : List Line) (found : Result Layout AsmErr) →
      ((l : Layout) → P (made l (all_filled l.names 1 ps lines nothing_filled))) → after_places ps lines found ≡ Ok a → P a
  past_places ps lines (Err e) holds is = absurd (let w : ◌≡◌ {A = Result Assembled AsmErr} (Err e) (Ok a) = is in cc)
  past_places ps lines (Ok l) holds is =
      let f = all_filled l.names 1 ps lines nothing_filled in
      past_whole l f (holds l) (past_values (values_fault l.names l.code 1 ps lines) (whole_of l f) is)

  past_lines : (read : Result (List Line) AsmErr) → ((lines : List Line) → read ≡ Ok lines → EachFits lines) →
      ((l : Layout) (ps : List Position) (lines : List Line) → EachFits lines → P (made l (all_filled l.names 1 ps lines nothing_filled))) →
      after_lines read ≡ Ok a → P a
  past_lines (Err e) fits holds is = absurd (let w : ◌≡◌ {A = Result Assembled AsmErr} (Err e) (Ok a) = is in cc)
  past_lines (Ok lines) fits holds is =
      let ps = places_of nothing_laid lines in
      past_places ps lines (places 1 nothing_laid lines) (λ l. holds l ps lines (fits lines refl)) is

-- what holds of whatever lines within their ranges are made into
pub holds_of_all : (P : Assembled → Type 0) (source : List ℕ) (a : Assembled) →
    ((l : Layout) (ps : List Position) (lines : List Line) → EachFits lines → P (made l (all_filled l.names 1 ps lines nothing_filled))) →
    assembled source ≡ Ok a → P a
unfolding assembled
holds_of_all P source a holds is = past_lines P a (read_source source) (lines_fit source) holds is
