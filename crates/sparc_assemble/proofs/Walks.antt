-- Going through lines at their places.
use Rattle.std.proofs.Common.{◌≡◌, ℕ, ◌+◌, ◌≤◌, List, [], ◌∷◌, length, drop, slice_get, Option, Some, None, Result, Ok, Err, refl, sym, ap, ◌∙◌, arith}
use Rattle.sparc_asm.specs.declared.faults.Fault.{Fault}
use Rattle.sparc_asm.specs.declared.faults.Fault.TheVariants.{UnknownName, Redefined, Range, Unaligned, Overlap}
use Rattle.sparc_asm.specs.declared.faults.AsmErr.{AsmErr}
use Rattle.sparc_asm.specs.declared.statements.Line.{Line}
use Rattle.sparc_asm.proofs.Reading.{drop_get}
use Rattle.sparc_place.specs.declared.cursors.Position.{Position}
use Rattle.sparc_place.specs.Places.{Layout, place_fault, place_or, behind, places, place_of, places_of, fault_at}
use Rattle.sparc_assemble.specs.Assembly.{Names, Filled, value_fault_in, filled_in, values_fault, all_filled}
use Rattle.sparc_assemble.specs.Fillings.{HasFewWords, FillsLine, FillsAll, refused_at}
use Rattle.sparc_assemble.specs.declared.refusals.Refusal.{Refusal}
use Rattle.sparc_assemble.specs.declared.refusals.Refusal.TheVariants as refusal
use Rattle.sparc_assemble.proofs.Growth.{line_grows}

pub as_many : (l : Layout) (lines : List Line) → length (places_of l lines) ≡ length lines
as_many l [] = refl
as_many l (line ∷ rest) = omega (arith, as_many (behind l line) rest)

-- the place of a line, and those behind it
pub place_here : (before : Layout) (ps : List Position) (lines : List Line) (i : ℕ) (line : Line) (place : Position) → slice_get lines i ≡ Some line → slice_get ps i ≡ Some place → drop i ps ≡ places_of before (drop i lines) → (place ≡ place_of before line.statement) × (drop (i + 1) ps ≡ places_of (behind before line) (drop (i + 1) lines))
place_here before ps lines i line place at there same =
    let whole : place ∷ drop (i + 1) ps ≡ place_of before line.statement ∷ places_of (behind before line) (drop (i + 1) lines) = sym (drop_get ps i place there) ∙ same ∙ ap (places_of before) (drop_get lines i line at) in
    (cc, cc)

no_fault : (number : ℕ) (fault : Option Fault) (rest : Result Layout AsmErr) (l : Layout) → place_or number fault rest ≡ Ok l → (fault ≡ None) × (rest ≡ Ok l)
no_fault number None rest l e = (refl, e)
no_fault number (Some fault) rest l e = absurd cc

-- a line of a source that the second pass lays out has no fault there
pub sound_here : (before : Layout) (lines : List Line) (i : ℕ) (line : Line) (l : Layout) → slice_get lines i ≡ Some line → places (i + 1) before (drop i lines) ≡ Ok l → (place_fault before line ≡ None) × (places (i + 1 + 1) (behind before line) (drop (i + 1) lines) ≡ Ok l)
sound_here before lines i line l at laid = no_fault (i + 1) (place_fault before line) (places (i + 1 + 1) (behind before line) (drop (i + 1) lines)) l (sym (ap (places (i + 1) before) (drop_get lines i line at)) ∙ laid)

pub room_here : (names : Names) (count number : ℕ) (before : Layout) (line : Line) (place : Position) (f : Filled) → place_fault before line ≡ None → place ≡ place_of before line.statement → length f.words ≡ before.code → length f.words ≤ 65536 → HasFewWords (filled_in names number place line.statement f)
room_here names count number before line place f none at same few = rw at (record { few = (line_grows names count number before line.label line.statement f none same (omega arith)).room })

pub count_here : (names : Names) (count number : ℕ) (before : Layout) (line : Line) (place : Position) (f after : Filled) → place_fault before line ≡ None → place ≡ place_of before line.statement → length f.words ≡ before.code → length f.words ≤ 65536 → value_fault_in names count place line.statement ≡ None → after ≡ filled_in names number place line.statement f → (length after.words ≡ (behind before line).code) × (length after.words ≤ 65536)
count_here names count number before line place f after none at same few sound next =
    let g = line_grows names count number before line.label line.statement f none same (omega arith) in
    let clear = rw at at sound in
    let size : after ≡ filled_in names number (place_of before line.statement) line.statement f = next ∙ ap (λ p. filled_in names number p line.statement f) at in
    rw size (g.count clear, g.room)

-- the step of the pass
pub more_values : (names : Names) (count : ℕ) (ps : List Position) (lines : List Line) (i : ℕ) (line : Line) (place : Position) → slice_get lines i ≡ Some line → slice_get ps i ≡ Some place → value_fault_in names count place line.statement ≡ None → values_fault names count (i + 1) (drop i ps) (drop i lines) ≡ values_fault names count (i + 1 + 1) (drop (i + 1) ps) (drop (i + 1) lines)
more_values names count ps lines i line place at there none = rw (drop_get lines i line at, drop_get ps i place there, none)

first_fault : (names : Names) (count : ℕ) (ps : List Position) (lines : List Line) (i : ℕ) (line : Line) (place : Position) (fault : Fault) → slice_get lines i ≡ Some line → slice_get ps i ≡ Some place → value_fault_in names count place line.statement ≡ Some fault → values_fault names count (i + 1) (drop i ps) (drop i lines) ≡ Some (fault_at fault (i + 1))
first_fault names count ps lines i line place fault at there some = rw (drop_get lines i line at, drop_get ps i place there, some)

pub more_filled : (names : Names) (ps : List Position) (lines : List Line) (i : ℕ) (line : Line) (place : Position) (f after : Filled) → slice_get lines i ≡ Some line → slice_get ps i ≡ Some place → after ≡ filled_in names (i + 1) place line.statement f → all_filled names (i + 1) (drop i ps) (drop i lines) f ≡ all_filled names (i + 1 + 1) (drop (i + 1) ps) (drop (i + 1) lines) after
more_filled names ps lines i line place f after at there next = rw (drop_get lines i line at, drop_get ps i place there) (ap (all_filled names (i + 1 + 1) (drop (i + 1) ps) (drop (i + 1) lines)) (sym next))

fills_err : (fault : Fault) (number : ℕ) (found : Option AsmErr) (wanted : Filled) → found ≡ Some (fault_at fault number) → FillsAll found wanted (Err (fault_at fault number))
fills_err UnknownName number found wanted e = e
fills_err Redefined number found wanted e = e
fills_err Range number found wanted e = e
fills_err Unaligned number found wanted e = e
fills_err Overlap number found wanted e = e

pub refused : (names names' : Names) (count count' : ℕ) (ps : List Position) (lines : List Line) (i : ℕ) (line : Line) (place : Position) (before after : Filled) (r : Refusal) (found : Option AsmErr) (wanted : Filled) → slice_get lines i ≡ Some line → slice_get ps i ≡ Some place → names' ≡ names → count' ≡ count → found ≡ values_fault names count (i + 1) (drop i ps) (drop i lines) → FillsLine names' count' (i + 1) place line.statement before after (Err r) → FillsAll found wanted (Err (refused_at r (i + 1)))
refused names names' count count' ps lines i line place before after refusal.NoMemory found wanted at there same alike so_far some = tt
refused names names' count count' ps lines i line place before after (refusal.Fault fault) found wanted at there same alike so_far some =
    let here : value_fault_in names count place line.statement ≡ Some fault = rw (same, alike) at some in
    fills_err fault (i + 1) found wanted (so_far ∙ first_fault names count ps lines i line place fault at there here)
