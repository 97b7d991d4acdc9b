-- Going through lines one by one.
use Rattle.std.proofs.Common.{◌≡◌, false, ℕ, ◌+◌, List, [], ◌∷◌, ◌++◌, drop, slice_get, Option, Some, None, Result, Ok, Err, refl, sym, ap, ◌∙◌, append_assoc}
use Rattle.sparc_asm.specs.declared.faults.Fault.{Fault}
use Rattle.sparc_asm.specs.declared.faults.AsmErr.{AsmErr}
use Rattle.sparc_asm.specs.declared.faults.AsmErr.TheVariants.{Syntax, UnknownName, Redefined, Range, Unaligned, Overlap, NoMemory}
use Rattle.sparc_asm.specs.declared.statements.Statement.{Statement}
use Rattle.sparc_asm.specs.declared.statements.Line.{Line}
use Rattle.sparc_asm.proofs.Reading.{drop_get}
use Rattle.sparc_place.specs.declared.cursors.Position.{Position}
use Rattle.sparc_place.specs.declared.plans.Step.{Step}
use Rattle.sparc_place.specs.Places.{Layout, place_fault, label_again, labelled, behind, here_of, places, places_of, place_or}
use Rattle.sparc_place.specs.Plans.{stepped, placed, refused, IsStep, LineIsLaid, AnswersPlaces}

-- a statement's step, and its label before it
pub by_step : (l m n : Layout) (line : Line) (s : Statement) (step : Step) (number : ℕ) (place : Position) → line.statement ≡ Some s → IsStep l line.label s (Ok step) → m ≡ labelled line.label l → n ≡ stepped step m → place ≡ placed l step → LineIsLaid l n line number (Ok place)
by_step l m n line s step number place is found label next at =
    rw is (found.0, next ∙ ap (stepped step) label ∙ sym found.1, at ∙ found.2)

pub by_label : (l m : Layout) (line : Line) (number : ℕ) (place : Position) → line.statement ≡ None → label_again l line.label ≡ false → m ≡ labelled line.label l → place ≡ record { here = here_of l; in_data = l.in_data; node = 0; slot = 0 } → LineIsLaid l m line number (Ok place)
by_label l m line number place is new label at = rw (is, new) (refl, label, at)

-- the step of the pass
pub more_places : (lines : List Line) (i : ℕ) (line : Line) (l m : Layout) (place : Position) → slice_get lines i ≡ Some line → LineIsLaid l m line (i + 1) (Ok place) → places (i + 1) l (drop i lines) ≡ places (i + 1 + 1) m (drop (i + 1) lines)
more_places lines i line l m place at found =
    ap (places (i + 1) l) (drop_get lines i line at)
    ∙ ap (λ fault. place_or (i + 1) fault (places (i + 1 + 1) (behind l line) (drop (i + 1) lines))) found.0
    ∙ ap (λ next. places (i + 1 + 1) next (drop (i + 1) lines)) (sym found.1)

pub more_listed : (lines : List Line) (i : ℕ) (line : Line) (l m : Layout) (place : Position) (old new : List Position) → slice_get lines i ≡ Some line → LineIsLaid l m line (i + 1) (Ok place) → new ≡ old ++ place ∷ [] → old ++ places_of l (drop i lines) ≡ new ++ places_of m (drop (i + 1) lines)
more_listed lines i line l m place old new at found pushed =
    ap (λ rest. old ++ places_of l rest) (drop_get lines i line at)
    ∙ ap (λ p. old ++ p ∷ places_of (behind l line) (drop (i + 1) lines)) (sym found.2)
    ∙ ap (λ next. old ++ place ∷ places_of next (drop (i + 1) lines)) (sym found.1)
    ∙ sym (append_assoc old (place ∷ []) (places_of m (drop (i + 1) lines)))
    ∙ ap (λ front. front ++ places_of m (drop (i + 1) lines)) (sym pushed)

-- the first fault
refused_first : (number : ℕ) (fault : Option Fault) (e : AsmErr) (rest : Result Layout AsmErr) → refused number fault ≡ Some e → place_or number fault rest ≡ Err e
refused_first number None e rest is = absurd cc
refused_first number (Some fault) e rest is = let same : Some (Rattle.sparc_place.specs.Places.fault_at fault number) ≡ Some e = is in ap Err cc

stopped : (lines : List Line) (i : ℕ) (line : Line) (l : Layout) (e : AsmErr) (wanted : Result Layout AsmErr) → slice_get lines i ≡ Some line → wanted ≡ places (i + 1) l (drop i lines) → refused (i + 1) (place_fault l line) ≡ Some e → wanted ≡ Err e
stopped lines i line l e wanted at so_far is =
    so_far ∙ ap (places (i + 1) l) (drop_get lines i line at) ∙ refused_first (i + 1) (place_fault l line) e _ is

pub stops : (lines : List Line) (i : ℕ) (line : Line) (l m : Layout) (e : AsmErr) (wanted : Result Layout AsmErr) (listed : List Position) → slice_get lines i ≡ Some line → wanted ≡ places (i + 1) l (drop i lines) → LineIsLaid l m line (i + 1) (Err e) → AnswersPlaces wanted listed (Err e)
stops lines i line l m NoMemory wanted listed at so_far is = tt
stops lines i line l m (Syntax n) wanted listed at so_far is = stopped lines i line l (Syntax n) wanted at so_far is
stops lines i line l m (UnknownName n) wanted listed at so_far is = stopped lines i line l (UnknownName n) wanted at so_far is
stops lines i line l m (Redefined n) wanted listed at so_far is = stopped lines i line l (Redefined n) wanted at so_far is
stops lines i line l m (Range n) wanted listed at so_far is = stopped lines i line l (Range n) wanted at so_far is
stops lines i line l m (Unaligned n) wanted listed at so_far is = stopped lines i line l (Unaligned n) wanted at so_far is
stops lines i line l m (Overlap n) wanted listed at so_far is = stopped lines i line l (Overlap n) wanted at so_far is
