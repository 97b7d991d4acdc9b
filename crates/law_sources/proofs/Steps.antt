-- Lines that stand one behind another without a fault: what they lay down and what they fill in.
use Rattle.std.proofs.Common.{◌≡◌, ◌≢◌, ℕ, ◌+◌, ◌==◌, true, false, List, [], ◌∷◌, map, length, Option, Some, None, Ok, refl, ap, ◌∙◌, arith}
use Rattle.std.proofs.lemmas.Bool.{ne_eqb}
use Rattle.alw_image.specs.declared.parts.Parts.{Parts}
use Rattle.sparc_asm.specs.declared.values.Sum.{Sum}
use Rattle.sparc_asm.specs.declared.faults.Fault.{Fault}
use Rattle.sparc_asm.specs.declared.statements.Signed.{Signed}
use Rattle.sparc_asm.specs.declared.statements.Statement.{Statement}
use Rattle.sparc_asm.specs.declared.statements.Line.{Line}
use Rattle.sparc_asm.specs.Values.{value_of, above, below}
use Rattle.sparc_place.specs.Places.{Layout, nothing_laid, is_unknown, statement_again, fits, is_aligned, overlaps, statement_fault, place_fault, place_or, behind, places, place_of, places_of}
use Rattle.sparc_assemble.specs.declared.assembling.Assembled.{Assembled}
use Rattle.sparc_assemble.specs.Assembly.{Names, Filled, nothing_filled, value_fault_in, first_of, values_fault, filled_in, all_filled, parts_of, after_places, after_lines}
use Rattle.law_sources.specs.Parsed.{number}
use Rattle.law_sources.proofs.Encoded.{sum, number_is}

-- no line defines a name
abbrev pub no_names : Names
no_names = λ name. None

-- an expression whose value is a number
pub record HasNumber (e : List Signed) (n : ℕ) : Type 0 where
  pub value : Sum
  pub is : (here : ℕ) → value_of no_names here e ≡ Some value
  pub above : above value ≡ n
  pub below : below value ≡ 0

pub is_number : (n : ℕ) → HasNumber (number n) n
is_number n = record { value = sum n 0; is = λ here. number_is no_names here n; above = omega arith; below = omega arith }

-- a statement without a fault
pub no_fault : (l : Layout) (s : Statement) → is_unknown l s ≡ false → statement_again l None s ≡ false → fits l s ≡ true → is_aligned l s ≡ true → overlaps l s ≡ false → statement_fault l None s ≡ None
no_fault l s known once within even apart = rw (known, once, within, even, apart) refl

-- ---- a line, and lines

-- a line has no fault, `m` stands behind it, and it fills in what makes `f` to `g`
pub record Step (count number : ℕ) (line : Line) (l m : Layout) (f g : Filled) : Type 0 where
  pub placed : place_fault l line ≡ None
  pub valued : value_fault_in no_names count (place_of l line.statement) line.statement ≡ None
  pub laid : behind l line ≡ m
  pub filled : filled_in no_names number (place_of l line.statement) line.statement f ≡ g

-- lines have no fault, and what stands behind them is good together with what they fill in
pub record LinesGo (count number : ℕ) (lines : List Line) (l : Layout) (f : Filled) (Good : Layout → Filled → Type 0) : Type 0 where
  pub end : Layout
  pub placed : places number l lines ≡ Ok end
  pub valued : values_fault no_names count number (places_of l lines) lines ≡ None
  pub good : Good end (all_filled no_names number (places_of l lines) lines f)

pub ends : (count number : ℕ) (l : Layout) (f : Filled) (Good : Layout → Filled → Type 0) → Good l f → LinesGo count number [] l f Good
ends count number l f Good good = record { end = l; placed = refl; valued = refl; good = good }

pub goes : (count number : ℕ) (line : Line) (rest : List Line) (l m : Layout) (f g : Filled) (Good : Layout → Filled → Type 0) → Step count number line l m f g → LinesGo count (number + 1) rest m g Good → LinesGo count number (line ∷ rest) l f Good
goes count number line rest l m f g Good step more = record {
  end = more.end;
  placed = ap (λ (fault : Option Fault). place_or number fault (places (number + 1) (behind l line) rest)) step.placed ∙ (ap (λ (n : Layout). places (number + 1) n rest) step.laid ∙ more.placed);
  valued =
      ap (λ (fault : Option Fault). first_of number fault (values_fault no_names count (number + 1) (places_of (behind l line) rest) rest)) step.valued
      ∙ (ap (λ (n : Layout). values_fault no_names count (number + 1) (places_of n rest) rest) step.laid ∙ more.valued);
  good = good_behind (behind l line) m (filled_in no_names number (place_of l line.statement) line.statement f) g step.laid step.filled more.good;
}
  where
    good_behind : (l' m' : Layout) (f' g' : Filled) → l' ≡ m' → f' ≡ g' → Good more.end (all_filled no_names (number + 1) (places_of m' rest) rest g') → Good more.end (all_filled no_names (number + 1) (places_of l' rest) rest f')
    good_behind l' m' f' g' same alike good = rw (same, alike) good

-- ---- the whole

-- what lines lay down and fill in makes an image
pub record Makes (p : Parts) (l : Layout) (f : Filled) : Type 0 where
  pub names : l.names ≡ no_names
  pub code : l.code ≡ length p.code
  pub image : parts_of l f ≡ p

-- lines are assembled to an image
pub record IsAssembledTo (lines : List Line) (p : Parts) : Type 0 where
  pub whole : Assembled
  pub right : after_lines (Ok lines) ≡ Ok whole
  pub image : whole.image ≡ p

pub made : (p : Parts) (lines : List Line) → length p.code ≢ 0 → LinesGo (length p.code) 1 lines nothing_laid nothing_filled (Makes p) → IsAssembledTo lines p
made p lines some h = record {
  whole = record { image = parts_of h.end f; lines = map (λ w. w.1) f.words };
  right = ap (after_places (places_of nothing_laid lines) lines) h.placed ∙ by_end h.end h.good.names h.good.code;
  image = h.good.image;
}
  where
    f : Filled
    f = all_filled no_names 1 (places_of nothing_laid lines) lines nothing_filled

    by_end : (l : Layout) → l.names ≡ no_names → l.code ≡ length p.code → after_places (places_of nothing_laid lines) lines (Ok l) ≡ Ok (record { image = parts_of l f; lines = map (λ w. w.1) f.words })
    by_end l names code =
        let test : (length p.code == 0) ≡ false = ne_eqb _ _ some in
        rw (names, code, h.valued, test) refl
