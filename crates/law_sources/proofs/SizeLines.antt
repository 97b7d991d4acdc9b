-- The lines that give a machine's sizes.
use Rattle.std.proofs.Common.{◌≡◌, ℕ, ◌≤◌, true, false, List, [], ◌++◌, Option, Some, None, Ok, refl, ap, ◌∙◌}
use Rattle.std.proofs.lemmas.Bool.{and_from, le-leb}
use Rattle.std.proofs.lemmas.List.{append-nil}
use Rattle.alw_image.specs.declared.parts.Parts.{Parts}
use Rattle.alw_image.specs.Images.{IsImage}
use Rattle.sparc_asm.specs.declared.values.Sum.{Sum}
use Rattle.sparc_asm.specs.declared.encoding.Coded.TheVariants.{Nothing}
use Rattle.sparc_asm.specs.declared.statements.Signed.{Signed}
use Rattle.sparc_asm.specs.declared.statements.Statement.{Statement}
use Rattle.sparc_asm.specs.declared.statements.Statement.TheVariants as statement
use Rattle.sparc_asm.specs.declared.statements.Line.{Line}
use Rattle.sparc_asm.specs.Values.{above}
use Rattle.sparc_asm.specs.Encoding.{coded}
use Rattle.sparc_asm.specs.Words.{coded_words}
use Rattle.sparc_place.specs.Places.{Layout, nothing_laid, is_size}
use Rattle.sparc_assemble.specs.Assembly.{Names, Filled, with_code}
use Rattle.law_sources.specs.Parsed.{number, line_of, sizes_read}
use Rattle.law_sources.proofs.Steps.{HasNumber, is_number, Step, LinesGo, goes}
use Rattle.law_sources.proofs.CodeLines.{laid_so}

-- a line without a code word fills in nothing
pub nothing_added : (n : ℕ) (f : Filled) → with_code n [] f ≡ f
nothing_added n f = ap (λ (ws : List (ℕ × ℕ)). record f { words = ws }) (append-nil f.words)

pub none_filled : (names : Names) (here n : ℕ) (s : Statement) (f : Filled) → coded names here s ≡ Ok Nothing → with_code n (coded_words (coded names here s)) f ≡ f
none_filled names here n s f is = ap (λ r. with_code n (coded_words r) f) is ∙ nothing_added n f

-- the sizes so far, before any other line
abbrev sized : Option ℕ → Option ℕ → Option ℕ → Option ℕ → Layout
sized width height contexts per_node = record nothing_laid { width = width; height = height; contexts = contexts; per_node = per_node }

size_within : (most n : ℕ) (v : Sum) → above v ≡ n → 1 ≤ n → n ≤ most → is_size most v ≡ true
size_within most n v is low high = rw is (and_from _ _ (le-leb 1 n low) (le-leb n most high))

mesh_step : (count n width height : ℕ) (a b : List Signed) (f : Filled) → HasNumber a width → HasNumber b height → 1 ≤ width → width ≤ 16 → 1 ≤ height → height ≤ 16
    → Step count n (line_of (statement.Mesh a b)) (sized None None None None) (sized (Some width) (Some height) None None) f f
unfolding coded
mesh_step count n width height a b f first second low high low' high' =
    let one = size_within 16 width first.value first.above low high in
    let other = size_within 16 height second.value second.above low' high' in
    record {
      placed = rw (first.is 0, second.is 0, one, other) refl;
      valued = refl;
      laid = rw (first.is 0, second.is 0, first.above, second.above) refl;
      filled = nothing_added n f;
    }

contexts_step : (count n width height contexts : ℕ) (a : List Signed) (f : Filled) → HasNumber a contexts → 1 ≤ contexts → contexts ≤ 4
    → Step count n (line_of (statement.Contexts a)) (sized (Some width) (Some height) None None) (sized (Some width) (Some height) (Some contexts) None) f f
unfolding coded
contexts_step count n width height contexts a f is low high =
    let within = size_within 4 contexts is.value is.above low high in
    record {
      placed = rw (is.is 0, within) refl;
      valued = refl;
      laid = rw (is.is 0, is.above) refl;
      filled = nothing_added n f;
    }

lines_step : (count n width height contexts per_node : ℕ) (a : List Signed) (f : Filled) → HasNumber a per_node → 1 ≤ per_node → per_node ≤ 4096
    → Step count n (line_of (statement.Lines a)) (sized (Some width) (Some height) (Some contexts) None) (sized (Some width) (Some height) (Some contexts) (Some per_node)) f f
unfolding coded
lines_step count n width height contexts per_node a f is low high =
    let within = size_within 4096 per_node is.value is.above low high in
    record {
      placed = rw (is.is 0, within) refl;
      valued = refl;
      laid = rw (is.is 0, is.above) refl;
      filled = nothing_added n f;
    }

-- behind the lines of sizes, code words may stand
pub sizes_go : (p : Parts) → IsImage p → (count : ℕ) (rest : List Line) (f : Filled) (Good : Layout → Filled → Type 0)
    → LinesGo count 4 rest (laid_so p false false 0 0 (λ place. false) (λ node slot. false) (λ line. false)) f Good
    → LinesGo count 1 (sizes_read p ++ rest) nothing_laid f Good
sizes_go p image count rest f Good more =
    goes count 1 _ _ _ _ f f Good (mesh_step count 1 p.width p.height (number p.width) (number p.height) f (is_number p.width) (is_number p.height) image.width.0 image.width.1 image.height.0 image.height.1)
    (goes count 2 _ _ _ _ f f Good (contexts_step count 2 p.width p.height p.contexts (number p.contexts) f (is_number p.contexts) image.contexts.0 image.contexts.1)
    (goes count 3 _ _ _ _ f f Good (lines_step count 3 p.width p.height p.contexts p.per_node (number p.per_node) f (is_number p.per_node) image.per_node.0 image.per_node.1)
    more))
