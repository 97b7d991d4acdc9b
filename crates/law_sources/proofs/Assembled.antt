-- The lines that the source of an image is read as are assembled to the image.
use Rattle.std.proofs.Common.{◌≡◌, ℕ, ◌*◌, ◌<◌, ◌≤◌, Bool, false, List, [], ◌∷◌, ◌++◌, map, length, None, refl, ap, ◌∙◌, arith}
use Rattle.std.proofs.lemmas.Bool.{false≢true}
use Rattle.std.proofs.lemmas.Nat.{mul-add-lt}
use Rattle.std.specs.List.{flat_map}
use Rattle.alw_num.specs.declared.addresses.NodeNo.{NodeNo}
use Rattle.alw_image.specs.declared.parts.Parts.{Parts}
use Rattle.alw_image.specs.Images.{IsImage, IsDataLine, IsStart, node_count, line_count, context_started, zero_line}
use Rattle.alw_image.specs.Numbers.{HasWords}
use Rattle.alw_image.proofs.Orders.{all_map, all_weaker}
use Rattle.sparc_asm.specs.declared.statements.Line.{Line}
use Rattle.sparc_place.specs.Places.{nothing_laid}
use Rattle.sparc_assemble.specs.Assembly.{Filled, nothing_filled, some_starts, gathered, data_line, starts_of}
use Rattle.sparc_assemble.proofs.Rising.{Rises}
use Rattle.law_sources.specs.Parsed.{code_read, start_read, always_read, data_read, lines_read}
use Rattle.law_sources.proofs.Steps.{LinesGo, Makes, IsAssembledTo, made}
use Rattle.law_sources.proofs.CodeLines.{laid_so, code_goes}
use Rattle.law_sources.proofs.SizeLines.{sizes_go}
use Rattle.law_sources.proofs.StartLines.{starts_with, starts_go, always_with, always_go}
use Rattle.law_sources.proofs.DataLines.{memory_with, data_goes}
use Rattle.law_sources.proofs.Gathered.{rises}
use Rattle.law_sources.proofs.FoundStarts.{always_gathered, starts_gathered}
use Rattle.law_sources.proofs.FoundData.{data_gathered}

-- ---- the keys of an image's members ascend

bodies_rise : (p : Parts) → IsImage p → Rises 0 (line_count p) (map (λ entry. entry.0.0) p.bodies)
bodies_rise p image = rises (line_count p) _ (all_map (IsDataLine p) (λ n. n < line_count p) (λ entry. entry.0.0) p.bodies (λ x is. is.0) image.bodies) image.bodies_ascend

start_number : (p : Parts) (start : NodeNo × ℕ × ℕ) → IsStart p start → context_started p start < node_count p * p.contexts
start_number p start is = omega (arith, mul-add-lt start.0.0 p.contexts start.1 (node_count p) is.0 is.1)

starts_rise : (p : Parts) → IsImage p → Rises 0 (node_count p * p.contexts) (map (context_started p) p.starts)
starts_rise p image = rises (node_count p * p.contexts) _ (all_map (IsStart p) (λ n. n < node_count p * p.contexts) (context_started p) p.starts (start_number p) image.starts) image.starts_ascend

always_rise : (p : Parts) → IsImage p → Rises 0 (line_count p) p.always
always_rise p image = rises (line_count p) p.always image.always image.always_ascend

-- ---- the image

parts_equal : (p q : Parts) → p.width ≡ q.width → p.height ≡ q.height → p.contexts ≡ q.contexts → p.per_node ≡ q.per_node → p.code ≡ q.code → p.bodies ≡ q.bodies → p.starts ≡ q.starts → p.always ≡ q.always → p ≡ q
parts_equal p q width height contexts per_node code bodies starts always = λ i. record {
  width = width i;
  height = height i;
  contexts = contexts i;
  per_node = per_node i;
  code = code i;
  bodies = bodies i;
  starts = starts i;
  always = always i;
}

starts_kept : (starts : List (NodeNo × ℕ × ℕ)) (nodes slots : ℕ) → 1 ≤ length starts → some_starts starts nodes slots ≡ starts
starts_kept [] nodes slots some = absurd (omega arith)
starts_kept (x ∷ xs) nodes slots some = refl

-- what the lines fill in makes the image
image_back : (p : Parts) → IsImage p → HasWords p → (begun in_data : Bool) (shared : ℕ) (written : ℕ → Bool) (started : ℕ → ℕ → Bool) (f : Filled)
    → map (λ w. w.0) f.words ≡ p.code → f.memory ≡ memory_with p.bodies (λ place. 0) → f.starts ≡ starts_with p.starts (λ node slot. None)
    → Makes p (laid_so p begun in_data (length p.code) shared written started (always_with p.always (λ line. false))) f
image_back p image words begun in_data shared written started f code memory starts =
    let some = all_weaker (IsDataLine p) (λ entry. entry.1 ≡ zero_line → ⊥) p.bodies (λ x is. is.1) image.bodies in
    let slots = all_weaker (IsStart p) (λ start. start.1 < p.contexts) p.starts (λ x is. is.1) image.starts in
    let found = ap (λ s. starts_of s (node_count p) p.contexts) starts ∙ starts_gathered p.contexts (node_count p) p.starts slots (starts_rise p image) in
    record {
      names = refl;
      code = refl;
      image = parts_equal _ p refl refl refl refl code
          (ap (λ m. gathered (data_line m) (line_count p)) memory ∙ data_gathered (line_count p) p.bodies some words.bodies (bodies_rise p image))
          (ap (λ xs. some_starts xs (node_count p) p.contexts) found ∙ starts_kept p.starts (node_count p) p.contexts image.some_start)
          (always_gathered (line_count p) p.always (always_rise p image));
    }

-- ---- the lines

lines_go : (p : Parts) → IsImage p → HasWords p → LinesGo (length p.code) 1 (lines_read p) nothing_laid nothing_filled (Makes p)
unfolding lines_read
lines_go p image words =
    let count = length p.code in
    let bodies : List Line = flat_map data_read p.bodies in
    let always : List Line = map always_read p.always ++ bodies in
    let starts : List Line = map start_read p.starts ++ always in
    sizes_go p image count (code_read 0 p.code ++ starts) nothing_filled (Makes p)
    (code_goes p (λ place. false) (λ node slot. false) (λ line. false) count 4 0 count 0 p.code starts false nothing_filled (Makes p) (omega arith) (omega arith) image.code.1 words.code (λ b1 n1 f1 words1 memory1 starts1.
    starts_go p count (λ place. false) (λ line. false) n1 p.starts 0 (node_count p * p.contexts) always b1 (λ node slot. false) f1 (Makes p) image.code.1 image.starts (starts_rise p image) (λ n s small holds. absurd (false≢true holds)) (λ b2 n2 started2 f2 words2 memory2 starts2.
    always_go p count (λ place. false) started2 count n2 p.always 0 (line_count p) bodies b2 (λ line. false) f2 (Makes p) image.always (always_rise p image) (λ n holds. absurd (false≢true holds)) (λ b3 n3.
    data_goes p count started2 (always_with p.always (λ line. false)) count n3 p.bodies 0 (line_count p) b3 false 0 (λ place. false) f2 (Makes p) image.bodies words.bodies (bodies_rise p image) (λ place holds. absurd (false≢true holds)) (λ b4 d4 s4 w4 f4 words4 starts4 memory4.
    image_back p image words b4 d4 s4 w4 started2 f4
    (ap (map (λ w. w.0)) words4 ∙ (ap (map (λ w. w.0)) words2 ∙ words1))
    (memory4 ∙ ap (memory_with p.bodies) (memory2 ∙ memory1))
    (starts4 ∙ (starts2 ∙ ap (starts_with p.starts) starts1)))))))

pub lines_assembled : (p : Parts) → IsImage p → HasWords p → IsAssembledTo (lines_read p) p
lines_assembled p image words = made p (lines_read p) (λ none. (let some = image.code.0 in omega arith)) (lines_go p image words)
