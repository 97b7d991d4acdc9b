-- The source of an image is within what the assembler reads.
use Rattle.std.proofs.Common.{◌≡◌, ℕ, zero, suc, ◌+◌, ◌*◌, ◌<◌, ◌≤◌, List, [], ◌∷◌, ◌++◌, map, length, refl, arith, add-one, length-append}
use Rattle.std.specs.Prelude.{slice_index}
use Rattle.std.specs.List.{flat_map, AllByRecursion}
use Rattle.std.specs.List.Sorted.{IsStrictlyIncreasing}
use Rattle.std.proofs.lemmas.List.{length-map}
use Rattle.std.proofs.lemmas.List.Elements.{All-from_recursion}
use Rattle.std.proofs.lemmas.Nat.{mul-le}
use Rattle.alw_num.specs.declared.addresses.Line.{Line as Body}
use Rattle.alw_num.specs.declared.addresses.LineNo.{LineNo}
use Rattle.alw_num.specs.declared.addresses.NodeNo.{NodeNo}
use Rattle.alw_image.specs.declared.parts.Parts.{Parts}
use Rattle.alw_image.specs.Images.{IsImage, IsStart, IsDataLine, line_count, context_started}
use Rattle.alw_image.specs.Numbers.{HasWords}
use Rattle.alw_source.specs.Sources.{source_of}
use Rattle.law_sources.specs.Parsed.{code_read, start_read, always_read, data_read, lines_read}
use Rattle.law_sources.proofs.Read.{IsSmall, small, source_told}

-- ---- how many numbers ascend below a bound

at_least : (xs : List ℕ) → IsStrictlyIncreasing xs → (k : ℕ) → k < length xs → k ≤ slice_index xs k
at_least xs rising zero l = omega arith
at_least xs rising (suc k) l =
    let up = rw add-one at (rising k (omega arith)) in
    omega (arith, at_least xs rising k (omega arith), up)

few : (xs : List ℕ) (bound : ℕ) → IsStrictlyIncreasing xs → AllByRecursion (λ x. x < bound) xs → length xs ≤ bound
few [] bound rising all = omega arith
few (x ∷ rest) bound rising all =
    let last : length rest < length (x ∷ rest) = omega arith in
    omega (arith, at_least (x ∷ rest) rising (length rest) last, All-from_recursion (λ y. y < bound) (x ∷ rest) all (length rest) 0 last)

-- the keys of a table, each of which is below a bound
keys_below : {X : Type 0} (P : X → Type 0) (key : X → ℕ) (bound : ℕ) (xs : List X) → ((x : X) → P x → key x < bound) → AllByRecursion P xs → AllByRecursion (λ k. k < bound) (map key xs)
keys_below P key bound [] below all = tt
keys_below P key bound (x ∷ xs) below all = (below x all.0, keys_below P key bound xs below all.1)

few_keys : {X : Type 0} (P : X → Type 0) (key : X → ℕ) (bound : ℕ) (xs : List X) → ((x : X) → P x → key x < bound) → AllByRecursion P xs → IsStrictlyIncreasing (map key xs) → length xs ≤ bound
few_keys P key bound xs below all rising = omega (arith, few (map key xs) bound rising (keys_below P key bound xs below all), length-map xs key)

-- ---- how many members an image's tables have

start_below : (p : Parts) → IsSmall p → (start : NodeNo × ℕ × ℕ) → IsStart p start → context_started p start < 1024
start_below p bounds start is =
    let product : start.0.0 * p.contexts ≤ 255 * 4 = mul-le start.0.0 p.contexts 255 4 (omega (arith, is.0, bounds.nodes)) bounds.contexts in
    omega (arith, product, is.1, bounds.contexts)

few_starts : (p : Parts) → IsImage p → length p.starts ≤ 1024
few_starts p image = few_keys (IsStart p) (context_started p) 1024 p.starts (start_below p (small p image)) image.starts image.starts_ascend

few_bodies : (p : Parts) → IsImage p → length p.bodies ≤ 1048576
few_bodies p image = few_keys (IsDataLine p) (λ entry. entry.0.0) 1048576 p.bodies (λ entry is. omega (arith, is.0, (small p image).lines)) image.bodies image.bodies_ascend

few_always : (p : Parts) → IsImage p → length p.always ≤ 1048576
few_always p image = omega (arith, few p.always (line_count p) image.always_ascend image.always, (small p image).lines)

-- ---- how many lines a source has

length-code : (address : ℕ) (code : List ℕ) → length (code_read address code) ≡ length code
length-code address [] = refl
length-code address (word ∷ code) = omega (arith, length-code (address + 4) code)

length-data : (bodies : List (LineNo × Body)) → length (flat_map data_read bodies) ≡ 2 * length bodies
length-data [] = refl
length-data (entry ∷ bodies) = omega (arith, length-data bodies)

length-lines : (p : Parts) → length (lines_read p) ≡ 3 + length p.code + length p.starts + length p.always + 2 * length p.bodies
unfolding lines_read
length-lines p =
    omega (
      arith,
      length-append (code_read 0 p.code) (map start_read p.starts ++ (map always_read p.always ++ flat_map data_read p.bodies)),
      length-append (map start_read p.starts) (map always_read p.always ++ flat_map data_read p.bodies),
      length-append (map always_read p.always) (flat_map data_read p.bodies),
      length-code 0 p.code,
      length-map p.starts start_read,
      length-map p.always always_read,
      length-data p.bodies,
    )

-- ---- how many bytes

pub most_bytes : (p : Parts) → IsImage p → HasWords p → length (source_of p) ≤ 268435456
most_bytes p image words =
    omega (arith, (source_told p image words).size, length-lines p, image.code.1, few_starts p image, few_always p image, few_bodies p image)
