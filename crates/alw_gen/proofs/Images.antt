-- A workload is an image.
use Rattle.std.proofs.Common.{◌≡◌, ℕ, zero, suc, ◌+◌, ◌*◌, ◌<◌, ◌≤◌, ◌&&◌, Bool, true, false, nat_le, if◌then◌else◌, List, ◌∷◌, length, map, refl, sym, ap, subst, ◌∙◌, arith}
use Rattle.std.proofs.lemmas.List.{length-map}
use Rattle.std.proofs.lemmas.List.FromFn.{length-map-range_with_len, length-range_with_len, get_or-range_with_len}
use Rattle.std.proofs.lemmas.Bool.Decides.{nat_tests}
use Rattle.std.proofs.lemmas.Nat.{mul-le}
use Rattle.std.specs.List.{AllByRecursion, range_with_len}
use Rattle.std.specs.List.Sorted.{IsStrictlyIncreasing}
use Rattle.sparc_asm.specs.Words.{instr_word}
use Rattle.alw_image.specs.declared.parts.Parts.{Parts}
use Rattle.alw_image.specs.Images.{IsImage, IsStart, node_count, context_started}
use Rattle.alw_image.specs.Numbers.{HasWords}
use Rattle.alw_gen.specs.Workloads.{block_length, blocks, start_of_node, workload_of, most_operations, IsMesh}
use Rattle.alw_gen.proofs.Programs.{length-blocks, code_words}

-- ---- sizes

-- so many nodes with so many operations
few_words : (width height size : ℕ) → 1 ≤ width → width ≤ 16 → 1 ≤ height → height ≤ 16 → size ≤ most_operations width height → (width * height) * block_length size ≤ 65536
few_words width height size w w16 h h16 s = by_test (nat_le width 8) refl (nat_le height 8) refl s
  where
    wide : size ≤ 63 → (width * height) * block_length size ≤ 65536
    wide s = omega (arith, mul-le (width * height) (block_length size) 256 255 (mul-le width height 16 16 w16 h16) (omega arith))

    by_test : (a : Bool) → nat_le width 8 ≡ a → (b : Bool) → nat_le height 8 ≡ b → size ≤ (if a && b then 255 else 63) → (width * height) * block_length size ≤ 65536
    by_test true e true f s =
        let narrow : width ≤ 8 = grind (arith, nat_tests) in
        let low : height ≤ 8 = grind (arith, nat_tests) in
        omega (arith, mul-le (width * height) (block_length size) 64 1023 (mul-le width height 8 8 narrow low) (omega arith))
    by_test true e false f s = wide s
    by_test false e b f s = wide s

some_nodes : (width height : ℕ) → 1 ≤ width → 1 ≤ height → 1 ≤ width * height
some_nodes width height w h = omega (arith, mul-le 1 1 width height w h)

few_nodes : (width height : ℕ) → width ≤ 16 → height ≤ 16 → width * height ≤ 256
few_nodes width height w h = mul-le width height 16 16 w h

-- ---- starts

start_is : (per node nodes : ℕ) → node < nodes → 1 ≤ per → 4 * per * node < 4 * (nodes * per)
start_is per node nodes l some = omega (arith, mul-le (node + 1) per nodes per (omega arith) (omega arith))

starts_are : (p : Parts) (size from count : ℕ) → p.contexts ≡ 1 → from + count ≤ node_count p → length p.code ≡ node_count p * block_length size → AllByRecursion (IsStart p) (map (start_of_node size) (range_with_len from count))
starts_are p size from zero one few long = tt
starts_are p size from (suc count) one few long =
    ((omega arith, omega arith, omega arith, omega (arith, start_is (block_length size) from (node_count p) (omega arith) (omega arith))), starts_are p size (from + 1) count one (omega arith) long)

keys_are : (p : Parts) (size from count : ℕ) → p.contexts ≡ 1 → map (context_started p) (map (start_of_node size) (range_with_len from count)) ≡ range_with_len from count
keys_are p size from zero one = refl
keys_are p size from (suc count) one =
    let head : from * p.contexts + 0 ≡ from = ap (λ (n : ℕ). from * n + 0) one ∙ omega arith in
    ap (λ (k : ℕ). k ∷ map (context_started p) (map (start_of_node size) (range_with_len (from + 1) count))) head ∙ ap (λ (ks : List ℕ). from ∷ ks) (keys_are p size (from + 1) count one)

range_rises : (from count : ℕ) → IsStrictlyIncreasing (range_with_len from count)
range_rises from count = λ k within.
    let long = length-range_with_len from count in
    omega (arith, get_or-range_with_len from count k 0 (omega arith), get_or-range_with_len from count (k + 1) 0 (omega arith))

starts_ascend : (p : Parts) (size count : ℕ) → p.contexts ≡ 1 → IsStrictlyIncreasing (map (context_started p) (map (start_of_node size) (range_with_len 0 count)))
starts_ascend p size count one = subst IsStrictlyIncreasing (sym (keys_are p size 0 count one)) (range_rises 0 count)

-- ---- the whole

pub words_few : (width height size seed : ℕ) → IsMesh (width, height) size → length (blocks (4 * (width * height)) size (width * height) seed) ≤ 65536
words_few width height size seed mesh = omega (arith, length-blocks (4 * (width * height)) size (width * height) seed, few_words width height size mesh.width.0 mesh.width.1 mesh.height.0 mesh.height.1 mesh.operations.1)

pub is_workload : (seed width height size : ℕ) → IsMesh (width, height) size → IsImage (workload_of seed width height size)
unfolding workload_of
is_workload seed width height size mesh =
    let p = workload_of seed width height size in
    let some = some_nodes width height mesh.width.0 mesh.height.0 in
    let long : length p.code ≡ (width * height) * block_length size = length-map (blocks (4 * (width * height)) size (width * height) seed) instr_word ∙ length-blocks (4 * (width * height)) size (width * height) seed in
    let few = few_words width height size mesh.width.0 mesh.width.1 mesh.height.0 mesh.height.1 mesh.operations.1 in
    let one = mul-le 1 1 (width * height) (block_length size) some (omega arith) in
    let starts = length-map-range_with_len (start_of_node size) 0 (width * height) in
    record {
      width = mesh.width;
      height = mesh.height;
      contexts = (omega arith, omega arith);
      per_node = (omega arith, omega arith);
      code = (omega (arith, long, one), omega (arith, long, few));
      some_start = omega (arith, starts, some);
      bodies = tt;
      bodies_ascend = λ k within. absurd (omega arith);
      starts = starts_are p size 0 (width * height) refl (omega arith) long;
      starts_ascend = starts_ascend p size (width * height) refl;
      always = tt;
      always_ascend = λ k within. absurd (omega arith);
    }

pub has_words : (seed width height size : ℕ) → IsMesh (width, height) size → HasWords (workload_of seed width height size)
unfolding workload_of
has_words seed width height size mesh = record {
  code = code_words (4 * (width * height)) size (width * height) seed (omega (arith, some_nodes width height mesh.width.0 mesh.height.0)) (omega (arith, few_nodes width height mesh.width.1 mesh.height.1));
  bodies = tt;
}
