-- The parts of an assembled source are an image's.
use Rattle.std.proofs.Common.{◌≡◌, ◌≢◌, true, false, Bool, ℕ, zero, suc, ◌+◌, ◌*◌, ◌%◌, ◌<◌, ◌≤◌, if◌then◌else◌, List, [], ◌∷◌, length, map, Option, Some, None, refl, sym, ap, ◌∙◌, subst, arith, length-append}
use Rattle.std.proofs.lemmas.Bool.{true≢false}
use Rattle.std.proofs.lemmas.List.{length-map}
use Rattle.std.proofs.Math.Nat.{suc-mul}
use Rattle.std.specs.Option.{option_map_or}
use Rattle.std.specs.List.{AllByRecursion}
use Rattle.std.specs.List.Sorted.{IsStrictlyIncreasing}
use Rattle.alw_num.specs.declared.addresses.Line.{Line as Body}
use Rattle.alw_num.specs.declared.addresses.LineNo.{LineNo}
use Rattle.alw_num.specs.declared.addresses.NodeNo.{NodeNo}
use Rattle.alw_image.specs.declared.parts.Parts.{Parts}
use Rattle.alw_image.specs.Images.{IsImage, IsDataLine, IsStart, context_started, zero_line}
use Rattle.sparc_place.specs.declared.plans.Plan.{Plan}
use Rattle.sparc_place.specs.Sizes.{size_of}
use Rattle.sparc_place.specs.Places.{line_count}
use Rattle.sparc_place.specs.Plans.{layout_of}
use Rattle.sparc_assemble.specs.Assembly.{Filled, body_at, is_zero, data_line, start_at, starts_of, some_starts, always_at, gathered, parts_of}
use Rattle.sparc_assemble.proofs.Rising.{Rises, increasing, rises_gathered, map_gathered, all_gathered}

-- ---- data lines

one_line : (memory : ℕ → ℕ) (n : ℕ) → Rises n (suc n) (map (λ (entry : LineNo × Body). entry.0.0) (data_line memory n))
one_line memory n = go (is_zero (body_at memory n))
  where
    number : LineNo
    number = record { 0 = n }

    go : (b : Bool) → Rises n (suc n) (map (λ (entry : LineNo × Body). entry.0.0) (if b then [] else (number, body_at memory n) ∷ []))
    go true = omega arith
    go false = (omega arith, omega arith)

lines_rise : (memory : ℕ → ℕ) (count : ℕ) → IsStrictlyIncreasing (map (λ (entry : LineNo × Body). entry.0.0) (gathered (data_line memory) count))
lines_rise memory count = increasing 0 count _ (subst (Rises 0 count) (sym (map_gathered (λ (entry : LineNo × Body). entry.0.0) (data_line memory) count)) (rises_gathered (λ k. map (λ (entry : LineNo × Body). entry.0.0) (data_line memory k)) (λ n. n) (one_line memory) count))

not_zero : (body : Body) → is_zero body ≡ false → body ≢ zero_line
not_zero body is same = absurd (true≢false (sym (ap is_zero same) ∙ is))

data_allowed : (p : Parts) (memory : ℕ → ℕ) (n : ℕ) → n < p.width * p.height * p.per_node → AllByRecursion (IsDataLine p) (data_line memory n)
data_allowed p memory n l = go (is_zero (body_at memory n)) refl
  where
    number : LineNo
    number = record { 0 = n }

    go : (b : Bool) → is_zero (body_at memory n) ≡ b → AllByRecursion (IsDataLine p) (if b then [] else (number, body_at memory n) ∷ [])
    go true e = tt
    go false e = ((l, not_zero (body_at memory n) e), tt)

-- ---- Trap-Always lines

one_always : (always : ℕ → Bool) (n : ℕ) → Rises n (suc n) (always_at always n)
one_always always n = go (always n)
  where
    go : (b : Bool) → Rises n (suc n) (if b then n ∷ [] else [])
    go true = (omega arith, omega arith)
    go false = omega arith

always_rise : (always : ℕ → Bool) (count : ℕ) → IsStrictlyIncreasing (gathered (always_at always) count)
always_rise always count = increasing 0 count _ (rises_gathered (always_at always) (λ n. n) (one_always always) count)

always_allowed : (always : ℕ → Bool) (count n : ℕ) → n < count → AllByRecursion (λ line. line < count) (always_at always n)
always_allowed always count n l = go (always n)
  where
    go : (b : Bool) → AllByRecursion (λ line. line < count) (if b then n ∷ [] else [])
    go true = (l, tt)
    go false = tt

-- ---- starts

one_start : (starts : ℕ → ℕ → Option ℕ) (slots node slot : ℕ) → Rises (node * slots + slot) (node * slots + suc slot) (map (λ (s : NodeNo × ℕ × ℕ). s.0.0 * slots + s.1) (start_at starts node slot))
one_start starts slots node slot = go (starts node slot)
  where
    go : (o : Option ℕ) → Rises (node * slots + slot) (node * slots + suc slot) (map (λ (s : NodeNo × ℕ × ℕ). s.0.0 * slots + s.1) (option_map_or (λ address. (record { 0 = node }, slot, address) ∷ []) o []))
    go None = omega arith
    go (Some address) = (omega arith, omega arith)

node_rises : (starts : ℕ → ℕ → Option ℕ) (slots node : ℕ) → Rises (node * slots) (suc node * slots) (map (λ (s : NodeNo × ℕ × ℕ). s.0.0 * slots + s.1) (gathered (start_at starts node) slots))
node_rises starts slots node =
    let from : node * slots + 0 ≡ node * slots = omega arith in
    let to : node * slots + slots ≡ suc node * slots = sym (suc-mul node slots) in
    let all = rises_gathered (λ slot. map (λ (s : NodeNo × ℕ × ℕ). s.0.0 * slots + s.1) (start_at starts node slot)) (λ slot. node * slots + slot) (one_start starts slots node) slots in
    subst (λ xs. Rises (node * slots) (suc node * slots) xs) (sym (map_gathered (λ (s : NodeNo × ℕ × ℕ). s.0.0 * slots + s.1) (start_at starts node) slots))
    (subst (λ high. Rises (node * slots) high (gathered (λ slot. map (λ (s : NodeNo × ℕ × ℕ). s.0.0 * slots + s.1) (start_at starts node slot)) slots)) to
    (subst (λ low. Rises low (node * slots + slots) (gathered (λ slot. map (λ (s : NodeNo × ℕ × ℕ). s.0.0 * slots + s.1) (start_at starts node slot)) slots)) from all))

starts_rise : (starts : ℕ → ℕ → Option ℕ) (nodes slots : ℕ) → IsStrictlyIncreasing (map (λ (s : NodeNo × ℕ × ℕ). s.0.0 * slots + s.1) (starts_of starts nodes slots))
starts_rise starts nodes slots =
    let all = rises_gathered (λ node. map (λ (s : NodeNo × ℕ × ℕ). s.0.0 * slots + s.1) (gathered (start_at starts node) slots)) (λ node. node * slots) (node_rises starts slots) nodes in
    increasing (0 * slots) (nodes * slots) _ (subst (Rises (0 * slots) (nodes * slots)) (sym (map_gathered (λ (s : NodeNo × ℕ × ℕ). s.0.0 * slots + s.1) (λ node. gathered (start_at starts node) slots) nodes)) all)

-- each start is at one of so many code words
abbrev pub AreAddresses : ℕ → (ℕ → ℕ → Option ℕ) → Type 0
AreAddresses count starts = (node slot address : ℕ) → starts node slot ≡ Some address → (address % 4 ≡ 0) × (address < 4 * count)

start_allowed : (p : Parts) (starts : ℕ → ℕ → Option ℕ) (node slot : ℕ) → AreAddresses (length p.code) starts → node < p.width * p.height → slot < p.contexts → AllByRecursion (IsStart p) (start_at starts node slot)
start_allowed p starts node slot sound l m = go (starts node slot) refl
  where
    go : (o : Option ℕ) → starts node slot ≡ o → AllByRecursion (IsStart p) (option_map_or (λ address. (record { 0 = node }, slot, address) ∷ []) o [])
    go None e = tt
    go (Some address) e = ((l, m, (sound node slot address e).0, (sound node slot address e).1), tt)

starts_allowed : (p : Parts) (starts : ℕ → ℕ → Option ℕ) → AreAddresses (length p.code) starts → AllByRecursion (IsStart p) (starts_of starts (p.width * p.height) p.contexts)
starts_allowed p starts sound =
    all_gathered (IsStart p) (λ node. gathered (start_at starts node) p.contexts) (p.width * p.height) (λ node l.
    all_gathered (IsStart p) (start_at starts node) p.contexts (λ slot m. start_allowed p starts node slot sound l m))

-- each context at 0
abbrev zeros : ℕ → ℕ → Option ℕ
zeros node slot = Some 0

zeros_sound : (count : ℕ) → 1 ≤ count → AreAddresses count zeros
zeros_sound count some node slot address e = let zero_is : 0 ≡ address = cc in rw (sym zero_is) (refl, omega arith)

gathered_some : {A : Type 0} (found : ℕ → List A) (n : ℕ) → 1 ≤ length (found n) → 1 ≤ length (gathered found (suc n))
gathered_some found n some = omega (arith, length-append (gathered found n) (found n))

zeros_some : (nodes slots : ℕ) → 1 ≤ nodes → 1 ≤ slots → 1 ≤ length (starts_of zeros nodes slots)
zeros_some zero slots l m = absurd (omega arith)
zeros_some (suc n) zero l m = absurd (omega arith)
zeros_some (suc n) (suc k) l m = gathered_some (λ node. gathered (start_at zeros node) (suc k)) n (gathered_some (start_at zeros n) k (omega arith))

-- starts are an image's, whether lines start contexts or none does
pub record AreStarts (p : Parts) : Type 0 where
  pub some : 1 ≤ length p.starts
  pub allowed : AllByRecursion (IsStart p) p.starts
  pub ascend : IsStrictlyIncreasing (map (context_started p) p.starts)

some_allowed : (p : Parts) (given : List (NodeNo × ℕ × ℕ)) → p.starts ≡ some_starts given (p.width * p.height) p.contexts → 1 ≤ p.width * p.height → 1 ≤ p.contexts → 1 ≤ length p.code → AllByRecursion (IsStart p) given → IsStrictlyIncreasing (map (context_started p) given) → AreStarts p
some_allowed p [] is nodes slots code allowed ascend = record {
  some = rw is (zeros_some (p.width * p.height) p.contexts nodes slots);
  allowed = rw is (starts_allowed p zeros (zeros_sound (length p.code) code));
  ascend = rw is (starts_rise zeros (p.width * p.height) p.contexts);
}
some_allowed p (first ∷ rest) is nodes slots code allowed ascend = record {
  some = rw is (omega arith);
  allowed = rw is allowed;
  ascend = rw is ascend;
}

product_some : (a b : ℕ) → 1 ≤ a → 1 ≤ b → 1 ≤ a * b
product_some zero b l m = absurd (omega arith)
product_some (suc a) b l m = rw (suc-mul a b) (omega arith)

-- the parts are an image's
pub is_image : (plan : Plan) (f : Filled) → 1 ≤ length f.words → length f.words ≤ 65536 → AreAddresses (length f.words) f.starts → IsImage (parts_of (layout_of plan) f)
is_image plan f some few sound =
    let p : Parts = parts_of (layout_of plan) f in
    let s = plan.sizes in
    let size : length p.code ≡ length f.words = simp length-map in
    let nodes : 1 ≤ p.width * p.height = product_some (size_of s.width) (size_of s.height) s.some_width s.some_height in
    let code : 1 ≤ length p.code = omega arith in
    let sound' : AreAddresses (length p.code) f.starts = subst (λ n. AreAddresses n f.starts) (sym size) sound in
    let starts = some_allowed p (starts_of f.starts (p.width * p.height) p.contexts) refl nodes s.some_context code (starts_allowed p f.starts sound') (starts_rise f.starts (p.width * p.height) p.contexts) in
    record {
      width = (s.some_width, s.few_columns);
      height = (s.some_height, s.few_rows);
      contexts = (s.some_context, s.few_contexts);
      per_node = (s.some_line, s.few_lines);
      code = (code, omega arith);
      some_start = starts.some;
      bodies = all_gathered (IsDataLine p) (data_line f.memory) (line_count (layout_of plan)) (λ n l. data_allowed p f.memory n l);
      bodies_ascend = lines_rise f.memory (line_count (layout_of plan));
      starts = starts.allowed;
      starts_ascend = starts.ascend;
      always = all_gathered (λ line. line < line_count (layout_of plan)) (always_at (layout_of plan).always) (line_count (layout_of plan)) (λ n l. always_allowed (layout_of plan).always (line_count (layout_of plan)) n l);
      always_ascend = always_rise (layout_of plan).always (line_count (layout_of plan));
    }
