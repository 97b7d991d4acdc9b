-- Parts without a fault are an image's, and an image's parts have none.
use Rattle.std.proofs.Common.{◌≡◌, ℕ, ◌+◌, ◌*◌, ◌<◌, ◌≤◌, Bool, true, false, not, ◌&&◌, Option, Some, None, List, length, map, refl, sym, ap, subst, ◌∙◌, IsTrue, is_some, arith}
use Rattle.std.proofs.lemmas.Bool.Decides.{nat_tests}
use Rattle.std.proofs.lemmas.Bool.{and_parts, and_from}
use Rattle.std.proofs.lemmas.List.{length-map, map-id}
use Rattle.std.specs.List.Sorted.{IsStrictlyIncreasing}
use Rattle.alw_num.specs.declared.addresses.Line.{Line}
use Rattle.alw_num.specs.declared.addresses.LineNo.{LineNo}
use Rattle.alw_num.specs.declared.addresses.NodeNo.{NodeNo}
use Rattle.alw_image.specs.declared.parts.Parts.{Parts}
use Rattle.alw_image.specs.declared.faults.ImageErr.{ImageErr}
use Rattle.alw_image.specs.Images.{IsImage, IsDataLine, IsStart, node_count, line_count, context_count, context_started, zero_line}
use Rattle.alw_image.specs.Faults.{is_zero, is_within, fits_body, fits_start, fits_line, body_key, line_key, table_fault, tables_fault, first_fault}
use Rattle.alw_image.specs.Sizes.{HasSizes, has_sizes, has_sides, has_counts}
use Rattle.alw_image.proofs.HeaderFields.{within-both, product}
use Rattle.alw_image.proofs.Orders.{all_fit, ascends, no_fault, few, all_map, all_weaker, both_none}

pub within : (least most n : ℕ) → least ≤ n → n ≤ most → IsTrue (is_within least most n)
within least most n low high = grind (arith, nat_tests)

-- ---- sizes

pub sizes_of : (p : Parts) → IsTrue (has_sizes p) → HasSizes p
sizes_of p fit =
    let s = and_parts (has_sides p) (has_counts p) fit in
    let s1 = and_parts (is_within 1 16 p.width) (is_within 1 16 p.height && (is_within 1 4 p.contexts && is_within 1 4096 p.per_node)) s.0 in
    let s2 = and_parts (is_within 1 16 p.height) (is_within 1 4 p.contexts && is_within 1 4096 p.per_node) s1.1 in
    let s3 = and_parts (is_within 1 4 p.contexts) (is_within 1 4096 p.per_node) s2.1 in
    let c1 = and_parts (is_within 1 65536 (length p.code)) (is_within 0 (line_count p) (length p.bodies) && (is_within 1 (context_count p) (length p.starts) && is_within 0 (line_count p) (length p.always))) s.1 in
    let c2 = and_parts (is_within 0 (line_count p) (length p.bodies)) (is_within 1 (context_count p) (length p.starts) && is_within 0 (line_count p) (length p.always)) c1.1 in
    let c3 = and_parts (is_within 1 (context_count p) (length p.starts)) (is_within 0 (line_count p) (length p.always)) c2.1 in
    record {
      width = within-both 1 16 p.width s1.0;
      height = within-both 1 16 p.height s2.0;
      contexts = within-both 1 4 p.contexts s3.0;
      per_node = within-both 1 4096 p.per_node s3.1;
      code = within-both 1 65536 (length p.code) c1.0;
      bodies = (within-both 0 (line_count p) (length p.bodies) c2.0).1;
      starts = within-both 1 (context_count p) (length p.starts) c3.0;
      always = (within-both 0 (line_count p) (length p.always) c3.1).1;
    }

pub has_sizes_of : (p : Parts) → HasSizes p → IsTrue (has_sizes p)
has_sizes_of p s =
    let sides = and_from (is_within 1 16 p.width) _ (within 1 16 p.width s.width.0 s.width.1) (and_from (is_within 1 16 p.height) _ (within 1 16 p.height s.height.0 s.height.1)
    (and_from (is_within 1 4 p.contexts) (is_within 1 4096 p.per_node) (within 1 4 p.contexts s.contexts.0 s.contexts.1) (within 1 4096 p.per_node s.per_node.0 s.per_node.1))) in
    let counts = and_from (is_within 1 65536 (length p.code)) _ (within 1 65536 (length p.code) s.code.0 s.code.1) (and_from (is_within 0 (line_count p) (length p.bodies)) _ (within 0 (line_count p) (length p.bodies) (omega arith) s.bodies)
    (and_from (is_within 1 (context_count p) (length p.starts)) (is_within 0 (line_count p) (length p.always)) (within 1 (context_count p) (length p.starts) s.starts.0 s.starts.1) (within 0 (line_count p) (length p.always) (omega arith) s.always))) in
    and_from (has_sides p) (has_counts p) sides counts

-- ---- members

zero-is : (body : Line) → IsTrue (is_zero body) → body ≡ zero_line
zero-is body zeros =
    let a : body.a ≡ 0 = grind (arith, nat_tests) in
    let b : body.b ≡ 0 = grind (arith, nat_tests) in
    let c : body.c ≡ 0 = grind (arith, nat_tests) in
    let d : body.d ≡ 0 = grind (arith, nat_tests) in
    of_parts body.a body.b body.c body.d a b c d
  where
    of_parts : (a b c d : ℕ) → a ≡ 0 → b ≡ 0 → c ≡ 0 → d ≡ 0 → ◌≡◌ {A = Line} (record { a = a; b = b; c = c; d = d }) zero_line
    of_parts a b c d is_a is_b is_c is_d = cc

data-line : (p : Parts) (entry : LineNo × Line) → IsTrue (fits_body (line_count p) entry) → IsDataLine p entry
data-line p entry fits = (grind (arith, nat_tests), λ zeros. by_zero (is_zero entry.1) (ap is_zero zeros) (and_parts _ (not (is_zero entry.1)) fits).1)
  where
    by_zero : (z : Bool) → z ≡ true → IsTrue (not z) → ⊥
    by_zero true is fits = (let e : false ≡ true = fits in cc)
    by_zero false is fits = cc

data-fits : (p : Parts) (entry : LineNo × Line) → IsDataLine p entry → IsTrue (fits_body (line_count p) entry)
data-fits p entry is = and_from _ (not (is_zero entry.1)) (grind (arith, nat_tests, is.0)) (by_zero (is_zero entry.1) (λ zeros. is.1 (zero-is entry.1 zeros)))
  where
    by_zero : (z : Bool) → (IsTrue z → ⊥) → IsTrue (not z)
    by_zero true not_zero = absurd (not_zero refl)
    by_zero false not_zero = refl

is-start : (p : Parts) (start : NodeNo × ℕ × ℕ) → IsTrue (fits_start (node_count p) p.contexts (length p.code) start) → IsStart p start
is-start p start fits = (grind (arith, nat_tests), grind (arith, nat_tests), grind (arith, nat_tests), grind (arith, nat_tests))

start-fits : (p : Parts) (start : NodeNo × ℕ × ℕ) → IsStart p start → IsTrue (fits_start (node_count p) p.contexts (length p.code) start)
start-fits p start is = grind (arith, nat_tests, is.0, is.1, is.2, is.3)

line-within : (lines line : ℕ) → IsTrue (fits_line lines line) → line < lines
line-within lines line fits = grind (arith, nat_tests)

line-fits : (lines line : ℕ) → line < lines → IsTrue (fits_line lines line)
line-fits lines line within = grind (arith, nat_tests)

-- ---- the whole

pub is_image : (p : Parts) (b s a : ℕ) → HasSizes p → tables_fault p b s a ≡ None → IsImage p
is_image p b s a sizes none =
    let first = both_none (table_fault (fits_body (line_count p)) body_key 20 b None p.bodies) _ none in
    let second = both_none (table_fault (fits_start (node_count p) p.contexts (length p.code)) (context_started p) 8 s None p.starts) _ first.1 in
    record {
      width = sizes.width;
      height = sizes.height;
      contexts = sizes.contexts;
      per_node = sizes.per_node;
      code = sizes.code;
      some_start = sizes.starts.0;
      bodies = all_weaker _ _ p.bodies (data-line p) (all_fit (fits_body (line_count p)) body_key 20 b None p.bodies first.0);
      bodies_ascend = ascends (fits_body (line_count p)) body_key 20 b p.bodies first.0;
      starts = all_weaker _ _ p.starts (is-start p) (all_fit (fits_start (node_count p) p.contexts (length p.code)) (context_started p) 8 s None p.starts second.0);
      starts_ascend = ascends (fits_start (node_count p) p.contexts (length p.code)) (context_started p) 8 s p.starts second.0;
      always = all_weaker _ _ p.always (line-within (line_count p)) (all_fit (fits_line (line_count p)) line_key 4 a None p.always second.1);
      always_ascend = same_keys p.always (ascends (fits_line (line_count p)) line_key 4 a p.always second.1);
    }
  where
    same_keys : (xs : List ℕ) → IsStrictlyIncreasing (map line_key xs) → IsStrictlyIncreasing xs
    same_keys xs up = subst IsStrictlyIncreasing (map-id xs) up

-- an image's parts have sizes within their ranges
pub image_sizes : (p : Parts) → IsImage p → HasSizes p
image_sizes p i = record {
  width = i.width;
  height = i.height;
  contexts = i.contexts;
  per_node = i.per_node;
  code = i.code;
  bodies = lengths p.bodies body_key (line_count p) (few (line_count p) (map body_key p.bodies) (all_map (IsDataLine p) (λ key. key < line_count p) body_key p.bodies (λ entry is. is.0) i.bodies) i.bodies_ascend);
  starts = (i.some_start, lengths p.starts (context_started p) (context_count p) (few (context_count p) (map (context_started p) p.starts) (all_map (IsStart p) (λ key. key < context_count p) (context_started p) p.starts (λ start is. context_within (node_count p) p.contexts start.0.0 start.1 is.0 is.1) i.starts) i.starts_ascend));
  always = few (line_count p) p.always i.always i.always_ascend;
}
  where
    lengths : {X : Type 0} (xs : List X) (key : X → ℕ) (most : ℕ) → length (map key xs) ≤ most → length xs ≤ most
    lengths xs key most short = omega (arith, short, length-map xs key)

    context_within : (nodes contexts node slot : ℕ) → node < nodes → slot < contexts → node * contexts + slot < nodes * contexts
    context_within nodes contexts node slot node_fits slot_fits =
        let more : (node + 1) * contexts ≤ nodes * contexts = product (node + 1) contexts nodes contexts (omega arith) (omega arith) in
        let e : (node + 1) * contexts ≡ node * contexts + contexts = grind arith in
        omega arith

-- and no member that is out of range or out of order
pub image_tables : (p : Parts) (b s a : ℕ) → IsImage p → tables_fault p b s a ≡ None
image_tables p b s a i =
    let bodies = no_fault (fits_body (line_count p)) body_key 20 b p.bodies (all_weaker _ _ p.bodies (data-fits p) i.bodies) i.bodies_ascend in
    let starts = no_fault (fits_start (node_count p) p.contexts (length p.code)) (context_started p) 8 s p.starts (all_weaker _ _ p.starts (start-fits p) i.starts) i.starts_ascend in
    let always = no_fault (fits_line (line_count p)) line_key 4 a p.always (all_weaker _ _ p.always (line-fits (line_count p)) i.always) (subst IsStrictlyIncreasing (sym (map-id p.always)) i.always_ascend) in
    none_both _ _ bodies (none_both _ _ starts always)
  where
    none_both : (x y : Option ImageErr) → x ≡ None → y ≡ None → first_fault x y ≡ None
    none_both None y first second = second
    none_both (Some e) y first second = absurd (let w : Some e ≡ None = first in cc)

-- where the sizes fit, the parts are an image's exactly where no member is out of range or out of order
pub tested : (p : Parts) (fault : Option ImageErr) (none : Bool) → IsTrue (has_sizes p) → fault ≡ tables_fault p 0 0 0 → is_some fault ≡ not none → (IsTrue none → IsImage p) × (IsImage p → IsTrue none)
tested p None true sizes is some = (λ t. is_image p 0 0 0 (sizes_of p sizes) (sym is), λ image. refl)
tested p (Some e) true sizes is some = absurd (let w : true ≡ false = some in cc)
tested p None false sizes is some = absurd (let w : false ≡ true = some in cc)
tested p (Some e) false sizes is some = (λ f. absurd (let w : false ≡ true = f in cc), λ image. absurd (let w : Some e ≡ None = is ∙ image_tables p 0 0 0 image in cc))
