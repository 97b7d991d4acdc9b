-- Bytes without a fault are the spelling of the parts that are read off them.
use Rattle.std.proofs.Common.{◌≡◌, ℕ, ◌+◌, ◌-◌, ◌*◌, ◌≤◌, ◌&&◌, nat_le, if◌then◌else◌, Option, None, List, [], ◌∷◌, ◌++◌, length, drop, refl, sym, ap, subst, ◌∙◌, IsTrue, arith, append_assoc, codes}
use Rattle.std.proofs.lemmas.List.{append-nil, drop-drop, take-append-drop, drop_all}
use Rattle.std.proofs.lemmas.Bool.Decides.{nat_tests}
use Rattle.std.specs.Int.{w16, w32, to_be_bytes}
use Rattle.std.specs.List.{flat_map, AllByRecursion}
use Rattle.alw_num.specs.Lanes.{half_at}
use Rattle.alw_image.specs.declared.headers.Header.{Header}
use Rattle.alw_image.specs.declared.parts.Parts.{Parts}
use Rattle.alw_image.specs.declared.faults.ImageErr.{ImageErr}
use Rattle.alw_image.specs.Images.{IsImage, IsStart, line_count, context_count, words, data_line, start_bytes, version_of, header, spelling}
use Rattle.alw_image.specs.Faults.{is_within, most_side, least_height, range_fault, bodies_at, starts_at, always_at, image_end, header_of, piece, parts_in, tables_fault, header_fault, body_fault, image_fault}
use Rattle.alw_image.specs.Sizes.{has_sizes}
use Rattle.alw_image.specs.Spellings.{header_bytes}
use Rattle.alw_image.specs.TableReads.{IsAnyMember, IsSlot, PartsAreRead}
use Rattle.alw_image.proofs.HeaderFields.{AreWithin, are_within, within-both}
use Rattle.alw_image.proofs.Orders.{all_weaker}
use Rattle.alw_image.proofs.Checked.{has_sizes_of}

-- the parts are those that the bytes spell
pub parts_are : (h : Header) (bytes : List ℕ) (p : Parts) → PartsAreRead h bytes p → parts_in h bytes ≡ p
parts_are h bytes p r = of_fields _ _ _ _ _ _ _ _ p r.width r.height r.contexts r.per_node r.code.reading r.bodies.reading r.starts.reading r.always.reading
  where
    of_fields : (w h c k : ℕ) (code : List ℕ) (bodies : List _) (starts : List _) (always : List ℕ) (p : Parts) → p.width ≡ w → p.height ≡ h → p.contexts ≡ c → p.per_node ≡ k → code ≡ p.code → bodies ≡ p.bodies → starts ≡ p.starts → always ≡ p.always →
        ◌≡◌ {A = Parts} (record { width = w; height = h; contexts = c; per_node = k; code = code; bodies = bodies; starts = starts; always = always }) p
    of_fields w h c k code bodies starts always p is_w is_h is_c is_k is_code is_bodies is_starts is_always =
        let e : ◌≡◌ {A = Parts} (record { width = w; height = h; contexts = c; per_node = k; code = code; bodies = bodies; starts = starts; always = always }) (record { width = p.width; height = p.height; contexts = p.contexts; per_node = p.per_node; code = p.code; bodies = p.bodies; starts = p.starts; always = p.always }) = cc in
        e

-- and have the sizes that the header says
pub sizes_read : (h : Header) (bytes : List ℕ) (p : Parts) → range_fault h ≡ None → PartsAreRead h bytes p → IsTrue (has_sizes p)
sizes_read h bytes p fits r =
    let w = are_within h fits in
    let width = r.width in
    let height = r.height in
    let contexts = r.contexts in
    let per_node = r.per_node in
    let code = r.code.number in
    let bodies = r.bodies.number in
    let starts = r.starts.number in
    let always = r.always.number in
    let lines : line_count p ≡ h.width * h.height * h.per_node = cc in
    let places : context_count p ≡ h.width * h.height * h.contexts = cc in
    let side = most h.version in
    let least = some h in
    has_sizes_of p (record {
      width = (let a = w.width in (omega arith, omega arith));
      height = (let a = w.height in (omega arith, omega arith));
      contexts = (let a = w.contexts in (omega arith, omega arith));
      per_node = (let a = w.per_node in (omega arith, omega arith));
      code = (let a = w.code in (omega arith, omega arith));
      bodies = (let a = w.bodies in omega arith);
      starts = (let a = w.starts in (omega arith, omega arith));
      always = (let a = w.always in omega arith);
    })
  where
    most : (version : ℕ) → most_side version ≤ 16
    most version = grind (arith, nat_tests)

    some : (h : Header) → 1 ≤ least_height h
    some h = grind (arith, nat_tests)

-- ---- the header's bytes

-- the version is the one that the sizes are spelled in
version-is : (h : Header) → AreWithin h → IsTrue (is_within 1 2 h.version) → (if nat_le h.width 8 && nat_le h.height 8 then 1 else 2) ≡ h.version
version-is h w version =
    let v = within-both 1 2 h.version version in
    let width = w.width in
    let height = w.height in
    grind (arith, nat_tests)

header-is : (h : Header) (p : Parts) → version_of p ≡ h.version → p.width ≡ h.width → p.height ≡ h.height → p.contexts ≡ h.contexts → h.blank ≡ 0 → p.per_node ≡ h.per_node →
    length p.code ≡ h.code → length p.bodies ≡ h.bodies → length p.starts ≡ h.starts → length p.always ≡ h.always → header_bytes h ≡ header p
unfolding header_bytes
header-is h p version width height contexts blank per_node code bodies starts always =
    of_fields h.version h.width h.height h.contexts h.blank h.per_node h.code h.bodies h.starts h.always (version_of p) p.width p.height p.contexts p.per_node (length p.code) (length p.bodies) (length p.starts) (length p.always) (sym version) (sym width) (sym height) (sym contexts) blank (sym per_node) (sym code) (sym bodies) (sym starts) (sym always)
  where
    spelled : ℕ → ℕ → ℕ → ℕ → ℕ → ℕ → ℕ → ℕ → ℕ → ℕ → List ℕ
    spelled v w h c z k code bodies starts always = codes "ALEW" ++ (to_be_bytes w16 v ++ (w ∷ h ∷ c ∷ z ∷ to_be_bytes w16 k ++ (to_be_bytes w32 code ++ (to_be_bytes w32 bodies ++ (to_be_bytes w32 starts ++ to_be_bytes w32 always)))))

    of_fields : (v w h c z k code bodies starts always v' w' h' c' k' code' bodies' starts' always' : ℕ) → v ≡ v' → w ≡ w' → h ≡ h' → c ≡ c' → z ≡ 0 → k ≡ k' → code ≡ code' → bodies ≡ bodies' → starts ≡ starts' → always ≡ always' →
        spelled v w h c z k code bodies starts always ≡ spelled v' w' h' c' 0 k' code' bodies' starts' always'
    of_fields v w h c z k code bodies starts always v' w' h' c' k' code' bodies' starts' always' e1 e2 e3 e4 e5 e6 e7 e8 e9 e10 = cc

-- ---- the tables' bytes

pub words-are : (list : List ℕ) → flat_map (to_be_bytes w32) list ≡ words list
words-are [] = refl
words-are (word ∷ rest) = ap (λ bytes. to_be_bytes w32 word ++ bytes) (words-are rest)

any-all : {X : Type 0} (xs : List X) → AllByRecursion IsAnyMember xs
any-all [] = tt
any-all (x ∷ rest) = (tt, any-all rest)

-- what follows one place, cut at a later one
cut : (from to : ℕ) (bytes : List ℕ) → from ≤ to → drop from bytes ≡ piece from to bytes ++ drop to bytes
cut from to bytes order = sym (take-append-drop (to - from) (drop from bytes)) ∙ ap (λ rest. piece from to bytes ++ rest) (drop-drop (to - from) from bytes ∙ ap (λ n. drop n bytes) (let e : from + (to - from) ≡ to = omega arith in e))

slots-are : (p : Parts) → p.contexts ≤ 4 → AllByRecursion (IsStart p) p.starts → AllByRecursion IsSlot p.starts
slots-are p few all = all_weaker (IsStart p) IsSlot p.starts (λ start is. let slot = is.1 in omega arith) all

pub spelled_so : (h : Header) (bytes : List ℕ) (p : Parts) → h ≡ header_of bytes → IsTrue (is_within 1 2 (half_at bytes 4)) → bytes ≡ header_bytes h ++ drop 28 bytes → range_fault h ≡ None → length bytes ≡ image_end h → PartsAreRead h bytes p → IsImage p → bytes ≡ spelling p
unfolding spelling
spelled_so h bytes p is version front fits whole r image =
    let w = are_within h fits in
    let few : p.contexts ≤ 4 = image.contexts.1 in
    let version-fits : IsTrue (is_within 1 2 h.version) = subst (λ (v : ℕ). IsTrue (is_within 1 2 v)) (sym (ap (λ (x : Header). x.version) is)) version in
    let version-same : version_of p ≡ h.version = ap (λ (n : ℕ). if nat_le n 8 && nat_le p.height 8 then 1 else 2) r.width ∙ ap (λ (n : ℕ). if nat_le h.width 8 && nat_le n 8 then 1 else 2) r.height ∙ version-is h w version-fits in
    let head = header-is h p version-same r.width r.height r.contexts w.blank r.per_node r.code.number r.bodies.number r.starts.number r.always.number in
    let code = r.code.spelled (any-all p.code) ∙ words-are p.code in
    let bodies = r.bodies.spelled (any-all p.bodies) in
    let starts = r.starts.spelled (slots-are p few image.starts) in
    let always = r.always.spelled (any-all p.always) ∙ words-are p.always in
    let last : drop (always_at h) bytes ≡ words p.always = cut (always_at h) (image_end h) bytes (omega arith) ∙ ap (λ rest. piece (always_at h) (image_end h) bytes ++ rest) (drop_all (image_end h) bytes (omega arith)) ∙ append-nil _ ∙ always in
    let third : drop (starts_at h) bytes ≡ flat_map start_bytes p.starts ++ words p.always = cut (starts_at h) (always_at h) bytes (omega arith) ∙ ap (λ front. front ++ drop (always_at h) bytes) starts ∙ ap (λ rest. flat_map start_bytes p.starts ++ rest) last in
    let second : drop (bodies_at h) bytes ≡ flat_map data_line p.bodies ++ (flat_map start_bytes p.starts ++ words p.always) = cut (bodies_at h) (starts_at h) bytes (omega arith) ∙ ap (λ front. front ++ drop (starts_at h) bytes) bodies ∙ ap (λ rest. flat_map data_line p.bodies ++ rest) third in
    let first : drop 28 bytes ≡ words p.code ++ (flat_map data_line p.bodies ++ (flat_map start_bytes p.starts ++ words p.always)) = cut 28 (bodies_at h) bytes (omega arith) ∙ ap (λ front. front ++ drop (bodies_at h) bytes) code ∙ ap (λ rest. words p.code ++ rest) second in
    front ∙ ap (λ front. front ++ drop 28 bytes) head ∙ ap (λ rest. header p ++ rest) first

-- what is wrong with the bytes is what is wrong with the tables
pub fault_of : (h : Header) (bytes : List ℕ) (p : Parts) (n : ℕ) (fault : Option ImageErr) → h ≡ header_of bytes → n ≡ length bytes → image_fault bytes ≡ body_fault bytes → ((rest : Option ImageErr) → header_fault n h rest ≡ rest) → PartsAreRead h bytes p →
    fault ≡ tables_fault p (bodies_at h) (starts_at h) (always_at h) → image_fault bytes ≡ fault
fault_of h bytes p n fault is long front sizes r tables =
    front ∙ ap (λ (x : Header). header_fault (length bytes) x (tables_fault (parts_in x bytes) (bodies_at x) (starts_at x) (always_at x))) (sym is)
    ∙ ap (λ (m : ℕ). header_fault m h (tables_fault (parts_in h bytes) (bodies_at h) (starts_at h) (always_at h))) (sym long)
    ∙ sizes (tables_fault (parts_in h bytes) (bodies_at h) (starts_at h) (always_at h))
    ∙ ap (λ (q : Parts). tables_fault q (bodies_at h) (starts_at h) (always_at h)) (parts_are h bytes p r)
    ∙ sym tables

-- a list that grows by what an element is spelled by
pub writes_on : {X : Type 0} (spell : X → List ℕ) (out after whole : List ℕ) (x : X) (left rest : List X) → after ≡ out ++ spell x → left ≡ x ∷ rest → out ++ flat_map spell left ≡ whole → after ++ flat_map spell rest ≡ whole
writes_on spell out after whole x left rest grown head so_far =
    ap (λ front. front ++ flat_map spell rest) grown ∙ append_assoc out (spell x) (flat_map spell rest) ∙ ap (λ (xs : List _). out ++ flat_map spell xs) (sym head) ∙ so_far
