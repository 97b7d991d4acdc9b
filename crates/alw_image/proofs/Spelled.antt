-- An image's spelling has no fault, and its parts are read off it.
use Rattle.std.proofs.Common.{◌≡◌, ℕ, ◌+◌, ◌*◌, ◌<◌, ◌≤◌, ◌^◌, Bool, true, false, not, ◌&&◌, ◌==◌, nat_le, nat_lt, if◌then◌else◌, Option, Some, None, List, [], ◌∷◌, ◌++◌, length, refl, sym, ap, subst, ◌∙◌, IsTrue, arith, append_assoc, length-append, codes}
use Rattle.std.proofs.lemmas.List.{append-nil}
use Rattle.std.proofs.lemmas.Bool.Decides.{nat_tests}
use Rattle.std.specs.Int.{w16, w32, to_be_bytes}
use Rattle.std.specs.List.{flat_map, AllByRecursion}
use Rattle.alw_num.specs.declared.addresses.Line.{Line}
use Rattle.alw_num.specs.declared.addresses.LineNo.{LineNo}
use Rattle.alw_num.specs.declared.addresses.NodeNo.{NodeNo}
use Rattle.alw_num.specs.Lanes.{half_at}
use Rattle.alw_image.specs.declared.headers.Header.{Header}
use Rattle.alw_image.specs.declared.parts.Parts.{Parts}
use Rattle.alw_image.specs.declared.faults.ImageErr.{ImageErr}
use Rattle.alw_image.specs.declared.faults.ImageErr.TheVariants.{Magic, Version, Short, Trailing}
use Rattle.alw_image.specs.Images.{IsImage, IsDataLine, IsStart, node_count, line_count, context_count, words, data_line, start_bytes, version_of, header, spelling}
use Rattle.alw_image.specs.Faults.{is_within, is_magic, most_side, fields, first_unfit, range_fault, bodies_at, starts_at, always_at, image_end, header_of, piece, ranged, parts_in, tables_fault, table_of, word_of, body_of_bytes, start_of_bytes, header_fault, body_fault, image_fault}
use Rattle.alw_image.specs.Sizes.{HasSizes}
use Rattle.alw_image.specs.Numbers.{IsWord, HasFourWords, HasWords}
use Rattle.alw_image.specs.TableReads.{IsAnyMember, IsSlot}
use Rattle.alw_image.proofs.Members.{word-back, half-back}
use Rattle.alw_image.proofs.Orders.{all_weaker}
use Rattle.alw_image.proofs.HeaderFields.{product, is_short}
use Rattle.alw_image.proofs.Checked.{within, image_sizes, image_tables}
use Rattle.alw_image.proofs.Pieces.{word-back_read, body-back_read, start-back_read, table_back, length-table, piece_at}
use Rattle.alw_image.proofs.Readings.{words-are}

-- ---- the header

-- the header of an image's parts
abbrev pub head_of : Parts → Header
head_of p = record {
  version = version_of p;
  width = p.width;
  height = p.height;
  contexts = p.contexts;
  blank = 0;
  per_node = p.per_node;
  code = length p.code;
  bodies = length p.bodies;
  starts = length p.starts;
  always = length p.always;
}

header-back : (v w h c k code bodies starts always : ℕ) (rest : List ℕ) → v < 2 ^ 16 → k < 2 ^ 16 → code < 2 ^ 32 → bodies < 2 ^ 32 → starts < 2 ^ 32 → always < 2 ^ 32 →
    header_of ((codes "ALEW" ++ (to_be_bytes w16 v ++ (w ∷ h ∷ c ∷ 0 ∷ to_be_bytes w16 k ++ (to_be_bytes w32 code ++ (to_be_bytes w32 bodies ++ (to_be_bytes w32 starts ++ to_be_bytes w32 always)))))) ++ rest)
    ≡ record { version = v; width = w; height = h; contexts = c; blank = 0; per_node = k; code = code; bodies = bodies; starts = starts; always = always }
header-back v w h c k code bodies starts always rest v_fits k_fits code_fits bodies_fit starts_fit always_fit =
    of_fields v w h c k code bodies starts always (half-back v v_fits) (half-back k k_fits) (word-back code code_fits) (word-back bodies bodies_fit) (word-back starts starts_fit) (word-back always always_fit)
  where
    of_fields : (v w h c k code bodies starts always : ℕ) {v' k' code' bodies' starts' always' : ℕ} → v' ≡ v → k' ≡ k → code' ≡ code → bodies' ≡ bodies → starts' ≡ starts → always' ≡ always →
        ◌≡◌ {A = Header} (record { version = v'; width = w; height = h; contexts = c; blank = 0; per_node = k'; code = code'; bodies = bodies'; starts = starts'; always = always' })
        (record { version = v; width = w; height = h; contexts = c; blank = 0; per_node = k; code = code; bodies = bodies; starts = starts; always = always })
    of_fields v w h c k code bodies starts always e1 e2 e3 e4 e5 e6 = cc

-- ---- the ranges of its fields

fits_all : (fs : List (ℕ × Bool)) → AllByRecursion (λ field. IsTrue field.1) fs → first_unfit fs ≡ None
fits_all [] all = refl
fits_all ((at, true) ∷ rest) all = fits_all rest all.1
fits_all ((at, false) ∷ rest) all = absurd (let e : false ≡ true = all.0 in cc)

-- the version's sides are those of the mesh
version_fits : (w h : ℕ) → 1 ≤ w → w ≤ 16 → 1 ≤ h → h ≤ 16 → (v : ℕ) → v ≡ (if nat_le w 8 && nat_le h 8 then 1 else 2) →
    IsTrue (is_within 1 (most_side v) w) × (IsTrue (is_within (if v == 1 then 1 else (if nat_le w 8 then 9 else 1)) (most_side v) h) × (IsTrue (is_within 1 2 v) × (v < 2 ^ 16)))
version_fits w h some_w most_w some_h most_h v is = (grind (arith, nat_tests), (grind (arith, nat_tests), (grind (arith, nat_tests), grind (arith, nat_tests))))

in_range : (p : Parts) → HasSizes p → range_fault (head_of p) ≡ None
unfolding fields
in_range p s =
    let v = version_fits p.width p.height s.width.0 s.width.1 s.height.0 s.height.1 (version_of p) refl in
    fits_all (fields (head_of p)) (
      v.0,
      (
        v.1.0,
        (
          within 1 4 p.contexts s.contexts.0 s.contexts.1,
          (
            refl,
            (
              within 1 4096 p.per_node s.per_node.0 s.per_node.1,
              (
                within 1 65536 (length p.code) s.code.0 s.code.1,
                (
                  within 0 (line_count p) (length p.bodies) (omega arith) s.bodies,
                  (
                    within 1 (context_count p) (length p.starts) s.starts.0 s.starts.1,
                    (within 0 (line_count p) (length p.always) (omega arith) s.always, tt),
                  ),
                ),
              ),
            ),
          ),
        ),
      ),
    )

-- ---- the tables' places

words-long : (list : List ℕ) → length (words list) ≡ 4 * length list
words-long list = ap length (sym (words-are list)) ∙ length-table (to_be_bytes w32) 4 list (λ n. refl)

bodies-long : (bodies : List (LineNo × Line)) → length (flat_map data_line bodies) ≡ 20 * length bodies
bodies-long bodies = length-table data_line 20 bodies (λ entry. refl)

starts-long : (starts : List (NodeNo × ℕ × ℕ)) → length (flat_map start_bytes starts) ≡ 8 * length starts
starts-long starts = length-table start_bytes 8 starts (λ start. refl)

pub spelling-long : (p : Parts) → length (spelling p) ≡ image_end (head_of p)
unfolding spelling
spelling-long p =
    let code = words p.code in
    let bodies = flat_map data_line p.bodies in
    let starts = flat_map start_bytes p.starts in
    let always = words p.always in
    omega (
      arith,
      length-append (header p) (code ++ (bodies ++ (starts ++ always))),
      length-append code (bodies ++ (starts ++ always)),
      length-append bodies (starts ++ always),
      length-append starts always,
      words-long p.code,
      bodies-long p.bodies,
      starts-long p.starts,
      words-long p.always,
      header-long p,
    )
  where
    header-long : (p : Parts) → length (header p) ≡ 28
    header-long p = refl

-- the tables that stand in an image's spelling
record HasPieces (p : Parts) (bytes : List ℕ) : Type 0 where
  code : piece 28 (bodies_at (head_of p)) bytes ≡ words p.code
  bodies : piece (bodies_at (head_of p)) (starts_at (head_of p)) bytes ≡ flat_map data_line p.bodies
  starts : piece (starts_at (head_of p)) (always_at (head_of p)) bytes ≡ flat_map start_bytes p.starts
  always : piece (always_at (head_of p)) (image_end (head_of p)) bytes ≡ words p.always

pieces_of : (p : Parts) → HasPieces p (spelling p)
unfolding spelling
pieces_of p =
    let head = header p in
    let code = words p.code in
    let bodies = flat_map data_line p.bodies in
    let starts = flat_map start_bytes p.starts in
    let always = words p.always in
    let n_code = words-long p.code in
    let n_bodies = bodies-long p.bodies in
    let n_starts = starts-long p.starts in
    let n_always = words-long p.always in
    let after_code : length (head ++ code) ≡ bodies_at (head_of p) = length-append head code ∙ ap (λ n. 28 + n) n_code in
    let after_bodies : length ((head ++ code) ++ bodies) ≡ starts_at (head_of p) = omega (arith, length-append (head ++ code) bodies, after_code, n_bodies) in
    let after_starts : length (((head ++ code) ++ bodies) ++ starts) ≡ always_at (head_of p) = omega (arith, length-append ((head ++ code) ++ bodies) starts, after_bodies, n_starts) in
    let whole = head ++ (code ++ (bodies ++ (starts ++ always))) in
    let at_bodies : whole ≡ (head ++ code) ++ (bodies ++ (starts ++ always)) = sym (append_assoc head code (bodies ++ (starts ++ always))) in
    let at_starts : whole ≡ ((head ++ code) ++ bodies) ++ (starts ++ always) = at_bodies ∙ sym (append_assoc (head ++ code) bodies (starts ++ always)) in
    let at_always : whole ≡ (((head ++ code) ++ bodies) ++ starts) ++ always = at_starts ∙ sym (append_assoc ((head ++ code) ++ bodies) starts always) in
    let at_end : whole ≡ (((head ++ code) ++ bodies) ++ starts) ++ (always ++ []) = at_always ∙ ap (λ rest. (((head ++ code) ++ bodies) ++ starts) ++ rest) (sym (append-nil always)) in
    record {
      code = piece_at head code (bodies ++ (starts ++ always)) whole 28 (bodies_at (head_of p)) refl refl (ap (λ n. 28 + n) n_code);
      bodies = piece_at (head ++ code) bodies (starts ++ always) whole (bodies_at (head_of p)) (starts_at (head_of p)) at_bodies after_code (ap (λ n. bodies_at (head_of p) + n) n_bodies);
      starts = piece_at ((head ++ code) ++ bodies) starts always whole (starts_at (head_of p)) (always_at (head_of p)) at_starts after_bodies (ap (λ n. starts_at (head_of p) + n) n_starts);
      always = piece_at (((head ++ code) ++ bodies) ++ starts) always [] whole (always_at (head_of p)) (image_end (head_of p)) at_end after_starts (ap (λ n. always_at (head_of p) + n) n_always);
    }

-- ---- the parts

-- all numbers of an image are read as they were written
pub parts_back : (p : Parts) → IsImage p → HasWords p → parts_in (head_of p) (spelling p) ≡ p
parts_back p i fits =
    let pieces = pieces_of p in
    let short = is_short (head_of p) (in_range p (image_sizes p i)) in
    let sizes = counts_of p i in
    of_fields p
    (ap (table_of word_of 4 (length p.code)) (pieces.code ∙ sym (words-are p.code)) ∙ table_back word_of (to_be_bytes w32) IsAnyMember IsWord 4 p.code (λ x after is. word-back_read after x is) fits.code)
    (ap (table_of body_of_bytes 20 (length p.bodies)) pieces.bodies
    ∙ table_back body_of_bytes data_line IsAnyMember (λ entry. IsWord entry.0.0 × HasFourWords entry) 20 p.bodies (λ x after is. body-back_read after x is)
    (all_both (λ entry. IsWord entry.0.0) HasFourWords p.bodies (all_weaker (IsDataLine p) (λ entry. IsWord entry.0.0) p.bodies (λ entry is. (let line = is.0 in omega arith)) i.bodies) fits.bodies))
    (ap (table_of start_of_bytes 8 (length p.starts)) pieces.starts
    ∙ table_back start_of_bytes start_bytes IsSlot (λ start. (start.0.0 < 2 ^ 16) × IsWord start.2) 8 p.starts (λ x after is. start-back_read after x is)
    (all_weaker (IsStart p) (λ start. (start.0.0 < 2 ^ 16) × IsWord start.2) p.starts (λ start is. (let node = is.0 in let address = is.3 in let code = i.code.1 in (omega arith, omega arith))) i.starts))
    (ap (table_of word_of 4 (length p.always)) (pieces.always ∙ sym (words-are p.always)) ∙ table_back word_of (to_be_bytes w32) IsAnyMember IsWord 4 p.always (λ x after is. word-back_read after x is)
    (all_weaker (λ line. line < line_count p) IsWord p.always (λ line is. omega arith) i.always))
  where
    counts_of : (p : Parts) → IsImage p → (line_count p ≤ 1048576) × (node_count p ≤ 256)
    counts_of p i =
        let nodes : node_count p ≤ 16 * 16 = product p.width p.height 16 16 i.width.1 i.height.1 in
        (product (node_count p) p.per_node 256 4096 nodes i.per_node.1, nodes)

    all_both : {X : Type 0} (P Q : X → Type 0) (xs : List X) → AllByRecursion P xs → AllByRecursion Q xs → AllByRecursion (λ x. P x × Q x) xs
    all_both P Q [] first second = tt
    all_both P Q (x ∷ rest) first second = ((first.0, second.0), all_both P Q rest first.1 second.1)

    of_fields : (p : Parts) {code : List ℕ} {bodies : List (LineNo × Line)} {starts : List (NodeNo × ℕ × ℕ)} {always : List ℕ} → code ≡ p.code → bodies ≡ p.bodies → starts ≡ p.starts → always ≡ p.always →
        ◌≡◌ {A = Parts} (record { width = p.width; height = p.height; contexts = p.contexts; per_node = p.per_node; code = code; bodies = bodies; starts = starts; always = always }) p
    of_fields p {code} {bodies} {starts} {always} is_code is_bodies is_starts is_always =
        let e : ◌≡◌ {A = Parts} (record { width = p.width; height = p.height; contexts = p.contexts; per_node = p.per_node; code = code; bodies = bodies; starts = starts; always = always }) (record { width = p.width; height = p.height; contexts = p.contexts; per_node = p.per_node; code = p.code; bodies = p.bodies; starts = p.starts; always = p.always }) = cc in
        e

pub header-of_spelling : (p : Parts) → IsImage p → header_of (spelling p) ≡ head_of p
unfolding spelling
header-of_spelling p i =
    let s = image_sizes p i in
    let short = is_short (head_of p) (in_range p s) in
    let v = version_fits p.width p.height s.width.0 s.width.1 s.height.0 s.height.1 (version_of p) refl in
    let k = s.per_node.1 in
    header-back (version_of p) p.width p.height p.contexts p.per_node (length p.code) (length p.bodies) (length p.starts) (length p.always) (words p.code ++ (flat_map data_line p.bodies ++ (flat_map start_bytes p.starts ++ words p.always)))
    v.1.1.1 (omega arith) (let few = short.code in omega arith) (let few = short.bodies in omega arith) (let few = short.starts in omega arith) (let few = short.always in omega arith)

-- ---- no fault

header_passes : (n : ℕ) (h : Header) (rest : Option ImageErr) → range_fault h ≡ None → n ≡ image_end h → rest ≡ None → header_fault n h rest ≡ None
header_passes n h rest fits whole none = passes (range_fault h) n (image_end h) rest fits whole none
  where
    passes : (unfit : Option ℕ) (n end : ℕ) (rest : Option ImageErr) → unfit ≡ None → n ≡ end → rest ≡ None → ranged unfit (if nat_lt n end then Some (Short n) else (if nat_lt end n then Some (Trailing end) else rest)) ≡ None
    passes None n end rest fits whole none = grind (arith, nat_tests)
    passes (Some at) n end rest fits whole none = absurd (let e : Some at ≡ None = fits in cc)

opening_passes : (front : Bool) (n v : ℕ) (rest : Option ImageErr) → front ≡ true → 28 ≤ n → IsTrue (is_within 1 2 v) → rest ≡ None →
    (if not front then Some (Magic 0) else (if nat_lt n 6 then Some (Short n) else (if not (is_within 1 2 v) then Some (Version 4) else (if nat_lt n 28 then Some (Short n) else rest)))) ≡ None
opening_passes true n v rest front long version none = grind (arith, nat_tests)
opening_passes false n v rest front long version none = absurd (let e : false ≡ true = front in cc)

pub body-passes : (p : Parts) → IsImage p → HasWords p → body_fault (spelling p) ≡ None
body-passes p i fits =
    let head = header-of_spelling p i in
    ap (λ (h : Header). header_fault (length (spelling p)) h (tables_fault (parts_in h (spelling p)) (bodies_at h) (starts_at h) (always_at h))) head
    ∙ ap (λ (q : Parts). header_fault (length (spelling p)) (head_of p) (tables_fault q (bodies_at (head_of p)) (starts_at (head_of p)) (always_at (head_of p)))) (parts_back p i fits)
    ∙ header_passes (length (spelling p)) (head_of p) _ (in_range p (image_sizes p i)) (spelling-long p) (image_tables p (bodies_at (head_of p)) (starts_at (head_of p)) (always_at (head_of p)) i)

magic-is : (p : Parts) → is_magic (spelling p) ≡ true
unfolding spelling
magic-is p = refl

pub has_no_fault : (p : Parts) → IsImage p → HasWords p → image_fault (spelling p) ≡ None
unfolding image_fault
has_no_fault p i fits =
    let s = image_sizes p i in
    let v = version_fits p.width p.height s.width.0 s.width.1 s.height.0 s.height.1 (version_of p) refl in
    let version : version_of p ≡ half_at (spelling p) 4 = sym (ap (λ (h : Header). h.version) (header-of_spelling p i)) in
    opening_passes (is_magic (spelling p)) (length (spelling p)) (half_at (spelling p) 4) (body_fault (spelling p)) (magic-is p) (let long = spelling-long p in omega arith) (subst (λ (n : ℕ). IsTrue (is_within 1 2 n)) version v.1.1.0) (body-passes p i fits)

-- images with the same spelling are the same
pub same_image : (p q : Parts) → IsImage p → HasWords p → IsImage q → HasWords q → spelling p ≡ spelling q → p ≡ q
same_image p q p_is p_fits q_is q_fits same =
    let heads : head_of p ≡ head_of q = sym (header-of_spelling p p_is) ∙ ap header_of same ∙ header-of_spelling q q_is in
    sym (parts_back p p_is p_fits) ∙ ap (λ (h : Header). parts_in h (spelling p)) heads ∙ ap (parts_in (head_of q)) same ∙ parts_back q q_is q_fits
