-- Lines, lists and images are read in one way.
use Rattle.std.proofs.Common.{◌≡◌, ℕ, zero, suc, ◌-◌, ◌*◌, ◌/◌, ◌%◌, ◌<◌, ◌≤◌, List, [], ◌∷◌, ◌++◌, length, take, drop, min, slice_index, codes, refl, sym, ap, subst, ◌∙◌, arith, append_assoc, length-drop}
use Rattle.std.specs.List.{flat_map, AllByRecursion}
use Rattle.std.specs.Fmt.{decimal}
use Rattle.std.proofs.lemmas.Bool.Decides.{nat_tests}
use Rattle.std.proofs.lemmas.List.{append_cancel_left, take-append-drop, length-take}
use Rattle.alw_text.specs.Numbers.{hex_digit}
use Rattle.alw_msg.specs.declared.events.Event.{Event}
use Rattle.alw_msg.specs.declared.events.Event.TheVariants.{Instr, Handle, Deliver, Evict}
use Rattle.alw_image.specs.Parameters.{Parameters}
use Rattle.alw_report.specs.Reports.{heading, params_line}
use Rattle.alw_trace.specs.Texts.{byte_digits, hex_line, hex_lines, line_number, image_text, entry_line}
use Rattle.alw_trace.specs.Lines.{IsNumber, IsByte, IsRow, AreBytes, HasThree, HasNumbers, IsEntry, Lacks, IsFaultInList, IsFaultInImage, IsFaultAtEnd, list_heading, list_line, image_heading, image_row, lacks_end, goes_on}
use Rattle.alw_trace.specs.Fields.{pair_line, event_line}
use Rattle.alw_trace.proofs.Numbers.{one_number}
use Rattle.alw_trace.proofs.LineTexts.{heading-is, last_number, pair-is, params-is, entry-is}
use Rattle.alw_trace.proofs.Rows.{next_row}

-- what a line says, and what follows it, are one thing
abbrev pub OneLine : {X : Type 0} → (X → Type 0) → (X → List ℕ) → Type 0
OneLine {X} IsX line = (a b : X) → (u v : List ℕ) → IsX a → IsX b → line a ++ u ≡ line b ++ v → (a ≡ b) × (u ≡ v)

-- ---- lists of lines

pub one_list : {X : Type 0} (IsX : X → Type 0) (line : X → List ℕ) → OneLine IsX line → (xs ys : List X) (u v : List ℕ) → AllByRecursion IsX xs
    → AllByRecursion IsX ys → length xs ≡ length ys
    → flat_map line xs ++ u ≡ flat_map line ys ++ v → (xs ≡ ys) × (u ≡ v)
one_list IsX line one [] [] u v are all long e = (refl, e)
one_list IsX line one [] (y ∷ ys) u v are all long e = absurd (omega (arith, long))
one_list IsX line one (x ∷ xs) [] u v are all long e = absurd (omega (arith, long))
one_list IsX line one (x ∷ xs) (y ∷ ys) u v are all long e =
    let first = one x y (flat_map line xs ++ u) (flat_map line ys ++ v) are.0 all.0
    (sym (append_assoc (line x) (flat_map line xs) u) ∙ e ∙ append_assoc (line y) (flat_map line ys) v) in
    let rest = one_list IsX line one xs ys u v are.1 all.1 (omega (arith, long)) first.1 in
    let same : x ∷ xs ≡ y ∷ ys = cc (first.0, rest.0) in
    (same, rest.1)

-- where a line stands, a line isn't lacking
pub not_lacking : {X : Type 0} (IsX : X → Type 0) (line : X → List ℕ) → OneLine IsX line → (read xs : List X) (rest u : List ℕ) → AllByRecursion IsX read
    → AllByRecursion IsX xs → length read < length xs
    → flat_map line read ++ rest ≡ flat_map line xs ++ u → ¬ Lacks IsX line rest
not_lacking IsX line one read [] rest u are all few e lacks = absurd (omega (arith, few))
not_lacking IsX line one [] (x ∷ xs) rest u are all few e lacks = lacks x (flat_map line xs ++ u) all.0 (e ∙ append_assoc (line x) (flat_map line xs) u)
not_lacking IsX line one (r ∷ read) (x ∷ xs) rest u are all few e lacks =
    let first = one r x (flat_map line read ++ rest) (flat_map line xs ++ u) are.0 all.0
    (sym (append_assoc (line r) (flat_map line read) rest) ∙ e ∙ append_assoc (line x) (flat_map line xs) u) in
    not_lacking IsX line one read xs rest u are.1 all.1 (omega (arith, few)) first.1 lacks

pub one_heading : (name : List ℕ) (n m : ℕ) (u v : List ℕ) → IsNumber n → IsNumber m → heading name n ++ u ≡ heading name m ++ v → (n ≡ m) × (u ≡ v)
one_heading name n m u v small few e =
    one_number n m 10 u v small few (omega arith)
    (append_cancel_left (name ++ codes " ") (decimal n ++ 10 ∷ u) (decimal m ++ 10 ∷ v) (sym (heading-is name n u) ∙ e ∙ heading-is name m v))

pub no_fault_in_list : {X : Type 0} (IsX : X → Type 0) (line : X → List ℕ) (name : List ℕ) (first fault : ℕ) (xs : List X) (u : List ℕ) → OneLine IsX line
    → AllByRecursion IsX xs → IsNumber (length xs)
    → ¬ IsFaultInList IsX line name first (heading name (length xs) ++ (flat_map line xs ++ u)) fault
no_fault_in_list IsX line name first fault xs u one all small (list_heading lacks place) = lacks (length xs) (flat_map line xs ++ u) small refl
no_fault_in_list IsX line name first fault xs u one all small (list_line count rest few e is) =
    let same = one_heading name (length xs) count (flat_map line xs ++ u) rest small few e in
    not_lacking IsX line one is.read xs is.rest u is.each all (let number = same.0 in let fewer = is.fewer in omega arith)
    (sym is.parts ∙ sym same.1) is.lacks

-- ---- bytes

pub one_digit : (a b : ℕ) → a < 16 → b < 16 → hex_digit a ≡ hex_digit b → a ≡ b
one_digit a b l k e = grind (arith, nat_tests)

one_byte : (a b : ℕ) (u v : List ℕ) → IsByte a → IsByte b → byte_digits a ++ u ≡ byte_digits b ++ v → (a ≡ b) × (u ≡ v)
one_byte a b u v l k e =
    let high : a / 16 ≡ b / 16 = one_digit (a / 16) (b / 16) (omega arith) (omega arith) (ap (λ (t : List ℕ). slice_index t 0) e) in
    let low : a % 16 ≡ b % 16 = one_digit (a % 16) (b % 16) (omega arith) (omega arith) (ap (λ (t : List ℕ). slice_index t 1) e) in
    let same : a ≡ b = omega (arith, high, low) in
    (same, ap (drop 2) e)

row-is : (row u : List ℕ) → hex_line row ++ u ≡ flat_map byte_digits row ++ 10 ∷ u
row-is row u = append_assoc (flat_map byte_digits row) (10 ∷ []) u

pub one_row : (a b u v : List ℕ) → AllByRecursion IsByte a → AllByRecursion IsByte b → length a ≡ length b → hex_line a ++ u ≡ hex_line b ++ v
    → (a ≡ b) × (u ≡ v)
one_row a b u v are all long e =
    let same = one_list IsByte byte_digits one_byte a b (10 ∷ u) (10 ∷ v) are all long (sym (row-is a u) ∙ e ∙ row-is b v) in
    (same.0, ap (drop 1) same.1)

pub all_take : (n : ℕ) (xs : List ℕ) → AllByRecursion IsByte xs → AllByRecursion IsByte (take n xs)
all_take zero xs all = tt
all_take (suc n) [] all = tt
all_take (suc n) (x ∷ xs) all = (all.0, all_take n xs all.1)

pub all_drop : (n : ℕ) (xs : List ℕ) → AllByRecursion IsByte xs → AllByRecursion IsByte (drop n xs)
all_drop zero xs all = all
all_drop (suc n) [] all = tt
all_drop (suc n) (x ∷ xs) all = all_drop n xs all.1

nothing : (xs : List ℕ) → length xs ≡ 0 → xs ≡ []
nothing [] e = refl
nothing (x ∷ xs) e = absurd (omega (arith, e))

one_rows : (k : ℕ) (a b u v : List ℕ) → length a ≤ 32 * k → length a ≡ length b → AllByRecursion IsByte a → AllByRecursion IsByte b
    → hex_lines k a ++ u ≡ hex_lines k b ++ v → (a ≡ b) × (u ≡ v)
unfolding hex_lines
one_rows zero a b u v few long are all e = (nothing a (omega arith) ∙ sym (nothing b (omega (arith, long))), e)
one_rows (suc k) a b u v few long are all e =
    let rows = sym (append_assoc (hex_line (take 32 a)) (hex_lines k (drop 32 a)) u) ∙ e ∙ append_assoc (hex_line (take 32 b)) (hex_lines k (drop 32 b)) v in
    let size : length (take 32 a) ≡ length (take 32 b) = length-take 32 a ∙ ap (min 32) long ∙ sym (length-take 32 b) in
    let first = one_row (take 32 a) (take 32 b) (hex_lines k (drop 32 a) ++ u) (hex_lines k (drop 32 b) ++ v) (all_take 32 a are)
    (all_take 32 b all) size rows in
    let rest = one_rows k (drop 32 a) (drop 32 b) u v (omega (arith, length-drop 32 a)) (omega (arith, long, length-drop 32 a, length-drop 32 b))
    (all_drop 32 a are) (all_drop 32 b all) first.1 in
    (sym (take-append-drop 32 a) ∙ ap (λ (t : List ℕ). t ++ drop 32 a) first.0 ∙ ap (λ (t : List ℕ). take 32 b ++ t) rest.0 ∙ take-append-drop 32 b, rest.1)

-- where a line of bytes stands, none is lacking
row_stands : (rows : ℕ) (read rest a u : List ℕ) → length read ≡ 32 * rows → 32 * rows < length a → AllByRecursion IsByte read → AllByRecursion IsByte a
    → hex_lines rows read ++ rest ≡ hex_lines (line_number (length a)) a ++ u → ¬ Lacks (IsRow (min (length a - 32 * rows) 32)) hex_line rest
unfolding hex_lines
row_stands zero read rest a u long few are all e lacks =
    let row : IsRow (min (length a - 0) 32) (take 32 a) = (omega (arith, length-take 32 a), all_take 32 a all) in
    lacks (take 32 a) (hex_lines (line_number (length (drop 32 a))) (drop 32 a) ++ u) row
    (e ∙ ap (λ (t : List ℕ). t ++ u) (next_row a (omega arith))
    ∙ append_assoc (hex_line (take 32 a)) (hex_lines (line_number (length (drop 32 a))) (drop 32 a)) u)
row_stands (suc rows) read rest a u long few are all e lacks =
    let whole = sym (append_assoc (hex_line (take 32 read)) (hex_lines rows (drop 32 read)) rest) ∙ e ∙ ap (λ (t : List ℕ). t ++ u) (next_row a (omega arith))
    ∙ append_assoc (hex_line (take 32 a)) (hex_lines (line_number (length (drop 32 a))) (drop 32 a)) u in
    let size : length (take 32 read) ≡ length (take 32 a) = omega (arith, length-take 32 read, length-take 32 a, long, few) in
    let first = one_row (take 32 read) (take 32 a) (hex_lines rows (drop 32 read) ++ rest) (hex_lines (line_number (length (drop 32 a))) (drop 32 a) ++ u)
    (all_take 32 read are) (all_take 32 a all) size whole in
    let left : length a - 32 * suc rows ≡ length (drop 32 a) - 32 * rows = omega (arith, length-drop 32 a) in
    row_stands rows (drop 32 read) rest (drop 32 a) u (omega (arith, long, length-drop 32 read)) (omega (arith, few, length-drop 32 a)) (all_drop 32 read are)
    (all_drop 32 a all) first.1
    (subst (λ (n : ℕ). Lacks (IsRow (min n 32)) hex_line rest) left lacks)

-- ---- images

image-is : (a u : List ℕ) → image_text a ++ u ≡ heading (codes "image") (length a) ++ (hex_lines (line_number (length a)) a ++ u)
unfolding image_text
image-is a u = append_assoc (heading (codes "image") (length a)) (hex_lines (line_number (length a)) a) u

pub one_image : (a b u v : List ℕ) → AreBytes a → AreBytes b → image_text a ++ u ≡ image_text b ++ v → (a ≡ b) × (u ≡ v)
one_image a b u v are all e =
    let head = one_heading (codes "image") (length a) (length b) (hex_lines (line_number (length a)) a ++ u)
    (hex_lines (line_number (length b)) b ++ v) are.1 all.1 (sym (image-is a u) ∙ e ∙ image-is b v) in
    one_rows (line_number (length a)) a b u v (omega arith) head.0 are.0 all.0 (head.1 ∙ ap (λ (n : ℕ). hex_lines (line_number n) b ++ v) (sym head.0))

pub no_fault_in_image : (a u : List ℕ) (fault : ℕ) → AreBytes a → ¬ IsFaultInImage (image_text a ++ u) fault
no_fault_in_image a u fault are (image_heading lacks place) = lacks (length a) (hex_lines (line_number (length a)) a ++ u) are.1 (image-is a u)
no_fault_in_image a u fault are (image_row count rest few e is) =
    let head = one_heading (codes "image") (length a) count (hex_lines (line_number (length a)) a ++ u) rest are.1 few (sym (image-is a u) ∙ e) in
    let number = head.0 in
    let fewer = is.fewer in
    row_stands is.rows is.read is.rest a u is.long (omega arith) is.each are.0 (sym is.parts ∙ sym head.1)
    (subst (λ (n : ℕ). Lacks (IsRow (min (n - 32 * is.rows) 32)) hex_line is.rest) (sym number) is.lacks)

-- ---- the end

pub no_fault_at_end : (last fault : ℕ) → ¬ IsFaultAtEnd last (codes "end\n") fault
no_fault_at_end last fault (lacks_end lacks place) = lacks [] refl
no_fault_at_end last fault (goes_on rest e more place) = more (sym (append_cancel_left (codes "end\n") [] rest e))

-- ---- lines of a trace

pub one_params : (p q : Parameters) (u v : List ℕ) → HasThree p → HasThree q → params_line p ++ u ≡ params_line q ++ v → (p ≡ q) × (u ≡ v)
one_params p q u v are all e =
    let whole = append_cancel_left (codes "params pointers ") _ _ (sym (params-is p u) ∙ e ∙ params-is q v) in
    let first = one_number p.pointers q.pointers 32 _ _ are.0 all.0 (omega arith) whole in
    let second = one_number p.sets q.sets 32 _ _ are.1.0 all.1.0 (omega arith) (append_cancel_left (codes "sets ") _ _ first.1) in
    let third = one_number p.limit q.limit 10 u v are.1.1.0 all.1.1.0 (omega arith) (append_cancel_left (codes "limit ") _ _ second.1) in
    (same p.pointers p.sets p.limit p.evict q.pointers q.sets q.limit q.evict first.0 second.0 third.0 (are.1.1.1 ∙ sym all.1.1.1), third.1)
  where
    same : (a b c d a' b' c' d' : ℕ) → a ≡ a' → b ≡ b' → c ≡ c' → d ≡ d'
        → ◌≡◌ {A = Parameters} (record { pointers = a; sets = b; limit = c; evict = d }) (record { pointers = a'; sets = b'; limit = c'; evict = d' })
    same a b c d a' b' c' d' e1 e2 e3 e4 = cc

one_pair : (a b c d : ℕ) (u v : List ℕ) → IsNumber a → IsNumber b → IsNumber c → IsNumber d → pair_line a b ++ u ≡ pair_line c d ++ v
    → (a ≡ c) × ((b ≡ d) × (u ≡ v))
one_pair a b c d u v la lb lc ld e =
    let first = one_number a c 32 (decimal b ++ 10 ∷ u) (decimal d ++ 10 ∷ v) la lc (omega arith) (sym (pair-is a b u) ∙ e ∙ pair-is c d v) in
    (first.0, one_number b d 10 u v lb ld (omega arith) first.1)

one_last : (a b : ℕ) (u v : List ℕ) → IsNumber a → IsNumber b → (decimal a ++ 10 ∷ []) ++ u ≡ (decimal b ++ 10 ∷ []) ++ v → (a ≡ b) × (u ≡ v)
one_last a b u v l k e = one_number a b 10 u v l k (omega arith) (sym (last_number a u) ∙ e ∙ last_number b v)

other_letter : {P : Type 0} (a b : ℕ) (u v : List ℕ) → a < b → a ∷ u ≡ b ∷ v → P
other_letter a b u v l e = absurd (omega (arith, ap (λ (t : List ℕ). slice_index t 0) e))

other_letter_down : {P : Type 0} (a b : ℕ) (u v : List ℕ) → b < a → a ∷ u ≡ b ∷ v → P
other_letter_down a b u v l e = absurd (omega (arith, ap (λ (t : List ℕ). slice_index t 0) e))

one_event : OneLine HasNumbers event_line
one_event (Instr a) (Instr b) u v l k e = let r = one_last a.0 b.0 u v l k (ap (drop 2) e) in (ap (λ (n : ℕ). Instr (record { 0 = n })) r.0, r.1)
one_event (Instr a) (Handle b) u v l k e = other_letter_down 73 72 _ _ (omega arith) e
one_event (Instr a) (Deliver b c) u v l k e = other_letter_down 73 68 _ _ (omega arith) e
one_event (Instr a) (Evict b c) u v l k e = other_letter_down 73 69 _ _ (omega arith) e
one_event (Handle a) (Instr b) u v l k e = other_letter 72 73 _ _ (omega arith) e
one_event (Handle a) (Handle b) u v l k e = let r = one_last a.0 b.0 u v l k (ap (drop 2) e) in (ap (λ (n : ℕ). Handle (record { 0 = n })) r.0, r.1)
one_event (Handle a) (Deliver b c) u v l k e = other_letter_down 72 68 _ _ (omega arith) e
one_event (Handle a) (Evict b c) u v l k e = other_letter_down 72 69 _ _ (omega arith) e
one_event (Deliver a d) (Instr b) u v l k e = other_letter 68 73 _ _ (omega arith) e
one_event (Deliver a d) (Handle b) u v l k e = other_letter 68 72 _ _ (omega arith) e
one_event (Deliver a d) (Deliver b c) u v l k e =
    let r = one_pair a.0 d.0 b.0 c.0 u v l.0 l.1 k.0 k.1 (ap (drop 2) e) in
    (ap (λ (n : ℕ). Deliver (record { 0 = n }) d) r.0 ∙ ap (λ (n : ℕ). Deliver b (record { 0 = n })) r.1.0, r.1.1)
one_event (Deliver a d) (Evict b c) u v l k e = other_letter 68 69 _ _ (omega arith) e
one_event (Evict a d) (Instr b) u v l k e = other_letter 69 73 _ _ (omega arith) e
one_event (Evict a d) (Handle b) u v l k e = other_letter 69 72 _ _ (omega arith) e
one_event (Evict a d) (Deliver b c) u v l k e = other_letter_down 69 68 _ _ (omega arith) e
one_event (Evict a d) (Evict b c) u v l k e =
    let r = one_pair a.0 d b.0 c u v l.0 l.1 k.0 k.1 (ap (drop 2) e) in
    (ap (λ (n : ℕ). Evict (record { 0 = n }) d) r.0 ∙ ap (λ (n : ℕ). Evict b n) r.1.0, r.1.1)

pub one_entry : OneLine IsEntry entry_line
one_entry a b u v l k e =
    let first = one_number a.stamp b.stamp 32 (event_line a.event ++ u) (event_line b.event ++ v) l.0 k.0 (omega arith)
    (sym (entry-is a u) ∙ e ∙ entry-is b v) in
    let second = one_event a.event b.event u v l.1 k.1 first.1 in
    (ap (λ (n : ℕ). record { stamp = n; event = a.event }) first.0 ∙ ap (λ (event : Event). record { stamp = b.stamp; event = event }) second.0, second.1)
