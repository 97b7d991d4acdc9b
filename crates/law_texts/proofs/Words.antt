-- Words, the bytes of a line, and lists of nodes are read in one way.
use Rattle.std.proofs.Common.{◌≡◌, ℕ, ◌/◌, ◌%◌, ◌<◌, ◌==◌, false, List, [], ◌∷◌, ◌++◌, length, take, drop, slice_index, codes, refl, sym, ap, subst, ◌∙◌, arith, append_assoc}
use Rattle.std.specs.Fmt.{decimal}
use Rattle.std.specs.List.{flat_map, AllByRecursion}
use Rattle.std.specs.Str.Parse.{AllDigits}
use Rattle.std.specs.Char.{digit_value}
use Rattle.std.proofs.lemmas.Fmt.{decimal_injective, decimal_nonempty}
use Rattle.std.proofs.lemmas.Bool.Decides.{nat_tests}
use Rattle.std.proofs.lemmas.List.{take_at, drop_at}
use Rattle.alw_num.specs.declared.addresses.Line.{Line}
use Rattle.alw_text.specs.Numbers.{hex_byte, hex_word}
use Rattle.alw_image.specs.Numbers.{IsWord}
use Rattle.alw_text.specs.Pieces.{nodes_text, next_node}
use Rattle.alw_trace.proofs.OneLine.{one_digit}
use Rattle.alw_trace.proofs.OneClaim.{one_print}
use Rattle.alw_trace.specs.Lines.{IsNumber}
use Rattle.law_texts.specs.Words.{AreWords}
use Rattle.alw_save.specs.Lines.{spaced_word, body_text}
use Rattle.law_texts.proofs.Readings.{Tells, both, behind, said_as, Stops, digits_end, in_digits}
use Rattle.alw_trace.proofs.PairReads.{length-word}

pub one_word : (n m : ℕ) → IsWord n → IsWord m → Tells (n ≡ m) (hex_word n) (hex_word m)
one_word n m l k = record {
  read = λ u v e.
      let front : hex_word n ≡ hex_word m = sym (take_at (hex_word n) u 10 (length-word n)) ∙ ap (take 10) e ∙ take_at (hex_word m) v 10 (length-word m) in
      let back : u ≡ v = sym (drop_at (hex_word n) u 10 (length-word n)) ∙ ap (drop 10) e ∙ drop_at (hex_word m) v 10 (length-word m) in
      let same = one_print (0, n) (0, m) [] [] (omega arith, l) (omega arith, k)
      (ap (λ (t : List ℕ). (decimal 0 ++ (codes " " ++ (t ++ codes "\n"))) ++ []) front) in
      (ap (λ (p : ℕ × ℕ). p.1) same.0, back);
}

pub one_spaced : (n m : ℕ) → IsWord n → IsWord m → Tells (n ≡ m) (spaced_word n) (spaced_word m)
one_spaced n m l k = behind (codes " ") (one_word n m l k)

pub same_words : (a b c d a' b' c' d' : ℕ) → a ≡ a' → b ≡ b' → c ≡ c' → d ≡ d'
    → ◌≡◌ {A = Line} (record { a = a; b = b; c = c; d = d }) (record { a = a'; b = b'; c = c'; d = d' })
same_words a b c d a' b' c' d' e f g h = cc

pub one_body : (one other : Line) → AreWords one → AreWords other → Tells (one ≡ other) (body_text one) (body_text other)
unfolding body_text
one_body one other l k =
    said_as (λ (s : (one.a ≡ other.a) × ((one.b ≡ other.b) × ((one.c ≡ other.c) × (one.d ≡ other.d)))).
    same_words one.a one.b one.c one.d other.a other.b other.c other.d s.0 s.1.0 s.1.1.0 s.1.1.1)
    (both (one_spaced one.a other.a l.0 k.0) (both (one_spaced one.b other.b l.1.0 k.1.0)
    (both (one_spaced one.c other.c l.1.1.0 k.1.1.0) (one_spaced one.d other.d l.1.1.1 k.1.1.1))))

-- bytes of a line begin with a blank
pub body-stops : (body : Line) (more : List ℕ) → Stops (body_text body ++ more)
unfolding body_text
body-stops body more = omega arith

-- a byte in two digits
pub one_byte : (n m : ℕ) → n < 256 → m < 256 → Tells (n ≡ m) (hex_byte n) (hex_byte m)
one_byte n m l k = record {
  read = λ u v e.
      let high : n / 16 ≡ m / 16 = one_digit (n / 16) (m / 16) (omega arith) (omega arith) (ap (λ (t : List ℕ). slice_index t 2) e) in
      let low : n % 16 ≡ m % 16 = one_digit (n % 16) (m % 16) (omega arith) (omega arith) (ap (λ (t : List ℕ). slice_index t 3) e) in
      (omega (arith, high, low), ap (drop 4) e);
}

-- ---- lists of nodes

rest_stops : (ms : List ℕ) (u : List ℕ) → Stops u → Stops (flat_map next_node ms ++ u)
rest_stops [] u stops = stops
rest_stops (m ∷ ms) u stops = omega arith

no_dash : {P : Type 0} (ds u v : List ℕ) → AllDigits 10 ds → 0 < length ds → ds ++ u ≡ 45 ∷ v → P
no_dash [] u v all some e = absurd (omega (arith, some))
no_dash (d ∷ ds) u v all some e =
    let same : d ≡ 45 = ap (λ (t : List ℕ). slice_index t 0) e in
    let digit : digit_value 45 < 10 = subst (λ (k : ℕ). digit_value k < 10) same all.0 in
    absurd (omega arith)

other_byte : {P : Type 0} (a b : ℕ) (u v : List ℕ) → (a == b) ≡ false → a ∷ u ≡ b ∷ v → P
other_byte a b u v other e = absurd (let same : a ≡ b = ap (λ (t : List ℕ). slice_index t 0) e in grind (arith, nat_tests))

more_nodes : (ms ks u v : List ℕ) → AllByRecursion IsNumber ms → AllByRecursion IsNumber ks
    → flat_map next_node ms ++ 32 ∷ u ≡ flat_map next_node ks ++ 32 ∷ v → (ms ≡ ks) × (u ≡ v)
more_nodes [] [] u v are all e = (refl, ap (drop 1) e)
more_nodes [] (k ∷ ks) u v are all e = other_byte 32 44 u _ refl e
more_nodes (m ∷ ms) [] u v are all e = other_byte 44 32 _ v refl e
more_nodes (m ∷ ms) (k ∷ ks) u v are all e =
    let left = flat_map next_node ms in
    let right = flat_map next_node ks in
    let first = digits_end (decimal m) (decimal k) (left ++ 32 ∷ u) (right ++ 32 ∷ v) (in_digits m) (in_digits k)
    (rest_stops ms (32 ∷ u) (omega arith)) (rest_stops ks (32 ∷ v) (omega arith))
    (sym (append_assoc (decimal m) left (32 ∷ u)) ∙ ap (drop 1) e ∙ append_assoc (decimal k) right (32 ∷ v)) in
    let rest = more_nodes ms ks u v are.1 all.1 first.1 in
    let same : m ∷ ms ≡ k ∷ ks = (λ i. decimal_injective m k are.0 all.0 first.0 i ∷ rest.0 i) in
    (same, rest.1)

node_list : (ms ks u v : List ℕ) → AllByRecursion IsNumber ms → AllByRecursion IsNumber ks
    → nodes_text ms ++ 32 ∷ u ≡ nodes_text ks ++ 32 ∷ v → (ms ≡ ks) × (u ≡ v)
node_list [] [] u v are all e = (refl, ap (drop 2) e)
node_list [] (k ∷ ks) u v are all e =
    no_dash (decimal k) (flat_map next_node ks ++ 32 ∷ v) (32 ∷ u) (in_digits k) (decimal_nonempty k all.0)
    (sym (append_assoc (decimal k) (flat_map next_node ks) (32 ∷ v)) ∙ sym e)
node_list (m ∷ ms) [] u v are all e =
    no_dash (decimal m) (flat_map next_node ms ++ 32 ∷ u) (32 ∷ v) (in_digits m) (decimal_nonempty m are.0)
    (sym (append_assoc (decimal m) (flat_map next_node ms) (32 ∷ u)) ∙ e)
node_list (m ∷ ms) (k ∷ ks) u v are all e = more_nodes (m ∷ ms) (k ∷ ks) u v are all (ap (λ (t : List ℕ). 44 ∷ t) e)

-- node numbers before a blank
pub one_nodes : {B : Type 0} {b d : List ℕ} (ms ks : List ℕ) → AllByRecursion IsNumber ms → AllByRecursion IsNumber ks → Tells B b d
    → Tells ((ms ≡ ks) × B) (nodes_text ms ++ 32 ∷ b) (nodes_text ks ++ 32 ∷ d)
one_nodes {B} {b} {d} ms ks are all rest = record {
  read = λ u v e.
      let first = node_list ms ks (b ++ u) (d ++ v) are all
      (sym (append_assoc (nodes_text ms) (32 ∷ b) u) ∙ e ∙ append_assoc (nodes_text ks) (32 ∷ d) v) in
      let r = rest.read u v first.1 in
      ((first.0, r.0), r.1);
}
