-- Texts that are read in one way: where two of them stand at the front of one text, they say the same, and what follows them is the same.
use Rattle.std.proofs.Common.{◌≡◌, ℕ, zero, suc, ◌/◌, ◌%◌, ◌<◌, ◌==◌, Bool, true, false, cond, List, [], ◌∷◌, ◌++◌, drop, slice_index, refl, sym, ap, subst, ◌∙◌, arith, append_assoc}
use Rattle.std.specs.Prelude.{slice_index_or}
use Rattle.std.specs.Fmt.{decimal, digits, digits_onto, digit_glyph}
use Rattle.std.specs.Char.{digit_value}
use Rattle.std.specs.Str.Parse.{AllDigits}
use Rattle.std.proofs.lemmas.Bool.Decides.{nat_tests}
use Rattle.std.proofs.lemmas.Fmt.{decimal_injective}
use Rattle.std.proofs.lemmas.List.{append_cancel_left}
use Rattle.alw_trace.specs.Lines.{IsNumber}

-- ---- one text in one way

pub record Tells (Said : Type 0) (one other : List ℕ) : Type 0 where
  pub read : (u v : List ℕ) → one ++ u ≡ other ++ v → Said × (u ≡ v)

pub fixed : (text : List ℕ) → Tells (Unit {0}) text text
fixed text = record { read = λ u v e. (tt, append_cancel_left text u v e) }

pub both : {A B : Type 0} {a b c d : List ℕ} → Tells A a c → Tells B b d → Tells (A × B) (a ++ b) (c ++ d)
both {A} {B} {a} {b} {c} {d} first second = record {
  read = λ u v e.
      let f = first.read (b ++ u) (d ++ v) (sym (append_assoc a b u) ∙ e ∙ append_assoc c d v) in
      let s = second.read u v f.1 in
      ((f.0, s.0), s.1);
}

-- behind a fixed text
pub behind : {A : Type 0} {s t : List ℕ} (front : List ℕ) → Tells A s t → Tells A (front ++ s) (front ++ t)
behind {A} {s} {t} front tells = record {
  read = λ u v e.
      tells.read u v (append_cancel_left front (s ++ u) (t ++ v) (sym (append_assoc front s u) ∙ e ∙ append_assoc front t v));
}

pub said_as : {A B : Type 0} {s t : List ℕ} → (A → B) → Tells A s t → Tells B s t
said_as to tells = record { read = λ u v e. let r = tells.read u v e in (to r.0, r.1) }

-- the same texts, written in another way
pub written : {A : Type 0} {s t s' t' : List ℕ} → s ≡ s' → t ≡ t' → Tells A s' t' → Tells A s t
written {A} {s} {t} {s'} {t'} e f tells = subst (λ (x : List ℕ). Tells A x t) (sym e) (subst (λ (y : List ℕ). Tells A s' y) (sym f) tells)

abbrev pub byte_at : ℕ → List ℕ → ℕ
byte_at place text = slice_index_or text place 0

-- one of some values, which its text begins to tell
pub chosen : {X : Type 0} (text : X → List ℕ) (of : List ℕ → X) → ((x : X) (u : List ℕ) → of (text x ++ u) ≡ x) → (x y : X) → Tells (x ≡ y) (text x) (text y)
chosen {X} text of reads x y = record {
  read = λ u v e.
      let same : x ≡ y = sym (reads x u) ∙ ap of e ∙ reads y v in
      (same, append_cancel_left (text y) u v (subst (λ (z : X). text z ++ u ≡ text y ++ v) same e));
}

-- ---- numbers

-- a text that begins with a byte below the digits
abbrev pub Stops : List ℕ → Type 0
Stops [] = ⊥
Stops (byte ∷ rest) = byte < 48

pub stops_too : (b u : List ℕ) → Stops b → Stops (b ++ u)
stops_too [] u stops = absurd stops
stops_too (byte ∷ rest) u stops = stops

no_stop : (d : ℕ) → digit_value d < 10 → d < 48 → ⊥
no_stop d digit low = grind (arith, nat_tests)

stopped : {P : Type 0} (d : ℕ) (ds U V : List ℕ) → digit_value d < 10 → Stops U → U ≡ (d ∷ ds) ++ V → P
stopped d ds [] V digit stops e = absurd stops
stopped d ds (byte ∷ rest) V digit stops e = absurd (no_stop d digit (let same : byte ≡ d = ap (λ (t : List ℕ). slice_index t 0) e in omega arith))

-- digits, and what follows them
pub digits_end : (ds es U V : List ℕ) → AllDigits 10 ds → AllDigits 10 es → Stops U → Stops V → ds ++ U ≡ es ++ V → (ds ≡ es) × (U ≡ V)
digits_end [] [] U V are all stops ends e = (refl, e)
digits_end [] (d ∷ es) U V are all stops ends e = stopped d es U V all.0 stops e
digits_end (d ∷ ds) [] U V are all stops ends e = stopped d ds V U are.0 ends (sym e)
digits_end (d ∷ ds) (c ∷ es) U V are all stops ends e =
    let first : d ≡ c = ap (λ (t : List ℕ). slice_index t 0) e in
    let rest = digits_end ds es U V are.1 all.1 stops ends (ap (drop 1) e) in
    (let more = rest.0 in cc, rest.1)

glyph : (n : ℕ) → digit_value (digit_glyph false (n % 10)) < 10
glyph n = grind (arith, nat_tests)

onto : (k n : ℕ) (acc : List ℕ) → AllDigits 10 acc → AllDigits 10 (digits_onto k 10 false n acc)
onto zero n acc all = all
onto (suc k) n acc all = go (n / 10 == 0) (onto k (n / 10) (digit_glyph false (n % 10) ∷ acc) (glyph n, all))
  where
    more : List ℕ
    more = digits_onto k 10 false (n / 10) (digit_glyph false (n % 10) ∷ acc)

    go : (b : Bool) → AllDigits 10 more → AllDigits 10 (cond b (digit_glyph false (n % 10) ∷ acc) more)
    go true rest = (glyph n, all)
    go false rest = rest

-- any number is written in digits
pub in_digits : (n : ℕ) → AllDigits 10 (decimal n)
unfolding digits
in_digits n = onto 64 n [] tt

-- what follows any number
pub same_behind : (n m : ℕ) (u v : List ℕ) → Stops u → Stops v → decimal n ++ u ≡ decimal m ++ v → u ≡ v
same_behind n m u v stops ends e = (digits_end (decimal n) (decimal m) u v (in_digits n) (in_digits m) stops ends e).1

pub number : {B : Type 0} {b d : List ℕ} (n m : ℕ) → IsNumber n → IsNumber m → Stops b → Stops d → Tells B b d
    → Tells ((n ≡ m) × B) (decimal n ++ b) (decimal m ++ d)
number {B} {b} {d} n m l k stops ends rest = record {
  read = λ u v e.
      let f = digits_end (decimal n) (decimal m) (b ++ u) (d ++ v) (in_digits n) (in_digits m) (stops_too b u stops) (stops_too d v ends)
      (sym (append_assoc (decimal n) b u) ∙ e ∙ append_assoc (decimal m) d v) in
      let r = rest.read u v f.1 in
      ((decimal_injective n m l k f.0, r.0), r.1);
}
