-- The names of instructions, each with its form.
use Rattle.std.proofs.Common.{◌≡◌, true, false, Bool, ℕ, ◌<◌, ◌≤◌, ◌==◌, ◌&&◌, not, cond, List, [], ◌∷◌, ◌++◌, length, Option, Some, None, refl, subst, sym, arith}
use Rattle.std.specs.Prelude.{codes, ◌||◌, nat_le}
use Rattle.std.specs.List.{AllByRecursion, list_all}
use Rattle.std.proofs.lemmas.Bool.{eqb-true}
use Rattle.std.proofs.lemmas.Bool.Decides.{nat_tests}
use Rattle.sparc_table.specs.Table.{is_in, arithmetic, shifts, accesses}
use Rattle.sparc_asm.specs.declared.lexemes.Lexeme.TheVariants as lexeme
use Rattle.sparc_asm.specs.declared.mnemonics.Form.{Form}
use Rattle.sparc_asm.specs.declared.mnemonics.Form.TheVariants as form
use Rattle.sparc_asm.specs.Mnemonics.{form_of}
use Rattle.sparc_text.specs.Statements.{arithmetic_name, shift_name, access_name, condition_name, is_store}
use Rattle.sparc_lex.specs.declared.characters.Class.TheVariants.{Blank, NamePart}
use Rattle.sparc_lex.specs.Characters.{is_of, begins_name}
use Rattle.law_sources.proofs.Pieces.{is_plain, IsPlain, IsName, Piece, name}

-- tests of a name: what it begins with, what it goes on with, and how long it is
abbrev is_known : List ℕ → Bool
is_known [] = false
is_known (first ∷ rest) =
    not (is_of Blank first) && (begins_name first && (not (first == 46) && (list_all (is_of NamePart) rest && (list_all is_plain (first ∷ rest) && nat_le (length rest) 5))))

-- a name of at most six letters that has a form
pub record IsNamed (text : List ℕ) (of : Form) : Type 0 where
  pub named : IsName text
  pub plain : IsPlain text
  pub size : length text ≤ 6
  pub found : form_of text ≡ Some of

-- the same as one equation
abbrev Row : List ℕ → Form → Type 0
Row text of = cond (is_known text) (form_of text) None ≡ Some of

known_of : (test : Bool) (found : Option Form) (of : Form) → cond test found None ≡ Some of → (test ≡ true) × (found ≡ Some of)
known_of true found of row = (refl, row)
known_of false found of row = absurd cc

named_row : (text : List ℕ) (of : Form) → Row text of → IsNamed text of
named_row [] of row = absurd (let e = (known_of (is_known []) (form_of []) of row).0 in cc)
named_row (first ∷ rest) of row =
    go (is_of Blank first) (begins_name first) (first == 46) (list_all (is_of NamePart) rest) (list_all is_plain (first ∷ rest)) (nat_le (length rest) 5) refl refl refl refl refl refl both.0
  where
    both : (is_known (first ∷ rest) ≡ true) × (form_of (first ∷ rest) ≡ Some of)
    both = known_of (is_known (first ∷ rest)) (form_of (first ∷ rest)) of row

    go : (a b c d e f : Bool) → is_of Blank first ≡ a → begins_name first ≡ b → (first == 46) ≡ c → list_all (is_of NamePart) rest ≡ d → list_all is_plain (first ∷ rest) ≡ e → nat_le (length rest) 5 ≡ f
        → (not a && (b && (not c && (d && (e && f))))) ≡ true → IsNamed (first ∷ rest) of
    go false true false true true true a b c d e f is = record { named = (a, b, c, d); plain = e; size = grind (arith, nat_tests); found = both.1 }
    go true b c d e f a' b' c' d' e' f' is = absurd cc
    go false false c d e f a' b' c' d' e' f' is = absurd cc
    go false true true d e f a' b' c' d' e' f' is = absurd cc
    go false true false false e f a' b' c' d' e' f' is = absurd cc
    go false true false true false f a' b' c' d' e' f' is = absurd cc
    go false true false true true false a' b' c' d' e' f' is = absurd cc

pub named_piece : (text : List ℕ) (of : Form) → IsNamed text of → Piece text (lexeme.Name text ∷ []) 6
named_piece text of is = name text 6 is.named is.plain is.size

-- what holds of each number of a list holds of one that is in it
among : (P : ℕ → Type 0) (xs : List ℕ) (n : ℕ) → is_in xs n ≡ true → AllByRecursion P xs → P n
among P [] n is each = absurd cc
among P (x ∷ xs) n is each = go (n == x) refl is (λ more. among P xs n more each.1)
  where
    go : (b : Bool) → (n == x) ≡ b → (b || is_in xs n) ≡ true → (is_in xs n ≡ true → P n) → P n
    go true e is more = subst P (sym (eqb-true n x e)) each.0
    go false e is more = more is

arithmetic_rows : AllByRecursion (λ n. Row (arithmetic_name n) (form.Arith n)) arithmetic
unfolding form_of
arithmetic_rows = (refl, (refl, (refl, (refl, (refl, (refl, (refl, (refl, (refl, (refl, (refl, (refl, (refl, (refl, (refl, (refl, (refl, (refl, (refl, (refl, (refl, (refl, tt))))))))))))))))))))))

pub arithmetic_named : (op3 : ℕ) → is_in arithmetic op3 ≡ true → IsNamed (arithmetic_name op3) (form.Arith op3)
arithmetic_named op3 is = named_row (arithmetic_name op3) (form.Arith op3) (among (λ n. Row (arithmetic_name n) (form.Arith n)) arithmetic op3 is arithmetic_rows)

shift_rows : AllByRecursion (λ n. Row (shift_name n) (form.Shift n)) shifts
unfolding form_of
shift_rows = (refl, (refl, (refl, tt)))

pub shift_named : (op3 : ℕ) → is_in shifts op3 ≡ true → IsNamed (shift_name op3) (form.Shift op3)
shift_named op3 is = named_row (shift_name op3) (form.Shift op3) (among (λ n. Row (shift_name n) (form.Shift n)) shifts op3 is shift_rows)

-- the form of a load or a store
abbrev pub access_form : ℕ → Form
access_form op3 = cond (is_store op3) (form.Store op3) (form.Load op3)

access_rows : AllByRecursion (λ n. Row (access_name n) (access_form n)) accesses
unfolding form_of
access_rows = (refl, (refl, (refl, (refl, (refl, (refl, (refl, (refl, (refl, (refl, tt))))))))))

pub access_named : (op3 : ℕ) → is_in accesses op3 ≡ true → IsNamed (access_name op3) (access_form op3)
access_named op3 is = named_row (access_name op3) (access_form op3) (among (λ n. Row (access_name n) (access_form n)) accesses op3 is access_rows)

-- ---- conditions

sixteen : List ℕ
sixteen = 0 ∷ 1 ∷ 2 ∷ 3 ∷ 4 ∷ 5 ∷ 6 ∷ 7 ∷ 8 ∷ 9 ∷ 10 ∷ 11 ∷ 12 ∷ 13 ∷ 14 ∷ 15 ∷ []

below_sixteen : (n : ℕ) → n < 16 → is_in sixteen n ≡ true
unfolding sixteen
below_sixteen n small = grind (arith, nat_tests)

-- a branch's name, and a trap's
branch_rows : AllByRecursion (λ n. Row (codes "b" ++ condition_name n) (form.Branch n)) sixteen
unfolding form_of sixteen
branch_rows = (refl, (refl, (refl, (refl, (refl, (refl, (refl, (refl, (refl, (refl, (refl, (refl, (refl, (refl, (refl, (refl, tt))))))))))))))))

pub branch_named : (condition : ℕ) → condition < 16 → IsNamed (codes "b" ++ condition_name condition) (form.Branch condition)
branch_named condition small = named_row (codes "b" ++ condition_name condition) (form.Branch condition) (among (λ n. Row (codes "b" ++ condition_name n) (form.Branch n)) sixteen condition (below_sixteen condition small) branch_rows)

trap_rows : AllByRecursion (λ n. Row (codes "t" ++ condition_name n) (form.Trap n)) sixteen
unfolding form_of sixteen
trap_rows = (refl, (refl, (refl, (refl, (refl, (refl, (refl, (refl, (refl, (refl, (refl, (refl, (refl, (refl, (refl, (refl, tt))))))))))))))))

pub trap_named : (condition : ℕ) → condition < 16 → IsNamed (codes "t" ++ condition_name condition) (form.Trap condition)
trap_named condition small = named_row (codes "t" ++ condition_name condition) (form.Trap condition) (among (λ n. Row (codes "t" ++ condition_name n) (form.Trap n)) sixteen condition (below_sixteen condition small) trap_rows)
