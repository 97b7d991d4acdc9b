-- Tables of addresses and bytes.
use Rattle.std.proofs.Common.{◌≡◌, true, false, Bool, ℕ, zero, suc, ◌+◌, ◌-◌, ◌*◌, ◌<◌, ◌==◌, ◌&&◌, if◌then◌else◌, nat_lt, nat_le, List, [], ◌∷◌, ◌++◌, length, slice_index, slice_index_or, Option, Some, None, refl, arith}
use Rattle.std.specs.Prelude.{replicate}
use Rattle.std.proofs.lemmas.Bool.Decides.{nat_tests}
use Rattle.std.proofs.lemmas.Grind.{common_steps}
use Rattle.sparc_assemble.specs.Assembly.{put_start, written_over}
use Rattle.sparc_assemble.specs.Fillings.{address_in}

-- ---- entries

blank : {A : Type 0} (x : A) (k n : ℕ) → slice_index_or (replicate k x) n x ≡ x
blank x zero n = refl
blank x (suc k) zero = refl
blank x (suc k) (suc n) = blank x k n

-- entries behind the others that say what lies behind them anyway
pub grown : {A : Type 0} (x : A) (old : List A) (k n : ℕ) → slice_index_or (old ++ replicate k x) n x ≡ slice_index_or old n x
grown x [] k n = blank x k n
grown x (y ∷ ys) k zero = refl
grown x (y ∷ ys) k (suc n) = grown x ys k n

pub no_address : (n s : ℕ) → address_in [] n s ≡ None
no_address n s = go (nat_lt n 65536 && nat_lt s 256)
  where
    none : Option ℕ
    none = None

    go : (b : Bool) → (if b then none else none) ≡ none
    go true = refl
    go false = refl

pub address_at : (addresses : List (Option ℕ)) (node slot : ℕ) → node < 65536 → slot < 256 → slice_index_or addresses (256 * node + slot) None ≡ address_in addresses node slot
address_at addresses node slot small few = grind (arith, nat_tests)

pub more_addresses : (old new : List (Option ℕ)) (node slot address n s : ℕ) → node < 65536 → slot < 256 → ((k : ℕ) → slice_index_or new k None ≡ (if k == 256 * node + slot then Some address else slice_index_or old k None)) → address_in new n s ≡ put_start node slot address (address_in old) n s
more_addresses old new node slot address n s small few set = grind (arith, nat_tests, set (256 * n + s))

-- ---- bytes

-- the first bytes, of so many
abbrev pub written_upto : ℕ → ℕ → List ℕ → (ℕ → ℕ) → ℕ → ℕ
written_upto from count bytes memory place = if nat_le from place && nat_lt place (from + count) then slice_index bytes (place - from) else memory place

-- bytes behind bytes
pub written_behind : (a b c : ℕ → ℕ) (from place : ℕ) (xs ys : List ℕ) → b place ≡ written_over from xs a place → c place ≡ written_over (from + length xs) ys b place → c place ≡ written_over from (xs ++ ys) a place
written_behind a b c from place xs ys first second = grind (arith, nat_tests, common_steps)
