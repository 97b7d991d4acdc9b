-- The order of entries by stamp and node.
use Rattle.std.proofs.Common.{◌≡◌, ◌≢◌, ℕ, ◌≤◌, ◌==◌, nat_lt, Bool, false, ◌&&◌, ◌||◌, IsTrue, arith}
use Rattle.std.proofs.lemmas.Bool.Decides.{nat_tests}
use Rattle.alw_msg.specs.declared.events.Entry.{Entry}
use Rattle.alw_msg.specs.Events.{node_of}
use Rattle.alw_model.specs.Threads.{is_before}

-- the order as one of numbers: stamp and node of the one, stamp and node of the other
abbrev comes_before : ℕ → ℕ → ℕ → ℕ → Bool
comes_before s n t m = nat_lt s t || (s == t && nat_lt n m)

before_le : (s n t m : ℕ) → IsTrue (comes_before s n t m) → s ≤ t
before_le s n t m is = grind (arith, nat_tests)

not_trans : (s n t m u k : ℕ) → comes_before s n t m ≡ false → comes_before t m u k ≡ false → comes_before s n u k ≡ false
not_trans s n t m u k one other = grind (arith, nat_tests)

before_either : (s n t m : ℕ) → comes_before s n t m ≡ false → (n ≡ m → s ≢ t) → IsTrue (comes_before t m s n)
before_either s n t m is apart = grind (arith, nat_tests)

before_not : (s n t m : ℕ) → IsTrue (comes_before s n t m) → comes_before t m s n ≡ false
before_not s n t m is = grind (arith, nat_tests)

not_before : (s n t m : ℕ) → comes_before s n t m ≡ false → t ≤ s
not_before s n t m is = grind (arith, nat_tests)

pub stamps_le : (one other : Entry) → IsTrue (is_before one other) → one.stamp ≤ other.stamp
stamps_le one other is = before_le one.stamp (node_of one.event) other.stamp (node_of other.event) is

pub stamps_ge : (one other : Entry) → is_before one other ≡ false → other.stamp ≤ one.stamp
stamps_ge one other is = not_before one.stamp (node_of one.event) other.stamp (node_of other.event) is

pub never_trans : (one other third : Entry) → is_before one other ≡ false → is_before other third ≡ false → is_before one third ≡ false
never_trans one other third is also = not_trans one.stamp (node_of one.event) other.stamp (node_of other.event) third.stamp (node_of third.event) is also

pub either_before : (one other : Entry) → is_before one other ≡ false → (node_of one.event ≡ node_of other.event → one.stamp ≢ other.stamp) → IsTrue (is_before other one)
either_before one other is apart = before_either one.stamp (node_of one.event) other.stamp (node_of other.event) is apart

pub never_both : (one other : Entry) → IsTrue (is_before one other) → is_before other one ≡ false
never_both one other is = before_not one.stamp (node_of one.event) other.stamp (node_of other.event) is
