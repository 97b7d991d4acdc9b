-- Tables that find numbers by digests.
use Rattle.std.specs.Prelude.{◌≡◌, ℕ, ◌-◌, ◌%◌, ◌^◌, ◌<◌, ◌≤◌, List, length, map, slice_index_or}
use Rattle.alw_outcomes.specs.declared.tables.Mark.{Mark}

-- the last number below another of which this holds, plus one: 0 where it holds of none
pub record IsLast (Holds : ℕ → Type 0) (below last : ℕ) : Type 0 where
  pub within : last ≤ below
  pub holds : 0 < last → Holds (last - 1)
  pub none : (k : ℕ) → last ≤ k → k < below → Holds k → ⊥

-- the digest with this number is this one
abbrev pub HasDigest : List ℕ → ℕ → ℕ → Type 0
HasDigest digests digest k = slice_index_or digests k 0 ≡ digest

-- the digest with this number has this remainder
abbrev pub IsOnChain : List ℕ → ℕ → ℕ → ℕ → Type 0
IsOnChain digests count remainder k = slice_index_or digests k 0 % count ≡ remainder

abbrev pub digests_of : List Mark → List ℕ
digests_of marks = map (λ (m : Mark). m.digest) marks

abbrev pub befores_of : List Mark → List ℕ
befores_of marks = map (λ (m : Mark). m.before) marks

-- of the first so many numbers, each tells the one before it on its chain, and each head the last one of its chain
pub record AreChained (digests befores heads : List ℕ) (count below : ℕ) : Type 0 where
  pub before : (k : ℕ) → k < below → IsLast (IsOnChain digests count (slice_index_or digests k 0 % count)) k (slice_index_or befores k 0)
  pub head : (chain : ℕ) → chain < count → IsLast (IsOnChain digests count chain) below (slice_index_or heads chain 0)

-- all marks are on chains, one for each head
pub record IsMarkTable (heads : List ℕ) (marks : List Mark) : Type 0 where
  pub chained : AreChained (digests_of marks) (befores_of marks) heads (length heads) (length marks)
  pub some : length heads ≡ 0 → length marks ≡ 0
  pub few : length marks < 2 ^ 32
