-- Messages in bytes, by their place.
use Rattle.std.proofs.Common.{◌≡◌, ℕ, zero, suc, ◌≤◌, ◌<◌, Some, None, List, length, drop, slice_get, refl, arith}
use Rattle.alw_cells.specs.Records.{sent_msg, sent_size, sends_in, behind_sends, HasSends}

-- there are fewer too
pub has_fewer : (n i : ℕ) (bytes : List ℕ) → i ≤ n → HasSends n bytes → HasSends i bytes
has_fewer n zero bytes few has = tt
has_fewer zero (suc i) bytes few has = absurd (omega arith)
has_fewer (suc n) (suc i) bytes few has = (has.0, has_fewer n i (drop (sent_size bytes) bytes) (omega arith) has.1)

-- one at each place, and none behind
pub has_place : (n i : ℕ) (bytes : List ℕ) → i < n → HasSends n bytes → sent_size (behind_sends i bytes) ≤ length (behind_sends i bytes)
has_place zero i bytes few has = absurd (omega arith)
has_place (suc n) zero bytes few has = has.0
has_place (suc n) (suc i) bytes few has = has_place n i (drop (sent_size bytes) bytes) (omega arith) has.1

pub at_place : (number stamp n i : ℕ) (bytes : List ℕ) → i < n → slice_get (sends_in number stamp n bytes) i ≡ Some
    (sent_msg number stamp (behind_sends i bytes))
at_place number stamp zero i bytes few = absurd (omega arith)
at_place number stamp (suc n) zero bytes few = refl
at_place number stamp (suc n) (suc i) bytes few = at_place number stamp n i (drop (sent_size bytes) bytes) (omega arith)

pub none_behind : (number stamp n i : ℕ) (bytes : List ℕ) → n ≤ i → slice_get (sends_in number stamp n bytes) i ≡ None
none_behind number stamp zero i bytes past = refl
none_behind number stamp (suc n) zero bytes past = absurd (omega arith)
none_behind number stamp (suc n) (suc i) bytes past = none_behind number stamp n i (drop (sent_size bytes) bytes) (omega arith)
