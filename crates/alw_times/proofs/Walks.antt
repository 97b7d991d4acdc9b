-- The loops over what was sent and over the slots of a node.
use Rattle.std.proofs.Common.{◌≡◌, ℕ, zero, suc, ◌+◌, ◌*◌, ◌≤◌, ◌^◌, max, Bool, Some, List, [], ◌∷◌, drop, slice_get, sym, ap, ◌∙◌, arith}
use Rattle.alw_msg.specs.declared.messages.Msg.{Msg}
use Rattle.alw_image.specs.declared.parts.Parts.{Parts}
use Rattle.alw_times.specs.declared.costs.Costs.{Costs}
use Rattle.alw_times.specs.Times.{Outgoing, sent, sent_one, Waking, woken_slot, woken_below}
use Rattle.alw_times.specs.Within.{QueuesAreWithin}

-- what is left from a place on begins with what stands there
drop_suc : {X : Type 0} → (xs : List X) (i : ℕ) (x : X) → slice_get xs i ≡ Some x → drop i xs ≡ x ∷ drop (suc i) xs
drop_suc [] i x got = absurd (cc)
drop_suc (y ∷ ys) zero x got = let same : y ≡ x = cc in ap (λ z. z ∷ ys) same
drop_suc (y ∷ ys) (suc i) x got = drop_suc ys i x got

pub drop_get : {X : Type 0} → (xs : List X) (i : ℕ) (x : X) → slice_get xs i ≡ Some x → drop i xs ≡ x ∷ drop (i + 1) xs
drop_get xs i x got = let next : suc i ≡ i + 1 = omega arith in drop_suc xs i x got ∙ ap (λ (k : ℕ). x ∷ drop k xs) next

-- So many messages are out: with those that are left it comes to what all come to, the port is free in time, and no arrival is late.
pub record AreOut (parts : Parts) (costs : Costs) (leave from port : ℕ) (before : List (List ℕ)) (sends : List (ℕ × Msg)) (i open_at : ℕ) (arrivals : List (List ℕ)) : Type 0 where
  pub left : sent parts costs from leave (record { port = open_at; arrivals = arrivals }) (drop i sends) ≡ sent parts costs from leave (record { port = port; arrivals = before }) sends
  pub free : open_at ≤ max port leave + i * 2 ^ 17
  pub within : (most : ℕ) → max port leave + 2 ^ 32 + 2 ^ 26 ≤ most → QueuesAreWithin most before → QueuesAreWithin most arrivals

module _ (parts : Parts) (costs : Costs) (leave from port : ℕ) (before : List (List ℕ)) (sends : List (ℕ × Msg)) where
  pub out_more : (i free next : ℕ) (arrivals after : List (List ℕ)) (send : ℕ × Msg) → AreOut parts costs leave from port before sends i free arrivals → slice_get sends i ≡ Some send →
      i ≤ 256 → record { port = next; arrivals = after } ≡ sent_one parts costs from leave (record { port = free; arrivals = arrivals }) send → next ≤ max free leave + 2 ^ 17 →
      ((most : ℕ) → max free leave + 2 ^ 32 + 2 ^ 25 ≤ most → QueuesAreWithin most arrivals → QueuesAreWithin most after) → AreOut parts costs leave from port before sends (i + 1) next after
  out_more i free next arrivals after send are got few added later kept = record {
    left = ap (λ (out : Outgoing). sent parts costs from leave out (drop (i + 1) sends)) added
        ∙ (sym (ap (sent parts costs from leave (record { port = free; arrivals = arrivals })) (drop_get sends i send got)) ∙ are.left);
    free = omega (arith, later, are.free);
    within = λ most le all. kept most (omega (arith, le, are.free, few)) (are.within most le all);
  }

-- one slot more is woken
pub woken_more : (costs : Costs) (refused : Bool) (flags : List Bool) (first time slot : ℕ) (waking : Waking) →
    woken_below costs refused flags first time (slot + 1) waking ≡ woken_slot costs refused flags first time slot (woken_below costs refused flags first time slot waking)
woken_more costs refused flags first time slot waking =
    let next : slot + 1 ≡ suc slot = omega arith in ap (λ (k : ℕ). woken_below costs refused flags first time k waking) next
