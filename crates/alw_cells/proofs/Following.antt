-- Messages to a node that are read one by one.
use Rattle.std.proofs.Common.{◌≡◌, ℕ, zero, suc, ◌+◌, ◌<◌, ◌==◌, cond, Some, None, List, [], ◌∷◌, ◌++◌, length, drop, map, filter, slice_get, refl, sym, ap}
use Rattle.std.proofs.Common.{◌∙◌, arith}
use Rattle.std.specs.Option.{option_map}
use Rattle.std.proofs.lemmas.Bool.{eq-eqb, ne_eqb}
use Rattle.std.proofs.lemmas.Option.{same_Some}
use Rattle.alw_msg.specs.declared.messages.Msg.{Msg}
use Rattle.alw_msg.specs.Lists.{front, behind}
use Rattle.alw_model.specs.Threads.{Logged, sent_to}
use Rattle.alw_cells.specs.Cells.{picked}
use Rattle.alw_cells.specs.Logs.{Reading, after_next, sent_of, entry_of}
use Rattle.alw_cells.specs.Receiving.{left_to, unread}

there : (sends : List (ℕ × Msg)) (at : ℕ) (send : ℕ × Msg) → Some send ≡ slice_get sends at → drop at sends ≡ send ∷ drop (at + 1) sends
there [] at send is = absurd (cc)
there (first ∷ rest) zero send is = ap (λ (one : ℕ × Msg). one ∷ rest) (same_Some first send (sym is))
there (first ∷ rest) (suc at) send is = let e : suc at + 1 ≡ suc (at + 1) = omega arith in rw e (there rest at send is)

nothing_there : (sends : List (ℕ × Msg)) (at : ℕ) → None ≡ slice_get sends at → drop at sends ≡ []
nothing_there [] zero is = refl
nothing_there [] (suc at) is = refl
nothing_there (first ∷ rest) zero is = absurd (cc)
nothing_there (first ∷ rest) (suc at) is = nothing_there rest at is

picked_first : (number : ℕ) (send : ℕ × Msg) (rest : List (ℕ × Msg)) → send.0 ≡ number → picked number (send ∷ rest) ≡ send.1 ∷ picked number rest
picked_first number send rest is =
    ap (λ b. map (λ (s : ℕ × Msg). s.1) (cond b (send ∷ filter (λ (s : ℕ × Msg). s.0 == number) rest) (filter (λ (s : ℕ × Msg). s.0 == number) rest)))
    (eq-eqb send.0 number is)

picked_passed : (number : ℕ) (send : ℕ × Msg) (rest : List (ℕ × Msg)) → (send.0 ≡ number → ⊥) → picked number (send ∷ rest) ≡ picked number rest
picked_passed number send rest other =
    ap (λ b. map (λ (s : ℕ × Msg). s.1) (cond b (send ∷ filter (λ (s : ℕ × Msg). s.0 == number) rest) (filter (λ (s : ℕ × Msg). s.0 == number) rest)))
    (ne_eqb send.0 number other)

module _ (number at : ℕ) (reading : Reading) where
  -- a message at the place, to the node or to another
  pub its : (send : ℕ × Msg) → Some send ≡ slice_get (sent_of reading.given) at → send.0 ≡ number
      → left_to number at reading ≡ send.1 ∷ left_to number (at + 1) reading
  its send is goes =
      ap (λ (sends : List (ℕ × Msg)). picked number sends ++ sent_to number reading.left) (there (sent_of reading.given) at send is)
      ∙ ap (λ (msgs : List Msg). msgs ++ sent_to number reading.left) (picked_first number send (drop (at + 1) (sent_of reading.given)) goes)

  pub passed : (send : ℕ × Msg) → Some send ≡ slice_get (sent_of reading.given) at → (send.0 ≡ number → ⊥)
      → left_to number at reading ≡ left_to number (at + 1) reading
  passed send is other =
      ap (λ (sends : List (ℕ × Msg)). picked number sends ++ sent_to number reading.left) (there (sent_of reading.given) at send is)
      ∙ ap (λ (msgs : List Msg). msgs ++ sent_to number reading.left) (picked_passed number send (drop (at + 1) (sent_of reading.given)) other)

  pub fewer : (send : ℕ × Msg) → Some send ≡ slice_get (sent_of reading.given) at → unread (at + 1) reading < unread at reading
  fewer send is = omega (arith, ap length (there (sent_of reading.given) at send is))

  -- none there: the next event
  pub past : None ≡ slice_get (sent_of reading.given) at → left_to number at reading ≡ left_to number 0 (after_next reading)
  past is = ap (λ (sends : List (ℕ × Msg)). picked number sends ++ sent_to number reading.left) (nothing_there (sent_of reading.given) at is) ∙ go reading.left
    where
      go : (left : List Logged) → sent_to number left ≡ picked number (sent_of (front left)) ++ sent_to number (behind left)
      go [] = refl
      go (first ∷ rest) = refl

  -- or the end
  pub ended : None ≡ slice_get (sent_of reading.given) at → None ≡ option_map entry_of (front reading.left) → left_to number at reading ≡ []
  ended is none = past is ∙ go reading.left none
    where
      go : (left : List Logged) → None ≡ option_map entry_of (front left) → picked number (sent_of (front left)) ++ sent_to number (behind left) ≡ []
      go [] none = refl
      go (first ∷ rest) none = absurd (cc)

  pub stays_ended : None ≡ option_map entry_of (front reading.left) → left_to number at (after_next reading) ≡ []
  stays_ended none = go at reading.left none
    where
      go : (at : ℕ) (left : List Logged) → None ≡ option_map entry_of (front left)
          → picked number (drop at (sent_of (front left))) ++ sent_to number (behind left) ≡ []
      go zero [] none = refl
      go (suc at) [] none = refl
      go at (first ∷ rest) none = absurd (cc)
