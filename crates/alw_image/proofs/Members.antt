-- What one member of a table is read off, and how it is spelled.
use Rattle.std.proofs.Common.{◌≡◌, ℕ, ◌+◌, ◌*◌, ◌/◌, ◌%◌, ◌^◌, ◌<◌, List, ◌∷◌, ◌++◌, length, take, drop, sym, ap, ◌∙◌, zero, suc, arith}
use Rattle.std.proofs.lemmas.Bool.Decides.{nat_tests}
use Rattle.std.specs.Int.{w16, w32, to_be_bytes}
use Rattle.alw_num.specs.declared.addresses.Line.{Line}
use Rattle.alw_num.specs.declared.addresses.LineNo.{LineNo}
use Rattle.alw_num.specs.declared.addresses.NodeNo.{NodeNo}
use Rattle.alw_image.specs.Images.{data_line, start_bytes}
use Rattle.alw_image.specs.Faults.{word_of, body_of_bytes, start_of_bytes, slot_of}
use Rattle.alw_image.specs.TableReads.{IsMember, IsAnyMember, IsSlot}

-- the number that four bytes spell is the one that they were spelled by
pub word-back : (n : ℕ) → n < 2 ^ 32 → 65536 * (256 * (n / 16777216 % 256) + n / 65536 % 256) + (256 * (n / 256 % 256) + n % 256) ≡ n
word-back n fits = omega arith

pub half-back : (n : ℕ) → n < 2 ^ 16 → 256 * (n / 256 % 256) + n % 256 ≡ n
half-back n fits = omega arith

pub word_read : (bytes after : List ℕ) (n : ℕ) → n < 2 ^ 32 → bytes ≡ to_be_bytes w32 n ++ after → IsMember word_of (to_be_bytes w32) IsAnyMember 4 bytes n after
word_read bytes after n fits spelled = record {
  reading = ap (λ bs. word_of (take 4 bs)) spelled ∙ word-back n fits;
  rest = ap (drop 4) spelled;
  bytes_left = omega (arith, ap length spelled);
  spelled = λ any. spelled;
}

pub body_read : (bytes r1 r2 r3 r4 after : List ℕ) (n a b c d : ℕ) → n < 2 ^ 32 → a < 2 ^ 32 → b < 2 ^ 32 → c < 2 ^ 32 → d < 2 ^ 32 →
    bytes ≡ to_be_bytes w32 n ++ r1 → r1 ≡ to_be_bytes w32 a ++ r2 → r2 ≡ to_be_bytes w32 b ++ r3 → r3 ≡ to_be_bytes w32 c ++ r4 → r4 ≡ to_be_bytes w32 d ++ after →
    IsMember body_of_bytes data_line IsAnyMember 20 bytes (record { 0 = n }, record { a = a; b = b; c = c; d = d }) after
body_read bytes r1 r2 r3 r4 after n a b c d n_fits a_fits b_fits c_fits d_fits at_n at_a at_b at_c at_d =
    let spelled : bytes ≡ to_be_bytes w32 n ++ (to_be_bytes w32 a ++ (to_be_bytes w32 b ++ (to_be_bytes w32 c ++ (to_be_bytes w32 d ++ after)))) =
    at_n ∙ ap (λ r. to_be_bytes w32 n ++ r) (at_a ∙ ap (λ r. to_be_bytes w32 a ++ r) (at_b ∙ ap (λ r. to_be_bytes w32 b ++ r) (at_c ∙ ap (λ r. to_be_bytes w32 c ++ r) at_d))) in
    record {
      reading = ap (λ bs. body_of_bytes (take 20 bs)) spelled ∙ body-back n a b c d (word-back n n_fits) (word-back a a_fits) (word-back b b_fits) (word-back c c_fits) (word-back d d_fits);
      rest = ap (drop 20) spelled;
      bytes_left = omega (arith, ap length spelled);
      spelled = λ any. spelled;
    }
  where
    body-back : (n a b c d : ℕ) {n' a' b' c' d' : ℕ} → n' ≡ n → a' ≡ a → b' ≡ b → c' ≡ c → d' ≡ d → ◌≡◌ {A = LineNo × Line} (record { 0 = n' }, record { a = a'; b = b'; c = c'; d = d' }) (record { 0 = n }, record { a = a; b = b; c = c; d = d })
    body-back n a b c d same_n same_a same_b same_c same_d = cc

pub start_read : (bytes r1 r2 r3 after : List ℕ) (n slot blank address given : ℕ) → n < 2 ^ 16 → address < 2 ^ 32 → given ≡ slot_of slot blank →
    bytes ≡ to_be_bytes w16 n ++ r1 → r1 ≡ slot ∷ r2 → r2 ≡ blank ∷ r3 → r3 ≡ to_be_bytes w32 address ++ after →
    IsMember start_of_bytes start_bytes IsSlot 8 bytes (record { 0 = n }, given, address) after
start_read bytes r1 r2 r3 after n slot blank address given n_fits address_fits is at_n at_slot at_blank at_address =
    let spelled : bytes ≡ to_be_bytes w16 n ++ (slot ∷ blank ∷ (to_be_bytes w32 address ++ after)) =
    at_n ∙ ap (λ r. to_be_bytes w16 n ++ r) (at_slot ∙ ap (λ r. slot ∷ r) (at_blank ∙ ap (λ r. blank ∷ r) at_address)) in
    record {
      reading = ap (λ bs. start_of_bytes (take 8 bs)) spelled ∙ start-back n given address (half-back n n_fits) (sym is) (word-back address address_fits);
      rest = ap (drop 8) spelled;
      bytes_left = omega (arith, ap length spelled);
      spelled = λ good. spelled ∙ good-slot n slot blank address given after is good;
    }
  where
    start-back : (n s a : ℕ) {n' s' a' : ℕ} → n' ≡ n → s' ≡ s → a' ≡ a → ◌≡◌ {A = NodeNo × ℕ × ℕ} (record { 0 = n' }, s', a') (record { 0 = n }, s, a)
    start-back n s a same_n same_s same_a = cc

    good-slot : (n slot blank address given : ℕ) (after : List ℕ) → given ≡ slot_of slot blank → given < 255 → to_be_bytes w16 n ++ (slot ∷ blank ∷ (to_be_bytes w32 address ++ after)) ≡ start_bytes (record { 0 = n }, given, address) ++ after
    good-slot n slot zero address given after is good = ap (λ s. to_be_bytes w16 n ++ (s ∷ 0 ∷ (to_be_bytes w32 address ++ after))) (sym is)
    good-slot n slot (suc blank) address given after is good = absurd (let wrong : given ≡ 255 = grind (arith, nat_tests) in omega arith)
