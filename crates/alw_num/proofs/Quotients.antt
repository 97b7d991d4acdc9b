-- A quotient by one multiplication: with c the quotient of 2 ^ 64 - 1 by m, that of x by m is c * (x + 1) / 2 ^ 64.
use Rattle.std.proofs.Common.{◌≡◌, ℕ, ◌+◌, ◌-◌, ◌*◌, ◌/◌, ◌%◌, ◌^◌, ◌<◌, ◌≤◌, sym, ap, arith}
use Rattle.std.proofs.Math.Nat.{mod-lt, div-eq_of_lt-le}
use Rattle.std.proofs.lemmas.Nat.{mul-le, div-add-mod'}

-- c and e are the quotient and the remainder of 2 ^ 64 - 1 by m, and q and r those of x
lies_within : (m c e x q r : ℕ) → c * m + e ≡ 2 ^ 64 - 1 → q * m + r ≡ x → e < m → r < m → m < 2 ^ 32 → x < 2 ^ 32
    → (q * 2 ^ 64 ≤ c * (x + 1)) × (c * (x + 1) < (q + 1) * 2 ^ 64)
lies_within m c e x q r whole parts e_below r_below m_below x_below =
    let spread : c * x ≡ c * (q * m + r) = ap (λ (n : ℕ). c * n) (sym parts) in
    let times : q * (c * m + e) ≡ q * (2 ^ 64 - 1) = ap (λ (n : ℕ). q * n) whole in
    let wide = mul-le (c + 1) m (c + 1) (2 ^ 32 - 1) (omega arith) (omega arith) in
    let above = mul-le q (e + 1) q m (omega arith) (omega arith) in
    let below = mul-le c (r + 1) c m (omega arith) (omega arith) in
    (omega arith, omega arith)

pub quotient_is : (m c x : ℕ) → 1 ≤ m → m < 2 ^ 32 → x < 2 ^ 32 → c ≡ (2 ^ 64 - 1) / m → c * (x + 1) / 2 ^ 64 ≡ x / m
quotient_is m c x some m_below x_below is =
    let whole : c * m + (2 ^ 64 - 1) % m ≡ 2 ^ 64 - 1 = rw is (div-add-mod' (2 ^ 64 - 1) m) in
    let within = lies_within m c ((2 ^ 64 - 1) % m) x (x / m) (x % m) whole (div-add-mod' x m) (mod-lt (2 ^ 64 - 1) some) (mod-lt x some) m_below x_below in
    div-eq_of_lt-le (2 ^ 64) within.0 within.1
