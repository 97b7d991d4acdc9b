-- The product of two signed words, computed at twice the width, is the product that the definition names.
use Rattle.std.proofs.Common.{◌≡◌, ℕ, ◌<◌, ◌≤◌, ◌^◌, ◌*ℤ◌, refl, arith, to_z, of_z, w32, w64}
use Rattle.std.proofs.lemmas.Int.{ints, to_z-of_z, of_z-to_z, fits_signed_mul}
use Rattle.std.specs.Prelude.{FitsSigned, unsigned_abs}
use Rattle.sparc_table.specs.Arithmetic.{signed_product}

fits_w64 : (n : ℕ) → n < 2 ^ 32 → FitsSigned w64 (to_z w32 n)
fits_w64 n h = omega (arith, ints)

within : (n : ℕ) → n < 2 ^ 32 → unsigned_abs (to_z w32 n) ≤ 2 ^ 31
within n h = omega (arith, ints)

pub product_is : (x y : ℕ) → x < 2 ^ 32 → y < 2 ^ 32 → of_z w64 (to_z w64 (of_z w64 (to_z w64 (of_z w64 (to_z w32 (of_z w32 (to_z w32 x)))) *ℤ to_z w64 (of_z w64 (to_z w32 (of_z w32 (to_z w32 y))))))) ≡ signed_product x y
product_is x y hx hy =
    let fits : FitsSigned w64 (to_z w32 x *ℤ to_z w32 y) = fits_signed_mul w64 (to_z w32 x) (to_z w32 y) (2 ^ 31) (2 ^ 31) (within x hx) (within y hy) (omega arith) in
    rw (of_z-to_z w32 x hx, of_z-to_z w32 y hy, to_z-of_z w64 _ (fits_w64 x hx), to_z-of_z w64 _ (fits_w64 y hy), to_z-of_z w64 _ fits) refl
