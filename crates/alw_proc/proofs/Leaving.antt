-- Copies that leave a cache: their homes exist.
use Rattle.std.proofs.Common.{◌≡◌, ℕ, ◌<◌, ◌≤◌, ◌*◌, ◌/◌, Bool, true, false, cond, ◌==◌, Option, Some, None, IfSome, refl, sym, ap, ◌∙◌, arith}
use Rattle.std.proofs.lemmas.Bool.{eqb-true}
use Rattle.std.proofs.lemmas.Bool.Decides.{nat_tests}
use Rattle.std.proofs.Math.Nat.{div-lt_iff_lt-mul}
use Rattle.std.specs.Option.{option_map}
use Rattle.alw_num.specs.Maps.{kept_if, value_at, without_value}
use Rattle.alw_num.proofs.MapLaws.{value-without, same_maps}
use Rattle.alw_model.specs.Caches.{Copy, Cache}
use Rattle.alw_cache.specs.declared.places.Evicted.{Evicted}
use Rattle.alw_cache.specs.Places.{evicted_of, line_of}
use Rattle.alw_proc.specs.Processors.{HoldsLine}

pub home_fits : (line lines per_node : ℕ) → line < lines → lines ≤ 65536 * per_node → 1 ≤ per_node → line / per_node < 65536
home_fits line lines per_node l m some = (div-lt_iff_lt-mul some).1 (omega arith)

-- what is told of a copy that passes a test has its home
pub left_fits : (test : Copy → Bool) (lines per_node : ℕ) (o : Option Copy) (left : Option Evicted) → HoldsLine lines o → lines ≤ 65536 * per_node → 1 ≤ per_node → left ≡ option_map evicted_of (kept_if test o) → IfSome left (λ copy. copy.line.0 / per_node < 65536)
left_fits test lines per_node None left holds m some e = rw e tt
left_fits test lines per_node (Some copy) left holds m some e = go (test copy) refl
  where
    go : (b : Bool) → test copy ≡ b → IfSome left (λ copy. copy.line.0 / per_node < 65536)
    go true t = rw (e, t) (home_fits copy.line lines per_node (grind (arith, nat_tests)) m some)
    go false t = rw (e, t) tt

-- a set that holds nothing stays as it is
pub evicted_none : (cache : Cache) (set : ℕ) → None ≡ option_map line_of (value_at cache set) → cache ≡ without_value cache set
evicted_none cache set none = same_maps _ _ (λ at. sym (value-without cache set at ∙ go at (at == set) refl))
  where
    missing : (o : Option Copy) → None ≡ option_map line_of o → o ≡ None
    missing None e = refl
    missing (Some copy) e = absurd (cc)

    go : (at : ℕ) (b : Bool) → (at == set) ≡ b → cond b None (value_at cache at) ≡ value_at cache at
    go at true e = sym (ap (value_at cache) (eqb-true at set e) ∙ missing (value_at cache set) none)
    go at false e = refl
