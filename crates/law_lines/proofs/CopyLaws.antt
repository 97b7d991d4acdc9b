-- Laws of a cache: which copy a line has once a copy has been put into a set, or a set has been emptied.
use Rattle.std.proofs.Common.{◌≡◌, ◌≢◌, ℕ, ◌==◌, Bool, true, false, cond, not, Option, Some, None, refl, sym, ap, ◌∙◌}
use Rattle.std.proofs.lemmas.Bool.{eq-eqb, ne_eqb}
use Rattle.alw_num.proofs.Weigh.{is_node}
use Rattle.alw_num.specs.Maps.{kept_if, value_at, with_value, without_value}
use Rattle.alw_model.specs.Caches.{Copy, Cache, set_of, copy_at, replaced}
use Rattle.alw_num.proofs.MapLaws.{value-with, value-without}

-- the copy of a line, once this one has left its set
abbrev pub away : Option Copy → ℕ → Option Copy → Option Copy
away None k old = old
away (Some copy) k old = cond (k == copy.line) None old

-- a copy stands in its line's set
abbrev pub CopyStandsAt : ℕ → ℕ → Option Copy → Type 0
CopyStandsAt sets set None = Unit {0}
CopyStandsAt sets set (Some copy) = set_of sets copy.line ≡ set

kept_other : (k : ℕ) (copy : Copy) → copy.line ≢ k → kept_if (λ (held : Copy). held.line == k) (Some copy) ≡ None
kept_other k copy other = rw (ne_eqb copy.line k other) refl

module _ (sets : ℕ) (cache : Cache) where
  -- in the set there is no copy of another line than the one that stands there
  in_its_set : (k set : ℕ) (o : Option Copy) → value_at cache set ≡ o → set_of sets k ≡ set → kept_if (λ copy. copy.line == k) o ≡ copy_at sets cache k
  in_its_set k set o e same = λ x. kept_if (λ copy. copy.line == k) ((sym e ∙ ap (value_at cache) (sym same)) x)

  cleared : (k set : ℕ) (o : Option Copy) → value_at cache set ≡ o → CopyStandsAt sets set o → cond (set_of sets k == set) None (copy_at sets cache k) ≡ away o k (copy_at sets cache k)
  cleared k set None e stands = is_node _ (set_of sets k) set
      (λ same. rw (eq-eqb (set_of sets k) set same) (in_its_set k set None e same))
      (λ other. rw (ne_eqb (set_of sets k) set other) refl)
  cleared k set (Some copy) e stands = is_node _ k copy.line
      (λ is. rw (eq-eqb k copy.line is, eq-eqb (set_of sets k) set (ap (set_of sets) is ∙ stands)) refl)
      (λ isnt. rw (ne_eqb k copy.line isnt) (is_node _ (set_of sets k) set
      (λ same. rw (eq-eqb (set_of sets k) set same) (sym (kept_other k copy (λ is. isnt (sym is))) ∙ in_its_set k set (Some copy) e same))
      (λ other. rw (ne_eqb (set_of sets k) set other) refl)))

  -- a line's copy after an eviction
  pub copy_evicted : (set k : ℕ) → CopyStandsAt sets set (value_at cache set) → copy_at sets (without_value cache set) k ≡ away (value_at cache set) k (copy_at sets cache k)
  copy_evicted set k stands = ap (kept_if (λ copy. copy.line == k)) (value-without cache set (set_of sets k)) ∙ (moved (set_of sets k == set) ∙ cleared k set (value_at cache set) refl stands)
    where
      moved : (b : Bool) → kept_if (λ copy. copy.line == k) (cond b None (value_at cache (set_of sets k))) ≡ cond b None (copy_at sets cache k)
      moved true = refl
      moved false = refl

  -- a line's copy after a fill
  pub copy_filled : (copy : Copy) (k : ℕ) → CopyStandsAt sets (set_of sets copy.line) (value_at cache (set_of sets copy.line)) → copy_at sets (with_value cache (set_of sets copy.line) copy) k ≡ cond (k == copy.line) (Some copy) (away (replaced sets cache copy.line) k (copy_at sets cache k))
  copy_filled copy k stands = ap (kept_if (λ held. held.line == k)) (value-with cache (set_of sets copy.line) copy (set_of sets k)) ∙ is_node _ k copy.line
      (λ is. rw (eq-eqb (set_of sets k) (set_of sets copy.line) (ap (set_of sets) is), eq-eqb k copy.line is, eq-eqb copy.line k (sym is)) refl)
      (λ isnt. rw (ne_eqb k copy.line isnt) (moved isnt (set_of sets k == set_of sets copy.line) ∙ (cleared k (set_of sets copy.line) (value_at cache (set_of sets copy.line)) refl stands ∙ others isnt (value_at cache (set_of sets copy.line)))))
    where
      moved : k ≢ copy.line → (b : Bool) → kept_if (λ held. held.line == k) (cond b (Some copy) (value_at cache (set_of sets k))) ≡ cond b None (copy_at sets cache k)
      moved isnt true = kept_other k copy (λ is. isnt (sym is))
      moved isnt false = refl

      others : k ≢ copy.line → (o : Option Copy) → away o k (copy_at sets cache k) ≡ away (kept_if (λ held. not (held.line == copy.line)) o) k (copy_at sets cache k)
      others isnt None = refl
      others isnt (Some old) = is_node _ old.line copy.line
          (λ same. rw (eq-eqb old.line copy.line same, ne_eqb k old.line (λ is. isnt (is ∙ same))) refl)
          (λ other. rw (ne_eqb old.line copy.line other) refl)

  -- a line's copy after a store in its copy
  pub copy_stored : (copy next : Copy) (k : ℕ) → value_at cache (set_of sets copy.line) ≡ Some copy → next.line ≡ copy.line → copy_at sets (with_value cache (set_of sets copy.line) next) k ≡ cond (k == copy.line) (Some next) (copy_at sets cache k)
  copy_stored copy next k e same = ap (kept_if (λ held. held.line == k)) (value-with cache (set_of sets copy.line) next (set_of sets k)) ∙ is_node _ k copy.line
      (λ is. rw (eq-eqb (set_of sets k) (set_of sets copy.line) (ap (set_of sets) is), eq-eqb k copy.line is, eq-eqb next.line k (same ∙ sym is)) refl)
      (λ isnt. rw (ne_eqb k copy.line isnt) (is_node _ (set_of sets k) (set_of sets copy.line)
      (λ at. rw (eq-eqb (set_of sets k) (set_of sets copy.line) at, ne_eqb next.line k (λ is. isnt (sym is ∙ same))) (sym (kept_other k copy (λ is. isnt (sym is))) ∙ in_its_set k (set_of sets copy.line) (Some copy) e at))
      (λ apart. rw (ne_eqb (set_of sets k) (set_of sets copy.line) apart) refl)))
