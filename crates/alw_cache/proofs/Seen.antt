-- A cache by what is seen of its lines: two with the same are one, and what is seen once a copy is written.
use Rattle.std.proofs.Common.{◌≡◌, ℕ, Bool, true, false, cond, ◌==◌, Option, Some, None, is_some, IsTrue, refl, sym, ap, ◌∙◌, subst}
use Rattle.std.proofs.lemmas.Bool.{true≢false, eqb-true, eq-eqb}
use Rattle.std.specs.Option.{option_map}
use Rattle.alw_num.specs.declared.addresses.Line.{Line}
use Rattle.alw_num.specs.declared.states.Mode.{Mode}
use Rattle.alw_num.specs.declared.states.Mode.TheVariants.{Write}
use Rattle.alw_num.specs.Maps.{kept_if, value_at, with_value, passes_if_some}
use Rattle.alw_num.proofs.MapLaws.{value-with, same_maps}
use Rattle.alw_model.specs.Caches.{Copy, Cache, set_of, copy_at, grants, granted_copy}
use Rattle.alw_cache.specs.Places.{Copies, copy_of, seen_of, seen_in, belongs_in, ArePlaced}

abbrev copies_of : ℕ → Cache → Copies
copies_of sets copies = record { sets = sets; copies = copies }

-- the copy where it is of this line
abbrev of_line : ℕ → Option Copy → Option Copy
of_line line o = kept_if (λ copy. copy.line == line) o

-- ---- two caches

-- what is seen of a copy's line, and its number, are the copy
seen_same : (a : Copy) (o : Option Copy) → Some (seen_of a) ≡ option_map seen_of (of_line a.line o) → Some a ≡ o
seen_same a None e = absurd (cc)
seen_same a (Some b) e = go (b.line == a.line) refl e
  where
    go : (t : Bool) → (b.line == a.line) ≡ t → Some (seen_of a) ≡ option_map seen_of (cond t (Some b) None) → Some a ≡ Some b
    go false t f = absurd (cc)
    go true t f =
        let seen : seen_of a ≡ seen_of b = cc in
        let mode = ap (λ (p : Mode × Line). p.0) seen in
        let body = ap (λ (p : Mode × Line). p.1) seen in
        let line : a.line ≡ b.line = sym (eqb-true b.line a.line t) in
        λ i. Some (record { line = line i; mode = mode i; body = body i })

-- a copy that its set holds is its line's
is_found : (sets set : ℕ) (cache : Cache) (copy : Copy) → value_at cache set ≡ Some copy → IsTrue (belongs_in sets set copy) → copy_at sets cache copy.line ≡ Some copy
is_found sets set cache copy held placed =
    let here : set_of sets copy.line ≡ set = eqb-true _ _ placed in
    ap (λ n. of_line copy.line (value_at cache n)) here ∙ (ap (of_line copy.line) held ∙ ap (λ (b : Bool). cond b (Some copy) None) (eq-eqb copy.line copy.line refl))

-- where one holds a copy in a set, one in which the same is seen does too
holds_same : (sets set : ℕ) (one other : Cache) (copy : Copy) → value_at one set ≡ Some copy → IsTrue (belongs_in sets set copy)
    → seen_in (copies_of sets one) copy.line ≡ seen_in (copies_of sets other) copy.line → Some copy ≡ value_at other set
holds_same sets set one other copy held placed same =
    let here : set_of sets copy.line ≡ set = eqb-true _ _ placed in
    seen_same copy (value_at other set) (sym (ap (option_map seen_of) (is_found sets set one copy held placed)) ∙ (same ∙ ap (λ n. option_map seen_of (of_line copy.line (value_at other n))) here))

pub same_caches : (sets : ℕ) (one other : Cache) → ArePlaced (copies_of sets one) → ArePlaced (copies_of sets other) → ((line : ℕ) → seen_in (copies_of sets one) line ≡ seen_in (copies_of sets other) line) → one ≡ other
same_caches sets one other placed placed' same = same_maps one other (λ set. go set (value_at one set) (value_at other set) refl refl (placed set) (placed' set))
  where
    go : (set : ℕ) (a b : Option Copy) → value_at one set ≡ a → value_at other set ≡ b → IsTrue (passes_if_some (belongs_in sets set) a) → IsTrue (passes_if_some (belongs_in sets set) b) → value_at one set ≡ value_at other set
    go set None None e f p q = e ∙ sym f
    go set (Some a) b e f p q = e ∙ holds_same sets set one other a e p (same a.line)
    go set None (Some b) e f p q = sym (f ∙ holds_same sets set other one b f q (sym (same b.line)))

-- ---- a copy is written

abbrev written : ℕ → Cache → ℕ → Line → Cache
written sets cache line body = with_value cache (set_of sets line) (copy_of line Write body)

-- a set that holds a line holds no other
other_line : (o : Option Copy) (line l : ℕ) → IsTrue (is_some (kept_if (λ copy. grants copy.mode Write) (of_line line o))) → (l == line) ≡ false → of_line l o ≡ None
other_line None line l can other = refl
other_line (Some copy) line l can other = go (copy.line == line) refl can
  where
    go : (t : Bool) → (copy.line == line) ≡ t → IsTrue (is_some (kept_if (λ copy. grants copy.mode Write) (cond t (Some copy) None))) → of_line l (Some copy) ≡ None
    go false t can = absurd (cc)
    go true t can =
        let same : copy.line ≡ line = eqb-true _ _ t in
        ap (λ (b : Bool). cond b (Some copy) None) (turned (copy.line == l) refl same)
      where
        turned : (b : Bool) → (copy.line == l) ≡ b → copy.line ≡ line → b ≡ false
        turned false e same = refl
        turned true e same = absurd (true≢false (sym (eq-eqb l line (sym (eqb-true copy.line l e) ∙ same)) ∙ other))

pub seen_written : (sets : ℕ) (cache : Cache) (line : ℕ) (body : Line) → IsTrue (is_some (granted_copy sets cache line Write))
    → (l : ℕ) → seen_in (copies_of sets (written sets cache line body)) l ≡ cond (l == line) (Some (Write, body)) (seen_in (copies_of sets cache) l)
seen_written sets cache line body can l = ap (λ (o : Option Copy). option_map seen_of (of_line l o)) (value-with cache (set_of sets line) (copy_of line Write body) (set_of sets l)) ∙ go (l == line) refl (set_of sets l == set_of sets line) refl
  where
    go : (t : Bool) → (l == line) ≡ t → (s : Bool) → (set_of sets l == set_of sets line) ≡ s
        → option_map seen_of (of_line l (cond s (Some (copy_of line Write body)) (value_at cache (set_of sets l)))) ≡ cond t (Some (Write, body)) (seen_in (copies_of sets cache) l)
    go true t s u =
        let same : l ≡ line = eqb-true _ _ t in
        let here : s ≡ true = sym u ∙ eq-eqb _ _ (ap (set_of sets) same) in
        rw (here, same) (ap (λ (b : Bool). option_map seen_of (cond b (Some (copy_of line Write body)) None)) (eq-eqb line line refl))
    go false t false u = refl
    go false t true u =
        let here : set_of sets l ≡ set_of sets line = eqb-true _ _ u in
        let none : of_line l (value_at cache (set_of sets l)) ≡ None = ap (λ n. of_line l (value_at cache n)) here ∙ other_line (value_at cache (set_of sets line)) line l can t in
        ap (λ (b : Bool). option_map seen_of (cond b (Some (copy_of line Write body)) None)) (turned (line == l) refl) ∙ sym (ap (option_map seen_of) none)
      where
        turned : (b : Bool) → (line == l) ≡ b → b ≡ false
        turned false e = refl
        turned true e = let same : line ≡ l = eqb-true _ _ e in sym (eq-eqb l line (sym same)) ∙ t

pub placed_written : (sets : ℕ) (cache : Cache) (line : ℕ) (body : Line) → ArePlaced (copies_of sets cache) → ArePlaced (copies_of sets (written sets cache line body))
placed_written sets cache line body placed set = subst (λ (o : Option Copy). IsTrue (passes_if_some (belongs_in sets set) o)) (sym (value-with cache (set_of sets line) (copy_of line Write body) set)) (go (set == set_of sets line) refl)
  where
    go : (b : Bool) → (set == set_of sets line) ≡ b → IsTrue (passes_if_some (belongs_in sets set) (cond b (Some (copy_of line Write body)) (value_at cache set)))
    go false e = placed set
    go true e = eq-eqb _ _ (sym (eqb-true _ _ e))
