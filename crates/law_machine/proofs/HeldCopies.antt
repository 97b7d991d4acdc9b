-- What an event does to a cache keeps the copies of held lines.
use Rattle.std.proofs.Common.{◌≡◌, ◌≢◌, ℕ, ◌==◌, true, cond, not, Option, Some, None, List, refl, sym, ap, ◌∙◌}
use Rattle.std.specs.Prelude.{is_some}
use Rattle.std.proofs.lemmas.Bool.{eq-eqb, ne_eqb, eqb-true, false≢true}
use Rattle.law_machine.proofs.Vocabulary.{Line, Mode, Read, Write, kept_if, passes, value_at, with_value, without_value, Copy, Cache, set_of, grants, copy_at, granted_copy, replaced, invalidate}
use Rattle.law_machine.proofs.Vocabulary.{Slot, slot_at, is_held, written}
use Rattle.alw_num.proofs.MapLaws.{value-with, value-without}
use Rattle.alw_num.proofs.Weigh.{is_node}
use Rattle.law_lines.proofs.Instructions.{kept_is}
use Rattle.law_machine.proofs.ContextFacts.{hold_held}

-- the copy that grants an access
pub record Grants (sets : ℕ) (cache : Cache) (line : ℕ) (mode : Mode) (copy : Copy) : Type 0 where
  pub stands : value_at cache (set_of sets line) ≡ Some copy
  pub is_its : copy.line ≡ line
  pub permits : grants copy.mode mode ≡ true

module _ (sets : ℕ) where
  -- a copy that stands in the line's set grants as it does by itself
  pub granted_by : (cache : Cache) (line : ℕ) (mode : Mode) (copy : Copy) → Grants sets cache line mode copy → is_some (granted_copy sets cache line mode) ≡ true
  granted_by cache line mode copy g = ap (λ (o : Option Copy). is_some (kept_if (λ (c : Copy). grants c.mode mode) (kept_if (λ (c : Copy). c.line == line) o))) g.stands
      ∙ (ap (λ b. is_some (kept_if (λ (c : Copy). grants c.mode mode) (cond b (Some copy) None))) (eq-eqb copy.line line g.is_its)
      ∙ ap (λ b. is_some (cond b (Some copy) None)) g.permits)

  pub granted_some : (cache : Cache) (line : ℕ) (mode : Mode) → is_some (granted_copy sets cache line mode) ≡ true → (copy : Copy) × Grants sets cache line mode copy
  granted_some cache line mode is = go (granted_copy sets cache line mode) refl is
    where
      go : (o : Option Copy) → granted_copy sets cache line mode ≡ o → is_some o ≡ true → (copy : Copy) × Grants sets cache line mode copy
      go None e is = absurd (false≢true is)
      go (Some copy) e is =
          let a = kept_is (λ (c : Copy). grants c.mode mode) (copy_at sets cache line) copy e in
          let b = kept_is (λ (c : Copy). c.line == line) (value_at cache (set_of sets line)) copy a.0 in
          (copy, record { stands = b.0; is_its = eqb-true copy.line line b.1; permits = a.1 })

  -- where a set is as it was
  same_set : (cache next : Cache) (line : ℕ) (mode : Mode) → value_at next (set_of sets line) ≡ value_at cache (set_of sets line) → is_some (granted_copy sets cache line mode) ≡ true → is_some (granted_copy sets next line mode) ≡ true
  same_set cache next line mode same is = ap (λ (o : Option Copy). is_some (kept_if (λ (c : Copy). grants c.mode mode) (kept_if (λ (c : Copy). c.line == line) o))) same ∙ is

  -- what a set has after a change at another
  with_other : (cache : Cache) (at : ℕ) (copy : Copy) (k : ℕ) → k ≢ at → value_at (with_value cache at copy) k ≡ value_at cache k
  with_other cache at copy k apart = value-with cache at copy k ∙ ap (λ b. cond b (Some copy) (value_at cache k)) (ne_eqb k at apart)

  pub with_here : (cache : Cache) (at : ℕ) (copy : Copy) (k : ℕ) → k ≡ at → value_at (with_value cache at copy) k ≡ Some copy
  with_here cache at copy k same = value-with cache at copy k ∙ ap (λ b. cond b (Some copy) (value_at cache k)) (eq-eqb k at same)

  without_other : (cache : Cache) (at : ℕ) (k : ℕ) → k ≢ at → value_at (without_value cache at) k ≡ value_at cache k
  without_other cache at k apart = value-without cache at k ∙ ap (λ b. cond b None (value_at cache k)) (ne_eqb k at apart)

  -- two copies of one place are one
  one_copy : (cache : Cache) (at k : ℕ) (copy held : Copy) → value_at cache at ≡ Some copy → value_at cache k ≡ Some held → k ≡ at → copy ≡ held
  one_copy cache at k copy held e f same = let is : Some copy ≡ Some held = sym e ∙ (ap (value_at cache) (sym same) ∙ f) in cc

  -- a store leaves each copy its line and its mode
  pub written_keeps : (cache : Cache) (line : ℕ) (mode : Mode) (copy : Copy) (body : Line) → granted_copy sets cache line mode ≡ Some copy
      → (k : ℕ) (needed : Mode) → is_some (granted_copy sets cache k needed) ≡ true → is_some (granted_copy sets (written sets cache copy mode body) k needed) ≡ true
  written_keeps cache line Read copy body e k needed is = is
  written_keeps cache line Write copy body e k needed is =
      let a = kept_is (λ (c : Copy). grants c.mode Write) (copy_at sets cache line) copy e in
      let b = kept_is (λ (c : Copy). c.line == line) (value_at cache (set_of sets line)) copy a.0 in
      let own : set_of sets copy.line ≡ set_of sets line = ap (set_of sets) (eqb-true copy.line line b.1) in
      let next = with_value cache (set_of sets copy.line) (record copy { body = body }) in
      is_node _ (set_of sets k) (set_of sets copy.line)
      (λ same. let g = granted_some cache k needed is in
      let one : copy ≡ g.0 = one_copy cache (set_of sets line) (set_of sets k) copy g.0 b.0 g.1.stands (same ∙ own) in
      granted_by next k needed (record copy { body = body }) (record {
        stands = with_here cache (set_of sets copy.line) (record copy { body = body }) (set_of sets k) same;
        is_its = ap (λ (c : Copy). c.line) one ∙ g.1.is_its;
        permits = ap (λ (c : Copy). grants c.mode needed) one ∙ g.1.permits;
      }))
      (λ apart. same_set cache next k needed (with_other cache (set_of sets copy.line) (record copy { body = body }) (set_of sets k) apart) is)

  module _ (cache : Cache) (slots : List Slot) (i line : ℕ) (holds : (slot_at slots i).hold ≡ Some line) (mode : Mode) (is : is_some (granted_copy sets cache line mode) ≡ true) where
    not_held : (o : Option Copy) (held : Copy) → o ≡ Some held → held.line ≡ line → not (passes (λ (copy : Copy). is_held slots copy.line) o) ≡ true → ⊥
    not_held o held e same free = false≢true (sym (ap (λ (p : Option Copy). not (passes (λ (copy : Copy). is_held slots copy.line) p)) e ∙ (ap (λ k. not (is_held slots k)) same ∙ ap not (hold_held slots i line holds))) ∙ free)

    -- an eviction is of a line that isn't held
    pub evict_keeps : (at : ℕ) → passes (λ (copy : Copy). not (is_held slots copy.line)) (value_at cache at) ≡ true → is_some (granted_copy sets (without_value cache at) line mode) ≡ true
    evict_keeps at free = is_node _ (set_of sets line) at
        (λ same. let g = granted_some cache line mode is in
        let e : value_at cache at ≡ Some g.0 = ap (value_at cache) (sym same) ∙ g.1.stands in
        absurd (false≢true (sym (ap (passes (λ (copy : Copy). not (is_held slots copy.line))) e ∙ (ap (λ k. not (is_held slots k)) g.1.is_its ∙ ap not (hold_held slots i line holds))) ∙ free)))
        (λ apart. same_set cache (without_value cache at) line mode (without_other cache at (set_of sets line) apart) is)

    -- a fill replaces no held line, and brings a copy that grants what the line's own did
    pub fill_keeps : (copy : Copy) → not (passes (λ (old : Copy). is_held slots old.line) (replaced sets cache copy.line)) ≡ true → (line ≡ copy.line → grants copy.mode mode ≡ true)
        → is_some (granted_copy sets (with_value cache (set_of sets copy.line) copy) line mode) ≡ true
    fill_keeps copy free own = is_node _ line copy.line
        (λ same. granted_by (with_value cache (set_of sets copy.line) copy) line mode copy (record { stands = with_here cache (set_of sets copy.line) copy (set_of sets line) (ap (set_of sets) same); is_its = sym same; permits = own same }))
        (λ other. is_node _ (set_of sets line) (set_of sets copy.line)
        (λ same. let g = granted_some cache line mode is in
        absurd (not_held (replaced sets cache copy.line) g.0
        (ap (kept_if (λ (old : Copy). not (old.line == copy.line))) (ap (value_at cache) (sym same) ∙ g.1.stands) ∙ ap (λ b. cond (not b) (Some g.0) None) (ne_eqb g.0.line copy.line (λ e. other (sym g.1.is_its ∙ e))))
        g.1.is_its free))
        (λ apart. same_set cache (with_value cache (set_of sets copy.line) copy) line mode (with_other cache (set_of sets copy.line) copy (set_of sets line) apart) is))

    -- an INV is for a line that isn't held
    pub inv_keeps : (l : ℕ) (o : Option Copy) → copy_at sets cache l ≡ o → not (is_held slots l) ≡ true → is_some (granted_copy sets (invalidate sets cache l o).0 line mode) ≡ true
    inv_keeps l None e free = is
    inv_keeps l (Some copy) e free =
        let b = kept_is (λ (c : Copy). c.line == l) (value_at cache (set_of sets l)) copy e in
        let g = granted_some cache line mode is in
        is_node _ (set_of sets line) (set_of sets l)
        (λ same. let one : copy ≡ g.0 = one_copy cache (set_of sets l) (set_of sets line) copy g.0 b.0 g.1.stands same in
        let it : l ≡ line = sym (eqb-true copy.line l b.1) ∙ (ap (λ (c : Copy). c.line) one ∙ g.1.is_its) in
        absurd (false≢true (sym (ap (λ k. not (is_held slots k)) it ∙ ap not (hold_held slots i line holds)) ∙ free)))
        (λ apart. same_set cache (without_value cache (set_of sets l)) line mode (without_other cache (set_of sets l) (set_of sets line) apart) is)
