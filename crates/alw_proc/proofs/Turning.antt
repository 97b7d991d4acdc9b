-- A turn of the slot that runs, over its cache: by what it needs, what it leaves is the step.
use Rattle.std.proofs.Common.{◌≡◌, ◌≢◌, ℕ, ◌<◌, ◌==◌, Bool, true, false, cond, List, Option, Some, None, option_map, is_some, IsSome, IsTrue, refl, sym, ap, ◌∙◌, subst}
use Rattle.std.proofs.lemmas.Bool.{eqb-true}
use Rattle.alw_num.specs.declared.addresses.Line.{Line}
use Rattle.alw_num.specs.declared.addresses.LineNo.{LineNo}
use Rattle.alw_num.specs.declared.states.Mode.{Mode}
use Rattle.alw_num.specs.declared.states.Mode.TheVariants.{Read, Write}
use Rattle.alw_num.specs.Maps.{kept_if, value_at, with_value}
use Rattle.sparc_table.specs.Turns.{need_of, turn_of}
use Rattle.sparc_table.specs.declared.registers.Regs.{Regs}
use Rattle.sparc_table.specs.declared.outcomes.Need.{Need}
use Rattle.sparc_table.specs.declared.outcomes.Need.TheVariants as needs
use Rattle.sparc_table.specs.declared.outcomes.Outcome.{Outcome}
use Rattle.sparc_table.specs.declared.outcomes.Outcome.TheVariants as ends
use Rattle.sparc_table.proofs.Effects.{turn_exists}
use Rattle.sparc_exec.specs.Ports.{granted}
use Rattle.sparc_exec.specs.Runs.{Seen, seen, IsRunOn, IsRunWith, CopyIsMissing}
use Rattle.alw_image.specs.Images.{zero_line}
use Rattle.alw_cache.specs.Places.{Copies, copy_of, seen_of, seen_in, ArePlaced}
use Rattle.alw_cache.proofs.Seen.{same_caches, seen_written, placed_written}
use Rattle.alw_model.specs.Caches.{Copy, Cache, set_of, copy_at, grants, granted_copy}
use Rattle.alw_model.specs.Contexts.{slot_at}
use Rattle.alw_model.specs.Sides.{Processor, lines_of}
use Rattle.alw_model.specs.ProcessorSteps.{access, instr_by, miss, take_turn}
use Rattle.alw_proc.proofs.Keeping.{holds_with}
use Rattle.alw_proc.proofs.Standing.{Held}

abbrev pub copies_of : Processor → Cache → Copies
copies_of p cache = record { sets = p.sets; copies = cache }

abbrev pub regs_of : Processor → ℕ → Regs
regs_of p slot = (slot_at p.slots slot).regs

abbrev Effect : Type 0
Effect = Line → Regs × Line × Outcome

-- registers and copies, seen over a port without an account
abbrev over : Processor → Regs → Cache → Seen
over p regs cache = seen regs (seen_in (copies_of p cache)) None

-- a turn of a slot has left these registers, this cache and this outcome
abbrev pub Turned : List ℕ → Processor → ℕ → Regs → Cache → Outcome → Type 0
Turned code p slot regs cache outcome = IsRunWith (need_of code (regs_of p slot) (lines_of p)) (turn_of code (regs_of p slot) (lines_of p)) (over p (regs_of p slot) p.cache) (over p regs cache) outcome

-- ---- what a port grants

abbrev body_of : Copy → Line
body_of copy = copy.body

granted_copy_is : (copy : Copy) (had mode : Mode) → copy.mode ≡ had → granted mode (Some (seen_of copy)) ≡ option_map body_of (cond (grants copy.mode mode) (Some copy) None)
granted_copy_is copy Read Read e = rw e refl
granted_copy_is copy Read Write e = rw e refl
granted_copy_is copy Write Read e = rw e refl
granted_copy_is copy Write Write e = rw e refl

granted_is : (o : Option Copy) (mode : Mode) → granted mode (option_map seen_of o) ≡ option_map body_of (kept_if (λ copy. grants copy.mode mode) o)
granted_is None Read = refl
granted_is None Write = refl
granted_is (Some copy) mode = granted_copy_is copy copy.mode mode refl

-- what a port grants a write can be written
pub can_write : (cache : Copies) (line : ℕ) → IsSome (granted Write (seen_in cache line)) → IsTrue (is_some (granted_copy cache.sets cache.copies line Write))
can_write cache line can = go (granted_copy cache.sets cache.copies line Write) (subst IsSome (granted_is (copy_at cache.sets cache.copies line) Write) can)
  where
    go : (o : Option Copy) → IsSome (option_map body_of o) → IsTrue (is_some o)
    go None is = absurd (cc)
    go (Some copy) is = refl

none_is : (o : Option Copy) → option_map body_of o ≡ None → o ≡ None
none_is None e = refl
none_is (Some copy) e = absurd (cc)

none_is_not : (copy : Copy) → None ≡ Some copy → ⊥
none_is_not copy e = cc

some_same : (a b : Copy) → Some a ≡ Some b → a ≡ b
some_same a b e = cc

-- the copy that grants a write is the line's, and Read-Write
pub record IsWritable (line : ℕ) (copy : Copy) : Type 0 where
  pub line_is : copy.line ≡ line
  pub mode_is : copy.mode ≡ Write

writable_is : (o : Option Copy) (line : ℕ) (copy : Copy) → kept_if (λ copy. grants copy.mode Write) (kept_if (λ copy. copy.line == line) o) ≡ Some copy → IsWritable line copy
writable_is None line copy e = absurd (cc)
writable_is (Some held) line copy e = go (held.line == line) refl held.mode refl e
  where
    go : (b : Bool) → (held.line == line) ≡ b → (mode : Mode) → held.mode ≡ mode → kept_if (λ copy. grants copy.mode Write) (cond b (Some held) None) ≡ Some copy → IsWritable line copy
    go false l mode m f = absurd (cc)
    go true l Read m f = absurd (none_is_not copy (sym (ap (λ (w : Mode). cond (grants w Write) (Some held) None) m) ∙ f))
    go true l Write m f =
        let same : held ≡ copy = some_same held copy (sym (ap (λ (w : Mode). cond (grants w Write) (Some held) None) m) ∙ f) in
        record { line_is = sym (ap (λ (c : Copy). c.line) same) ∙ eqb-true _ _ l; mode_is = sym (ap (λ (c : Copy). c.mode) same) ∙ m }

-- ---- a turn that doesn't miss

-- the step that a turn has taken, and that the copies of its cache are of lines that exist
pub record IsTurn (code : List ℕ) (stamp : ℕ) (p : Processor) (slot : ℕ) (regs : Regs) (cache : Cache) (outcome : Outcome) (need : Need) : Type 0 where
  pub step : instr_by code stamp p slot need ≡ take_turn p slot cache regs outcome
  pub held : Held (lines_of p) p.cache → Held (lines_of p) cache

same_turn : (p : Processor) (slot : ℕ) (cache cache' : Cache) (regs regs' : Regs) (outcome outcome' : Outcome) → cache ≡ cache' → regs ≡ regs' → outcome ≡ outcome' → take_turn p slot cache regs outcome ≡ take_turn p slot cache' regs' outcome'
same_turn p slot cache cache' regs regs' outcome outcome' c r o = λ i. take_turn p slot (c i) (r i) (o i)

kept : (lines : ℕ) (cache cache' : Cache) → cache ≡ cache' → Held lines cache → Held lines cache'
kept lines cache cache' e held = subst (Held lines) e held

-- on the copy that grants the access
on_copy : (code : List ℕ) (stamp : ℕ) (p : Processor) (slot : ℕ) (regs : Regs) (cache : Cache) (outcome : Outcome) (line : LineNo) (mode : Mode) (o : Option Copy)
    → granted_copy p.sets p.cache line.0 mode ≡ o → line.0 < lines_of p → ArePlaced (copies_of p p.cache) → ArePlaced (copies_of p cache) → outcome ≢ ends.Miss line mode
    → IsRunOn (option_map body_of o) line mode (turn_of code (regs_of p slot) (lines_of p)) (over p (regs_of p slot) p.cache) (over p regs cache) outcome
    → IsTurn code stamp p slot regs cache outcome (needs.Copy line mode)
on_copy code stamp p slot regs cache outcome line mode None e here placed placed' hit run = absurd (hit run.0)
on_copy code stamp p slot regs cache outcome line Read (Some copy) e here placed placed' hit run =
    let same : p.cache ≡ cache = same_caches p.sets p.cache cache placed placed' (λ l. sym (run.2 l)) in
    record {
      step = ap (access code stamp p slot line.0 Read) e ∙ same_turn p slot p.cache cache _ regs _ outcome same (sym run.1) (sym run.0);
      held = kept (lines_of p) p.cache cache same;
    }
on_copy code stamp p slot regs cache outcome line Write (Some copy) e here placed placed' hit run =
    let body : Line = (turn_of code (regs_of p slot) (lines_of p) copy.body).1 in
    let is = writable_is (value_at p.cache (set_of p.sets line.0)) line.0 copy e in
    let left : Cache = with_value p.cache (set_of p.sets line.0) (copy_of line.0 Write body) in
    let can : IsTrue (is_some (granted_copy p.sets p.cache line.0 Write)) = rw e refl in
    let same : left ≡ cache = same_caches p.sets left cache (placed_written p.sets p.cache line.0 body placed) placed' (λ l. seen_written p.sets p.cache line.0 body can l ∙ sym (run.2 l)) in
    let written : with_value p.cache (set_of p.sets copy.line) (record copy { body = body }) ≡ left =
    λ i. with_value p.cache (set_of p.sets (is.line_is i)) (copy_of (is.line_is i) (is.mode_is i) body) in
    record {
      step = ap (access code stamp p slot line.0 Write) e ∙ same_turn p slot _ cache _ regs _ outcome (written ∙ same) (sym run.1) (sym run.0);
      held = λ held. kept (lines_of p) left cache same (holds_with (lines_of p) p.cache (set_of p.sets line.0) (copy_of line.0 Write body) here held);
    }

-- by the need
by_need : (code : List ℕ) (stamp : ℕ) (p : Processor) (slot : ℕ) (regs : Regs) (cache : Cache) (outcome : Outcome) (need : Need)
    → need_of code (regs_of p slot) (lines_of p) ≡ need → ArePlaced (copies_of p p.cache) → ArePlaced (copies_of p cache) → ((line : LineNo) → (mode : Mode) → outcome ≢ ends.Miss line mode)
    → IsRunWith need (turn_of code (regs_of p slot) (lines_of p)) (over p (regs_of p slot) p.cache) (over p regs cache) outcome
    → IsTurn code stamp p slot regs cache outcome need
by_need code stamp p slot regs cache outcome needs.Nothing e placed placed' hit run =
    let done = run.0 zero_line in
    let same : p.cache ≡ cache = same_caches p.sets p.cache cache placed placed' (λ l. sym (run.1 l)) in
    record {
      step = same_turn p slot p.cache cache _ regs _ outcome same (ap (λ (d : Regs × Line × Outcome). d.0) done) (ap (λ (d : Regs × Line × Outcome). d.2) done);
      held = kept (lines_of p) p.cache cache same;
    }
by_need code stamp p slot regs cache outcome (needs.Trap tt) e placed placed' hit run =
    let done = run.0 zero_line in
    let same : p.cache ≡ cache = same_caches p.sets p.cache cache placed placed' (λ l. sym (run.1 l)) in
    record {
      step = same_turn p slot p.cache cache _ regs _ outcome same (ap (λ (d : Regs × Line × Outcome). d.0) done) (ap (λ (d : Regs × Line × Outcome). d.2) done);
      held = kept (lines_of p) p.cache cache same;
    }
by_need code stamp p slot regs cache outcome (needs.Copy line mode) e placed placed' hit run =
    let On : Option Line → Type 0 = λ found. IsRunOn found line mode (turn_of code (regs_of p slot) (lines_of p)) (over p (regs_of p slot) p.cache) (over p regs cache) outcome in
    on_copy code stamp p slot regs cache outcome line mode (granted_copy p.sets p.cache line.0 mode) refl (turn_exists code (regs_of p slot) (lines_of p) line mode e) placed placed' (hit line mode)
    (subst On (granted_is (copy_at p.sets p.cache line.0) mode) run)

pub turn_is : (code : List ℕ) (stamp : ℕ) (p : Processor) (slot : ℕ) (regs : Regs) (cache : Cache) (outcome : Outcome)
    → ArePlaced (copies_of p p.cache) → ArePlaced (copies_of p cache) → ((line : LineNo) → (mode : Mode) → outcome ≢ ends.Miss line mode)
    → Turned code p slot regs cache outcome → IsTurn code stamp p slot regs cache outcome (need_of code (regs_of p slot) (lines_of p))
turn_is code stamp p slot regs cache outcome placed placed' hit run = by_need code stamp p slot regs cache outcome _ refl placed placed' hit run

-- ---- a miss

-- the step of a miss, which leaves registers and cache as they were, on a line that exists
pub record IsMiss (code : List ℕ) (stamp : ℕ) (p : Processor) (slot : ℕ) (regs : Regs) (cache : Cache) (line : LineNo) (mode : Mode) : Type 0 where
  pub step : instr_by code stamp p slot (need_of code (regs_of p slot) (lines_of p)) ≡ miss stamp p slot line.0 mode
  pub regs_are : regs ≡ regs_of p slot
  pub cache_is : cache ≡ p.cache
  pub exists : line.0 < lines_of p

pub miss_is : (code : List ℕ) (stamp : ℕ) (p : Processor) (slot : ℕ) (regs : Regs) (cache : Cache) (line : LineNo) (mode : Mode)
    → ArePlaced (copies_of p p.cache) → ArePlaced (copies_of p cache) → CopyIsMissing (need_of code (regs_of p slot) (lines_of p)) (seen_in (copies_of p p.cache)) line mode
    → Turned code p slot regs cache (ends.Miss line mode) → IsMiss code stamp p slot regs cache line mode
miss_is code stamp p slot regs cache line mode placed placed' missing run =
    let none : granted_copy p.sets p.cache line.0 mode ≡ None = none_is _ (sym (granted_is (copy_at p.sets p.cache line.0) mode) ∙ missing.1) in
    let By : Need → Type 0 = λ n. IsRunWith n (turn_of code (regs_of p slot) (lines_of p)) (over p (regs_of p slot) p.cache) (over p regs cache) (ends.Miss line mode) in
    let On : Option Line → Type 0 = λ found. IsRunOn found line mode (turn_of code (regs_of p slot) (lines_of p)) (over p (regs_of p slot) p.cache) (over p regs cache) (ends.Miss line mode) in
    let missed = subst On missing.1 (subst By missing.0 run) in
    record {
      step = ap (instr_by code stamp p slot) missing.0 ∙ ap (access code stamp p slot line.0 mode) none;
      regs_are = missed.1;
      cache_is = same_caches p.sets cache p.cache placed' placed (λ l. missed.2 l);
      exists = turn_exists code (regs_of p slot) (lines_of p) line mode missing.0;
    }
