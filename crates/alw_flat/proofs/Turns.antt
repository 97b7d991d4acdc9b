-- A turn over the one memory is a turn of the flat machine.
use Rattle.std.proofs.Common.{◌≡◌, ℕ, zero, suc, ◌<◌, true, Option, Some, None, List, [], ◌∷◌, length, get_or, slice_index_or, slice_set, refl, sym, ap, ◌∙◌, subst, arith}
use Rattle.std.proofs.lemmas.Bool.Decides.{nat_tests}
use Rattle.std.proofs.lemmas.Option.{slice_get-get_or}
use Rattle.std.proofs.lemmas.List.{length-map, map-set}
use Rattle.alw_num.specs.declared.addresses.Line.{Line}
use Rattle.alw_num.specs.declared.addresses.LineNo.{LineNo}
use Rattle.alw_num.specs.declared.states.Mode.{Mode}
use Rattle.alw_num.specs.declared.states.Mode.TheVariants.{Read, Write}
use Rattle.sparc_table.specs.Turns.{need_of, turn_of}
use Rattle.sparc_table.proofs.Effects.{turn_exists}
use Rattle.sparc_table.specs.declared.registers.Regs.{Regs}
use Rattle.sparc_table.specs.declared.outcomes.Need.{Need}
use Rattle.sparc_table.specs.declared.outcomes.Need.TheVariants as needs
use Rattle.sparc_table.specs.declared.outcomes.Outcome.{Outcome}
use Rattle.sparc_exec.specs.Ports.{granted, with_copy}
use Rattle.sparc_exec.specs.Runs.{seen, Completed, IsRunOn, IsRunWith, CopyIsMissing}
use Rattle.alw_msg.specs.declared.contexts.Status.{Status}
use Rattle.alw_image.specs.declared.parts.Parts.{Parts}
use Rattle.alw_image.specs.Images.{line_count, zero_line}
use Rattle.alw_msg.specs.Statuses.{is_ready}
use Rattle.alw_model.specs.ProcessorSteps.{status_after}
use Rattle.alw_model.specs.Flat as model
use Rattle.alw_model.specs.Flat.{Flat, flat_turn, flat_turn_by, context_at}
use Rattle.alw_flat.specs.declared.machines.Context.{Context}
use Rattle.alw_flat.specs.Machines.{copy_in}
use Rattle.alw_flat.specs.Contexts.{context_of, contexts_of, machine_of}

-- ---- memories by their copies

unwrapped : Line → Option (Mode × Line) → Line
unwrapped d None = d
unwrapped d (Some x) = x.1

value_is : (x y : Line) → (let one : Option (Mode × Line) = Some (Write, x) in let other : Option (Mode × Line) = Some (Write, y) in one ≡ other) → x ≡ y
unfolding unwrapped
value_is x y e = ap (unwrapped x) e

some_is_not : (x : Line) → (let one : Option (Mode × Line) = Some (Write, x) in one ≡ None) → ⊥
some_is_not x e = cc

-- two memories with the same copies are equal
same_memory : (one other : List Line) → ((l : ℕ) → copy_in one l ≡ copy_in other l) → one ≡ other
same_memory [] [] same = refl
same_memory [] (y ∷ ys) same = absurd (some_is_not y (sym (same 0)))
same_memory (x ∷ xs) [] same = absurd (some_is_not x (same 0))
same_memory (x ∷ xs) (y ∷ ys) same =
    let rest = same_memory xs ys (λ l. same (suc l)) in
    let first = value_is x y (same 0) in
    λ i. first i ∷ rest i

copies-set : (memory : List Line) (line : ℕ) (value : Line) (l : ℕ) → line < length memory → copy_in (slice_set memory line value) l ≡ with_copy line value (copy_in memory) l
copies-set [] line value l here = absurd (omega arith)
copies-set (x ∷ xs) zero value zero here = refl
copies-set (x ∷ xs) zero value (suc l) here = grind (arith, nat_tests)
copies-set (x ∷ xs) (suc line) value zero here = grind (arith, nat_tests)
copies-set (x ∷ xs) (suc line) value (suc l) here = grind (arith, nat_tests, copies-set xs line value l)

-- each line that exists has a copy that grants both modes
granted_is : (memory : List Line) (line : ℕ) (mode : Mode) → line < length memory → granted mode (copy_in memory line) ≡ Some (slice_index_or memory line zero_line)
granted_is memory line mode here = go mode (copy_in memory line) (ap (λ (o : Option Line). option_of o) (slice_get-get_or memory line zero_line here))
  where
    option_of : Option Line → Option (Mode × Line)
    option_of None = None
    option_of (Some value) = Some (Write, value)

    go : (mode : Mode) (o : Option (Mode × Line)) → (let one : Option (Mode × Line) = Some (Write, slice_index_or memory line zero_line) in o ≡ one) → granted mode o ≡ Some (slice_index_or memory line zero_line)
    go Read o e = rw e refl
    go Write o e = rw e refl

-- ---- a turn

-- what a turn leaves and how it ends, as the definition says
pub record IsTurn (parts : Parts) (flat : Flat) (context : ℕ) (memory : List Line) (regs : Regs) (outcome : Outcome) : Type 0 where
  pub flat_is : (flat_turn parts flat context).0 ≡ record { memory = memory; contexts = slice_set flat.contexts context (record { regs = regs; status = status_after regs outcome }) }
  pub outcome_is : (flat_turn parts flat context).1 ≡ outcome

-- the flat machine with this memory, and the context with these registers after this outcome
abbrev left : Flat → ℕ → List Line → Regs → Outcome → Flat × Outcome
left flat context memory regs outcome = (record { memory = memory; contexts = slice_set flat.contexts context (record { regs = regs; status = status_after regs outcome }) }, outcome)

same_left : (flat : Flat) (context : ℕ) (memory memory' : List Line) (regs regs' : Regs) (outcome outcome' : Outcome) → memory ≡ memory' → regs ≡ regs' → outcome ≡ outcome' → left flat context memory regs outcome ≡ left flat context memory' regs' outcome'
same_left flat context memory memory' regs regs' outcome outcome' m r o = λ i. left flat context (m i) (r i) (o i)

by_need : (parts : Parts) (flat : Flat) (context : ℕ) (memory : List Line) (regs : Regs) (outcome : Outcome) (n : Need)
    → length flat.memory ≡ line_count parts → need_of parts.code (context_at flat context).regs (line_count parts) ≡ n
    → IsRunWith n (turn_of parts.code (context_at flat context).regs (line_count parts)) (seen (context_at flat context).regs (copy_in flat.memory) None) (seen regs (copy_in memory) None) outcome
    → flat_turn_by parts flat context n ≡ left flat context memory regs outcome
by_need parts flat context memory regs outcome needs.Nothing long e run =
    let done = run.0 zero_line in
    same_left flat context _ memory _ regs _ outcome (sym (same_memory memory flat.memory run.1)) (ap (λ (d : Regs × Line × Outcome). d.0) done) (ap (λ (d : Regs × Line × Outcome). d.2) done)
by_need parts flat context memory regs outcome (needs.Trap tt) long e run =
    let done = run.0 zero_line in
    same_left flat context _ memory _ regs _ outcome (sym (same_memory memory flat.memory run.1)) (ap (λ (d : Regs × Line × Outcome). d.0) done) (ap (λ (d : Regs × Line × Outcome). d.2) done)
by_need parts flat context memory regs outcome (needs.Copy line mode) long e run =
    let here : line.0 < length flat.memory = omega (arith, long, turn_exists parts.code (context_at flat context).regs (line_count parts) line mode e) in
    let on = subst (λ (o : Option Line). IsRunOn o line mode (turn_of parts.code (context_at flat context).regs (line_count parts)) (seen (context_at flat context).regs (copy_in flat.memory) None) (seen regs (copy_in memory) None) outcome) (granted_is flat.memory line.0 mode here) run in
    go mode here on
  where
    go : (mode : Mode) → line.0 < length flat.memory
        → Completed line mode (turn_of parts.code (context_at flat context).regs (line_count parts) (slice_index_or flat.memory line.0 zero_line)) (seen (context_at flat context).regs (copy_in flat.memory) None) (seen regs (copy_in memory) None) outcome
        → flat_turn_by parts flat context (needs.Copy line mode) ≡ left flat context memory regs outcome
    go Read here done = same_left flat context _ memory _ regs _ outcome (sym (same_memory memory flat.memory done.2)) (sym done.1) (sym done.0)
    go Write here done =
        let value : Line = (turn_of parts.code (context_at flat context).regs (line_count parts) (slice_index_or flat.memory line.0 zero_line)).1 in
        same_left flat context _ memory _ regs _ outcome (sym (same_memory memory (slice_set flat.memory line.0 value) (λ l. done.2 l ∙ sym (copies-set flat.memory line.0 value l here)))) (sym done.1) (sym done.0)

pub takes_turn : (parts : Parts) (flat : Flat) (context lines : ℕ) (memory : List Line) (before regs : Regs) (outcome : Outcome) → length flat.memory ≡ line_count parts → lines ≡ length flat.memory → before ≡ (context_at flat context).regs
    → IsRunWith (need_of parts.code before lines) (turn_of parts.code before lines) (seen before (copy_in flat.memory) None) (seen regs (copy_in memory) None) outcome → IsTurn parts flat context memory regs outcome
takes_turn parts flat context lines memory before regs outcome long lines_are before_is run =
    let lined = subst (λ (n : ℕ). IsRunWith (need_of parts.code before n) (turn_of parts.code before n) (seen before (copy_in flat.memory) None) (seen regs (copy_in memory) None) outcome) (lines_are ∙ long) run in
    let placed = subst (λ (r : Regs). IsRunWith (need_of parts.code r (line_count parts)) (turn_of parts.code r (line_count parts)) (seen r (copy_in flat.memory) None) (seen regs (copy_in memory) None) outcome) before_is lined in
    let all = by_need parts flat context memory regs outcome _ long refl placed in
    record { flat_is = ap (λ (d : Flat × Outcome). d.0) all; outcome_is = ap (λ (d : Flat × Outcome). d.1) all }

-- no turn misses
pub never_misses : (code : List ℕ) (regs : Regs) (memory : List Line) (line : LineNo) (mode : Mode) → CopyIsMissing (need_of code regs (length memory)) (copy_in memory) line mode → ⊥
never_misses code regs memory line mode missing =
    none_is_not (slice_index_or memory line.0 zero_line) (sym (granted_is memory line.0 mode (turn_exists code regs (length memory) line mode missing.0)) ∙ missing.1)
  where
    none_is_not : (x : Line) → Some x ≡ None → ⊥
    none_is_not x e = cc

-- ---- the contexts

-- a context that is Ready exists
pub ready_exists : (flat : Flat) (context : ℕ) → is_ready (context_at flat context).status ≡ true → context < length flat.contexts
ready_exists flat context ready = at flat.contexts context ready
  where
    at : (contexts : List model.Context) (context : ℕ) → is_ready (context_at (record { memory = []; contexts = contexts }) context).status ≡ true → context < length contexts
    at [] context ready = absurd (cc)
    at (first ∷ rest) zero ready = omega arith
    at (first ∷ rest) (suc context) ready = omega (arith, at rest context ready)

-- the context at a place of code's list
pub context-at : (memory : List Line) (contexts : List Context) (context : ℕ) (seen_here : Context) → context < length contexts → seen_here ≡ get_or contexts context seen_here
    → context_at (record { memory = memory; contexts = contexts_of contexts }) context ≡ context_of seen_here
context-at memory [] context seen_here here e = absurd (omega arith)
context-at memory (first ∷ rest) zero seen_here here e = ap context_of (sym e)
context-at memory (first ∷ rest) (suc context) seen_here here e = context-at memory rest context seen_here (omega arith) e

-- ---- as the function meets it

pub record IsMachineTurn (parts : Parts) (memory memory' : List Line) (contexts : List Context) (context : ℕ) (regs : Regs) (status : Status) (outcome : Outcome) : Type 0 where
  pub state_is : machine_of parts memory' (slice_set contexts context (record { regs = regs; status = status })) ≡ record { parts = parts; flat = (flat_turn parts ((machine_of parts memory contexts).flat) context).0 }
  pub outcome_is : outcome ≡ (flat_turn parts ((machine_of parts memory contexts).flat) context).1

pub turns : (parts : Parts) (memory memory' : List Line) (contexts : List Context) (context : ℕ) (here : Context) (regs : Regs) (status : Status) (outcome : Outcome) → length memory ≡ line_count parts
    → is_ready (context_at ((machine_of parts memory contexts).flat) context).status ≡ true → here ≡ get_or contexts context here → status ≡ status_after regs outcome
    → IsRunWith (need_of parts.code here.regs (length memory)) (turn_of parts.code here.regs (length memory)) (seen here.regs (copy_in memory) None) (seen regs (copy_in memory') None) outcome
    → IsMachineTurn parts memory memory' contexts context regs status outcome
turns parts memory memory' contexts context here regs status outcome long ready read status_is run =
    let flat : Flat = (machine_of parts memory contexts).flat in
    let within : context < length contexts = omega (arith, ready_exists flat context ready, length-map contexts context_of) in
    let at = context-at memory contexts context here within read in
    let turn = takes_turn parts flat context (length memory) memory' here.regs regs outcome long refl (sym (ap (λ (c : model.Context). c.regs) at)) run in
    let written : contexts_of (slice_set contexts context (record { regs = regs; status = status })) ≡ slice_set (contexts_of contexts) context (record { regs = regs; status = status_after regs outcome }) =
    map-set context_of contexts context (record { regs = regs; status = status }) ∙ ap (λ (s : Status). let c : model.Context = record { regs = regs; status = s } in slice_set (contexts_of contexts) context c) status_is in
    record {
      state_is = λ i. record { parts = parts; flat = ((λ j. record { memory = memory'; contexts = written j }) ∙ sym turn.flat_is) i };
      outcome_is = sym turn.outcome_is;
    }
