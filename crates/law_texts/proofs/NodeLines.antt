-- The lines of a node, of its contexts, transactions and copies are read in one way, and begin with their kind.
use Rattle.std.proofs.Common.{◌≡◌, ℕ, Bool, Option, List, [], ◌∷◌, ◌++◌, length, drop, slice_index, codes, refl, sym, ap, ◌∙◌, arith, length-drop}
use Rattle.std.specs.Fmt.{decimal}
use Rattle.std.specs.List.{flat_map, AllByRecursion}
use Rattle.alw_num.specs.declared.addresses.Line.{Line}
use Rattle.alw_num.specs.declared.states.Mode.{Mode}
use Rattle.sparc_table.specs.declared.registers.Regs.{Regs}
use Rattle.alw_msg.specs.declared.contexts.Status.{Status}
use Rattle.alw_image.specs.Numbers.{IsWord}
use Rattle.alw_model.specs.Caches.{Copy, Transaction}
use Rattle.alw_model.specs.Contexts.{Slot}
use Rattle.alw_trace.specs.Lines.{IsNumber}
use Rattle.law_texts.specs.Words.{AreWords, AreRegisters}
use Rattle.alw_save.specs.Lines.{spaced_word, flag_digit, codes_text, counters_text, registers_text, context_line, node_line, pending_line, cache_line}
use Rattle.law_texts.proofs.Readings.{Tells, fixed, both, behind, said_as, number, Stops}
use Rattle.law_texts.proofs.Runs.{rank}
use Rattle.law_texts.proofs.Choices.{one_flag, one_mode}
use Rattle.law_texts.proofs.Words.{one_spaced, one_body}
use Rattle.law_texts.proofs.Doings.{one_status, StatusStands, held_doing}

-- as many lines, each read in one way
one_list : {X : Type 0} (IsX : X → Type 0) (line : X → List ℕ) → ((x y : X) → IsX x → IsX y → Tells (x ≡ y) (line x) (line y)) → (xs ys : List X)
    → AllByRecursion IsX xs → AllByRecursion IsX ys → length xs ≡ length ys → Tells (xs ≡ ys) (flat_map line xs) (flat_map line ys)
one_list IsX line one [] [] are all long = said_as (λ s. refl) (fixed [])
one_list IsX line one [] (y ∷ ys) are all long = absurd (omega (arith, long))
one_list IsX line one (x ∷ xs) [] are all long = absurd (omega (arith, long))
one_list {X} IsX line one (x ∷ xs) (y ∷ ys) are all long =
    said_as (λ (s : (x ≡ y) × (xs ≡ ys)). (let first = s.0 in let rest = s.1 in cc))
    (both (one x y are.0 all.0) (one_list IsX line one xs ys are.1 all.1 (omega (arith, long))))

-- ---- a node, and its contexts

pub one_node : (n clock clock' slot slot' : ℕ) → IsNumber clock → IsNumber clock' → IsNumber slot → IsNumber slot'
    → Tells ((clock ≡ clock') × (slot ≡ slot')) (node_line n clock slot) (node_line n clock' slot')
unfolding node_line
one_node n clock clock' slot slot' a b c d =
    said_as (λ (s : (clock ≡ clock') × ((slot ≡ slot') × Unit {0})). (s.0, s.1.0))
    (behind (codes "node ") (behind (decimal n) (behind (codes " clock ") (number clock clock' a b (omega arith) (omega arith)
    (behind (codes " slot ") (number slot slot' c d (omega arith) (omega arith) (fixed (codes "\n"))))))))

abbrev Counted : Regs → Regs → Type 0
Counted one other = (one.pc ≡ other.pc) × ((one.npc ≡ other.npc) × ((one.y ≡ other.y)
    × ((one.n ≡ other.n) × ((one.z ≡ other.z) × ((one.v ≡ other.v) × (one.c ≡ other.c))))))

one_codes : (one other : Regs) → Tells ((one.n ≡ other.n) × ((one.z ≡ other.z) × ((one.v ≡ other.v) × (one.c ≡ other.c)))) (codes_text one) (codes_text other)
one_codes one other =
    both {a = flag_digit one.n ∷ []} {c = flag_digit other.n ∷ []} (one_flag one.n other.n)
    (both {a = flag_digit one.z ∷ []} {c = flag_digit other.z ∷ []} (one_flag one.z other.z)
    (both {a = flag_digit one.v ∷ []} {b = flag_digit one.c ∷ []} {c = flag_digit other.v ∷ []} {d = flag_digit other.c ∷ []}
    (one_flag one.v other.v) (one_flag one.c other.c)))

one_counters : (one other : Regs) → AreRegisters one → AreRegisters other → Tells (Counted one other) (counters_text one) (counters_text other)
unfolding counters_text
one_counters one other are all =
    both (one_spaced one.pc other.pc are.pc all.pc) (both (one_spaced one.npc other.npc are.npc all.npc)
    (both (one_spaced one.y other.y are.y all.y) (behind (codes " ") (one_codes one other))))

counters-stop : (regs : Regs) (more : List ℕ) → Stops (counters_text regs ++ more)
unfolding counters_text
counters-stop regs more = omega arith

same_front : (xs ys : List ℕ) → length xs ≡ 32 → length ys ≡ 32 → slice_index xs 0 ≡ slice_index ys 0 → drop 1 xs ≡ drop 1 ys → xs ≡ ys
same_front [] ys l k e f = absurd (omega (arith, l))
same_front (x ∷ xs) [] l k e f = absurd (omega (arith, k))
same_front (x ∷ xs) (y ∷ ys) l k e f = cc

all_drop : (xs : List ℕ) → AllByRecursion IsWord xs → AllByRecursion IsWord (drop 1 xs)
all_drop [] all = tt
all_drop (x ∷ xs) all = all.1

one_registers : (one other : Regs) → AreRegisters one → AreRegisters other → Tells (one.r ≡ other.r) (registers_text one) (registers_text other)
unfolding registers_text
one_registers one other are all =
    said_as (same_front one.r other.r are.count all.count (are.first ∙ sym all.first))
    (one_list IsWord spaced_word one_spaced (drop 1 one.r) (drop 1 other.r) (all_drop one.r are.words) (all_drop other.r all.words)
    (omega (arith, length-drop 1 one.r, length-drop 1 other.r, are.count, all.count)))

same_regs : (one other : Regs) → Counted one other → one.r ≡ other.r → one ≡ other
same_regs one other s r =
    same one.r one.y one.n one.z one.v one.c one.pc one.npc other.r other.y other.n other.z other.v other.c other.pc other.npc
    r s.1.1.0 s.1.1.1.0 s.1.1.1.1.0 s.1.1.1.1.1.0 s.1.1.1.1.1.1 s.0 s.1.0
  where
    same : (r : List ℕ) (y : ℕ) (n z v c : Bool) (pc npc : ℕ) (r' : List ℕ) (y' : ℕ) (n' z' v' c' : Bool) (pc' npc' : ℕ)
        → r ≡ r' → y ≡ y' → n ≡ n' → z ≡ z' → v ≡ v' → c ≡ c' → pc ≡ pc' → npc ≡ npc'
        → ◌≡◌ {A = Regs} (record { r = r; y = y; n = n; z = z; v = v; c = c; pc = pc; npc = npc })
        (record { r = r'; y = y'; n = n'; z = z'; v = v'; c = c'; pc = pc'; npc = npc' })
    same r y n z v c pc npc r' y' n' z' v' c' pc' npc' e1 e2 e3 e4 e5 e6 e7 e8 = cc

-- a slot whose registers are words, and which does what one can do
pub record IsSlot (slot : Slot) : Type 0 where
  pub regs : AreRegisters slot.regs
  pub stands : StatusStands slot.regs.pc slot.hold slot.status

same_slot : (one other : Slot) → one.regs ≡ other.regs → held_doing one.hold one.status ≡ held_doing other.hold other.status → one ≡ other
same_slot one other e f =
    same one.regs other.regs one.status other.status one.hold other.hold e (ap (λ (p : Option ℕ × Status). p.1) f)
    (ap (λ (p : Option ℕ × Status). p.0) f)
  where
    same : (r r' : Regs) (s s' : Status) (h h' : Option ℕ) → r ≡ r' → s ≡ s' → h ≡ h'
        → ◌≡◌ {A = Slot} (record { regs = r; status = s; hold = h }) (record { regs = r'; status = s'; hold = h' })
    same r r' s s' h h' e1 e2 e3 = cc

pub one_context : (context : ℕ) (one other : Slot) → IsSlot one → IsSlot other
    → Tells (one ≡ other) (context_line context one.hold one.status one.regs) (context_line context other.hold other.status other.regs)
unfolding context_line
one_context context one other is also =
    said_as (λ (s : (one.regs.pc ≡ other.regs.pc → held_doing one.hold one.status ≡ held_doing other.hold other.status)
    × (Counted one.regs other.regs × ((one.regs.r ≡ other.regs.r) × Unit {0}))).
    same_slot one other (same_regs one.regs other.regs s.1.0 s.1.1.0) (s.0 s.1.0.0))
    (behind (codes "context ") (behind (decimal context) (behind (codes " ")
    (one_status one.regs.pc other.regs.pc one.hold other.hold one.status other.status is.stands also.stands
    (counters-stop one.regs (registers_text one.regs ++ codes "\n")) (counters-stop other.regs (registers_text other.regs ++ codes "\n"))
    (both (one_counters one.regs other.regs is.regs also.regs) (both (one_registers one.regs other.regs is.regs also.regs) (fixed (codes "\n"))))))))

-- ---- transactions and copies

abbrev pub IsPending : ℕ × Transaction → Type 0
IsPending entry = IsNumber entry.0 × IsNumber entry.1.opener

pub one_pending : (one other : ℕ × Transaction) → IsPending one → IsPending other → Tells (one ≡ other) (pending_line one) (pending_line other)
unfolding pending_line
one_pending one other is also =
    said_as (λ (s : (one.0 ≡ other.0) × ((one.1.mode ≡ other.1.mode) × ((one.1.opener ≡ other.1.opener) × Unit {0}))).
    same one.0 other.0 one.1.mode other.1.mode one.1.opener other.1.opener s.0 s.1.0 s.1.1.0)
    (behind (codes "pending ") (number one.0 other.0 is.0 also.0 (omega arith) (omega arith) (behind (codes " ")
    (both (one_mode one.1.mode other.1.mode) (behind (codes " ")
    (number one.1.opener other.1.opener is.1 also.1 (omega arith) (omega arith) (fixed (codes "\n"))))))))
  where
    same : (k k' : ℕ) (m m' : Mode) (o o' : ℕ) → k ≡ k' → m ≡ m' → o ≡ o'
        → ◌≡◌ {A = ℕ × Transaction} (k, record { mode = m; opener = o }) (k', record { mode = m'; opener = o' })
    same k k' m m' o o' e1 e2 e3 = cc

pub pending-ranks : (entry : ℕ × Transaction) (u : List ℕ) → rank (pending_line entry ++ u) ≡ 1
unfolding pending_line
pending-ranks entry u = refl

abbrev pub IsCopy : ℕ × Copy → Type 0
IsCopy entry = IsNumber entry.0 × (IsNumber entry.1.line × AreWords entry.1.body)

pub one_copy : (one other : ℕ × Copy) → IsCopy one → IsCopy other → Tells (one ≡ other) (cache_line one) (cache_line other)
unfolding cache_line
one_copy one other is also =
    said_as (λ (s : (one.0 ≡ other.0) × ((one.1.line ≡ other.1.line) × ((one.1.mode ≡ other.1.mode) × ((one.1.body ≡ other.1.body) × Unit {0})))).
    same one.0 other.0 one.1.line other.1.line one.1.mode other.1.mode one.1.body other.1.body s.0 s.1.0 s.1.1.0 s.1.1.1.0)
    (behind (codes "cache ") (number one.0 other.0 is.0 also.0 (omega arith) (omega arith) (behind (codes " ")
    (number one.1.line other.1.line is.1.0 also.1.0 (omega arith) (omega arith) (behind (codes " ")
    (both (one_mode one.1.mode other.1.mode) (both (one_body one.1.body other.1.body is.1.1 also.1.1) (fixed (codes "\n")))))))))
  where
    same : (k k' l l' : ℕ) (m m' : Mode) (b b' : Line) → k ≡ k' → l ≡ l' → m ≡ m' → b ≡ b'
        → ◌≡◌ {A = ℕ × Copy} (k, record { line = l; mode = m; body = b }) (k', record { line = l'; mode = m'; body = b' })
    same k k' l l' m m' b b' e1 e2 e3 e4 = cc

pub copy-ranks : (entry : ℕ × Copy) (u : List ℕ) → rank (cache_line entry ++ u) ≡ 2
unfolding cache_line
copy-ranks entry u = refl
