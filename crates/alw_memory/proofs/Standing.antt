-- What holds of a memory m is kept by what its events change.
use Rattle.std.proofs.Common.{◌≡◌, ◌≢◌, ℕ, zero, suc, ◌+◌, ◌*◌, ◌<◌, ◌≤◌, Bool, true, false, ◌==◌, List, [], ◌∷◌, ◌++◌, length, slice_set, slice_index_or}
use Rattle.std.proofs.Common.{refl, sym, ap, ◌∙◌, subst, arith}
use Rattle.std.proofs.lemmas.Bool.{true≢false, eqb-true, eqb-false, eq-eqb, ne_eqb}
use Rattle.std.proofs.lemmas.List.{length-set, length-append, get_or-set_same, get_or-set_other}
use Rattle.std.specs.List.{AllByRecursion}
use Rattle.alw_num.specs.Weights.{digit, weigh}
use Rattle.alw_num.proofs.Weigh.{weigh_push}
use Rattle.alw_num.specs.declared.states.Meta.{Meta}
use Rattle.alw_num.specs.declared.states.Meta.TheVariants.{Normal, Progress, TrapWrite, TrapAlways}
use Rattle.alw_msg.specs.declared.messages.Msg.{Msg}
use Rattle.alw_image.specs.Images.{zero_line}
use Rattle.alw_model.specs.LimitLess.{Directory, directory_start, is_in_progress}
use Rattle.alw_model.specs.Sides.{Memory, entry_at}
use Rattle.alw_memory.specs.Memories.{IsMemory, IsPacket, Stands, waiting_on, progress_of}

weigh-set : {A : Type 0} (f : A → ℕ) (xs : List A) (i : ℕ) (y d : A) → i < length xs → weigh f (slice_set xs i y) + f (slice_index_or xs i d) ≡ weigh f xs + f y
weigh-set f [] i y d l = absurd (omega arith)
weigh-set f (x ∷ xs) zero y d l = omega arith
weigh-set f (x ∷ xs) (suc i) y d l = omega (arith, weigh-set f xs i y d (omega arith))

-- one entry and the packets change
pub changes : (m : Memory) (place : ℕ) (d : Directory) (packets : List Msg) → IsMemory m → place < m.per_node → Stands m.pointers m.nodes d
    → AllByRecursion (IsPacket m.nodes m.per_node m.number) packets
    → ((p : ℕ) → p ≢ place → waiting_on (m.number * m.per_node + p) packets ≡ waiting_on (m.number * m.per_node + p) m.packets)
    → waiting_on (m.number * m.per_node + place) packets ≡ progress_of d
    → length packets + progress_of (entry_at m.homes place) ≡ length m.packets + progress_of d
    → IsMemory (record m { homes = slice_set m.homes place d; packets = packets })
changes m place d packets is l stands each others here sum = record {
  number = is.number;
  nodes = is.nodes;
  per_node = is.per_node;
  pointers = is.pointers;
  homes = length-set m.homes place d ∙ is.homes;
  entries = λ p. by_place (λ q e. Stands m.pointers m.nodes e) p (p == place) refl stands (λ e. is.entries p);
  packets = each;
  pending = λ p l. by_place (λ q e. waiting_on (m.number * m.per_node + q) packets ≡ progress_of e) p (p == place) refl here
      (λ e. others p (eqb-false p place e) ∙ is.pending p l);
  counted = omega (arith, sum, is.counted, weigh-set progress_of m.homes place d (directory_start zero_line false) within);
}
  where
    within : place < length m.homes
    within = omega (arith, is.homes)

    by_place : (P : ℕ → Directory → Type 0) (p : ℕ) (b : Bool) → (p == place) ≡ b → P place d → ((p == place) ≡ false → P p (entry_at m.homes p))
        → P p (entry_at (slice_set m.homes place d) p)
    by_place P p true e changed same =
        let at : p ≡ place = eqb-true p place e in
        subst (λ q. P q (entry_at (slice_set m.homes place d) q)) (sym at)
        (subst (P place) (sym (get_or-set_same m.homes place d (directory_start zero_line false) within)) changed)
    by_place P p false e changed same = subst (P p) (sym (get_or-set_other m.homes place p d (directory_start zero_line false) (eqb-false p place e))) (same e)

-- ---- packets

each_push : (P : Msg → Type 0) (packets : List Msg) (msg : Msg) → AllByRecursion P packets → P msg → AllByRecursion P (packets ++ msg ∷ [])
each_push P [] msg each here = (here, each)
each_push P (packet ∷ rest) msg each here = (each.0, each_push P rest msg each.1 here)

waiting_push : (line : ℕ) (packets : List Msg) (msg : Msg) → waiting_on line (packets ++ msg ∷ []) ≡ waiting_on line packets + digit (msg.line.0 == line)
waiting_push line packets msg = weigh_push (λ (packet : Msg). digit (packet.line.0 == line)) packets msg

no_progress : (d : Directory) → is_in_progress d.meta ≡ false → progress_of d ≡ 0
no_progress d e = ap digit e

some_progress : (d : Directory) → is_in_progress d.meta ≡ true → progress_of d ≡ 1
some_progress d e = ap digit e

-- a message that traps stands behind the packets
pub trap_keeps : (m : Memory) (place : ℕ) (d : Directory) (msg : Msg) → IsMemory m → place < m.per_node → Stands m.pointers m.nodes d
    → IsPacket m.nodes m.per_node m.number msg
    → msg.line.0 ≡ m.number * m.per_node + place → is_in_progress (entry_at m.homes place).meta ≡ false → is_in_progress d.meta ≡ true
    → IsMemory (record m { homes = slice_set m.homes place d; packets = m.packets ++ msg ∷ [] })
trap_keeps m place d msg is l stands packet at free busy =
    let first = m.number * m.per_node in
    let before = is.pending place l in
    let none = no_progress (entry_at m.homes place) free in
    let one = some_progress d busy in
    let here : digit (msg.line.0 == first + place) ≡ 1 = ap digit (eq-eqb msg.line.0 (first + place) at) in
    changes m place d (m.packets ++ msg ∷ []) is l stands (each_push (IsPacket m.nodes m.per_node m.number) m.packets msg is.packets packet)
    (λ p other. let apart : digit (msg.line.0 == first + p) ≡ 0 = ap digit (ne_eqb msg.line.0 (first + p) (λ e. other (omega (arith, e, at)))) in
    omega (arith, waiting_push (first + p) m.packets msg, apart))
    (omega (arith, waiting_push (first + place) m.packets msg, here, before, none, one))
    (omega (arith, length-append m.packets (msg ∷ []), none, one))

-- hardware acts: the packets stay
pub act_keeps : (m : Memory) (place : ℕ) (d : Directory) → IsMemory m → place < m.per_node → Stands m.pointers m.nodes d
    → is_in_progress (entry_at m.homes place).meta ≡ false → is_in_progress d.meta ≡ false
    → IsMemory (record m { homes = slice_set m.homes place d; packets = m.packets })
act_keeps m place d is l stands free after =
    let before = is.pending place l in
    let none = no_progress (entry_at m.homes place) free in
    let zero = no_progress d after in
    changes m place d m.packets is l stands is.packets (λ p other. refl) (omega (arith, before, none, zero)) (omega (arith, none, zero))

-- the handler takes the front packet
pub handle_keeps : (m : Memory) (place : ℕ) (d : Directory) (packet : Msg) (rest : List Msg) → IsMemory m → m.packets ≡ packet ∷ rest → place < m.per_node
    → Stands m.pointers m.nodes d
    → packet.line.0 ≡ m.number * m.per_node + place → is_in_progress d.meta ≡ false → IsMemory (record m { homes = slice_set m.homes place d; packets = rest })
handle_keeps m place d packet rest is front l stands at after =
    let first = m.number * m.per_node in
    let before = is.pending place l in
    let zero = no_progress d after in
    let most : progress_of (entry_at m.homes place) ≤ 1 = at_most_one (is_in_progress (entry_at m.homes place).meta) in
    let here : digit (packet.line.0 == first + place) ≡ 1 = ap digit (eq-eqb packet.line.0 (first + place) at) in
    let split : (line : ℕ) → waiting_on line m.packets ≡ digit (packet.line.0 == line) + waiting_on line rest = λ line. ap (waiting_on line) front in
    let each = subst (AllByRecursion (IsPacket m.nodes m.per_node m.number)) front is.packets in
    changes m place d rest is l stands each.1
    (λ p other. let apart : digit (packet.line.0 == first + p) ≡ 0 = ap digit (ne_eqb packet.line.0 (first + p) (λ e. other (omega (arith, e, at)))) in
    omega (arith, split (first + p), apart))
    (omega (arith, split (first + place), here, before, most, zero))
    (omega (arith, ap length front, split (first + place), here, before, most, zero))
  where
    at_most_one : (b : Bool) → digit b ≤ 1
    at_most_one true = omega arith
    at_most_one false = omega arith

-- the line of the front packet is in progress
progress_is : (meta : Meta) → is_in_progress meta ≡ true → meta ≡ Progress
progress_is Normal e = absurd (true≢false (sym e))
progress_is Progress e = refl
progress_is TrapWrite e = absurd (true≢false (sym e))
progress_is TrapAlways e = absurd (true≢false (sym e))

pub front_progress : (m : Memory) (place : ℕ) (packet : Msg) (rest : List Msg) → IsMemory m → m.packets ≡ packet ∷ rest → place < m.per_node
    → packet.line.0 ≡ m.number * m.per_node + place → (entry_at m.homes place).meta ≡ Progress
front_progress m place packet rest is front l at = progress_is (entry_at m.homes place).meta (go (is_in_progress (entry_at m.homes place).meta) refl)
  where
    go : (b : Bool) → is_in_progress (entry_at m.homes place).meta ≡ b → is_in_progress (entry_at m.homes place).meta ≡ true
    go true e = e
    go false e =
        let line = m.number * m.per_node + place in
        let here : digit (packet.line.0 == line) ≡ 1 = ap digit (eq-eqb packet.line.0 line at) in
        let split : waiting_on line m.packets ≡ digit (packet.line.0 == line) + waiting_on line rest = ap (waiting_on line) front in
        absurd (omega (arith, is.pending place l, no_progress (entry_at m.homes place) e, here, split))

-- there is room for one packet more, where a line isn't in progress
weigh-most : (ds : List Directory) → weigh progress_of ds ≤ length ds
weigh-most [] = omega arith
weigh-most (d ∷ rest) = omega (arith, at_most (is_in_progress d.meta), weigh-most rest)
  where
    at_most : (b : Bool) → digit b ≤ 1
    at_most true = omega arith
    at_most false = omega arith

weigh-below : (ds : List Directory) (place : ℕ) → place < length ds → progress_of (entry_at ds place) ≡ 0 → weigh progress_of ds < length ds
weigh-below [] place l none = absurd (omega arith)
weigh-below (d ∷ rest) zero l none = omega (arith, none, weigh-most rest)
weigh-below (d ∷ rest) (suc place) l none = omega (arith, at_most (is_in_progress d.meta), weigh-below rest place (omega arith) none)
  where
    at_most : (b : Bool) → digit b ≤ 1
    at_most true = omega arith
    at_most false = omega arith

pub packet_fits : (m : Memory) (place : ℕ) → IsMemory m → place < m.per_node → is_in_progress (entry_at m.homes place).meta ≡ false
    → length m.packets < m.per_node
packet_fits m place is l free =
    omega (arith, is.counted, is.homes, weigh-below m.homes place (omega (arith, is.homes)) (no_progress (entry_at m.homes place) free))
