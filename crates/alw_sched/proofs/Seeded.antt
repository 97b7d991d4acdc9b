-- The run of a seed: one event more, one run for a seed, and no end before its last entry.
use Rattle.std.proofs.Common.{◌≡◌, ℕ, zero, suc, Bool, true, false, cond, None, Some, List, [], ◌∷◌, ◌++◌, map, flat_map, filter, slice_get, length, ◌%◌, nat_lt, ◌&&◌, not, ap, sym, subst, refl, ◌∙◌, append_assoc, arith}
use Rattle.std.specs.List.{AllByRecursion, range_with_len}
use Rattle.std.proofs.lemmas.List.{append-nil}
use Rattle.alw_msg.specs.declared.events.Event.{Event}
use Rattle.alw_msg.specs.declared.events.Event.TheVariants.{Instr, Handle, Deliver}
use Rattle.alw_msg.specs.declared.events.Entry.{Entry}
use Rattle.alw_msg.specs.Events.{is_evict}
use Rattle.alw_image.specs.declared.parts.Parts.{Parts}
use Rattle.alw_image.specs.Images.{node_count}
use Rattle.alw_image.specs.Parameters.{Parameters}
use Rattle.alw_model.specs.Machine.{main_events}
use Rattle.alw_model.specs.Headline.{IsScheduled}
use Rattle.alw_model.proofs.Schedules.{scheduled_none, scheduled_more}
use Rattle.alw_mesh.specs.Histories.{History, begun, grown, entry_of, may_be_next}
use Rattle.alw_mesh.specs.Ends.{next_events}
use Rattle.alw_mesh.specs.Readings.{node_in}
use Rattle.alw_model.specs.Contexts.{all_halted}
use Rattle.std.proofs.lemmas.Bool.Decides.{nat_tests}
use Rattle.alw_num.specs.Draws.{drawn, drawn_number}
use Rattle.alw_sched.specs.Schedules.{end_in, picked, is_evicted, asked_node, asked_eviction, EventIsDrawn, EventsAreDrawn, MachineIsSeeded, IsSeededRun}
use Rattle.std.proofs.lemmas.Option.{same_Some}

-- ---- one event more

pub drawn_more : (h : History) (x : ℕ) (events : List Event) (mid : History) (y : ℕ) (event : Event) → EventsAreDrawn h x events mid y → EventIsDrawn mid y event →
    EventsAreDrawn h x (events ++ event ∷ []) (grown mid event) (drawn y)
drawn_more h x [] mid y event same next = rw (same.0, same.1) (next, (refl, refl))
drawn_more h x (first ∷ rest) mid y event are next = (are.0, drawn_more (grown h first) (drawn x) rest mid y event are.1 next)

-- ---- one run for a seed

-- two runs from one place, each up to an end, are one
alike : (h : History) (x : ℕ) (events others : List Event) (a b : History) (y z : ℕ) → EventsAreDrawn h x events a y → EventsAreDrawn h x others b z →
    (end_in a ≡ None → ⊥) → (end_in b ≡ None → ⊥) → a ≡ b
alike h x [] [] a b y z here there ended also = sym here.0 ∙ there.0
alike h x [] (other ∷ more) a b y z here there ended also = absurd (ended (ap end_in (sym here.0) ∙ there.0.going))
alike h x (event ∷ rest) [] a b y z here there ended also = absurd (also (ap end_in (sym there.0) ∙ here.0.going))
alike h x (event ∷ rest) (other ∷ more) a b y z here there ended also =
    let same = same_Some event other (sym here.0.pick ∙ there.0.pick) in
    alike (grown h other) (drawn x) rest more a b y z (subst (λ (e : Event). EventsAreDrawn (grown h e) (drawn x) rest a y) same here.1) there.1 ended also

pub one_seeded : (before : History) (seed : ℕ) (a b : History) → MachineIsSeeded before seed a → MachineIsSeeded before seed b →
    (end_in a ≡ None → ⊥) → (end_in b ≡ None → ⊥) → a ≡ b
one_seeded before seed a b one other ended also = alike before seed one.events other.events a b one.last other.last one.drawn_are other.drawn_are ended also

-- ---- no eviction where none is to be tried

abbrev IsMain : Event → Type 0
IsMain event = is_evict event ≡ false

all_joined : (xs ys : List Event) → AllByRecursion IsMain xs → AllByRecursion IsMain ys → AllByRecursion IsMain (xs ++ ys)
all_joined [] ys all more = more
all_joined (x ∷ xs) ys all more = (all.0, all_joined xs ys all.1 more)

all_mapped : (f : ℕ → Event) → ((n : ℕ) → IsMain (f n)) → (ns : List ℕ) → AllByRecursion IsMain (map f ns)
all_mapped f each [] = tt
all_mapped f each (n ∷ ns) = (each n, all_mapped f each ns)

all_flat : (f : ℕ → List Event) → ((n : ℕ) → AllByRecursion IsMain (f n)) → (ns : List ℕ) → AllByRecursion IsMain (flat_map f ns)
all_flat f each [] = tt
all_flat f each (n ∷ ns) = all_joined (f n) (flat_map f ns) (each n) (all_flat f each ns)

abbrev of_node : Parts → ℕ → List Event
of_node parts at = Instr (record { 0 = at }) ∷ Handle (record { 0 = at }) ∷ map (λ from. Deliver (record { 0 = from }) (record { 0 = at })) (range_with_len 0 (node_count parts))

all_of_node : (parts : Parts) (at : ℕ) → AllByRecursion IsMain (of_node parts at)
all_of_node parts at = (refl, (refl, all_mapped (λ from. Deliver (record { 0 = from }) (record { 0 = at })) (λ from. refl) (range_with_len 0 (node_count parts))))

all_main : (parts : Parts) → AllByRecursion IsMain (main_events parts)
all_main parts = all_flat (of_node parts) (all_of_node parts) (range_with_len 0 (node_count parts))

all_if : (b : Bool) (x : Event) (xs : List Event) → IsMain x → AllByRecursion IsMain xs → AllByRecursion IsMain (cond b (x ∷ xs) xs)
all_if true x xs one all = (one, all)
all_if false x xs one all = all

all_kept : (test : Event → Bool) (xs : List Event) → AllByRecursion IsMain xs → AllByRecursion IsMain (filter test xs)
all_kept test [] all = tt
all_kept test (x ∷ xs) all = all_if (test x) x (filter test xs) all.0 (all_kept test xs all.1)

at_place : (xs : List Event) (k : ℕ) (event : Event) → AllByRecursion IsMain xs → slice_get xs k ≡ Some event → IsMain event
at_place [] k event all got = absurd (cc)
at_place (x ∷ xs) zero event all got = subst IsMain (same_Some x event got) all.0
at_place (x ∷ xs) (suc k) event all got = at_place xs k event all.1 got

-- a main event that may be next is no eviction
pub main_at : (h : History) (k : ℕ) (event : Event) → slice_get (next_events h) k ≡ Some event → IsMain event
main_at h k event got = at_place (next_events h) k event (all_kept (may_be_next h) (main_events h.image) (all_main h.image)) got

never : (n : ℕ) (more : Bool) → (nat_lt n 0 && more) ≡ false
never n more = grind (arith, nat_tests)

pub main_picked : (h : History) (number : ℕ) (event : Event) → h.parameters.evict ≡ 0 → picked h number ≡ Some event → IsMain event
main_picked h number event none pick =
    let kept = not (all_halted (node_in h (asked_node h number)).slots) && may_be_next h (asked_eviction h number) in
    let no : is_evicted h number ≡ false = ap (λ (evict : ℕ). nat_lt (number % 256) evict && kept) none ∙ never (number % 256) kept in
    main_at h (number % length (next_events h)) event
    (subst (λ (b : Bool). cond b (Some (asked_eviction h number)) (slice_get (next_events h) (number % length (next_events h))) ≡ Some event) no pick)

-- ---- no end before the last entry

scheduled : (h : History) (x : ℕ) (events : List Event) (after : History) (y : ℕ) → EventsAreDrawn h x events after y →
    IsScheduled h.image h.parameters h.journal → IsScheduled after.image after.parameters after.journal
scheduled h x [] after y are so_far = subst (λ (g : History). IsScheduled g.image g.parameters g.journal) are.0 so_far
scheduled h x (event ∷ rest) after y are so_far =
    scheduled (grown h event) (drawn x) rest after y are.1
    (scheduled_more h.image h.parameters h.journal (entry_of h event) so_far are.0.going (λ none. main_picked h (drawn_number (drawn x)) event none are.0.pick))

pub seeded_scheduled : (image : Parts) (parameters : Parameters) (seed : ℕ) (journal : List Entry) → IsSeededRun image parameters seed journal → IsScheduled image parameters journal
seeded_scheduled image parameters seed journal seeded =
    scheduled (begun image parameters) seed seeded.events (record { image = image; parameters = parameters; journal = journal; joined = 0 }) seeded.last seeded.drawn_are
    (scheduled_none image parameters)

-- ---- the image and the parameters stay

abbrev of_journal : History → List Entry → History
of_journal h journal = record { image = h.image; parameters = h.parameters; journal = journal; joined = h.joined }

stays : (h : History) (x : ℕ) (events : List Event) (after : History) (y : ℕ) → EventsAreDrawn h x events after y → after ≡ of_journal h after.journal
stays h x [] after y are = subst (λ (g : History). g ≡ of_journal h g.journal) are.0 (same h)
  where
    same : (g : History) → g ≡ of_journal g g.journal
    same g = refl
stays h x (event ∷ rest) after y are = stays (grown h event) (drawn x) rest after y are.1

-- a machine that a seed has taken from its start has the seed's journal
pub seeded_run : (image : Parts) (parameters : Parameters) (seed : ℕ) (after : History) → MachineIsSeeded (begun image parameters) seed after → IsSeededRun image parameters seed after.journal
seeded_run image parameters seed after seeded =
    subst (λ (g : History). MachineIsSeeded (begun image parameters) seed g) (stays (begun image parameters) seed seeded.events after seeded.last seeded.drawn_are) seeded

pub of_start : (image : Parts) (parameters : Parameters) (seed : ℕ) (after : History) → MachineIsSeeded (begun image parameters) seed after → after ≡ record { image = image; parameters = parameters; journal = after.journal; joined = 0 }
of_start image parameters seed after seeded = stays (begun image parameters) seed seeded.events after seeded.last seeded.drawn_are

pub seeded_stays : (before : History) (seed : ℕ) (after : History) → MachineIsSeeded before seed after →
    after ≡ record { image = before.image; parameters = before.parameters; journal = after.journal; joined = before.joined }
seeded_stays before seed after seeded = stays before seed seeded.events after seeded.last seeded.drawn_are

-- ---- what stood before stays in front

drawn_front : (h : History) (x : ℕ) (events : List Event) (after : History) (y : ℕ) → EventsAreDrawn h x events after y → (rest : List Entry) × (after.journal ≡ h.journal ++ rest)
drawn_front h x [] after y are = ([], ap (λ (g : History). g.journal) (sym are.0) ∙ sym (append-nil h.journal))
drawn_front h x (event ∷ rest) after y are =
    let more = drawn_front (grown h event) (drawn x) rest after y are.1 in
    (entry_of h event ∷ more.0, more.1 ∙ append_assoc h.journal (entry_of h event ∷ []) more.0)

pub seeded_front : (before : History) (seed : ℕ) (after : History) → MachineIsSeeded before seed after → (rest : List Entry) × (after.journal ≡ before.journal ++ rest)
seeded_front before seed after seeded = drawn_front before seed seeded.events after seeded.last seeded.drawn_are

-- no eviction comes where none is to be tried
abbrev NoneEvicts : List Entry → Type 0
NoneEvicts entries = AllByRecursion (λ (entry : Entry). is_evict entry.event ≡ false) entries

none_more : (entries : List Entry) (entry : Entry) → NoneEvicts entries → is_evict entry.event ≡ false → NoneEvicts (entries ++ entry ∷ [])
none_more [] entry all one = (one, tt)
none_more (first ∷ rest) entry all one = (all.0, none_more rest entry all.1 one)

drawn_evicts : (h : History) (x : ℕ) (events : List Event) (after : History) (y : ℕ) → EventsAreDrawn h x events after y → h.parameters.evict ≡ 0 →
    NoneEvicts h.journal → NoneEvicts after.journal
drawn_evicts h x [] after y are none all = subst (λ (g : History). NoneEvicts g.journal) are.0 all
drawn_evicts h x (event ∷ rest) after y are none all =
    drawn_evicts (grown h event) (drawn x) rest after y are.1 none
    (none_more h.journal (entry_of h event) all (main_picked h (drawn_number (drawn x)) event none are.0.pick))

pub seeded_evicts : (before : History) (seed : ℕ) (after : History) → MachineIsSeeded before seed after → before.parameters.evict ≡ 0 → NoneEvicts before.journal → NoneEvicts after.journal
seeded_evicts before seed after seeded none all = drawn_evicts before seed seeded.events after seeded.last seeded.drawn_are none all
