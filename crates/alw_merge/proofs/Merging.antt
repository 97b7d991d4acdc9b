-- The first of what is left of logs whose stamps ascend is the least head, and without it the rest is left.
use Rattle.std.proofs.Common.{◌≡◌, ℕ, zero, suc, ◌+◌, ◌*◌, ◌≤◌, ◌<◌, ◌==◌, ◌&&◌, ◌||◌, nat_lt, Bool, true, false, cond, Option, Some, None, option_to_list, List}
use Rattle.std.proofs.Common.{[], ◌∷◌, ◌++◌, map, flat_map, length, take, slice_get, set, refl, sym, subst, ap, ◌∙◌, append_assoc, arith}
use Rattle.std.specs.List.{AllByRecursion}
use Rattle.std.specs.Prelude.{IfSome}
use Rattle.std.specs.Option.{option_map}
use Rattle.std.proofs.lemmas.List.{length-set, length-append, map-append}
use Rattle.alw_num.specs.Weights.{digit, weigh}
use Rattle.alw_num.proofs.Weigh.{weigh-append, weigh-one}
use Rattle.std.proofs.lemmas.Bool.{eqb-true}
use Rattle.std.proofs.lemmas.Bool.Decides.{nat_tests}
use Rattle.std.proofs.lemmas.Option.{same_Some}
use Rattle.alw_msg.specs.declared.events.Entry.{Entry}
use Rattle.alw_msg.specs.Events.{node_of}
use Rattle.alw_model.specs.Threads.{Logged, is_before, placed, in_order, merged}
use Rattle.alw_msg.specs.Lists.{front, behind}
use Rattle.alw_cells.specs.Logs.{Written, logged, Reading, after_next, entry_of}
use Rattle.alw_cells.specs.Records.{Ascends}
use Rattle.alw_merge.specs.Heads.{Waiting, NoneBefore, IsLeast, HaveJoined}
use Rattle.alw_merge.specs.Spans.{log_from, logs_from}
use Rattle.alw_merge.specs.Streams.{left_of, all_left, key_of, head_in, heads_from, LogIsRead, AreHeads, StreamIsUnderWay, heads_of, ReadingGoesOn}
use Rattle.alw_merge.proofs.Skipping.{next_ends, next_ascends}

-- ---- one entry taken out of others

all_placed : (P : Entry → Type 0) (one : Entry) (entries : List Entry) → P one → AllByRecursion P entries → AllByRecursion P (placed one entries)
all_placed P one [] here all = (here, tt)
all_placed P one (first ∷ rest) here all = go (is_before first one) (all_placed P one rest here all.1)
  where
    go : (b : Bool) → AllByRecursion P (placed one rest) → AllByRecursion P (cond b (first ∷ placed one rest) (one ∷ first ∷ rest))
    go true deep = (all.0, deep)
    go false deep = (here, all)

all_ordered : (P : Entry → Type 0) (entries : List Entry) → AllByRecursion P entries → AllByRecursion P (in_order entries)
all_ordered P [] all = tt
all_ordered P (entry ∷ rest) all = all_placed P entry (in_order rest) all.0 (all_ordered P rest all.1)

put_first : (one : Entry) (entries : List Entry) → AllByRecursion (λ (e : Entry). is_before e one ≡ false) entries → placed one entries ≡ one ∷ entries
put_first one [] all = refl
put_first one (first ∷ rest) all = ap (λ b. cond b (first ∷ placed one rest) (one ∷ first ∷ rest)) all.0

-- the entry comes before those in front of it, and none behind it comes before it
pulled : (before after : List Entry) (one : Entry) → AllByRecursion (λ (e : Entry). is_before one e ≡ true) before
    → AllByRecursion (λ (e : Entry). is_before e one ≡ false) after
    → in_order (before ++ one ∷ after) ≡ one ∷ in_order (before ++ after)
pulled [] after one early late = put_first one (in_order after) (all_ordered (λ (e : Entry). is_before e one ≡ false) after late)
pulled (first ∷ before) after one early late =
    ap (placed first) (pulled before after one early.1 late) ∙ ap (λ b. cond b (one ∷ placed first (in_order (before ++ after)))
    (first ∷ one ∷ in_order (before ++ after))) early.0

-- ---- the least head

none_counted : (least : ℕ) (heads : List ℕ) → NoneBefore least heads → weigh (λ (head : ℕ). digit (nat_lt head least)) heads ≡ 0
none_counted least [] none = refl
none_counted least (first ∷ rest) none =
    let here : digit (nat_lt first least) ≡ 0 = ap digit none.0 in
    omega (arith, none_counted least rest none.1, here)

not_counted : (least : ℕ) (heads : List ℕ) → weigh (λ (head : ℕ). digit (nat_lt head least)) heads ≡ 0 → NoneBefore least heads
not_counted least [] none = tt
not_counted least (first ∷ rest) none = (go (nat_lt first least) (omega (arith, none)), not_counted least rest (omega (arith, none)))
  where
    go : (b : Bool) → digit b ≡ 0 → b ≡ false
    go true is = absurd (omega (arith, is))
    go false is = refl

least_is : (readings : List Reading) (heads : List ℕ) (least : ℕ) → AreHeads readings heads → NoneBefore least heads → NoneBefore least (heads_from 0 readings)
least_is readings heads least are none = not_counted least (heads_from 0 readings)
    (sym (are (λ (head : ℕ). digit (nat_lt head least))) ∙ none_counted least heads none)

-- ---- it is a log's

-- the log at a place, whose head is this one
pub record IsOf (head : ℕ) (readings : List Reading) (at k : ℕ) (reading : Reading) (logged : Logged) : Type 0 where
  pub there : slice_get readings k ≡ Some reading
  pub given : reading.given ≡ Some logged
  pub key : head ≡ key_of (at + k) logged.entry

pub record HasOf (head : ℕ) (readings : List Reading) (at : ℕ) : Type 0 where
  pub k : ℕ
  pub reading : Reading
  pub logged : Logged
  pub is : IsOf head readings at k reading logged

found : (head : ℕ) (readings : List Reading) (at : ℕ) → 1 ≤ weigh (λ (one : ℕ). digit (one == head)) (heads_from at readings)
    → HasOf head readings at
found head [] at some = absurd (omega (arith, some))
found head (reading ∷ rest) at some = by_given reading.given refl (λ more. deeper (found head rest (suc at) more)) some
  where
    deeper : HasOf head rest (suc at) → HasOf head (reading ∷ rest) at
    deeper has =
        let place : suc at + has.k ≡ at + suc has.k = omega arith in
        record {
          k = suc has.k;
          reading = has.reading;
          logged = has.logged;
          is = record { there = has.is.there; given = has.is.given; key = subst (λ (n : ℕ). head ≡ key_of n has.logged.entry) place has.is.key };
        }

    by_test : (logged : Logged) → reading.given ≡ Some logged → (b : Bool) → (key_of at logged.entry == head) ≡ b
        → (1 ≤ weigh (λ (one : ℕ). digit (one == head)) (heads_from (suc at) rest) → HasOf head (reading ∷ rest) at)
        → 1 ≤ digit b + weigh (λ (one : ℕ). digit (one == head)) (heads_from (suc at) rest) → HasOf head (reading ∷ rest) at
    by_test logged given true same later some =
        let place : at ≡ at + 0 = omega arith in
        record {
          k = 0;
          reading = reading;
          logged = logged;
          is = record {
            there = refl;
            given = given;
            key = subst (λ (n : ℕ). head ≡ key_of n logged.entry) place (sym (eqb-true (key_of at logged.entry) head same));
          };
        }
    by_test logged given false same later some = later (omega (arith, some))

    by_given : (o : Option Logged) → reading.given ≡ o → (1 ≤ weigh (λ (one : ℕ). digit (one == head)) (heads_from (suc at) rest)
        → HasOf head (reading ∷ rest) at)
        → 1 ≤ weigh (λ (one : ℕ). digit (one == head)) (head_in at o ++ heads_from (suc at) rest) → HasOf head (reading ∷ rest) at
    by_given None given later some = later some
    by_given (Some logged) given later some = by_test logged given (key_of at logged.entry == head) refl later some

head_found : (readings : List Reading) (heads : List ℕ) (head : ℕ) → AreHeads readings heads → 1 ≤ weigh (λ (one : ℕ). digit (one == head)) heads → HasOf head readings 0
head_found readings heads head are among = found head readings 0 (omega (arith, are (λ one. digit (one == head)), among))

-- ---- what is left without it

-- an entry at a place among logs, beside the least head, which is of another log or stands in front of it
abbrev comes_before : ℕ → ℕ → ℕ → ℕ → Bool
comes_before s n t m = nat_lt s t || (s == t && nat_lt n m)

-- the number of a head that isn't below another's, as stamps, nodes and places say it
later_key : (s n i t m j : ℕ) → nat_lt ((s * 65536 + n) * 65536 + i) ((t * 65536 + m) * 65536 + j) ≡ false → n < 65536 → i < 65536 → j ≤ i → comes_before s n t m ≡ false
later_key s n i t m j none node log place = grind (arith, nat_tests)

earlier_key : (s n i t m j : ℕ) → nat_lt ((s * 65536 + n) * 65536 + i) ((t * 65536 + m) * 65536 + j) ≡ false → n < 65536 → i < 65536 → i < j → comes_before t m s n ≡ true
earlier_key s n i t m j none node log place = grind (arith, nat_tests)

first_stamp : (s n i t m j : ℕ) → nat_lt ((s * 65536 + n) * 65536 + i) ((t * 65536 + m) * 65536 + j) ≡ false → n < 65536 → i < 65536 → t ≤ s
first_stamp s n i t m j none node log = grind (arith, nat_tests)

later_stamp : (s n t m : ℕ) → t < s → comes_before s n t m ≡ false
later_stamp s n t m above = grind (arith, nat_tests)

earlier_stamp : (s n t m : ℕ) → t < s → comes_before t m s n ≡ true
earlier_stamp s n t m above = grind (arith, nat_tests)

abbrev entries_in : List Logged → List Entry
entries_in log = map entry_of log

-- the events of a log whose stamps are above another's
all_later : (one : Logged) (stamp : ℕ) (rest : List Logged) → one.entry.stamp ≤ stamp → AllByRecursion (λ (later : Logged). stamp < later.entry.stamp) rest
    → AllByRecursion (λ (e : Entry). is_before e one.entry ≡ false) (entries_in rest)
all_later one stamp [] above all = tt
all_later one stamp (first ∷ rest) above all = (
  later_stamp first.entry.stamp (node_of first.entry.event) one.entry.stamp (node_of one.entry.event)
      (omega (arith, above, all.0)),
  all_later one stamp rest above all.1,
)

all_earlier : (one : Logged) (stamp : ℕ) (rest : List Logged) → one.entry.stamp ≤ stamp → AllByRecursion (λ (later : Logged). stamp < later.entry.stamp) rest
    → AllByRecursion (λ (e : Entry). is_before one.entry e ≡ true) (entries_in rest)
all_earlier one stamp [] above all = tt
all_earlier one stamp (first ∷ rest) above all = (
  earlier_stamp first.entry.stamp (node_of first.entry.event) one.entry.stamp (node_of one.entry.event)
      (omega (arith, above, all.0)),
  all_earlier one stamp rest above all.1,
)

abbrev entries_left : List Reading → List Entry
entries_left readings = flat_map (λ (reading : Reading). map entry_of (left_of reading)) readings

all_both : (P : Entry → Type 0) (first second : List Entry) → AllByRecursion P first → AllByRecursion P second → AllByRecursion P (first ++ second)
all_both P [] second all other = other
all_both P (entry ∷ first) second all other = (all.0, all_both P first second all.1 other)

abbrev pub HasNode : Option Logged → Type 0
HasNode given = IfSome given (λ logged. node_of (entry_of logged).event < 65536)

module _ (one : Logged) (log : ℕ) where
  abbrev least : ℕ
  least = key_of log one.entry

  -- what is left of a log that stands behind, or in front
  log_behind : (reading : Reading) (at : ℕ) → log ≤ at → at < 65536 → LogIsRead reading → NoneBefore least (head_in at reading.given)
      → AllByRecursion (λ (e : Entry). is_before e one.entry ≡ false) (entries_in (left_of reading))
  log_behind reading at place few is none = go reading.given is.ends is.ascends is.node none
    where
      go : (given : Option Logged) → (given ≡ None → reading.left ≡ []) → Ascends (option_to_list given ++ reading.left) → HasNode given → NoneBefore least (head_in at given)
          → AllByRecursion (λ (e : Entry). is_before e one.entry ≡ false) (entries_in (option_to_list given ++ reading.left))
      go None ends ascends node none = subst (λ (left : List Logged). AllByRecursion (λ (e : Entry). is_before e one.entry ≡ false) (entries_in left))
          (sym (ends refl)) tt
      go (Some first) ends ascends node none = (
        later_key first.entry.stamp (node_of first.entry.event) at one.entry.stamp (node_of one.entry.event) log none.0 node few place,
        all_later one first.entry.stamp reading.left (first_stamp first.entry.stamp (node_of first.entry.event) at one.entry.stamp
            (node_of one.entry.event) log none.0 node few) ascends.0,
      )

  log_before : (reading : Reading) (at : ℕ) → at < log → at < 65536 → LogIsRead reading → NoneBefore least (head_in at reading.given)
      → AllByRecursion (λ (e : Entry). is_before one.entry e ≡ true) (entries_in (left_of reading))
  log_before reading at place few is none = go reading.given is.ends is.ascends is.node none
    where
      go : (given : Option Logged) → (given ≡ None → reading.left ≡ []) → Ascends (option_to_list given ++ reading.left) → HasNode given → NoneBefore least (head_in at given)
          → AllByRecursion (λ (e : Entry). is_before one.entry e ≡ true) (entries_in (option_to_list given ++ reading.left))
      go None ends ascends node none = subst (λ (left : List Logged). AllByRecursion (λ (e : Entry). is_before one.entry e ≡ true) (entries_in left))
          (sym (ends refl)) tt
      go (Some first) ends ascends node none = (
        earlier_key first.entry.stamp (node_of first.entry.event) at one.entry.stamp (node_of one.entry.event) log none.0 node few place,
        all_earlier one first.entry.stamp reading.left (first_stamp first.entry.stamp (node_of first.entry.event) at one.entry.stamp
            (node_of one.entry.event) log none.0 node few) ascends.0,
      )

  none_rest : (given : Option Logged) (at : ℕ) (heads : List ℕ) → NoneBefore least (head_in at given ++ heads)
      → NoneBefore least (head_in at given) × NoneBefore least heads
  none_rest None at heads none = (tt, none)
  none_rest (Some first) at heads none = ((none.0, tt), none.1)

  logs_behind : (readings : List Reading) (at : ℕ) → log ≤ at → at + length readings ≤ 65536 → AllByRecursion LogIsRead readings → NoneBefore least (heads_from at readings)
      → AllByRecursion (λ (e : Entry). is_before e one.entry ≡ false) (entries_left readings)
  logs_behind [] at place few are none = tt
  logs_behind (reading ∷ rest) at place few are none =
      let both = none_rest reading.given at (heads_from (suc at) rest) none in
      all_both (λ (e : Entry). is_before e one.entry ≡ false) (entries_in (left_of reading)) (entries_left rest) (log_behind reading at place (omega (arith, few)) are.0 both.0)
      (logs_behind rest (suc at) (omega (arith, place)) (omega (arith, few)) are.1 both.1)

  -- the entries in front of it and behind it
  pub record IsTakenOut (readings after : List Reading) : Type 0 where
    pub before : List Entry
    pub behind : List Entry
    pub whole : entries_left readings ≡ before ++ one.entry ∷ behind
    pub rest : entries_left after ≡ before ++ behind
    pub early : AllByRecursion (λ (e : Entry). is_before one.entry e ≡ true) before
    pub late : AllByRecursion (λ (e : Entry). is_before e one.entry ≡ false) behind

  taken_out : (readings : List Reading) (at k : ℕ) (reading : Reading) → log ≡ at + k → at + length readings ≤ 65536 → slice_get readings k ≡ Some reading → reading.given ≡ Some one
      → AllByRecursion LogIsRead readings → NoneBefore least (heads_from at readings)
      → IsTakenOut readings (set readings k (after_next reading))
  taken_out [] at k reading place few there given are none = absurd (cc)
  taken_out (first ∷ rest) at zero reading place few there given are none =
      let same : first ≡ reading = same_Some first reading there in
      let its : left_of first ≡ one ∷ reading.left = (λ x. option_to_list (same x).given ++ (same x).left)
      ∙ ap (λ (o : Option Logged). option_to_list o ++ reading.left) given in
      let ascends : Ascends (one ∷ reading.left) = subst Ascends its are.0.ascends in
      let next : left_of (after_next reading) ≡ reading.left = stays reading.left in
      let both = none_rest first.given at (heads_from (suc at) rest) none in
      record {
        before = [];
        behind = entries_in reading.left ++ entries_left rest;
        whole = ap (λ (left : List Logged). entries_in left ++ entries_left rest) its;
        rest = ap (λ (left : List Logged). entries_in left ++ entries_left rest) next;
        early = tt;
        late = all_both (λ (e : Entry). is_before e one.entry ≡ false) (entries_in reading.left) (entries_left rest)
            (all_later one one.entry.stamp reading.left (omega arith) ascends.0)
            (logs_behind rest (suc at) (omega (arith, place)) (omega (arith, few)) are.1 both.1);
      }
    where
      stays : (left : List Logged) → option_to_list (front left) ++ behind left ≡ left
      stays [] = refl
      stays (one ∷ rest) = refl
  taken_out (first ∷ rest) at (suc k) reading place few there given are none =
      let both = none_rest first.given at (heads_from (suc at) rest) none in
      let deeper = taken_out rest (suc at) k reading (omega (arith, place)) (omega (arith, few)) there given are.1 both.1 in
      let own = entries_in (left_of first) in
      record {
        before = own ++ deeper.before;
        behind = deeper.behind;
        whole = ap (λ (entries : List Entry). own ++ entries) deeper.whole ∙ sym (append_assoc own deeper.before (one.entry ∷ deeper.behind));
        rest = ap (λ (entries : List Entry). own ++ entries) deeper.rest ∙ sym (append_assoc own deeper.before deeper.behind);
        early = all_both (λ (e : Entry). is_before one.entry e ≡ true) own deeper.before (log_before first at (omega (arith, place)) (omega (arith, few)) are.0 both.0) deeper.early;
        late = deeper.late;
      }

-- the merge without its first
goes_on : (readings : List Reading) (heads : List ℕ) (head : ℕ) (k : ℕ) (reading : Reading) (one : Logged)
    → IsOf head readings 0 k reading one → AreHeads readings heads → NoneBefore head heads → AllByRecursion LogIsRead readings → length readings ≤ 65536
    → all_left readings ≡ one.entry ∷ all_left (set readings k (after_next reading))
goes_on readings heads head k reading one is are bound read few =
    let place : 0 + k ≡ k = omega arith in
    let key : head ≡ key_of k one.entry = is.key ∙ ap (λ (n : ℕ). key_of n one.entry) place in
    let none : NoneBefore (key_of k one.entry) (heads_from 0 readings) =
    subst (λ (h : ℕ). NoneBefore h (heads_from 0 readings)) key (least_is readings heads head are bound) in
    let out = taken_out one k readings 0 k reading (omega arith) (omega (arith, few)) is.there is.given read none in
    ap in_order out.whole ∙ (pulled out.before out.behind one.entry out.early out.late
    ∙ ap (λ (entries : List Entry). one.entry ∷ in_order entries) (sym out.rest))

-- ---- the logs and their heads behind it

heads_set : (f : ℕ → ℕ) (readings : List Reading) (at k : ℕ) (reading after : Reading) → slice_get readings k ≡ Some reading
    → weigh f (heads_from at (set readings k after)) + weigh f (head_in (at + k) reading.given) ≡ weigh f (heads_from at readings) + weigh f
    (head_in (at + k) after.given)
heads_set f [] at k reading after there = absurd (cc)
heads_set f (first ∷ rest) at zero reading after there =
    let same : first.given ≡ reading.given = ap (λ (r : Reading). r.given) (same_Some first reading there) in
    let place : at + 0 ≡ at = omega arith in
    let own : weigh f (head_in at first.given) ≡ weigh f (head_in (at + 0) reading.given) = λ x. weigh f (head_in (sym place x) (same x)) in
    let its : weigh f (head_in at after.given) ≡ weigh f (head_in (at + 0) after.given) = λ x. weigh f (head_in (sym place x) after.given) in
    omega (
      arith,
      own,
      its,
      weigh-append f (head_in at first.given) (heads_from (suc at) rest),
      weigh-append f (head_in at after.given)
          (heads_from (suc at) rest),
    )
heads_set f (first ∷ rest) at (suc k) reading after there =
    let deeper = heads_set f rest (suc at) k reading after there in
    let place : suc at + k ≡ at + suc k = omega arith in
    let own : weigh f (head_in (suc at + k) reading.given) ≡ weigh f (head_in (at + suc k) reading.given) = λ x. weigh f (head_in (place x) reading.given) in
    let its : weigh f (head_in (suc at + k) after.given) ≡ weigh f (head_in (at + suc k) after.given) = λ x. weigh f (head_in (place x) after.given) in
    omega (
      arith,
      deeper,
      own,
      its,
      weigh-append f (head_in at first.given) (heads_from (suc at) rest),
      weigh-append f (head_in at first.given)
          (heads_from (suc at) (set rest k after)),
    )

read_set : (readings : List Reading) (k : ℕ) (after : Reading) → AllByRecursion LogIsRead readings → LogIsRead after → AllByRecursion LogIsRead (set readings k after)
read_set [] k after are is = tt
read_set (first ∷ rest) zero after are is = (is, are.1)
read_set (first ∷ rest) (suc k) after are is = (are.0, read_set rest k after are.1 is)

pub read_at : (readings : List Reading) (k : ℕ) (reading : Reading) → slice_get readings k ≡ Some reading → AllByRecursion LogIsRead readings → LogIsRead reading
read_at [] k reading there are = absurd (cc)
read_at (first ∷ rest) zero reading there are = subst LogIsRead (same_Some first reading there) are.0
read_at (first ∷ rest) (suc k) reading there are = read_at rest k reading there are.1

read_next : (reading : Reading) → LogIsRead reading → HasNode (front reading.left) → LogIsRead (after_next reading)
read_next reading is node = record { ends = next_ends reading.left; ascends = next_ascends reading is.ascends; node = node }

pub below : (readings : List Reading) (k : ℕ) (reading : Reading) → slice_get readings k ≡ Some reading → k < length readings
below [] k reading there = absurd (cc)
below (first ∷ rest) zero reading there = omega arith
below (first ∷ rest) (suc k) reading there = omega (arith, below rest k reading there)

-- the log of the head that comes first
pub record HeadStands (readings : List Reading) (head : ℕ) : Type 0 where
  pub k : ℕ
  pub reading : Reading
  pub one : Logged
  pub there : slice_get readings k ≡ Some reading
  pub given : reading.given ≡ Some one
  pub first : all_left readings ≡ one.entry ∷ all_left (set readings k (after_next reading))
  pub key : head ≡ key_of k one.entry
  pub few : k < 65536

pub stands : (readings : List Reading) (waiting : Waiting) (head : ℕ) → StreamIsUnderWay readings waiting → IsLeast head waiting.heads → HeadStands readings head
stands readings waiting head under least =
    let has = head_found readings waiting.heads head under.heads least.among in
    record {
      k = has.k;
      reading = has.reading;
      one = has.logged;
      there = has.is.there;
      given = has.is.given;
      first = goes_on readings waiting.heads head has.k has.reading has.logged has.is under.heads least.first under.read under.few;
      key = has.is.key ∙ ap (λ (n : ℕ). key_of n has.logged.entry) (let e : 0 + has.k ≡ has.k = omega arith in e);
      few = omega (arith, below readings has.k has.reading has.is.there, under.few);
    }

-- without the head of a log, which goes on, and with its next one
pub goes_to_next : (readings : List Reading) (waiting rest again : Waiting) (head : ℕ) (after : Reading) (at : HeadStands readings head) → StreamIsUnderWay readings waiting
    → HaveJoined rest.heads (head ∷ []) waiting.heads → rest.most ≡ waiting.most → ReadingGoesOn at.k at.reading after rest again → StreamIsUnderWay (set readings at.k after) again
goes_to_next readings waiting rest again head after at under popped most goes =
    let same = length-set readings at.k after in
    record {
      heads = λ f.
          let moved = heads_set f readings 0 at.k at.reading after at.there in
          let gone : weigh f (head_in (0 + at.k) at.reading.given) ≡ f head + 0 = own f in
          let come : weigh f (head_in (0 + at.k) after.given) ≡ weigh f (head_in at.k (front at.reading.left)) = its f in
          omega (arith, moved, gone, come, under.heads f, goes.joins f, popped f);
      read = read_set readings at.k after under.read (subst LogIsRead (sym goes.reading_is) (read_next at.reading (read_at readings at.k at.reading at.there under.read) goes.node));
      room = omega (arith, under.room, most, goes.most, same);
      few = omega (arith, under.few, same);
    }
  where
    own : (f : ℕ → ℕ) → weigh f (head_in (0 + at.k) at.reading.given) ≡ f head + 0
    own f =
        let place : 0 + at.k ≡ at.k = omega arith in
        (λ x. weigh f (head_in (place x) (at.given x))) ∙ ap (λ (h : ℕ). f h + 0) (sym at.key)

    its : (f : ℕ → ℕ) → weigh f (head_in (0 + at.k) after.given) ≡ weigh f (head_in at.k (front at.reading.left))
    its f =
        let place : 0 + at.k ≡ at.k = omega arith in
        λ x. weigh f (head_in (place x) (goes.reading_is x).given)

-- there are no more heads than logs
pub heads_few : (readings : List Reading) (heads : List ℕ) → AreHeads readings heads → length heads ≤ length readings
heads_few readings heads are = omega (arith, weigh-one (λ (head : ℕ). 1) (λ head. refl) heads, are (λ (head : ℕ). 1), at_most readings 0)
  where
    at_most : (readings : List Reading) (at : ℕ) → weigh (λ (head : ℕ). 1) (heads_from at readings) ≤ length readings
    at_most [] at = omega arith
    at_most (reading ∷ rest) at = go reading.given (at_most rest (suc at))
      where
        go : (given : Option Logged) → weigh (λ (head : ℕ). 1) (heads_from (suc at) rest) ≤ length rest
            → weigh (λ (head : ℕ). 1) (head_in at given ++ heads_from (suc at) rest) ≤ length (reading ∷ rest)
        go None deeper = omega (arith, deeper)
        go (Some logged) deeper = omega (arith, deeper)

-- without a head nothing is left
pub nothing_left : (readings : List Reading) (heads : List ℕ) → AllByRecursion LogIsRead readings → AreHeads readings heads → heads ≡ [] → all_left readings ≡ []
nothing_left readings heads read are none = ap in_order (nothing readings 0 read (sym (are (λ (head : ℕ). 1)) ∙ ap (weigh (λ (head : ℕ). 1)) none))
  where
    nothing : (readings : List Reading) (at : ℕ) → AllByRecursion LogIsRead readings → weigh (λ (head : ℕ). 1) (heads_from at readings) ≡ 0
        → entries_left readings ≡ []
    nothing [] at are none = refl
    nothing (first ∷ rest) at are none =
        let parts = weigh-append (λ (head : ℕ). 1) (head_in at first.given) (heads_from (suc at) rest) in
        λ x. entries_in (own first.given are.0.ends (omega (arith, parts, none)) x) ++ nothing rest (suc at) are.1 (omega (arith, parts, none)) x
      where
        own : (given : Option Logged) → (given ≡ None → first.left ≡ []) → weigh (λ (head : ℕ). 1) (head_in at given) ≡ 0
            → option_to_list given ++ first.left ≡ []
        own None ends none = ends refl
        own (Some logged) ends none = absurd (omega (arith, none))

-- ---- at the beginning

heads_push : (f : ℕ → ℕ) (readings : List Reading) (at : ℕ) (reading : Reading)
    → weigh f (heads_from at (readings ++ reading ∷ [])) ≡ weigh f (heads_from at readings) + weigh f (head_in (at + length readings) reading.given)
heads_push f [] at reading =
    let place : at + 0 ≡ at = omega arith in
    let own : weigh f (head_in (at + 0) reading.given) ≡ weigh f (head_in at reading.given) = ap (λ n. weigh f (head_in n reading.given)) place in
    omega (arith, own, weigh-append f (head_in at reading.given) [])
heads_push f (first ∷ rest) at reading =
    let place : at + length (first ∷ rest) ≡ suc at + length rest = omega arith in
    let own : weigh f (head_in (at + length (first ∷ rest)) reading.given) ≡ weigh f (head_in (suc at + length rest) reading.given) =
    ap (λ n. weigh f (head_in n reading.given)) place in
    omega (
      arith,
      own,
      heads_push f rest (suc at) reading,
      weigh-append f (head_in at first.given)
          (heads_from (suc at) (rest ++ reading ∷ [])),
      weigh-append f (head_in at first.given) (heads_from (suc at) rest),
    )

read_push : (readings : List Reading) (reading : Reading) → AllByRecursion LogIsRead readings → LogIsRead reading → AllByRecursion LogIsRead (readings ++ reading ∷ [])
read_push [] reading are is = (is, tt)
read_push (first ∷ rest) reading are is = (are.0, read_push rest reading are.1 is)

head_there : (f : ℕ → ℕ) (log : ℕ) (o : Option Logged) → weigh f (head_in log o) ≡ weigh f (heads_of log (option_map entry_of o))
head_there f log None = refl
head_there f log (Some logged) = refl

-- what the entry of the event given last says of it
node_of_given : (given : Option Logged) (entry : Option Entry) → entry ≡ option_map entry_of given → IfSome entry (λ e. node_of e.event < 65536) → HasNode given
node_of_given None entry is node = tt
node_of_given (Some logged) entry is node = subst (λ (o : Option Entry). IfSome o (λ e. node_of e.event < 65536)) is node

-- one log more, of which an event has been given, if there is one
pub one_more : (readings : List Reading) (waiting again : Waiting) (reading : Reading) (entry : Option Entry) → StreamIsUnderWay readings waiting
    → (reading.given ≡ None → reading.left ≡ []) → Ascends (left_of reading) → entry ≡ option_map entry_of reading.given → IfSome entry (λ e. node_of e.event < 65536)
    → HaveJoined waiting.heads (heads_of (length readings) entry) again.heads → again.most ≡ waiting.most → length readings + 1 ≤ waiting.most → length readings + 1 ≤ 65536
    → StreamIsUnderWay (readings ++ reading ∷ []) again
one_more readings waiting again reading entry under ends ascends entry_is node joins most room few =
    let same = length-append readings (reading ∷ []) in
    record {
      heads = λ f. omega (arith, heads_push f readings 0 reading, own f, under.heads f, joins f);
      read = read_push readings reading under.read (record { ends = ends; ascends = ascends; node = node_of_given reading.given entry entry_is node });
      room = omega (arith, same, room, most);
      few = omega (arith, same, few);
    }
  where
    own : (f : ℕ → ℕ) → weigh f (head_in (0 + length readings) reading.given) ≡ weigh f (heads_of (length readings) entry)
    own f =
        let place : 0 + length readings ≡ length readings = omega arith in
        ap (λ (n : ℕ). weigh f (head_in n reading.given)) place
        ∙ (head_there f (length readings) reading.given ∙ sym (ap (λ (o : Option Entry). weigh f (heads_of (length readings) o)) entry_is))

entries_by : (readings : List Reading) → entries_left readings ≡ flat_map (map entry_of) (map left_of readings)
entries_by [] = refl
entries_by (first ∷ rest) = ap (λ (entries : List Entry). map entry_of (left_of first) ++ entries) (entries_by rest)

take_next : (logs : List Written) (at : ℕ) (log : Written) → slice_get logs at ≡ Some log → take (at + 1) logs ≡ take at logs ++ log ∷ []
take_next [] at log is = absurd (cc)
take_next (first ∷ rest) zero log is = ap (λ (one : Written). one ∷ []) (same_Some first log is)
take_next (first ∷ rest) (suc at) log is = let e : suc at + 1 ≡ suc (at + 1) =
    omega arith in rw e (ap (λ (xs : List Written). first ∷ xs) (take_next rest at log is))

-- of one log more, what is left is from the stamp on
pub lefts_more : (stamp : ℕ) (readings : List Reading) (logs : List Written) (at : ℕ) (log : Written) (reading : Reading)
    → map left_of readings ≡ logs_from stamp (logged (take at logs)) → slice_get logs at ≡ Some log → left_of reading ≡ log_from stamp log.entries
    → map left_of (readings ++ reading ∷ []) ≡ logs_from stamp (logged (take (at + 1) logs))
lefts_more stamp readings logs at log reading so_far there left_is =
    map-append left_of readings (reading ∷ []) ∙ ((λ x. so_far x ++ left_is x ∷ [])
    ∙ (sym (map-append (log_from stamp) (logged (take at logs)) (log.entries ∷ []))
    ∙ (sym (ap (logs_from stamp) (map-append (λ (one : Written). one.entries) (take at logs) (log ∷ [])))
    ∙ ap (λ (all : List Written). logs_from stamp (logged all)) (sym (take_next logs at log there)))))

-- what is left of all logs, merged
pub left_merged : (readings : List Reading) → all_left readings ≡ merged (map left_of readings)
unfolding merged
left_merged readings = ap in_order (entries_by readings)
