-- A log whose stamps ascend is read on to its first event at or behind a stamp.
use Rattle.std.proofs.Common.{◌≡◌, ℕ, ◌≤◌, ◌<◌, cond, Bool, Option, Some, None, option_to_list, List, [], ◌∷◌, ◌++◌, length, refl, sym, subst, ap, ◌∙◌, arith}
use Rattle.std.specs.List.{AllByRecursion}
use Rattle.std.specs.Option.{option_map}
use Rattle.std.proofs.lemmas.Bool.{le-leb, lt-leb}
use Rattle.std.proofs.lemmas.Option.{same_Some}
use Rattle.alw_msg.specs.declared.events.Entry.{Entry}
use Rattle.alw_msg.specs.Lists.{front, behind}
use Rattle.alw_model.specs.Threads.{Logged}
use Rattle.alw_cells.specs.Logs.{Reading, after_next, entry_of}
use Rattle.alw_cells.specs.Records.{Ascends}
use Rattle.alw_merge.specs.Spans.{log_from}
use Rattle.alw_merge.specs.Streams.{left_of}

-- ---- the next event is given

-- all that was left is left then
pub next_left : (left : List Logged) → option_to_list (front left) ++ behind left ≡ left
next_left [] = refl
next_left (first ∷ rest) = refl

-- nothing is left then where none is given
pub next_ends : (left : List Logged) → front left ≡ None → behind left ≡ []
next_ends [] none = refl
next_ends (first ∷ rest) none = absurd (cc)

-- the stamps behind the event given last ascend
later_ascends : (given : Option Logged) (left : List Logged) → Ascends (option_to_list given ++ left) → Ascends left
later_ascends None left ascends = ascends
later_ascends (Some first) left ascends = ascends.1

-- so do those of what is left then
pub next_ascends : (reading : Reading) → Ascends (left_of reading) → Ascends (left_of (after_next reading))
next_ascends reading ascends = subst Ascends (sym (next_left reading.left)) (later_ascends reading.given reading.left ascends)

-- ---- up to a stamp

-- all of a log is behind a stamp where its stamps are above one that is
all_from : (stamp above : ℕ) (log : List Logged) → stamp ≤ above → AllByRecursion (λ (later : Logged). above < later.entry.stamp) log → log ≡ log_from stamp log
all_from stamp above [] from all = refl
all_from stamp above (first ∷ rest) from all =
    let first_from : stamp ≤ first.entry.stamp = omega (arith, from, all.0) in
    ap (λ (log : List Logged). first ∷ log) (all_from stamp above rest from all.1)
    ∙ sym (ap (λ (b : Bool). cond b (first ∷ log_from stamp rest) (log_from stamp rest)) (le-leb stamp first.entry.stamp first_from))

-- from its first event on, where that is
from_first : (stamp : ℕ) (given : Option Logged) (left : List Logged) (next : Entry) → Some next ≡ option_map entry_of given → stamp ≤ next.stamp
    → Ascends (option_to_list given ++ left) → option_to_list given ++ left ≡ log_from stamp (option_to_list given ++ left)
from_first stamp None left next is from ascends = absurd (cc)
from_first stamp (Some first) left next is from ascends =
    let first_from : stamp ≤ first.entry.stamp = omega (arith, from, ap (λ (e : Entry). e.stamp) (same_Some next first.entry is)) in
    ap (λ (log : List Logged). first ∷ log) (all_from stamp first.entry.stamp left first_from ascends.0)
    ∙ sym (ap (λ (b : Bool). cond b (first ∷ log_from stamp left) (log_from stamp left)) (le-leb stamp first.entry.stamp first_from))

-- without its first event, where that isn't
without_first : (stamp : ℕ) (given : Option Logged) (left : List Logged) (next : Entry) → Some next ≡ option_map entry_of given → next.stamp < stamp
    → log_from stamp left ≡ log_from stamp (option_to_list given ++ left)
without_first stamp None left next is below = absurd (cc)
without_first stamp (Some first) left next is below =
    let first_below : first.entry.stamp < stamp = omega (arith, below, ap (λ (e : Entry). e.stamp) (same_Some next first.entry is)) in
    sym (ap (λ (b : Bool). cond b (first ∷ log_from stamp left) (log_from stamp left)) (lt-leb stamp first.entry.stamp first_below))

-- a log is read on to a stamp: of what is left of it, the same events are from the stamp on
pub record IsSkipping (stamp : ℕ) (log : List Logged) (reading : Reading) (entry : Option Entry) : Type 0 where
  pub entry_is : entry ≡ option_map entry_of reading.given
  pub ends : reading.given ≡ None → reading.left ≡ []
  pub ascends : Ascends (left_of reading)
  pub same : log_from stamp (left_of reading) ≡ log_from stamp log

-- its first event is given
pub skipping_begins : {stamp : ℕ} (reading : Reading) {after : Reading} {entry : Option Entry} → Ascends reading.left → after ≡ after_next reading
    → entry ≡ option_map entry_of (front reading.left) → IsSkipping stamp reading.left after entry
skipping_begins {stamp} reading {after} {entry} ascends after_is entry_is =
    subst (λ (r : Reading). IsSkipping stamp reading.left r entry) (sym after_is) (record {
      entry_is = entry_is;
      ends = next_ends reading.left;
      ascends = subst Ascends (sym (next_left reading.left)) ascends;
      same = ap (log_from stamp) (next_left reading.left);
    })

-- one more is given behind one that is below the stamp
pub skips_on : {stamp : ℕ} {log : List Logged} {reading after : Reading} {entry entry' : Option Entry} {next : Entry} → IsSkipping stamp log reading entry → entry ≡ Some next
    → next.stamp < stamp → after ≡ after_next reading → entry' ≡ option_map entry_of (front reading.left) → IsSkipping stamp log after entry'
skips_on {stamp} {log} {reading} {after} {entry} {entry'} {next} was some below after_is entry_is =
    subst (λ (r : Reading). IsSkipping stamp log r entry') (sym after_is) (record {
      entry_is = entry_is;
      ends = next_ends reading.left;
      ascends = next_ascends reading was.ascends;
      same = ap (log_from stamp) (next_left reading.left)
          ∙ (without_first stamp reading.given reading.left next (sym some ∙ was.entry_is) below ∙ was.same);
    })

-- less is left then
pub skips_less : {stamp : ℕ} {log : List Logged} {reading after : Reading} {entry : Option Entry} {next : Entry} → IsSkipping stamp log reading entry → entry ≡ Some next
    → after ≡ after_next reading → length (left_of after) < length (left_of reading)
skips_less {stamp} {log} {reading} {after} {entry} {next} was some after_is =
    let left : length (left_of after) ≡ length reading.left = ap (λ (r : Reading). length (left_of r)) after_is ∙ ap length (next_left reading.left) in
    omega (arith, left, one_less reading.given reading.left (sym some ∙ was.entry_is))
  where
    one_less : (given : Option Logged) (left : List Logged) → Some next ≡ option_map entry_of given → length left < length (option_to_list given ++ left)
    one_less None left is = absurd (cc)
    one_less (Some first) left is = omega arith

-- one at the stamp or behind it begins what is left from there on
pub skipped_to : {stamp : ℕ} {log : List Logged} {reading : Reading} {entry : Option Entry} {next : Entry} → IsSkipping stamp log reading entry → entry ≡ Some next
    → stamp ≤ next.stamp → left_of reading ≡ log_from stamp log
skipped_to {stamp} {log} {reading} {entry} {next} was some from =
    from_first stamp reading.given reading.left next (sym some ∙ was.entry_is) from was.ascends ∙ was.same

-- none is left from there on where none is given
pub skipped_all : {stamp : ℕ} {log : List Logged} {reading : Reading} {entry : Option Entry} → IsSkipping stamp log reading entry → entry ≡ None → left_of reading ≡ log_from stamp log
skipped_all {stamp} {log} {reading} {entry} was none = nothing reading.given (sym none ∙ was.entry_is) was.ends was.same
  where
    nothing : (given : Option Logged) → None ≡ option_map entry_of given → (given ≡ None → reading.left ≡ [])
        → log_from stamp (option_to_list given ++ reading.left) ≡ log_from stamp log → option_to_list given ++ reading.left ≡ log_from stamp log
    nothing None is ends same = ends refl ∙ (sym (ap (log_from stamp) (ends refl)) ∙ same)
    nothing (Some first) is ends same = absurd (cc)
