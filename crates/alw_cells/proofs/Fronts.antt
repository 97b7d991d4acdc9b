-- Links that agree: what was taken is a front of what was sent, event by event and link by link.
use Rattle.std.proofs.Common.{◌≡◌, ◌↔◌, ℕ, zero, suc, Option, Some, List, [], ◌∷◌, ◌++◌, slice_get, sym, subst, ap, ◌∙◌, append_assoc}
use Rattle.std.specs.Option.{option_map}
use Rattle.std.proofs.lemmas.Option.{same_Some}
use Rattle.alw_msg.specs.declared.messages.Msg.{Msg}
use Rattle.alw_msg.specs.declared.events.Entry.{Entry}
use Rattle.alw_msg.specs.Lists.{front, behind}
use Rattle.alw_model.specs.Threads.{Logged, took_from, sent_to, log_at, IsFront}
use Rattle.alw_cells.specs.Logs.{Written, logged, Agrees, Reading, after_next, taken_of, entry_of}
use Rattle.alw_cells.specs.Receiving.{took_by}

-- ---- event by event

cancel : (some first second : List Msg) → some ++ first ≡ some ++ second → first ≡ second
cancel [] first second is = is
cancel (msg ∷ some) first second is = cancel some first second (ap behind is)

behind_both : (some took sent : List Msg) → IsFront (some ++ took) (some ++ sent) ↔ IsFront took sent
behind_both some took sent = (
  λ (rest, is). (rest, cancel some (took ++ rest) sent (sym (append_assoc some took rest) ∙ is)),
  λ (rest, is). (rest, append_assoc some took rest ∙ ap (λ (xs : List Msg). some ++ xs) is),
)

-- what is left before an event is read, and after
took_next : (number : ℕ) (before after : Reading) (entry : Entry) (taken : Option Msg) → Some entry ≡ option_map entry_of (front before.left)
    → after ≡ after_next before → taken ≡ taken_of after.given
    → took_from number before.left ≡ took_by number entry.event taken ++ took_from number after.left
took_next number before after entry taken entry_is after_is taken_is =
    go before.left entry_is (taken_is ∙ ap (λ (r : Reading). taken_of r.given) after_is)
    ∙ ap (λ (r : Reading). took_by number entry.event taken ++ took_from number r.left) (sym after_is)
  where
    go : (left : List Logged) → Some entry ≡ option_map entry_of (front left) → taken ≡ taken_of (front left)
        → took_from number left ≡ took_by number entry.event taken ++ took_from number (behind left)
    go [] none same = absurd (cc)
    go (first ∷ rest) is same =
        let first_is : entry ≡ first.entry = same_Some entry first.entry is in
        λ x. took_by number (sym first_is x).event (sym same x) ++ took_from number rest

-- an event is read, and what it took is the next that was sent: what is left agrees where all agrees
pub goes_on : (Whole : Type 0) (number : ℕ) (before after : Reading) (entry : Entry) (taken : Option Msg) (sent left : List Msg)
    → Whole ↔ IsFront (took_from number before.left) sent
    → Some entry ≡ option_map entry_of (front before.left) → after ≡ after_next before → taken ≡ taken_of after.given
    → sent ≡ took_by number entry.event taken ++ left
    → Whole ↔ IsFront (took_from number after.left) left
goes_on Whole number before after entry taken sent left so_far entry_is after_is taken_is sent_is =
    let own = took_by number entry.event taken in
    let here : IsFront (took_from number before.left) sent ≡ IsFront (own ++ took_from number after.left) (own ++ left) =
    λ x. IsFront (took_next number before after entry taken entry_is after_is taken_is x) (sent_is x) in
    let both = behind_both own (took_from number after.left) left in
    (λ whole. both.0 (subst (λ (P : Type 0). P) here (so_far.0 whole)), λ agrees. so_far.1 (subst (λ (P : Type 0). P) (sym here) (both.1 agrees)))

-- or it isn't
pub goes_wrong : (Whole : Type 0) (number : ℕ) (before after : Reading) (entry : Entry) (taken : Option Msg) (sent : List Msg)
    → Whole ↔ IsFront (took_from number before.left) sent
    → Some entry ≡ option_map entry_of (front before.left) → after ≡ after_next before → taken ≡ taken_of after.given
    → ((took : List Msg) → IsFront (took_by number entry.event taken ++ took) sent → ⊥) → Whole → ⊥
goes_wrong Whole number before after entry taken sent so_far entry_is after_is taken_is other whole =
    other (took_from number after.left) (subst (λ (xs : List Msg). IsFront xs sent) (took_next number before after entry taken entry_is after_is taken_is)
    (so_far.0 whole))

-- ---- link by link

log_is : (logs : List Written) (k : ℕ) (log : Written) → slice_get logs k ≡ Some log → log_at (logged logs) k ≡ log.entries
log_is [] k log is = absurd (cc)
log_is (first ∷ rest) zero log is = ap (λ (w : Written). w.entries) (same_Some first log is)
log_is (first ∷ rest) (suc k) log is = log_is rest k log is

pub pair_is : (logs : List Written) (from to : ℕ) (one other : Written) → slice_get logs from ≡ Some one → slice_get logs to ≡ Some other
    → IsFront (took_from from other.entries) (sent_to to one.entries) ↔ Agrees (logged logs) from to
pair_is logs from to one other one_is other_is =
    let both : IsFront (took_from from other.entries) (sent_to to one.entries) ≡ Agrees (logged logs) from to =
    λ x. IsFront (took_from from (sym (log_is logs to other other_is) x)) (sent_to to (sym (log_is logs from one one_is) x)) in
    (subst (λ (P : Type 0). P) both, subst (λ (P : Type 0). P) (sym both))
