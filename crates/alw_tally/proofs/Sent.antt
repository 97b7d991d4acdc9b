-- The messages of an event are counted one by one.
use Rattle.std.proofs.Common.{◌≡◌, ℕ, ◌+◌, ◌*◌, ◌<◌, ◌≤◌, ◌==◌, Some, List, [], ◌∷◌, ◌++◌, take, length, slice_get, sym, ap, subst, ◌∙◌, arith}
use Rattle.std.proofs.Math.Nat.{add-zero, add_assoc}
use Rattle.std.proofs.lemmas.List.{take_more}
use Rattle.std.proofs.lemmas.Option.{get_or_from_slice_get}
use Rattle.alw_num.specs.Weights.{digit, weigh}
use Rattle.alw_num.proofs.Weigh.{digit_le, weigh_push}
use Rattle.alw_msg.specs.declared.messages.Kind.{Kind}
use Rattle.alw_msg.specs.declared.messages.Kind.TheVariants as kinds
use Rattle.alw_msg.specs.declared.messages.Msg.{Msg}
use Rattle.alw_msg.specs.Kinds.{kind_number}
use Rattle.alw_image.specs.declared.parts.Parts.{Parts}
use Rattle.alw_image.specs.Images.{hops_between}
use Rattle.alw_model.specs.declared.steps.Counts.{Counts}
use Rattle.alw_tally.specs.Counted.{Sent, by_kinds, of_kind, sent_of, with_sent, with_hops, with_kind, AreFew}

-- one message of a kind more
abbrev one_more : (Kind → ℕ) → Kind → Kind → ℕ
one_more count kind k = count k + digit (kind_number kind == kind_number k)

kind_push : (base : Counts) (count : Kind → ℕ) (before more : ℕ) (kind : Kind)
    → with_sent (by_kinds (one_more count kind) (before + more)) base ≡ with_kind (with_hops more (with_sent (by_kinds count before) base)) kind
kind_push base count before more kinds.RREQ = simp (add-zero, add_assoc)
kind_push base count before more kinds.WREQ = simp (add-zero, add_assoc)
kind_push base count before more kinds.REPM = simp (add-zero, add_assoc)
kind_push base count before more kinds.UPDATE = simp (add-zero, add_assoc)
kind_push base count before more kinds.ACKC = simp (add-zero, add_assoc)
kind_push base count before more kinds.RDATA = simp (add-zero, add_assoc)
kind_push base count before more kinds.WDATA = simp (add-zero, add_assoc)
kind_push base count before more kinds.INV = simp (add-zero, add_assoc)
kind_push base count before more kinds.BUSY = simp (add-zero, add_assoc)

few_push : (most hops : ℕ) (count : Kind → ℕ) (before : ℕ) (kind : Kind) → hops ≤ 131072 → AreFew most (by_kinds count before) → AreFew (most + 131072) (by_kinds (one_more count kind) (before + hops))
few_push most hops count before kind small few =
    let at_most = λ (k : Kind). digit_le (kind_number kind == kind_number k) in
    search (arith, at_most kinds.RREQ, at_most kinds.WREQ, at_most kinds.REPM, at_most kinds.UPDATE, at_most kinds.ACKC, at_most kinds.RDATA, at_most kinds.WDATA, at_most kinds.INV, at_most kinds.BUSY)

-- so many messages are counted
pub record CountIsUnderWay (parts : Parts) (from : ℕ) (sends : List (ℕ × Msg)) (base : Counts) (i : ℕ) (counts : Counts) : Type 0 where
  pub exact : counts ≡ with_sent (sent_of parts from (take i sends)) base
  pub few : AreFew (131072 * i) (sent_of parts from (take i sends))

pub goes_on : (parts : Parts) (from : ℕ) (sends : List (ℕ × Msg)) (base : Counts) (i : ℕ) (send : ℕ × Msg) (hops : ℕ) (counts next : Counts)
    → i < length sends → slice_get sends i ≡ Some send
    → hops ≡ hops_between parts from send.0 → hops < 131072 → next ≡ with_kind (with_hops hops counts) send.1.kind
    → CountIsUnderWay parts from sends base i counts → CountIsUnderWay parts from sends base (i + 1) next
goes_on parts from sends base i send hops counts next within here is few_hops more so_far =
    let found = get_or_from_slice_get sends i send send here in
    let taken : take (i + 1) sends ≡ take i sends ++ send ∷ [] = take_more sends i send within ∙ ap (λ x. take i sends ++ x ∷ []) found in
    let count = λ (kind : Kind). of_kind kind (take i sends) in
    let before = weigh (λ (one : ℕ × Msg). hops_between parts from one.0) (take i sends) in
    let all : by_kinds (one_more count send.1.kind) (before + hops) ≡ sent_of parts from (take (i + 1) sends) = rw (taken, is) (sym (simp weigh_push)) in
    let few : AreFew (131072 * i + 131072) (by_kinds (one_more count send.1.kind) (before + hops)) = few_push (131072 * i) hops count before send.1.kind (omega arith) so_far.few in
    let most : 131072 * (i + 1) ≡ 131072 * i + 131072 = omega arith in
    let next_is : next ≡ with_sent (by_kinds (one_more count send.1.kind) (before + hops)) base
    = more ∙ (ap (λ (c : Counts). with_kind (with_hops hops c) send.1.kind) so_far.exact ∙ sym (kind_push base count before hops send.1.kind)) in
    record { exact = next_is ∙ ap (λ (sent : Sent). with_sent sent base) all; few = subst (AreFew (131072 * (i + 1))) all (rw most few) }
