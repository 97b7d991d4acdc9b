-- What a machine's maps hold: copies in sets that there are, and transactions on lines that slots wait on.
use Rattle.std.proofs.Common.{◌≡◌, ℕ, ◌+◌, ◌*◌, ◌<◌, ◌≤◌, true, nat_lt, nat_le, IsTrue, Option, None, Some, List, refl, sym, ap, subst, ◌∙◌, arith}
use Rattle.std.specs.List.{list_all}
use Rattle.std.proofs.lemmas.Bool.Decides.{nat_tests}
use Rattle.std.proofs.lemmas.Bool.{eqb-true, false≢true}
use Rattle.std.proofs.lemmas.Option.{none-some, same_Some}
use Rattle.std.proofs.lemmas.Nat.{div-mul-add, mod-mul-add}
use Rattle.std.proofs.Math.Nat.{mod-lt}
use Rattle.std.specs.Option.{option_map}
use Rattle.std.specs.Prelude.{is_some, IfSome}
use Rattle.alw_num.specs.declared.addresses.LineNo.{LineNo}
use Rattle.alw_ctx.specs.Residents.{number_of}
use Rattle.alw_num.specs.Maps.{value_at}
use Rattle.alw_msg.specs.declared.contexts.Status.{Status}
use Rattle.alw_msg.specs.declared.contexts.Status.TheVariants.{Ready, Waiting, Halted, Trapped}
use Rattle.alw_msg.specs.Statuses.{waits_on, waited}
use Rattle.alw_image.specs.Images.{node_count, line_count}
use Rattle.alw_model.specs.Caches.{Copy, Transaction, set_of}
use Rattle.alw_model.specs.Contexts.{Slot, slot_at}
use Rattle.alw_model.specs.MachineInvariant.{transaction_stands, caches_rightly}
use Rattle.alw_model.proofs.Journals.{and_parts}
use Rattle.law_machine.proofs.Bound.{sets_range}
use Rattle.law_machine.proofs.MachineRuns.{always_kept}
use Rattle.law_machine.proofs.MachineFacts.{always_invariant}
use Rattle.std.proofs.lemmas.Nat.{mul-le}
use Rattle.alw_mesh.proofs.OneNode.{few_nodes}
use Rattle.alw_mesh.specs.Histories.{History, IsRun}
use Rattle.alw_mesh.specs.Readings.{node_in, slot_of}
use Rattle.alw_proc.specs.Openings.{opener_of}
use Rattle.alw_proc.specs.Processors.{mode_of, cached_of}
use Rattle.alw_save.specs.Waiting.{lowest_of, waited_at, transaction_of, copy_of}
use Rattle.alw_save.proofs.Keys.{all_found}
use Rattle.alw_save.proofs.Waits.{is_at_most, lowest_first, lowest_is}

-- a slot that waits on a line waits on it alone
waited_is : (line : ℕ) (status : Status) → waits_on line status ≡ true → waited status ≡ Some line
waited_is line Ready e = absurd (false≢true e)
waited_is line (Waiting other) e = ap Some (eqb-true other.0 line e)
waited_is line Halted e = absurd (false≢true e)
waited_is line (Trapped pc tt) e = absurd (false≢true e)

waits_then : (line : ℕ) (status : Status) → waited status ≡ Some line → waits_on line status ≡ true
waits_then line Ready e = absurd (none-some line e)
waits_then line (Waiting other) e = let same : other.0 ≡ line = same_Some _ _ e in grind (arith, nat_tests)
waits_then line Halted e = absurd (none-some line e)
waits_then line (Trapped pc tt) e = absurd (none-some line e)

module _ (h : History) (run : IsRun h) (n : ℕ) (here : n < node_count h.image) where
  -- a slot of the node by the number of its context
  slot_is : (slot : ℕ) → slot < h.image.contexts → slot_of h (n * h.image.contexts + slot) ≡ slot_at (node_in h n).slots slot
  slot_is slot within = λ i. slot_at (node_in h (div-mul-add n h.image.contexts slot within i)).slots (mod-mul-add n h.image.contexts slot within i)

  -- a copy stands in a set that there is
  pub set_exists : (set : ℕ) (copy : Copy) → value_at (node_in h n).cache set ≡ Some copy → set < h.parameters.sets
  unfolding value_at
  set_exists set copy e =
      let all = (always_invariant h.image run.image h.parameters run.parameters h.journal run.legal).caches n here in
      let stands = and_parts _ _ (all_found (caches_rightly h.image h.parameters) set copy (node_in h n).cache.entries e all) in
      let some = (sets_range h.parameters run.parameters).0 in
      subst (λ (k : ℕ). k < h.parameters.sets) (eqb-true (set_of h.parameters.sets copy.line) set stands.1) (mod-lt copy.line some)

  -- a transaction is on a line that a slot waits on
  pub record IsWaitedOn (line : ℕ) : Type 0 where
    pub slot : ℕ
    pub within : slot < h.image.contexts
    pub waits : waited_at h n slot ≡ Some line

  pub opened_is : (line : ℕ) (transaction : Transaction) → value_at (node_in h n).transactions line ≡ Some transaction → IsWaitedOn line
  opened_is line transaction e =
      let stands = ((always_kept h.image run.image h.parameters run.parameters h.journal run.legal).has.contexts n here).opened line transaction e in
      record {
        slot = transaction.opener;
        within = stands.opener;
        waits = ap waited (ap (λ (s : Slot). s.status) (slot_is transaction.opener stands.opener)) ∙ waited_is line _ stands.waits;
      }

  -- nothing stands from a number to before the lowest line that is waited on
  module _ (from : ℕ) where
    abbrev next : Option ℕ
    next = lowest_of (waited_at h n) from h.image.contexts

    pub none_before : (line : ℕ) → next ≡ Some line → (k : ℕ) → from ≤ k → k < line → value_at (node_in h n).transactions k ≡ None
    none_before line is k low high = go (value_at (node_in h n).transactions k) refl
      where
        go : (o : Option Transaction) → value_at (node_in h n).transactions k ≡ o → o ≡ None
        go None e = refl
        go (Some transaction) e =
            let waits = opened_is k transaction e in
            let most : IsTrue (is_at_most k next) = lowest_first (waited_at h n) from h.image.contexts waits.slot k waits.within waits.waits low in
            let there : IsTrue (nat_le line k) = subst (λ (o : Option ℕ). IsTrue (is_at_most k o)) is most in
            absurd (grind (arith, nat_tests))

    pub none_at_all : next ≡ None → (k : ℕ) → from ≤ k → value_at (node_in h n).transactions k ≡ None
    none_at_all is k low = go (value_at (node_in h n).transactions k) refl
      where
        go : (o : Option Transaction) → value_at (node_in h n).transactions k ≡ o → o ≡ None
        go None e = refl
        go (Some transaction) e =
            let waits = opened_is k transaction e in
            let most : IsTrue (is_at_most k next) = lowest_first (waited_at h n) from h.image.contexts waits.slot k waits.within waits.waits low in
            absurd (false≢true (subst (λ (o : Option ℕ). IsTrue (is_at_most k o)) is most))

    -- the lowest line that is waited on exists
    pub next_exists : (line : ℕ) → next ≡ Some line → (from ≤ line) × (line < line_count h.image)
    unfolding value_at
    next_exists line is =
        let one = lowest_is (waited_at h n) from h.image.contexts line is in
        let kept = (always_kept h.image run.image h.parameters run.parameters h.journal run.legal).has.contexts n here in
        let waits = waits_then line (slot_at (node_in h n).slots one.slot).status
        (sym (ap (λ (s : Slot). waited s.status) (slot_is one.slot one.within)) ∙ one.here) in
        (one.above, go (value_at (node_in h n).transactions line) refl ((kept.each one.slot).waits line waits))
      where
        all : IsTrue (list_all (transaction_stands h.image (node_in h n)) (node_in h n).transactions.entries)
        all = (always_invariant h.image run.image h.parameters run.parameters h.journal run.legal).transactions n here

        go : (o : Option Transaction) → value_at (node_in h n).transactions line ≡ o → is_some o ≡ true → line < line_count h.image
        go None e is = absurd (false≢true is)
        go (Some transaction) e is =
            let stands = and_parts _ _ (all_found (transaction_stands h.image (node_in h n)) line transaction (node_in h n).transactions.entries e all) in
            let exists : IsTrue (nat_lt line (line_count h.image)) = (and_parts _ _ stands.1).0 in
            grind (arith, nat_tests)

-- so it is in range where it is told
pub waited_exists : (h : History) (run : IsRun h) (n : ℕ) (here : n < node_count h.image) (from : ℕ) (o : Option LineNo)
    → option_map number_of o ≡ lowest_of (waited_at h n) from h.image.contexts → IfSome o (λ line. line.0 < line_count h.image)
waited_exists h run n here from None e = tt
waited_exists h run n here from (Some line) e = (next_exists h run n here from line.0 (sym e)).1

-- copies stand in sets that there are alone
pub no_more_sets : (h : History) (run : IsRun h) (n : ℕ) (here : n < node_count h.image) (set : ℕ) → h.parameters.sets ≤ set
    → value_at (node_in h n).cache set ≡ None
no_more_sets h run n here set past = go (value_at (node_in h n).cache set) refl
  where
    go : (o : Option Copy) → value_at (node_in h n).cache set ≡ o → o ≡ None
    go None e = refl
    go (Some copy) e = absurd (omega (arith, set_exists h run n here set copy e, past))

-- a machine has so many lines
pub few_lines : (h : History) → IsRun h → line_count h.image ≤ 1048576
few_lines h run = mul-le (node_count h.image) h.image.per_node 256 4096 (few_nodes h.image run.image) run.image.per_node.1

-- ---- what readers tell

-- a transaction by its mode and its opener, and a copy by its line, mode and bytes
pub told_transaction : (o : Option Transaction) → transaction_of (option_map mode_of o) (option_map opener_of o) ≡ o
told_transaction None = refl
told_transaction (Some transaction) = refl

pub told_copy : (o : Option Copy) → option_map copy_of (option_map cached_of o) ≡ o
told_copy None = refl
told_copy (Some copy) = refl
