-- A line that meets the line invariant at the nodes below a number meets it at more nodes, where these have nothing of the line and aren't in P.
use Rattle.std.proofs.Common.{◌≡◌, ℕ, zero, suc, ◌+◌, ◌<◌, ◌≤◌, ◌==◌, true, false, Option, Some, None, IsTrue, List, [], ◌++◌}
use Rattle.std.proofs.Common.{refl, sym, subst, ap, ◌∙◌, arith}
use Rattle.std.proofs.Math.Bool.{and-false, or-true}
use Rattle.std.proofs.lemmas.Bool.{false≢true, ne_eqb}
use Rattle.std.proofs.lemmas.List.{append-nil}
use Rattle.alw_num.specs.declared.addresses.Line.{Line}
use Rattle.alw_num.specs.declared.states.State.{State}
use Rattle.alw_num.specs.declared.states.State.TheVariants.{RO, RW, RT, WT}
use Rattle.alw_num.specs.Maps.{passes}
use Rattle.alw_num.specs.NodeSets.{has_node}
use Rattle.alw_num.specs.Weights.{sum_below}
use Rattle.alw_num.proofs.Weigh.{is_node, cases_lt_then, true_of_digit, digit_same}
use Rattle.alw_model.specs.FullMap.{sole}
use Rattle.alw_model.specs.LimitLess.{Directory}
use Rattle.alw_model.specs.Lines.{LineState, absent, carried, carriers, value_by, line_value}
use Rattle.alw_model.specs.LineInvariant.{LineInvariant, is_reading, is_writing, is_sole, owes, carries, all_carried, counter_by, carrier_by}
use Rattle.alw_model.proofs.Journals.{and_parts, and_is}
use Rattle.law_line.proofs.Homes.{sole_is}
use Rattle.alw_laws.proofs.Totals.{carriers_more}

-- ---- sums and carriers, with nothing at the further nodes

sum_wider : (few many : ℕ) (f : ℕ → ℕ) → few ≤ many → ((i : ℕ) → few ≤ i → f i ≡ 0) → sum_below many f ≡ sum_below few f
sum_wider few zero f l none = let same : few ≡ 0 = omega arith in rw same refl
sum_wider few (suc many) f l none = is_node _ few (suc many)
    (λ same. ap (λ (n : ℕ). sum_below n f) (sym same))
    (λ other. omega (arith, none many (omega arith), sum_wider few many f (omega arith) none))

carriers_wider : (few many : ℕ) (s : LineState) → few ≤ many → ((i : ℕ) → few ≤ i → s.node i ≡ absent) → carriers many s ≡ carriers few s
carriers_wider few zero s l beyond = let same : few ≡ 0 = omega arith in rw same refl
carriers_wider few (suc many) s l beyond = is_node _ few (suc many)
    (λ same. ap (λ (n : ℕ). carriers n s) (sym same))
    (λ other.
    let one_more : suc many ≡ many + 1 = omega arith in
    let nothing : carried (s.node many) ≡ [] = ap carried (beyond many (omega arith)) in
    ap (λ (n : ℕ). carriers n s) one_more ∙ (carriers_more many s ∙ (ap (λ (bodies : List Line). carriers many s ++ bodies) nothing
    ∙ (append-nil (carriers many s) ∙ carriers_wider few many s (omega arith) beyond))))

-- nodes from a number on have nothing of the line, and aren't in P
pub record IsBelow (few : ℕ) (s : LineState) : Type 0 where
  pub beyond : (i : ℕ) → few ≤ i → s.node i ≡ absent
  pub members : (k : ℕ) → has_node s.home.pointers k ≡ true → k < few

module _ (few many : ℕ) (s : LineState) (le : few ≤ many) (below : IsBelow few s) where
  -- ---- the home's part

  sole_below : (j : ℕ) → sole s.home.pointers ≡ Some j → j < few
  sole_below j is = below.members j (true_of_digit _ (omega (arith, sole_is s.home.pointers j j is, digit_same j j refl)))

  not_sole : (i : ℕ) → few ≤ i → is_sole s i ≡ false
  not_sole i l = go (sole s.home.pointers) refl
    where
      go : (o : Option ℕ) → sole s.home.pointers ≡ o → passes (λ j. i == j) o ≡ false
      go None e = refl
      go (Some j) e = let under = sole_below j e in ne_eqb i j (λ same. omega arith)

  -- ---- totals

  owed_same : sum_below many (λ i. owes (s.node i)) ≡ sum_below few (λ i. owes (s.node i))
  owed_same = sum_wider few many (λ i. owes (s.node i)) le (λ i l. ap owes (below.beyond i l))

  carried_same : all_carried many s ≡ all_carried few s
  carried_same = sum_wider few many (λ i. carries (s.node i)) le (λ i l. ap carries (below.beyond i l))

  value_same : line_value many s ≡ line_value few s
  value_same = ap (λ (bodies : List Line). value_by bodies s.home.body) (carriers_wider few many s le below.beyond)

  module _ (entry : Directory) (pending : ℕ) (meets : LineInvariant few s entry pending) where
    -- outside Read-Only there is an owner, whose clause says how many carriers there are
    abbrev CarriesAt : ℕ → State → Type 0
    CarriesAt j st = IsTrue (carrier_by st (is_sole s j) s.home.acks (s.node j) (all_carried few s))

    at_owner : (st : State) → s.home.state ≡ st → (j : ℕ) → sole s.home.pointers ≡ Some j → CarriesAt j st
    at_owner st e j is = subst (CarriesAt j) e (meets.carrier j (sole_below j is))

    enough_by : (st : State) → s.home.state ≡ st → (o : Option ℕ) → sole s.home.pointers ≡ o → IsTrue (counter_by st o s.home.acks)
        → IsTrue (carrier_by st false s.home.acks absent (all_carried few s))
    enough_by RO e o is counts = refl
    enough_by RW e None is counts = absurd (false≢true counts)
    enough_by RW e (Some j) is counts = and_is _ _ (and_parts _ _ (at_owner RW e j is)).0 refl
    enough_by RT e None is counts = absurd (false≢true counts)
    enough_by RT e (Some j) is counts = and_is _ _ (and_parts _ _ (at_owner RT e j is)).0 refl
    enough_by WT e None is counts = absurd (false≢true counts)
    enough_by WT e (Some j) is counts = and_is _ _ (and_parts _ _ (at_owner WT e j is)).0 refl

    enough : IsTrue (carrier_by s.home.state false s.home.acks absent (all_carried many s))
    enough = rw carried_same (enough_by s.home.state refl (sole s.home.pointers) refl (and_parts _ _ meets.counter.0).0)

    pub wider : LineInvariant many s entry pending
    wider = record {
      transaction = λ i l. cases_lt_then few i (λ here. meets.transaction i here)
          (λ past. rw (below.beyond i past, not_sole i past, and-false (is_reading s.home.state), and-false (is_writing s.home.state)) refl);
      counter = (rw owed_same meets.counter.0, λ i l. cases_lt_then few i (λ here. meets.counter.1 i here) (λ past. rw (below.beyond i past) (or-true _)));
      carrier = λ i l. cases_lt_then few i (λ here. rw carried_same (meets.carrier i here)) (λ past. rw (below.beyond i past, not_sole i past) enough);
      current = λ i l. cases_lt_then few i (λ here. rw (carried_same, value_same) (meets.current i here)) (λ past. rw (below.beyond i past) (or-true _));
      sharers = λ i l. cases_lt_then few i (λ here. meets.sharers i here) (λ past. rw (below.beyond i past) refl);
      order = λ i l. cases_lt_then few i (λ here. meets.order i here) (λ past. rw (below.beyond i past) refl);
      single = λ i l. cases_lt_then few i (λ here. meets.single i here) (λ past. rw (below.beyond i past) refl);
      software = meets.software;
    }
