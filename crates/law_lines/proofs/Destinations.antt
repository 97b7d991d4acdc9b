-- Where a full-map entry sends: to the node that it acts on, or to nodes that it points to.
use Rattle.std.proofs.Common.{◌≡◌, ℕ, zero, suc, ◌<◌, ◌≤◌, ◌==◌, Bool, true, false, Option, Some, None, List, [], ◌∷◌, refl, sym, ◌∙◌, arith}
use Rattle.alw_num.specs.declared.addresses.Line.{Line}
use Rattle.alw_num.specs.declared.states.State.{State}
use Rattle.alw_num.specs.declared.states.State.TheVariants.{RO, RW, RT, WT}
use Rattle.alw_num.specs.NodeSets.{has_node, drop_node}
use Rattle.alw_num.specs.Weights.{times}
use Rattle.alw_num.proofs.Weigh.{is_node, true_of_digit, digit_same}
use Rattle.alw_num.proofs.Sets.{has-drop, has_of_times}
use Rattle.alw_msg.specs.Contents.{ToMemory, RREQ, WREQ, REPM, UPDATE, ACKC}
use Rattle.alw_model.specs.FullMap.{Home, Sends, sole, others, row, act, write_shared, recall, recall_from, give_back, give_back_from, end_read, end_write, acknowledge}
use Rattle.law_line.proofs.Homes.{DestsBelow, invs_below, sole_is}
use Rattle.std.proofs.lemmas.Bool.{ne_eqb}

module _ (n : ℕ) (h : Home) (i : ℕ) (here : i < n) (points : (k : ℕ) → has_node h.pointers k ≡ true → k < n) where
  sole_below : (j : ℕ) → sole h.pointers ≡ Some j → j < n
  sole_below j e = points j (true_of_digit (has_node h.pointers j) (omega (arith, sole_is h.pointers j j e, digit_same j j refl)))

  other_below : (k : ℕ) → 1 ≤ times k (others h.pointers i) → k < n
  other_below k some = let has : has_node (drop_node h.pointers i) k ≡ true = has_of_times (drop_node h.pointers i) k some in is_node _ k i
      (λ same. rw same here)
      (λ other. points k (sym (has-drop h.pointers i k ∙ rw (ne_eqb k i other) refl) ∙ has))

  write_below : (js : List ℕ) → others h.pointers i ≡ js → DestsBelow n (write_shared h i js).1
  write_below [] e = (here, tt)
  write_below (j ∷ rest) e = invs_below n (j ∷ rest) (λ k some. other_below k (rw e some))

  recall_below : (st : State) (o : Option ℕ) → sole h.pointers ≡ o → DestsBelow n (recall h i st o).1
  recall_below st None e = tt
  recall_below st (Some owner) e = go (i == owner)
    where
      go : (b : Bool) → DestsBelow n (recall_from h i st owner b).1
      go true = tt
      go false = (sole_below owner e, tt)

  give_below : (body : Line) (o : Option ℕ) → DestsBelow n (give_back h i body o).1
  give_below body None = tt
  give_below body (Some owner) = go (i == owner)
    where
      go : (b : Bool) → DestsBelow n (give_back_from h body b).1
      go true = tt
      go false = tt

  read_below : (body : Line) (o : Option ℕ) → sole h.pointers ≡ o → DestsBelow n (end_read h body o).1
  read_below body None e = tt
  read_below body (Some k) e = (sole_below k e, tt)

  write_end_below : (body : Line) (o : Option ℕ) → sole h.pointers ≡ o → DestsBelow n (end_write h body o).1
  write_end_below body None e = tt
  write_end_below body (Some k) e = (sole_below k e, tt)

  acknowledge_below : (ended : Home × Sends) (acks : ℕ) → DestsBelow n ended.1 → DestsBelow n (acknowledge h ended acks).1
  acknowledge_below ended zero below = tt
  acknowledge_below ended (suc zero) below = below
  acknowledge_below ended (suc (suc left)) below = tt

  row_below : (st : State) (m : ToMemory) → DestsBelow n (row h i st m).1
  row_below RO RREQ = (here, tt)
  row_below RO WREQ = write_below (others h.pointers i) refl
  row_below RO (REPM body) = tt
  row_below RO (UPDATE body) = tt
  row_below RO ACKC = tt
  row_below RW RREQ = recall_below RT (sole h.pointers) refl
  row_below RW WREQ = recall_below WT (sole h.pointers) refl
  row_below RW (REPM body) = give_below body (sole h.pointers)
  row_below RW (UPDATE body) = tt
  row_below RW ACKC = tt
  row_below RT RREQ = (here, tt)
  row_below RT WREQ = (here, tt)
  row_below RT (REPM body) = tt
  row_below RT (UPDATE body) = read_below body (sole h.pointers) refl
  row_below RT ACKC = acknowledge_below (end_read h h.body (sole h.pointers)) h.acks (read_below h.body (sole h.pointers) refl)
  row_below WT RREQ = (here, tt)
  row_below WT WREQ = (here, tt)
  row_below WT (REPM body) = tt
  row_below WT (UPDATE body) = write_end_below body (sole h.pointers) refl
  row_below WT ACKC = acknowledge_below (end_write h h.body (sole h.pointers)) h.acks (write_end_below h.body (sole h.pointers) refl)

  -- all that an entry sends goes to nodes below a number that bounds its pointers
  pub act_below : (m : ToMemory) → DestsBelow n (act h i m).1
  act_below m = row_below h.state m
