-- Rows are looked at again: senders one by one, the rows that were sent to, and all rows.
use Rattle.std.proofs.Common.{◌≡◌, ◌≢◌, ℕ, ◌+◌, ◌<◌, ◌==◌, nat_lt, Bool, true, false, cond, ◌&&◌, Some, zero, suc, List, [], ◌∷◌, length, set, drop, slice_get, IsTrue, refl, sym, ap, subst, ◌∙◌, arith}
use Rattle.std.proofs.lemmas.Bool.{true≢false, and_from, ltb-true, lt-ltb, eq-eqb, ne_eqb, false_from_ne_true}
use Rattle.std.proofs.lemmas.List.{get_or-set_same, get_or-set_other, length-set}
use Rattle.std.proofs.lemmas.Option.{same_Some}
use Rattle.alw_num.specs.Maps.{passes}
use Rattle.alw_num.specs.NodeSets.{Nodes, no_nodes, has_node, add_node, drop_node, members, count_nodes, nodes_of, AreBelow}
use Rattle.alw_num.proofs.Sets.{has-none, has-drop, has-put}
use Rattle.alw_num.proofs.Weigh.{is_node}
use Rattle.alw_msg.specs.declared.messages.Msg.{Msg}
use Rattle.alw_msg.specs.Lists.{is_nonempty, front}
use Rattle.alw_image.specs.declared.parts.Parts.{Parts}
use Rattle.alw_image.specs.Images.{node_count}
use Rattle.alw_image.specs.Parameters.{Parameters}
use Rattle.alw_model.specs.NodeStates.{may_deliver}
use Rattle.alw_model.specs.Machine.{MachineState, node_at, link_at, is_enabled}
use Rattle.alw_model.proofs.Journals.{and_parts}
use Rattle.law_lines.specs.Links.{msgs_to, GoBelow}
use Rattle.law_lines.proofs.Steps.{enabled_is}
use Rattle.alw_ready.specs.declared.rows.Row.{Row}
use Rattle.alw_ready.specs.Rows.{delivery, no_row, row_at}
use Rattle.alw_ready.specs.Fits.{may_happen, RowFitsBut, RowFits, RowsFit, nobody}
use Rattle.alw_ready.specs.Changes.{is_fed, SenderIsLookedAt, RowsFitBut}
use Rattle.alw_ready.proofs.MainEvents.{sender_exists}

-- ---- sends

pub below_at : (n : ℕ) (sends : List (ℕ × Msg)) (i to : ℕ) (msg : Msg) → GoBelow n sends → slice_get sends i ≡ Some (to, msg) → to < n
below_at n [] i to msg below is = absurd (cc)
below_at n (send ∷ rest) zero to msg (here, below) is = let e : send.0 ≡ to = ap (λ (s : ℕ × Msg). s.0) (same_Some send (to, msg) is) in rw (← e) here
below_at n (send ∷ rest) (suc i) to msg (here, below) is = below_at n rest i to msg below is

drop_send : (sends : List (ℕ × Msg)) (i : ℕ) (send : ℕ × Msg) → slice_get sends i ≡ Some send → drop i sends ≡ send ∷ drop (i + 1) sends
drop_send [] i send is = absurd (cc)
drop_send (first ∷ rest) zero send is = ap (λ (s : ℕ × Msg). s ∷ rest) (same_Some first send is)
drop_send (first ∷ rest) (suc i) send is = drop_send rest i send is ∙ ap (λ (xs : List (ℕ × Msg)). send ∷ xs) (next i)
  where
    next : (i : ℕ) → drop (i + 1) rest ≡ drop (suc i + 1) (first ∷ rest)
    next i = let e : suc (i + 1) ≡ suc i + 1 = omega arith in ap (λ n. drop n (first ∷ rest)) e

-- ---- a set of senders

-- a sender is put in, or taken out, as a test says
pub is_put : (P Q : Nodes) (n : ℕ) (may test : Bool) → Q ≡ cond may (add_node P n) (drop_node P n) → may ≡ test → (k : ℕ) → has_node Q k ≡ cond (k == n) test (has_node P k)
is_put P Q n may test is same k = ap (λ S. has_node S k) is ∙ (has-put P may n k ∙ ap (λ b. cond (k == n) b (has_node P k)) same)

-- senders that aren't left to be looked at are found as the test says
abbrev pub AreFound : (ℕ → Bool) → Nodes → Nodes → Type 0
AreFound test found rest = (from : ℕ) → has_node rest from ≡ false → has_node found from ≡ test from

module _ (test : ℕ → Bool) where
  pub found_more : (found more rest less : Nodes) (n : ℕ) → AreFound test found rest → less ≡ drop_node rest n → ((k : ℕ) → has_node more k ≡ cond (k == n) (test n) (has_node found k)) → AreFound test more less
  found_more found more rest less n so_far less_is more_is from none = is_node _ from n
      (λ same. more_is from ∙ (ap (λ b. cond b (test n) (has_node found from)) (eq-eqb from n same) ∙ ap test (sym same)))
      (λ other. more_is from ∙ (ap (λ b. cond b (test n) (has_node found from)) (ne_eqb from n other)
      ∙ so_far from (sym (ap (λ S. has_node S from) less_is ∙ (has-drop rest n from ∙ ap (λ b. cond b false (has_node rest from)) (ne_eqb from n other))) ∙ none)))

  pub found_all : (found rest : Nodes) → AreFound test found rest → rest ≡ no_nodes → (from : ℕ) → has_node found from ≡ test from
  found_all found rest so_far none from = so_far from (ap (λ S. has_node S from) none ∙ has-none from)

module _ (n : ℕ) (rest : Nodes) where
  pub all_below : (test : ℕ → Bool) → ((from : ℕ) → has_node rest from ≡ (nat_lt from n && test from)) → AreBelow n rest
  all_below test has from is = ltb-true from n (and_parts (nat_lt from n) _ (sym (has from) ∙ is)).0

  pub fewer_below : (less : Nodes) (m : ℕ) → AreBelow n rest → less ≡ drop_node rest m → AreBelow n less
  fewer_below less m below is from here = below from (kept (from == m) (has_node rest from) (sym (has-drop rest m from) ∙ (sym (ap (λ S. has_node S from) is) ∙ here)))
    where
      kept : (b c : Bool) → cond b false c ≡ true → c ≡ true
      kept true c e = absurd (true≢false (sym e))
      kept false c e = e

-- a node less is left
pub fewer : (rest less : Nodes) (n : ℕ) → members rest ≡ n ∷ members (drop_node rest n) → less ≡ drop_node rest n → count_nodes less < count_nodes rest
fewer rest less n first is = omega (arith, ap length first, ap count_nodes is)

module _ (parts : Parts) (parameters : Parameters) (s : MachineState) where
  -- a delivery that may happen has a message on its link
  has_message : (from at : ℕ) → may_happen parts parameters s (delivery from at) ≡ true → is_nonempty (link_at parts s from at) ≡ true
  has_message from at is =
      let p = and_parts (is_enabled parts parameters s (delivery from at)) _ is in
      let q = and_parts (nat_lt from (node_count parts)) _ (enabled_is parts parameters s (delivery from at) p.0).may_be in
      there (link_at parts s from at) q.1
    where
      there : (link : List Msg) → IsTrue (passes (may_deliver parts parameters from at (node_at s at)) (front link)) → is_nonempty link ≡ true
      there [] may = absurd (true≢false (sym may))
      there (msg ∷ rest) may = refl

  -- so at first those without a message are found: none of them may be delivered
  pub found_none : (at : ℕ) (found rest : Nodes) → found ≡ no_nodes → ((from : ℕ) → has_node rest from ≡ (nat_lt from (node_count parts) && is_nonempty (link_at parts s from at))) → AreFound (λ from. may_happen parts parameters s (delivery from at)) found rest
  found_none at found rest empty senders from none =
      ap (λ S. has_node S from) empty ∙ (has-none from ∙ sym (false_from_ne_true (may_happen parts parameters s (delivery from at)) (λ may.
      true≢false (sym (and_from (nat_lt from (node_count parts)) _ (lt-ltb from (node_count parts) (sender_exists parts parameters s from at may)) (has_message from at may)) ∙ (sym (senders from) ∙ none)))))

  -- ---- the rows that were sent to

  -- a row whose sender was looked at again fits
  pub looked_row : (at sender : ℕ) (sends : List (ℕ × Msg)) (row : Row) (next : Row) → RowFitsBut parts parameters s at (λ from. is_fed sender sends from at) row
      → next.in_time ≡ row.in_time → next.instr ≡ row.instr → next.handle ≡ row.handle
      → ((k : ℕ) → has_node (nodes_of next.senders) k ≡ cond (k == sender) (may_happen parts parameters s (delivery sender at)) (has_node (nodes_of row.senders) k)) → RowFits parts parameters s at next
  looked_row at sender sends row next fits timely instr handle senders = record {
    in_time = timely ∙ fits.in_time;
    events = λ is.
        let says = fits.events (sym timely ∙ is) in
        record {
          instr = instr ∙ says.instr;
          handle = handle ∙ says.handle;
          senders = λ from aside. is_node _ from sender
              (λ same. senders from ∙ (ap (λ b. cond b (may_happen parts parameters s (delivery sender at)) (has_node (nodes_of row.senders) from)) (eq-eqb from sender same) ∙ ap (λ k. may_happen parts parameters s (delivery k at)) (sym same)))
              (λ other. senders from ∙ (ap (λ b. cond b (may_happen parts parameters s (delivery sender at)) (has_node (nodes_of row.senders) from)) (ne_eqb from sender other)
              ∙ says.senders from (ap (λ b. b && is_nonempty (msgs_to at sends)) (ne_eqb from sender other))));
        };
  }

  weaker : (at : ℕ) (aside more : ℕ → Bool) (row : Row) → ((from : ℕ) → more from ≡ false → aside from ≡ false) → RowFitsBut parts parameters s at aside row → RowFitsBut parts parameters s at more row
  weaker at aside more row less fits = record {
    in_time = fits.in_time;
    events = λ is. let says = fits.events is in record { instr = says.instr; handle = says.handle; senders = λ from none. says.senders from (less from none) };
  }

  -- one send was looked at
  pub sent_one : (sender : ℕ) (send : ℕ × Msg) (rest : List (ℕ × Msg)) (rows : List Row) (next : Row) → RowsFitBut parts parameters s sender (send ∷ rest) rows → send.0 < node_count parts → RowFits parts parameters s send.0 next
      → RowsFitBut parts parameters s sender rest (set rows send.0 next)
  sent_one sender send rest rows next fit here fits = record {
    counted = length-set rows send.0 next ∙ fit.counted;
    each = λ at exists. is_node _ at send.0 (λ same. looked at same) (λ other. others at other exists);
  }
    where
      looked : (at : ℕ) → at ≡ send.0 → RowFitsBut parts parameters s at (λ from. is_fed sender rest from at) (row_at (set rows send.0 next) at)
      looked at same =
          let P : ℕ → Type 0 = λ k. RowFitsBut parts parameters s k (λ from. is_fed sender rest from k) (row_at (set rows send.0 next) k) in
          let room : send.0 < length rows = rw fit.counted here in
          subst P (sym same) (subst (RowFitsBut parts parameters s send.0 (λ from. is_fed sender rest from send.0)) (sym (get_or-set_same rows send.0 next no_row room))
          (weaker send.0 nobody (λ from. is_fed sender rest from send.0) next (λ from none. refl) fits))

      others : (at : ℕ) → at ≢ send.0 → at < node_count parts → RowFitsBut parts parameters s at (λ from. is_fed sender rest from at) (row_at (set rows send.0 next) at)
      others at other exists =
          subst (RowFitsBut parts parameters s at (λ from. is_fed sender rest from at)) (sym (get_or-set_other rows send.0 at next no_row other))
          (weaker at (λ from. is_fed sender (send ∷ rest) from at) (λ from. is_fed sender rest from at) (row_at rows at)
          (λ from none. ap (λ b. from == sender && is_nonempty (cond b (send.1 ∷ msgs_to at rest) (msgs_to at rest))) (ne_eqb at send.0 other) ∙ none)
          (fit.each at exists))

  -- so far as many sends were looked at
  pub record AreLeft (sender : ℕ) (sends : List (ℕ × Msg)) (before : List Row) (count : ℕ) (rows : List Row) : Type 0 where
    pub counted : length rows ≡ node_count parts
    pub fit : RowsFitBut parts parameters s sender sends before → RowsFitBut parts parameters s sender (drop count sends) rows

  -- one send more
  pub left_more : (sender : ℕ) (sends : List (ℕ × Msg)) (before rows after : List Row) (count to : ℕ) (msg : Msg) → AreLeft sender sends before count rows → slice_get sends count ≡ Some (to, msg) → to < node_count parts
      → SenderIsLookedAt (may_happen parts parameters s) sender to rows after → AreLeft sender sends before (count + 1) after
  left_more sender sends before rows after count to msg left send here look =
      let next : Row = record (row_at rows to) { senders = look.senders } in
      record {
        counted = ap length look.rows_are ∙ (length-set rows to next ∙ left.counted);
        fit = λ so.
            let fit : RowsFitBut parts parameters s sender ((to, msg) ∷ drop (count + 1) sends) rows = subst (λ (xs : List (ℕ × Msg)). RowsFitBut parts parameters s sender xs rows) (drop_send sends count (to, msg) send) (left.fit so) in
            subst (RowsFitBut parts parameters s sender (drop (count + 1) sends)) (sym look.rows_are)
            (sent_one sender (to, msg) (drop (count + 1) sends) rows next fit here (looked_row to sender ((to, msg) ∷ drop (count + 1) sends) (row_at rows to) next (fit.each to here) refl refl refl look.looked));
      }

  -- nothing is left to be looked at
  pub sent_all : (sender : ℕ) (rows : List Row) → RowsFitBut parts parameters s sender [] rows → RowsFit parts parameters s rows
  sent_all sender rows fit = record {
    counted = fit.counted;
    each = λ at here. weaker at (λ from. is_fed sender [] from at) nobody (row_at rows at) (λ from none. nothing (from == sender)) (fit.each at here);
  }
    where
      nothing : (b : Bool) → (b && false) ≡ false
      nothing true = refl
      nothing false = refl

  -- ---- all rows

  -- the rows below a number fit
  pub record FitBelow (count : ℕ) (rows : List Row) : Type 0 where
    pub counted : length rows ≡ node_count parts
    pub each : (at : ℕ) → at < count → RowFits parts parameters s at (row_at rows at)

  pub fit_more : (count : ℕ) (rows : List Row) (row : Row) → FitBelow count rows → count < node_count parts → RowFits parts parameters s count row → FitBelow (count + 1) (set rows count row)
  fit_more count rows row fit here fits = record {
    counted = length-set rows count row ∙ fit.counted;
    each = λ at below. is_node _ at count
        (λ same. last at same)
        (λ other. subst (RowFits parts parameters s at) (sym (get_or-set_other rows count at row no_row other)) (fit.each at (omega arith)));
  }
    where
      last : (at : ℕ) → at ≡ count → RowFits parts parameters s at (row_at (set rows count row) at)
      last at same =
          let P : ℕ → Type 0 = λ k. RowFits parts parameters s k (row_at (set rows count row) k) in
          let room : count < length rows = rw fit.counted here in
          subst P (sym same) (subst (RowFits parts parameters s count) (sym (get_or-set_same rows count row no_row room)) fits)
