-- The cache side keeps a line sound: a transaction is opened, a value stored, a copy given up, a message received.
use Rattle.std.proofs.Common.{◌≡◌, ◌≢◌, ℕ, ◌+◌, ◌<◌, ◌≤◌, ◌==◌, true, false, cond, Option, Some, None, List, [], ◌∷◌, ◌++◌, refl, sym, subst, ap, ◌∙◌, append-nil, arith}
use Rattle.alw_num.specs.declared.addresses.Line.{Line}
use Rattle.alw_num.specs.declared.states.Mode.{Mode}
use Rattle.alw_num.specs.declared.states.Mode.TheVariants.{Read, Write}
use Rattle.alw_num.specs.declared.states.State.{State}
use Rattle.alw_num.specs.declared.states.State.TheVariants.{RO, RW, RT, WT}
use Rattle.alw_num.specs.Weights.{digit}
use Rattle.alw_num.proofs.Weigh.{digit_le, digit_other, at_nodes, is_node, sum_same, le_sum, two_le_sum, cases_lt_then}
use Rattle.alw_msg.specs.Contents.{ToMemory, RREQ, WREQ, REPM, ToCache, RDATA, WDATA, INV, BUSY, is_rreq, is_wreq, is_repm, is_update, is_ackc, is_rdata, is_wdata}
use Rattle.alw_model.specs.FullMap.{sole}
use Rattle.alw_msg.specs.Lists.{count_of}
use Rattle.alw_model.specs.Lines.{LineState, absent, LineNode}
use Rattle.law_line.specs.Protocol.{opened, stored, given_up, left, answer, received, changed, is_granted}
use Rattle.law_line.specs.Census.{is_read, is_write, copies_of, transactions_of, off, off_copy, off_up, wrong_down, Census, census, owes, carries}
use Rattle.law_line.specs.Sound.{points, in_read_write, role, CensusFits, CounterFits, Sound}
use Rattle.law_line.proofs.Bodies.{off_same, off_within}
use Rattle.law_line.proofs.Orders.{up_pushed, down_front, wrong_up_push, wrong_up_repm}

-- ---- what holds of all nodes

-- a node owes no more answers than the home counts
pub debts : (n : ℕ) (x : Line) (s : LineState) → Sound n x s → (k : ℕ) → owes (census x (s.node k)) ≤ s.home.acks
debts n x s before k = cases_lt_then n k
    (λ l. omega (arith, le_sum n (λ i. owes (census x (s.node i))) k l, before.total))
    (λ l. let e : owes (census x (s.node k)) ≡ 0 = ap (λ v. owes (census x v)) (before.beyond k l) in omega arith)

-- while a node owns the line, the counter is 0
pub owner_idle : (n : ℕ) (x : Line) (s : LineState) → Sound n x s → (k : ℕ) → 1 ≤ (role s.home k).owns → s.home.acks ≡ 0
owner_idle n x s before k = go s.home.state (sole s.home.pointers) s.home.acks before.counter
  where
    go : (st : State) (o : Option ℕ) (acks : ℕ) → CounterFits st o acks → 1 ≤ in_read_write st (points o k) → acks ≡ 0
    go RO o acks fits owns = fits
    go RW None acks fits owns = absurd fits
    go RW (Some j) acks fits owns = fits
    go RT o acks fits owns = absurd (omega arith)
    go WT o acks fits owns = absurd (omega arith)

-- a node that owns the line owes nothing
pub owner_owes : (n : ℕ) (x : Line) (s : LineState) → Sound n x s → (k : ℕ) → (role s.home k).owns + owes (census x (s.node k)) ≤ 1
owner_owes n x s before k = grind (arith, owner_idle n x s before k, debts n x s before k, before.each k, owns_le s.home.state (sole s.home.pointers))
  where
    owns_le : (st : State) (o : Option ℕ) → in_read_write st (points o k) ≤ 1
    owns_le RW None = omega arith
    owns_le RW (Some j) = digit_le (k == j)
    owns_le RO o = omega arith
    owns_le RT o = omega arith
    owns_le WT o = omega arith

-- two nodes owe no more answers together than the home counts
pub owes_both : (n : ℕ) (x : Line) (s : LineState) (i k : ℕ) → Sound n x s → k ≢ i → owes (census x (s.node i)) + owes (census x (s.node k)) ≤ s.home.acks
owes_both n x s i k before apart =
    let nothing : (j : ℕ) → n ≤ j → owes (census x (s.node j)) ≡ 0 = λ j l. ap (λ v. owes (census x v)) (before.beyond j l) in
    cases_lt_then n i
    (λ li. cases_lt_then n k
    (λ lk. omega (arith, two_le_sum n (λ j. owes (census x (s.node j))) i k li lk (λ e. apart (sym e)), before.total))
    (λ lk. omega (arith, nothing k lk, debts n x s before i)))
    (λ li. omega (arith, nothing i li, debts n x s before k))

-- there is one carrier at most
pub one_carrier : (n : ℕ) (x : Line) (s : LineState) (i k : ℕ) → Sound n x s → k ≢ i → carries (census x (s.node i)) + carries (census x (s.node k)) ≤ 1
one_carrier n x s i k before apart =
    let ti = before.each i in
    let tk = before.each k in
    grind (arith, owner_idle n x s before i, owner_idle n x s before k, owes_both n x s i k before apart, owns_apart s.home.state (sole s.home.pointers), ti.last, tk.last)
  where
    owns_apart : (st : State) (o : Option ℕ) → in_read_write st (points o i) + in_read_write st (points o k) ≤ 1
    owns_apart RW None = omega arith
    owns_apart RW (Some j) = is_node _ k j
        (λ same. omega (arith, digit_le (k == j), digit_other i j (λ e. apart (same ∙ sym e))))
        (λ other. omega (arith, digit_le (i == j), digit_other k j other))
    owns_apart RO o = omega arith
    owns_apart RT o = omega arith
    owns_apart WT o = omega arith

-- what one node's change keeps for the others' sake: it owes and carries as much, and doesn't begin to read beside a carrier
pub record Alike (c c' : Census) : Type 0 where
  pub debt : owes c' ≡ owes c
  pub carrier : carries c' ≡ carries c
  pub calm : c.rdata ≡ 0 → c.ro ≤ c.wdata → (c'.rdata ≡ 0) × (c'.ro ≤ c'.wdata)

-- one node's change that fits keeps a line sound
pub node_keeps : (n : ℕ) (x : Line) (s : LineState) (i : ℕ) (w : LineNode) → i < n → Sound n x s → CensusFits (role s.home i) (census x w) → Alike (census x (s.node i)) (census x w) → Sound n x (changed s i w)
node_keeps n x s i w here before fits alike =
    let carried : (k : ℕ) → carries (census x (cond (k == i) w (s.node k))) ≡ carries (census x (s.node k)) =
    at_nodes (λ k v. carries (census x v) ≡ carries (census x (s.node k))) s.node i w alike.carrier (λ k d. refl) in
    record {
      each = at_nodes (λ k v. CensusFits (role s.home k) (census x v)) s.node i w fits (λ k d. before.each k);
      counter = before.counter;
      total = sum_same n (λ k. owes (census x (cond (k == i) w (s.node k)))) (λ k. owes (census x (s.node k)))
          (λ k l. at_nodes (λ k v. owes (census x v) ≡ owes (census x (s.node k))) s.node i w alike.debt (λ k d. refl) k) ∙ before.total;
      alone = λ j k some.
          let was : 1 ≤ carries (census x (s.node j)) = omega (arith, carried j) in
          at_nodes (λ k v. ((census x v).rdata ≡ 0) × ((census x v).ro ≤ (census x v).wdata)) s.node i w
          (alike.calm (before.alone j i was).0 (before.alone j i was).1) (λ k d. before.alone j k was) k;
      home_value = λ none. before.home_value (λ k. sym (carried k) ∙ none k);
      beyond = λ k l. at_nodes (λ k v. n ≤ k → v ≡ absent) s.node i w (λ m. absurd (omega arith)) (λ k d. before.beyond k) k l;
      members = before.members;
    }

-- ---- a transaction is opened

no_copy : (copy : Option (Mode × Line)) → is_granted Read copy ≡ false → copy ≡ None
no_copy None e = refl
no_copy (Some (Read, body)) e = absurd (cc)
no_copy (Some (Write, body)) e = absurd (cc)

no_write_copy : (copy : Option (Mode × Line)) → is_granted Write copy ≡ false → copies_of is_write copy ≡ 0
no_write_copy None e = refl
no_write_copy (Some (Read, body)) e = refl
no_write_copy (Some (Write, body)) e = absurd (cc)

pub opens_keeps : (n : ℕ) (x : Line) (s : LineState) (i : ℕ) (mode : Mode) → i < n → Sound n x s → (s.node i).transaction ≡ None → is_granted mode (s.node i).copy ≡ false → Sound n x (changed s i (opened (s.node i) mode))
opens_keeps n x s i Read here before idle missed =
    let v = s.node i in
    let t = before.each i in
    let p = up_pushed x v.up RREQ in
    let u = wrong_up_push v.up RREQ refl in
    let none = no_copy v.copy missed in
    let ro : copies_of is_read v.copy ≡ 0 = ap (copies_of is_read) none in
    let rw : copies_of is_write v.copy ≡ 0 = ap (copies_of is_write) none in
    let tr : transactions_of is_read v.transaction ≡ 0 = ap (transactions_of is_read) idle in
    let tw : transactions_of is_write v.transaction ≡ 0 = ap (transactions_of is_write) idle in
    node_keeps n x s i _ here before (search arith) (search arith)
opens_keeps n x s i Write here before idle missed =
    let v = s.node i in
    let t = before.each i in
    let p = up_pushed x v.up WREQ in
    let u = wrong_up_push v.up WREQ refl in
    let rw = no_write_copy v.copy missed in
    let tr : transactions_of is_read v.transaction ≡ 0 = ap (transactions_of is_read) idle in
    let tw : transactions_of is_write v.transaction ≡ 0 = ap (transactions_of is_write) idle in
    node_keeps n x s i _ here before (search arith) (search arith)

-- ---- a copy is given up

-- a copy that isn't Read-Write is dropped
drops : (n : ℕ) (x : Line) (s : LineState) (i : ℕ) → i < n → Sound n x s → copies_of is_write (s.node i).copy ≡ 0 → Sound n x (changed s i (record { copy = None; transaction = (s.node i).transaction; up = (s.node i).up ++ []; down = (s.node i).down }))
drops n x s i here before shared =
    let v = s.node i in
    let t = before.each i in
    subst (λ (up : List ToMemory). Sound n x (changed s i (record { copy = None; transaction = v.transaction; up = up; down = v.down }))) (sym (append-nil v.up))
    (node_keeps n x s i _ here before (search arith) (search arith))

pub leaves_keeps : (n : ℕ) (x : Line) (s : LineState) (i : ℕ) → i < n → Sound n x s → Sound n x (changed s i (left (s.node i)))
leaves_keeps n x s i here before = go (s.node i).copy refl
  where
    go : (copy : Option (Mode × Line)) → (s.node i).copy ≡ copy → Sound n x (changed s i (record { copy = None; transaction = (s.node i).transaction; up = (s.node i).up ++ given_up copy; down = (s.node i).down }))
    go None e = drops n x s i here before (ap (copies_of is_write) e)
    go (Some (Read, body)) e = drops n x s i here before (ap (copies_of is_write) e)
    go (Some (Write, body)) e =
        let v = s.node i in
        let t = before.each i in
        let p = up_pushed x v.up (REPM body) in
        let u = wrong_up_repm v.up body in
        let rw : copies_of is_write v.copy ≡ 1 = ap (copies_of is_write) e in
        let ro : copies_of is_read v.copy ≡ 0 = ap (copies_of is_read) e in
        let o : off_copy x v.copy ≡ off x body = ap (off_copy x) e in
        let q = owner_owes n x s before i in
        let ackc : count_of is_ackc v.up ≡ 0 = omega arith in
        node_keeps n x s i _ here before (search arith) (search arith)

-- ---- a message is received

-- the answer to an INV by the copy
record AnswersInv (x : Line) (copy : Option (Mode × Line)) (m : ToMemory) : Type 0 where
  rreq : digit (is_rreq m) ≡ 0
  wreq : digit (is_wreq m) ≡ 0
  repm : digit (is_repm m) ≡ 0
  update : digit (is_update m) ≡ copies_of is_write copy
  ackc : digit (is_ackc m) + copies_of is_write copy ≡ 1
  off : off_up x m ≤ off_copy x copy

answers : (x : Line) (copy : Option (Mode × Line)) → AnswersInv x copy (answer copy)
answers x None = search arith
answers x (Some (Read, body)) = search arith
answers x (Some (Write, body)) = search arith

pub comes_keeps : (n : ℕ) (x : Line) (s : LineState) (i : ℕ) → i < n → Sound n x s → Sound n x (changed s i (received (s.node i) (s.node i).down))
comes_keeps n x s i here before = go (s.node i).down refl
  where
    go : (down : List ToCache) → (s.node i).down ≡ down → Sound n x (changed s i (received (s.node i) down))
    go [] e = let t = before.each i in node_keeps n x s i _ here before t (search arith)
    go (RDATA body ∷ rest) e =
        let v = s.node i in
        let t = before.each i in
        let f = down_front x v.down (RDATA body) rest e in
        node_keeps n x s i _ here before (search arith) (search arith)
    go (WDATA body ∷ rest) e =
        let v = s.node i in
        let t = before.each i in
        let f = down_front x v.down (WDATA body) rest e in
        node_keeps n x s i _ here before (search arith) (search arith)
    go (BUSY ∷ rest) e =
        let v = s.node i in
        let t = before.each i in
        let f = down_front x v.down BUSY rest e in
        node_keeps n x s i _ here before (search arith) (search arith)
    go (INV ∷ rest) e =
        let v = s.node i in
        let t = before.each i in
        let f = down_front x v.down INV rest e in
        let w : wrong_down v.down ≡ count_of is_rdata rest + count_of is_wdata rest + wrong_down rest = ap wrong_down e in
        let m = answer v.copy in
        let g = answers x v.copy in
        let p = up_pushed x v.up m in
        let u = wrong_up_push v.up m g.repm in
        node_keeps n x s i _ here before (search arith) (search arith)

-- ---- a value is stored

write_copy : (copy : Option (Mode × Line)) → is_granted Write copy ≡ true → copies_of is_write copy ≡ 1
write_copy None e = absurd (cc)
write_copy (Some (Read, body)) e = absurd (cc)
write_copy (Some (Write, body)) e = refl

pub stores_keeps : (n : ℕ) (x : Line) (s : LineState) (i : ℕ) (body : Line) → i < n → Sound n x s → is_granted Write (s.node i).copy ≡ true → Sound n body (changed s i (stored (s.node i) body))
stores_keeps n x s i body here before granted =
    let v = s.node i in
    let w = stored v body in
    let t = before.each i in
    let q = owner_owes n x s before i in
    let rw = write_copy v.copy granted in
    let o = off_same body in
    let f = off_within body (record { copy = None; transaction = v.transaction; up = v.up; down = v.down }) in
    let carried : (k : ℕ) → carries (census body (cond (k == i) w (s.node k))) ≡ carries (census x (s.node k)) =
    at_nodes (λ k u. carries (census body u) ≡ carries (census x (s.node k))) s.node i w (omega arith) (λ k e. refl) in
    let calm : (k : ℕ) → ((census x (s.node k)).rdata ≡ 0) × ((census x (s.node k)).ro ≤ (census x (s.node k)).wdata) = λ k. before.alone i k (omega arith) in
    record {
      each = at_nodes (λ k u. CensusFits (role s.home k) (census body u)) s.node i w (search arith)
          (λ k apart. let c = before.each k in let g = off_within body (s.node k) in let a = calm k in let z = one_carrier n x s i k before apart in search arith);
      counter = before.counter;
      total = sum_same n (λ k. owes (census body (cond (k == i) w (s.node k)))) (λ k. owes (census x (s.node k)))
          (λ k l. at_nodes (λ k u. owes (census body u) ≡ owes (census x (s.node k))) s.node i w refl (λ k d. refl) k) ∙ before.total;
      alone = λ j k some. at_nodes (λ k u. ((census body u).rdata ≡ 0) × ((census body u).ro ≤ (census body u).wdata)) s.node i w
          (search (arith, calm i)) (λ k d. calm k) k;
      home_value = λ none. absurd (let c = carried i in let e = none i in omega arith);
      beyond = λ k l. at_nodes (λ k u. n ≤ k → u ≡ absent) s.node i w (λ m. absurd (omega arith)) (λ k e. before.beyond k) k l;
      members = before.members;
    }
