-- What the home's action leaves: each node's census, the sum of what is owed, and the part that the home gives each node.
use Rattle.std.proofs.Common.{◌≡◌, ◌≢◌, ℕ, ◌+◌, ◌*◌, ◌<◌, ◌≤◌, ◌==◌, Bool, true, false, cond, Option, Some, List, [], ◌∷◌, ◌++◌, length, refl, sym, subst, ap, ◌∙◌, arith}
use Rattle.std.proofs.lemmas.Bool.{eqb-true}
use Rattle.alw_num.specs.declared.addresses.Line.{Line}
use Rattle.alw_num.specs.declared.states.State.{State}
use Rattle.alw_num.specs.NodeSets.{Nodes, has_node, one_node, members}
use Rattle.alw_num.specs.Weights.{digit, weigh, times, sum_below}
use Rattle.alw_num.proofs.Weigh.{at_nodes, is_node, digit_le, digit_same, digit_other, sum_same, sum_both, sum_scale, sum_one, sum_none}
use Rattle.alw_num.proofs.Sets.{has-one, members-one, one_of_members}
use Rattle.alw_msg.specs.Contents.{ToMemory, ToCache, RDATA, WDATA, INV, BUSY, is_rreq, is_wreq, is_repm, is_update, is_ackc, is_rdata, is_wdata, is_inv, is_busy}
use Rattle.alw_model.specs.FullMap.{Home, Sends, sole, only, invs}
use Rattle.alw_msg.specs.Lists.{count_of}
use Rattle.alw_model.specs.Lines.{LineState, absent, LineNode}
use Rattle.law_line.specs.Protocol.{receives, taken_from, sent_to, acted}
use Rattle.law_line.specs.Census.{off_down, wrong_down, Census, census, owes}
use Rattle.law_line.specs.Sound.{points, in_read_transaction, in_write_transaction, in_read_write, in_read_only, Role, role, CounterFits, Sound}
use Rattle.law_line.proofs.Orders.{up_front}
use Rattle.alw_num.proofs.Weigh.{weigh-append}

-- ---- each node's census afterwards

-- the census c' of a node whose census was c, once m has been taken from it (d is 1) or from another node (d is 0), and ds have been sent to it
pub record After (x : Line) (d : ℕ) (m : ToMemory) (down ds : List ToCache) (c c' : Census) : Type 0 where
  pub rreq : c'.rreq + digit (is_rreq m) * d ≡ c.rreq
  pub wreq : c'.wreq + digit (is_wreq m) * d ≡ c.wreq
  pub repm : c'.repm + digit (is_repm m) * d ≡ c.repm
  pub update : c'.update + digit (is_update m) * d ≡ c.update
  pub ackc : c'.ackc + digit (is_ackc m) * d ≡ c.ackc
  pub rdata : c'.rdata ≡ c.rdata + count_of is_rdata ds
  pub wdata : c'.wdata ≡ c.wdata + count_of is_wdata ds
  pub inv : c'.inv ≡ c.inv + count_of is_inv ds
  pub busy : c'.busy ≡ c.busy + count_of is_busy ds
  pub ro : c'.ro ≡ c.ro
  pub rw : c'.rw ≡ c.rw
  pub tr : c'.tr ≡ c.tr
  pub tw : c'.tw ≡ c.tw
  pub wrong_up : c'.wrong_up ≤ c.wrong_up
  pub wrong_down : c'.wrong_down ≡ wrong_down (down ++ ds)
  pub off : c'.off ≤ c.off + weigh (off_down x) ds

-- what is appended to a node's `down`, by weight
record Appended (x : Line) (down ds : List ToCache) : Type 0 where
  rdata : count_of is_rdata (down ++ ds) ≡ count_of is_rdata down + count_of is_rdata ds
  wdata : count_of is_wdata (down ++ ds) ≡ count_of is_wdata down + count_of is_wdata ds
  inv : count_of is_inv (down ++ ds) ≡ count_of is_inv down + count_of is_inv ds
  busy : count_of is_busy (down ++ ds) ≡ count_of is_busy down + count_of is_busy ds
  off : weigh (off_down x) (down ++ ds) ≡ weigh (off_down x) down + weigh (off_down x) ds

appended : (x : Line) (down ds : List ToCache) → Appended x down ds
appended x down ds = record {
  rdata = weigh-append (λ message. digit (is_rdata message)) down ds;
  wdata = weigh-append (λ message. digit (is_wdata message)) down ds;
  inv = weigh-append (λ message. digit (is_inv message)) down ds;
  busy = weigh-append (λ message. digit (is_busy message)) down ds;
  off = weigh-append (off_down x) down ds;
}

after_taken : (x : Line) (v : LineNode) (m : ToMemory) (rest : List ToMemory) (ds : List ToCache) → v.up ≡ m ∷ rest → After x 1 m v.down ds (census x v) (census x (receives (taken_from v rest) ds))
after_taken x v m rest ds e = let f = up_front x v.up m rest e in let a = appended x v.down ds in search arith

after_other : (x : Line) (v : LineNode) (m : ToMemory) (ds : List ToCache) → After x 0 m v.down ds (census x v) (census x (receives v ds))
after_other x v m ds = let a = appended x v.down ds in search arith

pub afterwards : (x : Line) (s : LineState) (i : ℕ) (m : ToMemory) (rest : List ToMemory) (after : Home × Sends) → (s.node i).up ≡ m ∷ rest → (k : ℕ) → After x (digit (k == i)) m (s.node k).down (sent_to k after.1) (census x (s.node k)) (census x ((acted s i rest after).node k))
afterwards x s i m rest after e k = go (k == i) refl
  where
    go : (b : Bool) → (k == i) ≡ b → After x (digit b) m (s.node k).down (sent_to k after.1) (census x (s.node k)) (census x (receives (cond b (taken_from (s.node i) rest) (s.node k)) (sent_to k after.1)))
    go true t =
        let same : i ≡ k = sym (eqb-true k i t) in
        subst (λ (j : ℕ). After x 1 m (s.node j).down (sent_to k after.1) (census x (s.node j)) (census x (receives (taken_from (s.node i) rest) (sent_to k after.1)))) same
        (after_taken x (s.node i) m rest (sent_to k after.1) e)
    go false t = after_other x (s.node k) m (sent_to k after.1)

-- ---- what one node is sent

-- one message y goes to a node, d times
pub record SentOne (x : Line) (d : ℕ) (y : ToCache) (ds : List ToCache) : Type 0 where
  pub rdata : count_of is_rdata ds ≡ digit (is_rdata y) * d
  pub wdata : count_of is_wdata ds ≡ digit (is_wdata y) * d
  pub inv : count_of is_inv ds ≡ digit (is_inv y) * d
  pub busy : count_of is_busy ds ≡ digit (is_busy y) * d
  pub off : off_down x y ≡ 0 → weigh (off_down x) ds ≡ 0
  pub wrong : wrong_down ds ≡ 0

one_right : (y : ToCache) → wrong_down (y ∷ []) ≡ 0
one_right (RDATA body) = refl
one_right (WDATA body) = refl
one_right INV = refl
one_right BUSY = refl

pub sent_one : (x : Line) (k j : ℕ) (y : ToCache) → SentOne x (digit (k == j)) y (sent_to k ((j, y) ∷ []))
sent_one x k j y = go (k == j)
  where
    go : (b : Bool) → SentOne x (digit b) y (cond b (y ∷ []) [])
    go true = let r = one_right y in search arith
    go false = search arith

-- INV goes to a node, t times, and nothing else
pub record SentInvs (x : Line) (t : ℕ) (ds : List ToCache) : Type 0 where
  pub rdata : count_of is_rdata ds ≡ 0
  pub wdata : count_of is_wdata ds ≡ 0
  pub inv : count_of is_inv ds ≡ t
  pub busy : count_of is_busy ds ≡ 0
  pub off : weigh (off_down x) ds ≡ 0
  pub wrong : wrong_down ds ≡ 0

pub sent_invs : (x : Line) (k : ℕ) (js : List ℕ) → SentInvs x (times k js) (sent_to k (invs js))
sent_invs x k [] = search arith
sent_invs x k (j ∷ js) = go (k == j) (sent_invs x k js)
  where
    go : (b : Bool) → SentInvs x (times k js) (sent_to k (invs js)) → SentInvs x (digit b + times k js) (cond b (INV ∷ sent_to k (invs js)) (sent_to k (invs js)))
    go true rest = search arith
    go false rest = search arith

-- ---- destinations

-- each destination is a node of the n
abbrev pub DestsBelow : ℕ → Sends → Type 0
DestsBelow n [] = Unit {0}
DestsBelow n (x ∷ xs) = (x.0 < n) × DestsBelow n xs

pub invs_below : (n : ℕ) (js : List ℕ) → ((k : ℕ) → 1 ≤ times k js → k < n) → DestsBelow n (invs js)
invs_below n [] each = tt
invs_below n (j ∷ js) each = (each j (omega (arith, digit_same j j refl)), invs_below n js (λ k l. each k (omega arith)))

-- nodes past the n are sent nothing
pub sent_beyond : (n k : ℕ) (sends : Sends) → DestsBelow n sends → n ≤ k → sent_to k sends ≡ []
sent_beyond n k [] below l = refl
sent_beyond n k (y ∷ ys) below l = go (k == y.0) refl (sent_beyond n k ys below.1 l)
  where
    go : (b : Bool) → (k == y.0) ≡ b → sent_to k ys ≡ [] → cond b (y.1 ∷ sent_to k ys) (sent_to k ys) ≡ []
    go true t rest = let same : k ≡ y.0 = eqb-true k y.0 t in absurd (omega (arith, below.0))
    go false t rest = rest

-- nodes that had nothing still have nothing
pub absent_after : (n : ℕ) (x : Line) (s : LineState) (i : ℕ) (rest : List ToMemory) (after : Home × Sends) → Sound n x s → i < n → DestsBelow n after.1 → (k : ℕ) → n ≤ k → (acted s i rest after).node k ≡ absent
absent_after n x s i rest after before here below k l =
    let p : cond (k == i) (taken_from (s.node i) rest) (s.node k) ≡ absent =
    at_nodes (λ k v. n ≤ k → v ≡ absent) s.node i (taken_from (s.node i) rest) (λ m. absurd (omega arith)) (λ k d. before.beyond k) k l in
    let q : sent_to k after.1 ≡ [] = sent_beyond n k after.1 below l in
    λ t. receives (p t) (q t)

-- ---- the sum of what is owed

sum_digit : (n a i : ℕ) → i < n → sum_below n (λ k. a * digit (k == i)) ≡ a
sum_digit n a i l = sum_scale n a (λ k. digit (k == i)) ∙ rw (sum_one n i l) (omega arith)

sent_total : (n : ℕ) (sends : Sends) → DestsBelow n sends → sum_below n (λ k. count_of is_inv (sent_to k sends)) ≡ weigh (λ p. digit (is_inv p.1)) sends
sent_total n [] below = sum_none n (λ k. 0) (λ k l. refl)
sent_total n (y ∷ ys) below =
    let rest = sent_total n ys below.1 in
    let split : sum_below n (λ k. count_of is_inv (sent_to k (y ∷ ys))) ≡ sum_below n (λ k. digit (is_inv y.1) * digit (k == y.0) + count_of is_inv (sent_to k ys)) =
    sum_same n _ _ (λ k l. one (k == y.0) k) in
    let both = sum_both n (λ k. digit (is_inv y.1) * digit (k == y.0)) (λ k. count_of is_inv (sent_to k ys)) in
    let first = sum_digit n (digit (is_inv y.1)) y.0 below.0 in
    omega arith
  where
    one : (b : Bool) (k : ℕ) → count_of is_inv (cond b (y.1 ∷ sent_to k ys) (sent_to k ys)) ≡ digit (is_inv y.1) * digit b + count_of is_inv (sent_to k ys)
    one true k = omega arith
    one false k = omega arith

pub debt_total : (n : ℕ) (x : Line) (s : LineState) (i : ℕ) (m : ToMemory) (rest : List ToMemory) (after : Home × Sends) → Sound n x s → i < n → (s.node i).up ≡ m ∷ rest → DestsBelow n after.1 → sum_below n (λ k. owes (census x ((acted s i rest after).node k))) + (digit (is_ackc m) + digit (is_update m)) ≡ s.home.acks + weigh (λ p. digit (is_inv p.1)) after.1
debt_total n x s i m rest after before here e below =
    let f : ℕ → ℕ = λ k. owes (census x ((acted s i rest after).node k)) in
    let g : ℕ → ℕ = λ k. owes (census x (s.node k)) in
    let taken : ℕ → ℕ = λ k. digit (is_ackc m) * digit (k == i) + digit (is_update m) * digit (k == i) in
    let sent : ℕ → ℕ = λ k. count_of is_inv (sent_to k after.1) in
    let each : sum_below n (λ k. f k + taken k) ≡ sum_below n (λ k. g k + sent k) =
    sum_same n _ _ (λ k l. let a = afterwards x s i m rest after e k in omega arith) in
    let left = sum_both n f taken in
    let right = sum_both n g sent in
    let mid = sum_both n (λ k. digit (is_ackc m) * digit (k == i)) (λ k. digit (is_update m) * digit (k == i)) in
    omega (arith, before.total, sum_digit n (digit (is_ackc m)) i here, sum_digit n (digit (is_update m)) i here, sent_total n after.1 below)

pub length_invs : (js : List ℕ) → weigh (λ p. digit (is_inv p.1)) (invs js) ≡ length js
length_invs [] = refl
length_invs (j ∷ js) = omega (arith, length_invs js)

-- ---- the part of each node

-- the part of node k by the home's state and its one pointer; d is 1 where k is a member
pub record Roles (r : Role) (st : State) (o : Option ℕ) (d k : ℕ) : Type 0 where
  pub reads : r.reads ≡ in_read_transaction st (points o k)
  pub writes : r.writes ≡ in_write_transaction st (points o k)
  pub owns : r.owns ≡ in_read_write st (points o k)
  pub shares : r.shares ≡ in_read_only st d

pub roles : (h : Home) (st : State) (o : Option ℕ) (k : ℕ) → h.state ≡ st → sole h.pointers ≡ o → Roles (role h k) st o (digit (has_node h.pointers k)) k
roles h st o k e p = record {
  reads = ap (λ (t : State). in_read_transaction t (points (sole h.pointers) k)) e ∙ ap (λ (q : Option ℕ). in_read_transaction st (points q k)) p;
  writes = ap (λ (t : State). in_write_transaction t (points (sole h.pointers) k)) e ∙ ap (λ (q : Option ℕ). in_write_transaction st (points q k)) p;
  owns = ap (λ (t : State). in_read_write t (points (sole h.pointers) k)) e ∙ ap (λ (q : Option ℕ). in_read_write st (points q k)) p;
  shares = ap (λ (t : State). in_read_only t (digit (has_node h.pointers k))) e;
}

pub counts : (h : Home) (st : State) (o : Option ℕ) → h.state ≡ st → sole h.pointers ≡ o → CounterFits h.state (sole h.pointers) h.acks → CounterFits st o h.acks
counts h st o e p fits = subst (λ (q : Option ℕ). CounterFits st q h.acks) p (subst (λ (t : State). CounterFits t (sole h.pointers) h.acks) e fits)

pub sole_one : (i : ℕ) → sole (one_node i) ≡ Some i
sole_one i = ap only (members-one i)

only_one : (js : List ℕ) (j : ℕ) → only js ≡ Some j → js ≡ j ∷ []
only_one [] j e = absurd (cc)
only_one (k ∷ []) j e = let same : k ≡ j = cc in ap (λ n. n ∷ []) same
only_one (k ∷ l ∷ rest) j e = absurd (cc)

-- the one member, node by node
pub sole_is : (P : Nodes) (j k : ℕ) → sole P ≡ Some j → digit (has_node P k) ≡ digit (k == j)
sole_is P j k e = ap digit (ap (λ Q. has_node Q k) (one_of_members P j (only_one (members P) j e)) ∙ has-one j k)

-- two nodes aren't both the same
pub apart_digits : (i j k : ℕ) → i ≢ j → digit (k == i) + digit (k == j) ≤ 1
apart_digits i j k d = is_node _ k j
    (λ same. omega (arith, digit_le (k == j), digit_other k i (λ e. d (sym e ∙ same))))
    (λ other. omega (arith, digit_le (k == i), digit_other k j other))
