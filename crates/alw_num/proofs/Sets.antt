-- Laws of sets of nodes.
use Rattle.std.proofs.Common.{◌≡◌, ℕ, zero, suc, ◌+◌, ◌/◌, ◌%◌, ◌^◌, ◌<◌, ◌≤◌, ◌≢◌, ◌==◌, Bool, true, false, cond, ◌||◌, List, [], ◌∷◌, length, refl, sym, ap, ◌∙◌, ◌⊎◌, inl, inr, ⊎_elim, arith, bit_and, count_ones}
use Rattle.std.specs.Int.Count.{ones, ones_step}
use Rattle.std.specs.Int.{bit_at}
use Rattle.std.specs.List.{AllByRecursion}
use Rattle.std.proofs.lemmas.Bool.{eqb-true, eqb-false, eq-eqb, ne_eqb, cases_order, or_cases, false≢true}
use Rattle.std.proofs.lemmas.Bool.Decides.{nat_tests}
use Rattle.std.proofs.lemmas.List.{nil_from_length}
use Rattle.std.proofs.lemmas.Nat.Bits.{same_from_bits, bit_at-lt, bit_at-zero, bit_at_lowest, bit_at-suc, bit_at_or, bit_at_and, bit_at_xor, bit_at-pow_same, bit_at-pow_other}
use Rattle.alw_num.specs.NodeSets.{Nodes, no_nodes, has_node, add_node, drop_node, one_node, join_nodes, members, count_nodes, places, front_if, AreBelow}
use Rattle.alw_num.specs.Weights.{digit, weigh, times, sum_below}
use Rattle.alw_num.proofs.Weigh.{is_node, digit_same, digit_other, digit_le, digit_of_more, true_of_digit, cases_lt_then, sum_same, sum_le, sum_ones, sum_at, sum_times}

bit_by_test : (a b : ℕ) → a < 2 → b < 2 → (a == 1) ≡ (b == 1) → a ≡ b
bit_by_test a b l m e = grind (arith, nat_tests)

-- sets with the same members are equal
pub same_nodes : (A B : Nodes) → ((k : ℕ) → has_node A k ≡ has_node B k) → A ≡ B
unfolding has_node
same_nodes A B same =
    let bits : A.bits ≡ B.bits = same_from_bits A.bits B.bits (λ k. bit_by_test _ _ (bit_at-lt A.bits k) (bit_at-lt B.bits k) (same k)) in
    λ i. record { bits = bits i }

pub has-none : (k : ℕ) → has_node no_nodes k ≡ false
unfolding has_node no_nodes
has-none k = ap (λ b. b == 1) (bit_at-zero k)

pub has-add : (P : Nodes) (n k : ℕ) → has_node (add_node P n) k ≡ cond (k == n) true (has_node P k)
unfolding has_node add_node
has-add P n k = grind (arith, nat_tests, bit_at_or P.bits (2 ^ n) k, bit_at-pow_same k, bit_at-pow_other n k, bit_at-lt P.bits k)

pub has-drop : (P : Nodes) (n k : ℕ) → has_node (drop_node P n) k ≡ cond (k == n) false (has_node P k)
unfolding has_node drop_node
has-drop P n k = grind (arith, nat_tests, bit_at_xor P.bits (bit_and P.bits (2 ^ n)) k, bit_at_and P.bits (2 ^ n) k, bit_at-pow_same k, bit_at-pow_other n k, bit_at-lt P.bits k)

-- a set that a node joins or leaves, as a test says
pub has-put : (P : Nodes) (b : Bool) (n k : ℕ) → has_node (cond b (add_node P n) (drop_node P n)) k ≡ cond (k == n) b (has_node P k)
has-put P true n k = has-add P n k
has-put P false n k = has-drop P n k

pub has-join : (P Q : Nodes) (k : ℕ) → has_node (join_nodes P Q) k ≡ (has_node P k || has_node Q k)
unfolding has_node join_nodes
has-join P Q k = grind (arith, nat_tests, bit_at_or P.bits Q.bits k, bit_at-lt P.bits k, bit_at-lt Q.bits k)

pub has-one : (n k : ℕ) → has_node (one_node n) k ≡ (k == n)
has-one n k = has-add no_nodes n k ∙ rw (has-none k) (alone (k == n))
  where
    alone : (b : Bool) → cond b true false ≡ b
    alone true = refl
    alone false = refl

-- each member is at least a number, and above the one before it
abbrev pub AscendsFrom : ℕ → List ℕ → Type 0
AscendsFrom n [] = Unit {0}
AscendsFrom n (x ∷ xs) = (n ≤ x) × AscendsFrom (x + 1) xs

pub ascends_lower : (m n : ℕ) (xs : List ℕ) → m ≤ n → AscendsFrom n xs → AscendsFrom m xs
ascends_lower m n [] l a = tt
ascends_lower m n (x ∷ xs) l (h, a) = (omega arith, a)

pub times_before : (n : ℕ) (xs : List ℕ) (k : ℕ) → AscendsFrom n xs → k < n → times k xs ≡ 0
times_before n [] k a l = refl
times_before n (x ∷ xs) k (h, a) l = omega (arith, digit_other k x (λ e. omega arith), times_before (x + 1) xs k a (omega arith))

ascends_higher : (m n : ℕ) (xs : List ℕ) → AscendsFrom m xs → ((k : ℕ) → k < n → times k xs ≡ 0) → AscendsFrom n xs
ascends_higher m n [] a none = tt
ascends_higher m n (x ∷ xs) (h, a) none =
    (cases_lt_then n x (λ l. absurd (omega (arith, none x l, digit_same x x refl))) (λ l. l), a)

-- ascending lists with the same members are equal
pub same_ascending : (m n : ℕ) (xs ys : List ℕ) → AscendsFrom m xs → AscendsFrom n ys → ((k : ℕ) → times k xs ≡ times k ys) → xs ≡ ys
same_ascending m n [] [] a b same = refl
same_ascending m n [] (y ∷ ys) a b same = absurd (omega (arith, same y, digit_same y y refl))
same_ascending m n (x ∷ xs) [] a b same = absurd (omega (arith, same x, digit_same x x refl))
same_ascending m n (x ∷ xs) (y ∷ ys) (h, a) (g, b) same =
    go (same_ascending (x + 1) (y + 1) xs ys a b) (cases_order x y)
  where
    go : (((k : ℕ) → times k xs ≡ times k ys) → xs ≡ ys) → (x ≡ y) ⊎ ((x < y) ⊎ (y < x)) → x ∷ xs ≡ y ∷ ys
    go rest (inl e) =
        let tails = rest (λ k. let d : digit (k == x) ≡ digit (k == y) = ap (λ z. digit (k == z)) e in omega (arith, same k, d)) in
        cc
    go rest (inr (inl l)) = absurd (omega (arith, same x, digit_same x x refl, digit_other x y (λ e. omega arith), times_before (y + 1) ys x b (omega arith)))
    go rest (inr (inr l)) = absurd (omega (arith, same y, digit_same y y refl, digit_other y x (λ e. omega arith), times_before (x + 1) xs y a (omega arith)))

times-front_if : (b : Bool) (at k : ℕ) (rest : List ℕ) → times k (front_if b at rest) ≡ cond b (digit (k == at)) 0 + times k rest
times-front_if true at k rest = refl
times-front_if false at k rest = omega arith

ascends-front_if : (b : Bool) (at : ℕ) (rest : List ℕ) → AscendsFrom (at + 1) rest → AscendsFrom at (front_if b at rest)
ascends-front_if true at rest a = (omega arith, a)
ascends-front_if false at rest a = ascends_lower at (at + 1) rest (omega arith) a

places-ascend : (most : ℕ) (z : Bool) (at bits : ℕ) → AscendsFrom at (places most z at bits)
places-ascend zero z at bits = tt
places-ascend (suc most) true at bits = tt
places-ascend (suc most) false at bits = ascends-front_if (bits % 2 == 1) at _ (places-ascend most (bits / 2 == 0) (at + 1) (bits / 2))

places-times : (most : ℕ) (z : Bool) (at bits d k : ℕ) → bits ≤ most → (bits == 0) ≡ z → k ≡ at + d → times k (places most z at bits) ≡ digit (bit_at bits d == 1)
places-times zero z at bits d k l e is =
    let none : bits ≡ 0 = omega arith in
    rw (none, bit_at-zero d)
places-times (suc most) true at bits d k l e is = rw (eqb-true bits 0 e, bit_at-zero d)
places-times (suc most) false at bits zero k l e is =
    let here : k ≡ at = omega arith in
    let rest = times_before (at + 1) _ k (places-ascend most (bits / 2 == 0) (at + 1) (bits / 2)) (omega arith) in
    times-front_if (bits % 2 == 1) at k _ ∙ rw (rest, digit_same k at here, bit_at_lowest bits) (omega arith)
places-times (suc most) false at bits (suc d) k l e is =
    let half : bits / 2 ≤ most = omega (arith, eqb-false bits 0 e) in
    let rest = places-times most (bits / 2 == 0) (at + 1) (bits / 2) d k half refl (omega arith) in
    times-front_if (bits % 2 == 1) at k _ ∙ rw (rest, digit_other k at (λ s. omega arith), bit_at-suc bits d) (none_first (bits % 2 == 1) _)
  where
    none_first : (b : Bool) (n : ℕ) → cond b 0 0 + n ≡ n
    none_first true n = omega arith
    none_first false n = omega arith

length-front_if : (b : Bool) (at : ℕ) (rest : List ℕ) → length (front_if b at rest) ≡ digit b + length rest
length-front_if true at rest = omega arith
length-front_if false at rest = omega arith

digit-odd : (n : ℕ) → digit (n % 2 == 1) ≡ n % 2
digit-odd n = grind (arith, nat_tests)

ones_none : count_ones 0 ≡ 0
unfolding ones
ones_none = refl

places-length : (most : ℕ) (z : Bool) (at bits : ℕ) → bits ≤ most → (bits == 0) ≡ z → length (places most z at bits) ≡ count_ones bits
places-length zero z at bits l e =
    let none : bits ≡ 0 = omega arith in
    rw (none, ones_none)
places-length (suc most) true at bits l e = rw (eqb-true bits 0 e, ones_none)
places-length (suc most) false at bits l e =
    let half : bits / 2 ≤ most = omega (arith, eqb-false bits 0 e) in
    omega (arith, length-front_if (bits % 2 == 1) at (places most (bits / 2 == 0) (at + 1) (bits / 2)), digit-odd bits, places-length most (bits / 2 == 0) (at + 1) (bits / 2) half refl, ones_step bits)

-- how often a node stands among the members: once, where it is one
pub member : (P : Nodes) (k : ℕ) → times k (members P) ≡ digit (has_node P k)
unfolding members has_node
member P k = places-times P.bits (P.bits == 0) 0 P.bits k k (omega arith) refl (omega arith)

pub members-ascend : (P : Nodes) → AscendsFrom 0 (members P)
unfolding members
members-ascend P = places-ascend P.bits (P.bits == 0) 0 P.bits

-- an ascending list of a set's members is their list
pub members_are : (P : Nodes) (n : ℕ) (ks : List ℕ) → AscendsFrom n ks → ((k : ℕ) → times k ks ≡ digit (has_node P k)) → members P ≡ ks
members_are P n ks a is = same_ascending 0 n (members P) ks (members-ascend P) a (λ k. omega (arith, member P k, is k))

pub members-none : members no_nodes ≡ []
members-none = members_are no_nodes 0 [] tt (λ k. rw (has-none k))

pub members-one : (n : ℕ) → members (one_node n) ≡ n ∷ []
members-one n = members_are (one_node n) n (n ∷ []) (omega arith, tt) (λ k. rw (has-one n k) (omega arith))

-- the least member comes first
pub members-least : (P : Nodes) (m : ℕ) → has_node P m ≡ true → ((k : ℕ) → k < m → has_node P k ≡ false) → members P ≡ m ∷ members (drop_node P m)
members-least P m here before = members_are P m (m ∷ members (drop_node P m))
    (omega arith, ascends_higher 0 (m + 1) (members (drop_node P m)) (members-ascend (drop_node P m)) (λ k l. member (drop_node P m) k ∙ ap digit (has-drop P m k ∙ dropped k l)))
    (λ k. omega (arith, member (drop_node P m) k, there k))
  where
    dropped : (k : ℕ) → k < m + 1 → cond (k == m) false (has_node P k) ≡ false
    dropped k l = is_node (cond (k == m) false (has_node P k) ≡ false) k m
        (λ e. rw (eq-eqb k m e))
        (λ d. rw (ne_eqb k m d, before k (omega arith)))

    there : (k : ℕ) → digit (k == m) + digit (has_node (drop_node P m) k) ≡ digit (has_node P k)
    there k = rw (has-drop P m k) (is_node (digit (k == m) + digit (cond (k == m) false (has_node P k)) ≡ digit (has_node P k)) k m
        (λ e. rw (eq-eqb k m e, e, here))
        (λ d. rw (ne_eqb k m d) (omega arith)))

pub count-bits : (P : Nodes) → count_nodes P ≡ count_ones P.bits
unfolding members
count-bits P = places-length P.bits (P.bits == 0) 0 P.bits (omega arith) refl

pub add_member : (P : Nodes) (n : ℕ) → has_node P n ≡ true → add_node P n ≡ P
add_member P n here = same_nodes _ _ (λ k. grind (arith, nat_tests, has-add P n k))

pub add-drop : (P : Nodes) (n : ℕ) → has_node P n ≡ true → add_node (drop_node P n) n ≡ P
add-drop P n here = same_nodes _ _ (λ k. grind (arith, nat_tests, has-add (drop_node P n) n k, has-drop P n k))

pub join-none : (P : Nodes) → join_nodes P no_nodes ≡ P
join-none P = same_nodes _ _ (λ k. grind (arith, has-join P no_nodes k, has-none k))

pub none-join : (P : Nodes) → join_nodes no_nodes P ≡ P
none-join P = same_nodes _ _ (λ k. grind (arith, has-join no_nodes P k, has-none k))

pub join-add : (P Q : Nodes) (n : ℕ) → join_nodes P (add_node Q n) ≡ add_node (join_nodes P Q) n
join-add P Q n = same_nodes _ _ (λ k. grind (arith, nat_tests, has-join P (add_node Q n) k, has-add Q n k, has-add (join_nodes P Q) n k, has-join P Q k))

pub add-join : (P Q : Nodes) (n : ℕ) → join_nodes (add_node P n) Q ≡ add_node (join_nodes P Q) n
add-join P Q n = same_nodes _ _ (λ k. grind (arith, nat_tests, has-join (add_node P n) Q k, has-add P n k, has-add (join_nodes P Q) n k, has-join P Q k))

-- how often a node stands among the members without another
pub times-drop : (P : Nodes) (n k : ℕ) → times k (members (drop_node P n)) ≡ cond (k == n) 0 (digit (has_node P k))
times-drop P n k = member (drop_node P n) k ∙ ap digit (has-drop P n k) ∙ inside (k == n) (has_node P k)
  where
    inside : (b c : Bool) → digit (cond b false c) ≡ cond b 0 (digit c)
    inside true c = refl
    inside false c = refl

false_of_digit : (b : Bool) → digit b ≡ 0 → b ≡ false
false_of_digit true e = absurd (omega arith)
false_of_digit false e = refl

pub has_of_times : (P : Nodes) (k : ℕ) → 1 ≤ times k (members P) → has_node P k ≡ true
has_of_times P k l = true_of_digit (has_node P k) (omega (arith, member P k))

pub none_of_members : (P : Nodes) → members P ≡ [] → P ≡ no_nodes
none_of_members P e = same_nodes P no_nodes (λ k. false_of_digit (has_node P k) (sym (member P k) ∙ ap (times k) e) ∙ sym (has-none k))

pub has_front : (P : Nodes) (m : ℕ) (rest : List ℕ) → members P ≡ m ∷ rest → has_node P m ≡ true
has_front P m rest e = has_of_times P m (omega (arith, ap (times m) e, digit_same m m refl))

-- the members without the first of them
pub members-drop_front : (P : Nodes) (m : ℕ) (rest : List ℕ) → members P ≡ m ∷ rest → members (drop_node P m) ≡ rest
members-drop_front P m rest e =
    let order : AscendsFrom 0 (m ∷ rest) = rw e at (members-ascend P) in
    members_are (drop_node P m) (m + 1) rest order.1 (λ k.
    let whole : digit (k == m) + times k rest ≡ digit (has_node P k) = sym (ap (times k) e) ∙ member P k in
    let later = times_before (m + 1) rest k order.1 in
    rw (has-drop P m k) (is_node (times k rest ≡ digit (cond (k == m) false (has_node P k))) k m
    (λ same. rw (eq-eqb k m same) (later (omega arith)))
    (λ other. rw (ne_eqb k m other) (omega (arith, digit_other k m other)))))

pub one_of_members : (P : Nodes) (n : ℕ) → members P ≡ n ∷ [] → P ≡ one_node n
one_of_members P n e =
    sym (add-drop P n (has_front P n [] e)) ∙ ap (λ Q. add_node Q n) (none_of_members (drop_node P n) (members-drop_front P n [] e))

each_of : (Q : ℕ → Type 0) (js : List ℕ) → ((k : ℕ) → 1 ≤ times k js → Q k) → AllByRecursion Q js
each_of Q [] each = tt
each_of Q (j ∷ js) each = (each j (omega (arith, digit_same j j refl)), each_of Q js (λ k l. each k (omega arith)))

-- what holds of each node in a set holds of each of its members
pub each_member : (P : Nodes) (Q : ℕ → Type 0) → ((k : ℕ) → has_node P k ≡ true → Q k) → AllByRecursion Q (members P)
each_member P Q each = each_of Q (members P) (λ k l. each k (has_of_times P k l))

-- numbers that stand nowhere in a list: those above the sum of all in it
pub times_beyond : (js : List ℕ) (k : ℕ) → weigh (λ j. j) js < k → times k js ≡ 0
times_beyond [] k l = refl
times_beyond (j ∷ js) k l = omega (arith, digit_other k j (λ e. omega arith), times_beyond js k (omega arith))

-- the number of members, node by node
pub count-sum : (P : Nodes) (n : ℕ) → ((k : ℕ) → n ≤ k → has_node P k ≡ false) → count_nodes P ≡ sum_below n (λ k. digit (has_node P k))
count-sum P n past = sym (sum_times n (members P) (λ k l. member P k ∙ ap digit (past k l))) ∙ sum_same n _ _ (λ k l. member P k)

last_of : Nodes → ℕ
last_of P = weigh (λ j. j) (members P)

past_last : (P : Nodes) (k : ℕ) → last_of P < k → has_node P k ≡ false
unfolding last_of
past_last P k l = false_of_digit (has_node P k) (sym (member P k) ∙ times_beyond (members P) k l)

pub count-none : count_nodes no_nodes ≡ 0
count-none = ap length members-none

pub count-one : (n : ℕ) → count_nodes (one_node n) ≡ 1
count-one n = ap length (members-one n)

pub none_of_count : (P : Nodes) → count_nodes P ≡ 0 → P ≡ no_nodes
none_of_count P e = none_of_members P (nil_from_length (members P) e)

-- a node more or less
count_differs : (P Q : Nodes) (n : ℕ) → ((k : ℕ) → k ≢ n → has_node P k ≡ has_node Q k) → count_nodes P + digit (has_node Q n) ≡ count_nodes Q + digit (has_node P n)
count_differs P Q n same =
    let most : ℕ = last_of P + last_of Q + n + 1 in
    let p = count-sum P most (λ k l. past_last P k (omega arith)) in
    let q = count-sum Q most (λ k l. past_last Q k (omega arith)) in
    let s = sum_at most (λ k. digit (has_node P k)) (λ k. digit (has_node Q k)) n (omega arith) (λ k d. ap digit (same k d)) in
    omega arith

pub count-add : (P : Nodes) (n : ℕ) → count_nodes (add_node P n) + digit (has_node P n) ≡ count_nodes P + 1
count-add P n =
    let here : has_node (add_node P n) n ≡ true = has-add P n n ∙ rw (eq-eqb n n refl) in
    omega (arith, count_differs (add_node P n) P n (λ k d. has-add P n k ∙ rw (ne_eqb k n d)), ap digit here)

-- a set whose nodes are all in another has no more of them
pub count-le : (P Q : Nodes) → ((k : ℕ) → has_node P k ≡ true → has_node Q k ≡ true) → count_nodes P ≤ count_nodes Q
count-le P Q within =
    let most : ℕ = last_of P + last_of Q + 1 in
    let p = count-sum P most (λ k l. past_last P k (omega arith)) in
    let q = count-sum Q most (λ k l. past_last Q k (omega arith)) in
    let s = sum_le most (λ k. digit (has_node P k)) (λ k. digit (has_node Q k)) (λ k l. digit_of_more (has_node P k) (has_node Q k) (within k)) in
    omega arith

-- a set of nodes below n has no more than n
pub count_below : (P : Nodes) (n : ℕ) → ((k : ℕ) → n ≤ k → has_node P k ≡ false) → count_nodes P ≤ n
count_below P n past = omega (arith, count-sum P n past, sum_le n (λ k. digit (has_node P k)) (λ k. 1) (λ k l. digit_le (has_node P k)), sum_ones n)

-- without its least member a set has fewer
pub count_falls : (rest after : Nodes) (m : ℕ) → members rest ≡ m ∷ members (drop_node rest m) → after ≡ drop_node rest m → count_nodes after < count_nodes rest
count_falls rest after m least dropped = let count = ap length least in rw dropped (omega arith)

-- ---- sets whose members are below a number

pub none_below : (n : ℕ) → AreBelow n no_nodes
none_below n k has = absurd (false≢true (sym (has-none k) ∙ has))

pub add_below : (n i : ℕ) (set : Nodes) → i < n → AreBelow n set → AreBelow n (add_node set i)
add_below n i set l below k has = go (k == i) refl (sym (has-add set i k) ∙ has)
  where
    go : (b : Bool) → (k == i) ≡ b → cond b true (has_node set k) ≡ true → k < n
    go true same is = rw (eqb-true k i same) l
    go false other is = below k is

pub one_below : (n i : ℕ) → i < n → AreBelow n (one_node i)
one_below n i l = add_below n i no_nodes l (none_below n)

pub join_below : (n : ℕ) (one other : Nodes) → AreBelow n one → AreBelow n other → AreBelow n (join_nodes one other)
join_below n one other first second k has = ⊎_elim (first k) (second k) (or_cases (has_node one k) (has_node other k) (sym (has-join one other k) ∙ has))
