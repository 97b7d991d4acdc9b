-- A sound line meets each clause of the line invariant.
use Rattle.std.proofs.Common.{◌≡◌, ◌≢◌, ℕ, zero, suc, ◌+◌, ◌<◌, ◌≤◌, ◌==◌, nat_le, Bool, true, false, not, ◌&&◌, ◌||◌, Option, Some, None, is_some, IsTrue, List, refl, sym, subst, ap, ◌∙◌, arith}
use Rattle.std.proofs.lemmas.Bool.{eq-eqb, le-leb, and_from}
use Rattle.std.specs.List.{list_any, list_all}
use Rattle.alw_num.specs.declared.addresses.Line.{Line}
use Rattle.alw_num.specs.declared.states.Mode.{Mode}
use Rattle.alw_num.specs.declared.states.Mode.TheVariants.{Read, Write}
use Rattle.alw_num.specs.declared.states.State.{State}
use Rattle.alw_num.specs.declared.states.State.TheVariants.{RO, RW, RT, WT}
use Rattle.alw_num.specs.NodeSets.{has_node}
use Rattle.alw_num.specs.Weights.{digit, sum_below}
use Rattle.alw_num.proofs.Weigh.{digit_same, true_of_digit, sum_same, sum_none, le_sum, cases_lt_then}
use Rattle.alw_msg.specs.Contents.{ToCache, is_repm, is_ackc, is_rdata, is_wdata, is_inv, is_busy}
use Rattle.alw_model.specs.FullMap.{sole}
use Rattle.alw_num.specs.Maps.{passes}
use Rattle.alw_model.specs.LimitLess.{Directory}
use Rattle.alw_msg.specs.Lists.{count_of, is_followed}
use Rattle.alw_model.specs.Lines.{LineState, LineNode, line_value}
use Rattle.alw_model.specs.LineInvariant as words
use Rattle.alw_model.specs.LineInvariant.{LineInvariant, is_reading, is_writing, is_shared, is_sole, reads, writes, all_carried, same_line, reads_of, writes_of, transaction_by, transaction_fits, counter_by, counter_fits, debt_fits, is_recalled, carrier_by, carrier_fits, data_holds, current_fits, sharer_fits, order_fits, single_by, software_fits}
use Rattle.law_line.specs.Census.{is_read, is_write, copies_of, transactions_of, off_copy, census, owes, carries}
use Rattle.law_line.specs.Sound.{points, in_read_transaction, in_write_transaction, in_read_write, in_read_only, role, CounterFits, Sound}
use Rattle.law_line.proofs.Bodies.{line_equals, same_of_off}
use Rattle.law_line.proofs.Nodes.{debts, owner_owes, one_carrier}
use Rattle.law_line.proofs.Homes.{roles, counts, sole_is}
use Rattle.law_line.proofs.Tests.{or_left, or_right, not_true, by_test, any_some, any_none, rdata_followed, wdata_followed, repm_followed, down_clear, up_clear, reads_count, writes_count, carried_length, data_all_hold, carriers_length, current_is}

-- ---- the part of a node, by tests

reading_digit : (st : State) (o : Option ℕ) (i : ℕ) → digit (is_reading st && passes (λ j. i == j) o) ≡ in_read_transaction st (points o i)
reading_digit RT None i = refl
reading_digit RT (Some k) i = refl
reading_digit RO o i = refl
reading_digit RW o i = refl
reading_digit WT o i = refl

writing_digit : (st : State) (o : Option ℕ) (i : ℕ) → digit (is_writing st && passes (λ j. i == j) o) ≡ in_write_transaction st (points o i)
writing_digit WT None i = refl
writing_digit WT (Some k) i = refl
writing_digit RO o i = refl
writing_digit RW o i = refl
writing_digit RT o i = refl

owning_digit : (o : Option ℕ) (i : ℕ) → digit (passes (λ j. i == j) o) ≡ points o i
owning_digit None i = refl
owning_digit (Some k) i = refl

sharing_digit : (st : State) (b : Bool) → digit (is_shared st && b) ≡ in_read_only st (digit b)
sharing_digit RO b = refl
sharing_digit RW b = refl
sharing_digit RT b = refl
sharing_digit WT b = refl

-- the node of a transaction has that part
moving_part : (st : State) (o : Option ℕ) (i : ℕ) → ((is_reading st || is_writing st) && passes (λ j. i == j) o) ≡ true → in_read_transaction st (points o i) + in_write_transaction st (points o i) ≡ 1
moving_part RO o i is = absurd (cc)
moving_part RW o i is = absurd (cc)
moving_part RT o i is = omega (arith, sym (owning_digit o i) ∙ ap digit is)
moving_part WT o i is = omega (arith, sym (owning_digit o i) ∙ ap digit is)

-- ---- the tests, by numbers

by_mode : (t : Option Mode) (reads writes busy : ℕ) → reads + writes + busy ≡ transactions_of is_read t + transactions_of is_write t → reads ≤ transactions_of is_read t → writes ≤ transactions_of is_write t → transactions_of is_read t + transactions_of is_write t ≤ 1 → transaction_by t reads writes busy ≡ true
by_mode None reads writes busy all r w one = eq-eqb (reads + writes + busy) 0 all
by_mode (Some Read) reads writes busy all r w one = and_from (reads + busy == 1) (writes == 0) (eq-eqb (reads + busy) 1 (omega arith)) (eq-eqb writes 0 (omega arith))
by_mode (Some Write) reads writes busy all r w one = and_from (writes + busy == 1) (reads == 0) (eq-eqb (writes + busy) 1 (omega arith)) (eq-eqb reads 0 (omega arith))

by_debt : (owed : ℕ) (moving : Bool) → owed ≤ 1 → (moving ≡ true → owed ≡ 0) → (nat_le owed 1 && (not moving || (owed == 0))) ≡ true
by_debt owed false few none = and_from (nat_le owed 1) true (le-leb owed 1 few) refl
by_debt owed true few none = and_from (nat_le owed 1) (owed == 0) (le-leb owed 1 few) (eq-eqb owed 0 (none refl))

by_recall : (owed acks : ℕ) (behind writing coming back : Bool) → owed ≡ 1 → acks ≡ 1 → behind ≡ true → (writing ≡ true → coming ≡ true) → (coming ≡ false → back ≡ true) → (owed == 1 && (acks == 1 && (behind && ((not writing || coming) && (coming || back))))) ≡ true
by_recall owed acks behind writing coming back o a d w b = and_from (owed == 1) _ (eq-eqb owed 1 o) (and_from (acks == 1) _ (eq-eqb acks 1 a) (and_from behind _ d (both writing coming back w b)))
  where
    both : (writing coming back : Bool) → (writing ≡ true → coming ≡ true) → (coming ≡ false → back ≡ true) → ((not writing || coming) && (coming || back)) ≡ true
    both true true back w b = refl
    both true false back w b = absurd (let f = w refl in cc)
    both false true back w b = refl
    both false false back w b = b refl

by_moving : (total here : ℕ) (recall : Bool) → total ≤ 1 → (1 ≤ here → recall ≡ true) → (nat_le total 1 && (here == 0 || recall)) ≡ true
by_moving total here recall few some = and_from (nat_le total 1) (here == 0 || recall) (le-leb total 1 few) (cases_lt_then 1 here
    (λ l. or_left (here == 0) recall (eq-eqb here 0 (omega arith)))
    (λ l. or_right (here == 0) recall (some l)))

by_current : (reading holds brought coming arriving : Bool) (total : ℕ) → (reading ≡ true → holds ≡ true) → brought ≡ true → (1 ≤ total → (coming ≡ false) × (reading ≡ true → arriving ≡ true)) → ((not reading || holds) && (brought && (total == 0 || (not coming && (not reading || arriving))))) ≡ true
by_current reading holds brought coming arriving total h d alone = and_from (not reading || holds) _ (implied reading holds h) (and_from brought _ d (cases_lt_then 1 total
    (λ l. or_left (total == 0) _ (eq-eqb total 0 (omega arith)))
    (λ l. or_right (total == 0) _ (and_from (not coming) _ (not_true coming (alone l).0) (implied reading arriving (alone l).1)))))
  where
    implied : (a b : Bool) → (a ≡ true → b ≡ true) → (not a || b) ≡ true
    implied true b f = f refl
    implied false b f = refl

by_sharing : (reading coming shares inv behind writer arriving : Bool) → (shares ≡ false → inv ≡ false → (coming ≡ false) × (reading ≡ true → (writer || arriving) ≡ true)) → (inv ≡ true → shares ≡ false → behind ≡ true) → (not (reading || coming) || (shares || ((inv && behind) || (reading && (writer || arriving))))) ≡ true
by_sharing reading coming true inv behind writer arriving f g = or_right (not (reading || coming)) true refl
by_sharing reading coming false true behind writer arriving f g = or_right (not (reading || coming)) _ (or_left behind _ (g refl refl))
by_sharing true coming false false behind writer arriving f g = or_right (not (true || coming)) _ ((f refl refl).1 refl)
by_sharing false coming false false behind writer arriving f g = or_left (not coming) _ (not_true coming (f refl refl).0)

none_of_any : {M : Type 0} (test : M → Bool) (messages : List M) → list_any test messages ≡ false → count_of test messages ≡ 0
none_of_any test messages none = cases_lt_then 1 (count_of test messages) (λ l. omega arith) (λ l. absurd (let some = any_some test messages l in cc))

some_writer : (writer : Bool) (down : List ToCache) → 1 ≤ digit writer + count_of is_wdata down → (writer || list_any is_wdata down) ≡ true
some_writer true down some = refl
some_writer false down some = any_some is_wdata down (omega arith)

copy_holds : (x : Line) (copy : Option (Mode × Line)) → 1 ≤ copies_of is_read copy → off_copy x copy ≡ 0 → passes (λ (c : Mode × Line). same_line c.1 x) copy ≡ true
copy_holds x None some none = absurd (omega arith)
copy_holds x (Some (mode, body)) some none = rw (same_of_off x body none) (line_equals x)

by_single : (v : LineNode) (t : Option Mode) → copies_of is_write v.copy + transactions_of is_read t + transactions_of is_write t ≤ 1 → transactions_of is_read t + copies_of is_read v.copy + copies_of is_write v.copy ≤ 1 → single_by t v ≡ true
by_single v None w r = refl
by_single v (Some Read) w r = not_true (is_some v.copy) (no_copy v.copy (omega arith))
  where
    no_copy : (copy : Option (Mode × Line)) → copies_of is_read copy + copies_of is_write copy ≡ 0 → is_some copy ≡ false
    no_copy None none = refl
    no_copy (Some (Read, body)) none = absurd (omega arith)
    no_copy (Some (Write, body)) none = absurd (omega arith)
by_single v (Some Write) w r = not_true (writes v) (by_test (writes v) (λ is. absurd (let one : digit (writes v) ≡ 1 = ap digit is in omega (arith, writes_count v))) (λ isnt. isnt))

-- a sum of numbers of which two are at most 1 together
pub sum_few : (n : ℕ) (f : ℕ → ℕ) → ((i : ℕ) → f i ≤ 1) → ((i j : ℕ) → j ≢ i → f i + f j ≤ 1) → sum_below n f ≤ 1
sum_few zero f each two = omega arith
sum_few (suc n) f each two = cases_lt_then 1 (f n)
    (λ l. omega (arith, sum_few n f each two))
    (λ l. omega (arith, each n, sum_none n f (λ i m. omega (arith, two n i (λ e. omega arith)))))

pub some_of_sum : (n : ℕ) (f : ℕ → ℕ) → 1 ≤ sum_below n f → (j : ℕ) × ((j < n) × (1 ≤ f j))
some_of_sum zero f some = absurd (omega arith)
some_of_sum (suc n) f some = cases_lt_then 1 (f n)
    (λ l. let j = some_of_sum n f (omega arith) in (j.0, (omega (arith, j.1.0), j.1.1)))
    (λ l. (n, (omega arith, l)))

-- ---- the clauses

module _ (n : ℕ) (x : Line) (s : LineState) (sound : Sound n x s) where
  reads_is : (i : ℕ) → reads_of s i ≡ (census x (s.node i)).rreq + (census x (s.node i)).rdata + (role s.home i).reads
  reads_is i = omega (arith, reading_digit s.home.state (sole s.home.pointers) i)

  writes_is : (i : ℕ) → writes_of s i ≡ (census x (s.node i)).wreq + (census x (s.node i)).wdata + (role s.home i).writes
  writes_is i = omega (arith, writing_digit s.home.state (sole s.home.pointers) i)

  -- a transaction stands in one place
  pub transaction_holds : (i : ℕ) → IsTrue (transaction_fits s i)
  transaction_holds i =
      let c = sound.each i in
      let r = reads_is i in
      let w = writes_is i in
      by_mode (s.node i).transaction (reads_of s i) (writes_of s i) (count_of is_busy (s.node i).down) (omega arith) (omega arith) (omega arith) (omega arith)

  -- the counter by the state, and as the sum of what is owed
  pub counter_holds : IsTrue (counter_fits n s)
  counter_holds = and_from _ _ (by_state s.home.state (sole s.home.pointers) s.home.acks sound.counter)
      (eq-eqb _ _ (sum_same n (λ i. words.owes (s.node i)) (λ i. owes (census x (s.node i))) (λ i l. omega arith) ∙ sound.total))
    where
      by_state : (st : State) (o : Option ℕ) (acks : ℕ) → CounterFits st o acks → counter_by st o acks ≡ true
      by_state RO o acks fits = eq-eqb acks 0 fits
      by_state RW None acks fits = absurd fits
      by_state RW (Some k) acks fits = eq-eqb acks 0 fits
      by_state RT None acks fits = absurd fits
      by_state RT (Some k) acks fits = eq-eqb acks 1 fits
      by_state WT None acks fits = absurd fits
      by_state WT (Some k) acks fits = le-leb 1 acks fits

  -- one answer is owed at most, and none by the node of a transaction
  pub debt_holds : (i : ℕ) → IsTrue (debt_fits s i)
  debt_holds i =
      let c = sound.each i in
      let q = owner_owes n x s sound i in
      by_debt (words.owes (s.node i)) ((is_reading s.home.state || is_writing s.home.state) && is_sole s i) (omega arith) (λ is. let p = moving_part s.home.state (sole s.home.pointers) i is in omega arith)

  carries_is : (i : ℕ) → words.carries (s.node i) ≡ carries (census x (s.node i))
  carries_is i = carried_length x (s.node i)

  carries_few : (i : ℕ) → carries (census x (s.node i)) ≤ 1
  carries_few i = let c = sound.each i in let q = owner_owes n x s sound i in omega arith

  -- there is one carrier at most
  few_carried : all_carried n s ≤ 1
  few_carried = sum_few n (λ i. words.carries (s.node i)) (λ i. omega (arith, carries_is i, carries_few i)) (λ i j apart. omega (arith, carries_is i, carries_is j, one_carrier n x s i j sound apart))

  -- the owner carries
  owned : (j : ℕ) → sole s.home.pointers ≡ Some j → s.home.state ≡ RW → 1 ≤ all_carried n s
  owned j p st =
      let d = digit_same j j refl in
      let here : j < n = sound.members j (true_of_digit (has_node s.home.pointers j) (omega (arith, sole_is s.home.pointers j j p))) in
      let c = sound.each j in
      let r = roles s.home RW (Some j) j st p in
      omega (arith, le_sum n (λ k. words.carries (s.node k)) j here, carries_is j)

  -- a carrier in a transaction is recalled
  recalled : (i : ℕ) → (role s.home i).owns ≡ 0 → 1 ≤ carries (census x (s.node i)) → is_recalled (s.node i) s.home.acks ≡ true
  recalled i idle some =
      let v = s.node i in
      let c = sound.each i in
      let q = debts n x s sound i in
      let few = carries_few i in
      let last : s.home.acks ≤ 1 = c.last some in
      let w = writes_count v in
      by_recall (words.owes v) s.home.acks (is_followed is_wdata is_inv v.down) (writes v) (list_any is_inv v.down) (is_followed is_repm is_ackc v.up) (omega arith) (omega arith)
      (wdata_followed v.down c.down (omega arith))
      (λ is. let one : digit (writes v) ≡ 1 = ap digit is in any_some is_inv v.down (omega arith))
      (λ none. repm_followed v.up c.up (let e = none_of_any is_inv v.down none in omega arith))

  -- the carrier by the state
  pub carrier_holds : (i : ℕ) → IsTrue (carrier_fits n s i)
  carrier_holds i = by_state s.home.state refl
    where
      moving : (role s.home i).owns ≡ 0 → (nat_le (all_carried n s) 1 && (words.carries (s.node i) == 0 || is_recalled (s.node i) s.home.acks)) ≡ true
      moving idle = by_moving (all_carried n s) (words.carries (s.node i)) (is_recalled (s.node i) s.home.acks) few_carried (λ l. recalled i idle (omega (arith, carries_is i)))

      by_state : (st : State) → s.home.state ≡ st → carrier_by st (is_sole s i) s.home.acks (s.node i) (all_carried n s) ≡ true
      by_state RO st =
          let c = sound.each i in
          let q = debts n x s sound i in
          let idle : (role s.home i).owns ≡ 0 = ap (λ (t : State). in_read_write t (points (sole s.home.pointers) i)) st in
          let quiet : s.home.acks ≡ 0 = counts s.home RO (sole s.home.pointers) st refl sound.counter in
          eq-eqb _ _ (omega (arith, carries_is i))
      by_state RW st = by_owner (sole s.home.pointers) refl st (counts s.home RW (sole s.home.pointers) st refl sound.counter)
        where
          by_owner : (o : Option ℕ) → sole s.home.pointers ≡ o → s.home.state ≡ RW → CounterFits RW o s.home.acks → (all_carried n s == 1 && (words.carries (s.node i) == digit (passes (λ j. i == j) o))) ≡ true
          by_owner None p st fits = absurd fits
          by_owner (Some j) p st quiet =
              let c = sound.each i in
              let q = debts n x s sound i in
              let r = roles s.home RW (Some j) i st p in
              let mine = carries_is i in
              let few = few_carried in
              let some = owned j p st in
              and_from (all_carried n s == 1) _ (eq-eqb (all_carried n s) 1 (omega arith)) (eq-eqb (words.carries (s.node i)) (digit (i == j)) (omega arith))
      by_state RT st = moving (ap (λ (t : State). in_read_write t (points (sole s.home.pointers) i)) st)
      by_state WT st = moving (ap (λ (t : State). in_read_write t (points (sole s.home.pointers) i)) st)

  -- the value is the line's current value
  pub value_is : line_value n s ≡ x
  value_is =
      let total = carriers_length n s in
      let few = few_carried in
      current_is n x s (λ i. (sound.each i).fresh) (omega arith) (λ none. sound.home_value (λ k. cases_lt_then n k
      (λ l. omega (arith, le_sum n (λ i. words.carries (s.node i)) k l, carries_is k))
      (λ l. ap (λ v. carries (census x v)) (sound.beyond k l))))

  -- each copy has the current value, and nobody is to read beside a carrier
  pub current_holds : (i : ℕ) → IsTrue (current_fits n s i)
  current_holds i =
      let v = s.node i in
      let c = sound.each i in
      let r = reads_count v in
      subst (λ (value : Line). ((not (reads v) || passes (λ (copy : Mode × Line). same_line copy.1 value) v.copy) && (list_all (data_holds value) v.down && (all_carried n s == 0 || (not (list_any is_rdata v.down) && (not (reads v) || list_any is_wdata v.down))))) ≡ true) (sym value_is)
      (by_current (reads v) (passes (λ (copy : Mode × Line). same_line copy.1 x) v.copy) (list_all (data_holds x) v.down) (list_any is_rdata v.down) (list_any is_wdata v.down) (all_carried n s)
      (λ is. copy_holds x v.copy (let one : digit (reads v) ≡ 1 = ap digit is in omega arith) (omega arith))
      (data_all_hold x v.down (omega arith))
      (λ some.
      let j = some_of_sum n (λ k. words.carries (s.node k)) some in
      let a = sound.alone j.0 i (omega (arith, j.1.1, carries_is j.0)) in
      (any_none is_rdata v.down a.0, λ is. any_some is_wdata v.down (let one : digit (reads v) ≡ 1 = ap digit is in omega arith))))

  -- who has a Read-Only copy, or is to get one, shares, is about to lose it or about to write
  pub sharers_hold : (i : ℕ) → IsTrue (sharer_fits s i)
  sharers_hold i =
      let v = s.node i in
      let c = sound.each i in
      let r = reads_count v in
      let t = sharing_digit s.home.state (has_node s.home.pointers i) in
      let w = writing_digit s.home.state (sole s.home.pointers) i in
      let shares = is_shared s.home.state && has_node s.home.pointers i in
      let writer = is_writing s.home.state && is_sole s i in
      by_sharing (reads v) (list_any is_rdata v.down) shares (list_any is_inv v.down) (is_followed is_rdata is_inv v.down) writer (list_any is_wdata v.down)
      (λ alone none.
      let zero : digit shares ≡ 0 = ap digit alone in
      let e = none_of_any is_inv v.down none in (
        any_none is_rdata v.down (omega arith),
        λ is.
            let one : digit (reads v) ≡ 1 = ap digit is in
            some_writer writer v.down (omega arith),
      ))
      (λ some alone. let zero : digit shares ≡ 0 = ap digit alone in rdata_followed v.down c.down (omega arith))

  -- no message stands in a wrong order
  pub order_holds : (i : ℕ) → IsTrue (order_fits (s.node i))
  order_holds i = let c = sound.each i in and_from _ _ (down_clear (s.node i).down c.down) (up_clear (s.node i).up c.up)

  -- with a Read-Write copy there is no transaction, and with a Read transaction no copy
  pub single_holds : (i : ℕ) → IsTrue (single_by (s.node i).transaction (s.node i))
  single_holds i = let c = sound.each i in by_single (s.node i) (s.node i).transaction (omega arith) (omega arith)

  -- the whole line invariant, given its clause on the software set
  pub invariant_holds : (entry : Directory) (pending : ℕ) → IsTrue (software_fits entry pending) → LineInvariant n s entry pending
  invariant_holds entry pending software = record {
    transaction = λ i l. transaction_holds i;
    counter = (counter_holds, λ i l. debt_holds i);
    carrier = λ i l. carrier_holds i;
    current = λ i l. current_holds i;
    sharers = λ i l. sharers_hold i;
    order = λ i l. order_holds i;
    single = λ i l. single_holds i;
    software = software;
  }
