-- The invariants hold exactly where their tests say so.
use Rattle.std.proofs.Common.{ℕ, zero, suc, ◌+◌, ◌<◌, ◌≤◌, Bool, true, false, not, ◌&&◌, ◌||◌, nat_le, IsTrue, refl, ◌↔◌, arith}
use Rattle.std.specs.List.{list_all, range_with_len}
use Rattle.alw_image.specs.declared.parts.Parts.{Parts}
use Rattle.alw_image.specs.Images.{node_count, line_count}
use Rattle.alw_image.specs.Parameters.{Parameters}
use Rattle.alw_model.specs.LimitLess.{Directory}
use Rattle.alw_model.specs.Machine.{MachineState, node_at, link_at, has_halted}
use Rattle.alw_model.specs.Lines.{LineState}
use Rattle.alw_model.specs.LineInvariant as line
use Rattle.alw_model.specs.LineInvariant.{LineInvariant}
use Rattle.alw_model.specs.MachineInvariant.{MachineInvariant, slot_fits, transaction_stands, links_rightly, packed_rightly, caches_rightly, sizes_fit, left_to_do, most_to_do}
use Rattle.alw_model.specs.Checks.{is_sound_at, is_sound_line, is_sound_in, is_sound_node, is_sound}
use Rattle.alw_num.proofs.Weigh.{is_node}
use Rattle.std.proofs.lemmas.Bool.{false≢true}
use Rattle.alw_model.proofs.Journals.{and_parts, and_is}

-- a test of all numbers below one is a test of each
pub each_below : (test : ℕ → Bool) (low count n : ℕ) → IsTrue (list_all test (range_with_len low count)) → low ≤ n → n < low + count → IsTrue (test n)
each_below test low zero n all l m = absurd (omega arith)
each_below test low (suc count) n all l m =
    let parts = and_parts (test low) (list_all test (range_with_len (low + 1) count)) all in
    is_node _ n low (λ same. rw same parts.0) (λ other. each_below test (low + 1) count n parts.1 (omega arith) (omega arith))

pub all_below : (test : ℕ → Bool) (low count : ℕ) → ((n : ℕ) → n < low + count → IsTrue (test n)) → IsTrue (list_all test (range_with_len low count))
all_below test low zero each = refl
all_below test low (suc count) each = and_is _ _ (each low (omega arith)) (all_below test (low + 1) count (λ n l. each n (omega arith)))

implied : (a b : Bool) → IsTrue (not a || b) → IsTrue a → IsTrue b
implied true b is p = is
implied false b is p = absurd (false≢true p)

implies : (a b : Bool) → (IsTrue a → IsTrue b) → IsTrue (not a || b)
implies true b f = f refl
implies false b f = refl

-- ---- a line

-- the clauses of the line invariant at a node
record At (count : ℕ) (s : LineState) (i : ℕ) : Type 0 where
  transaction : IsTrue (line.transaction_fits s i)
  debt : IsTrue (line.debt_fits s i)
  carrier : IsTrue (line.carrier_fits count s i)
  current : IsTrue (line.current_fits count s i)
  sharers : IsTrue (line.sharer_fits s i)
  order : IsTrue (line.order_fits (s.node i))
  single : IsTrue (line.single_by (s.node i).transaction (s.node i))

seven : (a b c d e f g : Bool) → IsTrue (a && (b && (c && (d && (e && (f && g)))))) → IsTrue a × IsTrue b × IsTrue c × IsTrue d × IsTrue e × IsTrue f × IsTrue g
seven true true true true true true g is = (refl, refl, refl, refl, refl, refl, is)
seven true true true true true false g is = absurd (false≢true is)
seven true true true true false f g is = absurd (false≢true is)
seven true true true false e f g is = absurd (false≢true is)
seven true true false d e f g is = absurd (false≢true is)
seven true false c d e f g is = absurd (false≢true is)
seven false b c d e f g is = absurd (false≢true is)

of_seven : (a b c d e f g : Bool) → IsTrue a → IsTrue b → IsTrue c → IsTrue d → IsTrue e → IsTrue f → IsTrue g → IsTrue (a && (b && (c && (d && (e && (f && g))))))
of_seven a b c d e f g p q r t u v w = and_is a _ p (and_is b _ q (and_is c _ r (and_is d _ t (and_is e _ u (and_is f _ v w)))))

at_by_test : (count : ℕ) (s : LineState) (i : ℕ) → IsTrue (is_sound_at count s i) → At count s i
at_by_test count s i is =
    let p = seven (line.transaction_fits s i) (line.debt_fits s i) (line.carrier_fits count s i) (line.current_fits count s i) (line.sharer_fits s i) (line.order_fits (s.node i)) (line.single_by (s.node i).transaction (s.node i)) is in
    record { transaction = p.0; debt = p.1; carrier = p.2; current = p.3; sharers = p.4; order = p.5; single = p.6 }

module _ (count : ℕ) (s : LineState) (entry : Directory) (pending : ℕ) where
  pub line_by_test : IsTrue (is_sound_line count s entry pending) → LineInvariant count s entry pending
  line_by_test is =
      let a = and_parts (line.counter_fits count s) (line.software_fits entry pending && list_all (is_sound_at count s) (range_with_len 0 count)) is in
      let b = and_parts (line.software_fits entry pending) (list_all (is_sound_at count s) (range_with_len 0 count)) a.1 in
      let at : (i : ℕ) → i < count → At count s i = λ i l. at_by_test count s i (each_below (is_sound_at count s) 0 count i b.1 (omega arith) (omega arith)) in
      record {
        transaction = λ i l. (at i l).transaction;
        counter = (a.0, λ i l. (at i l).debt);
        carrier = λ i l. (at i l).carrier;
        current = λ i l. (at i l).current;
        sharers = λ i l. (at i l).sharers;
        order = λ i l. (at i l).order;
        single = λ i l. (at i l).single;
        software = b.0;
      }

  pub test_of_line : LineInvariant count s entry pending → IsTrue (is_sound_line count s entry pending)
  test_of_line is = and_is (line.counter_fits count s) _ is.counter.0 (and_is (line.software_fits entry pending) _ is.software (all_below (is_sound_at count s) 0 count (λ i m.
      let l : i < count = omega arith in
      of_seven (line.transaction_fits s i) (line.debt_fits s i) (line.carrier_fits count s i) (line.current_fits count s i) (line.sharer_fits s i) (line.order_fits (s.node i)) (line.single_by (s.node i).transaction (s.node i))
      (is.transaction i l) (is.counter.1 i l) (is.carrier i l) (is.current i l) (is.sharers i l) (is.order i l) (is.single i l))))

-- ---- a machine

module _ (parts : Parts) (parameters : Parameters) (machine : MachineState) where
  -- the clauses of the machine invariant at a node
  record AtNode (n : ℕ) : Type 0 where
    slots : IsTrue (list_all (slot_fits parts parameters (node_at machine n)) (node_at machine n).slots)
    transactions : IsTrue (list_all (transaction_stands parts (node_at machine n)) (node_at machine n).transactions.entries)
    packets : IsTrue (list_all (packed_rightly parts n (node_at machine n)) (node_at machine n).packets)
    caches : IsTrue (list_all (caches_rightly parts parameters) (node_at machine n).cache.entries)
    clock : IsTrue (nat_le (node_at machine n).clock parameters.limit || has_halted machine)
    sizes : IsTrue (sizes_fit parts (node_at machine n))
    links : IsTrue (list_all (λ to. list_all (links_rightly parts machine n to) (link_at parts machine n to)) (range_with_len 0 (node_count parts)))

  at_node_by_test : (n : ℕ) → IsTrue (is_sound_node parts parameters machine n) → AtNode n
  at_node_by_test n is =
      let node = node_at machine n in
      let p = seven (list_all (slot_fits parts parameters node) node.slots) (list_all (transaction_stands parts node) node.transactions.entries) (list_all (packed_rightly parts n node) node.packets) (list_all (caches_rightly parts parameters) node.cache.entries) (nat_le node.clock parameters.limit || has_halted machine) (sizes_fit parts node) (list_all (λ to. list_all (links_rightly parts machine n to) (link_at parts machine n to)) (range_with_len 0 (node_count parts))) is in
      record { slots = p.0; transactions = p.1; packets = p.2; caches = p.3; clock = p.4; sizes = p.5; links = p.6 }

  sound_by_test : IsTrue (is_sound parts parameters machine) → MachineInvariant parts parameters machine
  sound_by_test is =
      let a = and_parts (list_all (is_sound_in parts parameters machine) (range_with_len 0 (line_count parts))) _ is in
      let b = and_parts (list_all (is_sound_node parts parameters machine) (range_with_len 0 (node_count parts))) _ a.1 in
      let c = and_parts (not (has_halted machine) || nat_le (left_to_do machine) (most_to_do parts parameters)) _ b.1 in
      let of_line : (l : ℕ) → l < line_count parts → IsTrue (is_sound_in parts parameters machine l) = λ l m. each_below (is_sound_in parts parameters machine) 0 (line_count parts) l a.0 (omega arith) (omega arith) in
      let at : (n : ℕ) → n < node_count parts → AtNode n = λ n l. at_node_by_test n (each_below (is_sound_node parts parameters machine) 0 (node_count parts) n b.0 (omega arith) (omega arith)) in
      record {
        lines = λ l m. line_by_test _ _ _ _ (and_parts _ _ (of_line l m)).0;
        entries = λ l m. (and_parts _ _ (of_line l m)).1;
        slots = λ n l. (at n l).slots;
        transactions = λ n l. (at n l).transactions;
        links = λ from to l m. each_below (λ other. list_all (links_rightly parts machine from other) (link_at parts machine from other)) 0 (node_count parts) to (at from l).links (omega arith) (omega arith);
        packets = λ n l. (at n l).packets;
        caches = λ n l. (at n l).caches;
        clocks = λ n l. (at n l).clock;
        bound = implied _ _ c.0;
        nodes = λ n l. (at n l).sizes;
        sizes = c.1;
      }

  test_of_sound : MachineInvariant parts parameters machine → IsTrue (is_sound parts parameters machine)
  test_of_sound is =
      and_is _ _ (all_below (is_sound_in parts parameters machine) 0 (line_count parts) (λ l m. let k : l < line_count parts = omega arith in and_is _ _ (test_of_line _ _ _ _ (is.lines l k)) (is.entries l k)))
      (and_is _ _ (all_below (is_sound_node parts parameters machine) 0 (node_count parts) (λ n m. let k : n < node_count parts = omega arith in
      of_seven _ _ _ _ _ _ _ (is.slots n k) (is.transactions n k) (is.packets n k) (is.caches n k) (is.clocks n k) (is.nodes n k)
      (all_below (λ to. list_all (links_rightly parts machine n to) (link_at parts machine n to)) 0 (node_count parts) (λ to o. is.links n to k (omega arith)))))
      (and_is _ _ (implies _ _ is.bound) is.sizes))

  -- the machine invariant holds exactly where the test says so
  pub tested_sound : IsTrue (is_sound parts parameters machine) ↔ MachineInvariant parts parameters machine
  tested_sound = (sound_by_test, test_of_sound)
