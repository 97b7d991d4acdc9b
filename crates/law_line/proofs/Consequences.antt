-- What soundness gives: what a reader expects of copies, of messages and of a line at rest.
use Rattle.std.proofs.Common.{◌≡◌, ◌≢◌, ℕ, ◌+◌, ◌<◌, ◌≤◌, true, false, Option, Some, None, IsTrue, List, [], ◌∷◌, length, refl, sym, ap, ◌∙◌, arith}
use Rattle.std.specs.Prelude.{IsSome}
use Rattle.std.specs.List.{list_all}
use Rattle.alw_num.specs.declared.addresses.Line.{Line}
use Rattle.alw_num.specs.declared.states.Mode.{Mode}
use Rattle.alw_num.specs.declared.states.Mode.TheVariants.{Read, Write}
use Rattle.alw_num.specs.declared.states.State.{State}
use Rattle.alw_num.specs.declared.states.State.TheVariants.{RO, RW, RT, WT}
use Rattle.alw_num.specs.Weights.{digit, sum_below}
use Rattle.alw_num.proofs.Weigh.{is_node, digit_same, sum_same, cases_lt_then}
use Rattle.alw_msg.specs.Contents.{ToMemory, RREQ, WREQ, REPM, UPDATE, ACKC, ToCache, RDATA, WDATA, INV, BUSY, is_reply, is_rreq, is_wreq, is_repm, is_update, is_ackc, is_rdata, is_wdata, is_inv, is_busy}
use Rattle.alw_model.specs.FullMap.{sole}
use Rattle.alw_msg.specs.Lists.{count_of}
use Rattle.alw_model.specs.Lines.{LineState, LineNode}
use Rattle.alw_model.specs.LineInvariant as words
use Rattle.alw_model.specs.LineInvariant.{LineInvariant, reads, writes}
use Rattle.law_line.specs.Census.{is_read, is_write, transactions_of, off_copy, census, owes, carries}
use Rattle.law_line.specs.Sound.{points, in_read_transaction, in_write_transaction, role, CounterFits, Sound}
use Rattle.law_line.proofs.Bodies.{same_of_off}
use Rattle.law_line.proofs.Orders.{down_front}
use Rattle.law_line.proofs.Nodes.{debts, owner_owes, one_carrier}
use Rattle.law_line.proofs.Tests.{reads_count, writes_count, by_test}
use Rattle.law_line.proofs.Clauses.{sum_few, some_of_sum}

-- ---- words by numbers

-- a Read-Write copy carries
writer_carries : (x : Line) (v : LineNode) → IsTrue (writes v) → 1 ≤ carries (census x v)
writer_carries x v is = let w = writes_count v in let one : digit (writes v) ≡ 1 = ap digit is in omega arith

some_transaction : (t : Option Mode) → IsSome t → 1 ≤ transactions_of is_read t + transactions_of is_write t
some_transaction None is = absurd (cc)
some_transaction (Some Read) is = omega arith
some_transaction (Some Write) is = omega arith

has_transaction : (t : Option Mode) → 1 ≤ transactions_of is_read t + transactions_of is_write t → IsSome t
has_transaction None some = absurd (omega arith)
has_transaction (Some mode) some = refl

reply_counts : (message : ToCache) → IsTrue (is_reply message) → digit (is_rdata message) + digit (is_wdata message) + digit (is_busy message) ≡ 1
reply_counts (RDATA body) is = refl
reply_counts (WDATA body) is = refl
reply_counts INV is = absurd (cc)
reply_counts BUSY is = refl

-- each message is of one kind
down_kinds : (down : List ToCache) → length down ≡ count_of is_rdata down + count_of is_wdata down + count_of is_inv down + count_of is_busy down
down_kinds [] = refl
down_kinds (RDATA body ∷ rest) = omega (arith, down_kinds rest)
down_kinds (WDATA body ∷ rest) = omega (arith, down_kinds rest)
down_kinds (INV ∷ rest) = omega (arith, down_kinds rest)
down_kinds (BUSY ∷ rest) = omega (arith, down_kinds rest)

up_kinds : (up : List ToMemory) → length up ≡ count_of is_rreq up + count_of is_wreq up + count_of is_repm up + count_of is_update up + count_of is_ackc up
up_kinds [] = refl
up_kinds (RREQ ∷ rest) = omega (arith, up_kinds rest)
up_kinds (WREQ ∷ rest) = omega (arith, up_kinds rest)
up_kinds (REPM body ∷ rest) = omega (arith, up_kinds rest)
up_kinds (UPDATE body ∷ rest) = omega (arith, up_kinds rest)
up_kinds (ACKC ∷ rest) = omega (arith, up_kinds rest)

no_message : (down : List ToCache) → length down ≡ 0 → down ≡ []
no_message [] e = refl
no_message (m ∷ rest) e = absurd (omega arith)

all_repm : (up : List ToMemory) → length up ≡ count_of is_repm up → list_all is_repm up ≡ true
all_repm [] e = refl
all_repm (RREQ ∷ rest) e = absurd (omega (arith, up_kinds rest))
all_repm (WREQ ∷ rest) e = absurd (omega (arith, up_kinds rest))
all_repm (REPM body ∷ rest) e = all_repm rest (omega arith)
all_repm (UPDATE body ∷ rest) e = absurd (omega (arith, up_kinds rest))
all_repm (ACKC ∷ rest) e = absurd (omega (arith, up_kinds rest))

-- while a home reads or writes for a node, it counts
open_counts : (st : State) (o : Option ℕ) (acks i : ℕ) → CounterFits st o acks → 1 ≤ in_read_transaction st (points o i) + in_write_transaction st (points o i) → 1 ≤ acks
open_counts RO o acks i fits some = absurd (omega arith)
open_counts RW o acks i fits some = absurd (omega arith)
open_counts RT None acks i fits some = absurd fits
open_counts RT (Some k) acks i fits some = omega arith
open_counts WT None acks i fits some = absurd fits
open_counts WT (Some k) acks i fits some = fits

-- where it does so for no node, it counts nothing
idle_counts : (st : State) (o : Option ℕ) (acks : ℕ) → CounterFits st o acks → ((i : ℕ) → in_read_transaction st (points o i) + in_write_transaction st (points o i) ≡ 0) → acks ≡ 0
idle_counts RO o acks fits none = fits
idle_counts RW None acks fits none = absurd fits
idle_counts RW (Some k) acks fits none = fits
idle_counts RT None acks fits none = absurd fits
idle_counts RT (Some k) acks fits none = absurd (omega (arith, none k, digit_same k k refl))
idle_counts WT None acks fits none = absurd fits
idle_counts WT (Some k) acks fits none = absurd (omega (arith, none k, digit_same k k refl))

-- ---- what soundness gives

module _ (n : ℕ) (x : Line) (s : LineState) (sound : Sound n x s) where
  -- a Read-Write copy is the only one
  pub one_writer : (i j : ℕ) → IsTrue (writes (s.node i)) → IsTrue (writes (s.node j)) → i ≡ j
  one_writer i j p q = is_node (i ≡ j) i j (λ same. same) (λ other. absurd (omega (arith, one_carrier n x s j i sound other, writer_carries x (s.node i) p, writer_carries x (s.node j) q)))

  -- and no other node has a Read-Only copy
  pub no_reader : (i j : ℕ) → IsTrue (writes (s.node i)) → i ≢ j → reads (s.node j) ≡ false
  no_reader i j p apart =
      let a = sound.alone i j (writer_carries x (s.node i) p) in
      by_test (reads (s.node j))
      (λ is. absurd (let one : digit (reads (s.node j)) ≡ 1 = ap digit is in omega (arith, reads_count (s.node j), a.1, one_carrier n x s i j sound (λ e. apart (sym e)), writer_carries x (s.node i) p)))
      (λ isnt. isnt)

  -- a copy holds the value
  pub copy_value : (i : ℕ) (mode : Mode) (body : Line) → (s.node i).copy ≡ Some (mode, body) → body ≡ x
  copy_value i mode body e = let c = sound.each i in same_of_off x body (let o = ap (off_copy x) e in omega arith)

  -- RDATA, WDATA and BUSY meet a transaction
  pub reply_meets : (i : ℕ) (message : ToCache) (rest : List ToCache) → (s.node i).down ≡ message ∷ rest → IsTrue (is_reply message) → IsSome (s.node i).transaction
  reply_meets i message rest e is =
      let c = sound.each i in
      let f = down_front x (s.node i).down message rest e in
      has_transaction (s.node i).transaction (omega (arith, reply_counts message is))

  -- the home is owed what it counts
  pub all_owed : sum_below n (λ i. words.owes (s.node i)) ≡ s.home.acks
  all_owed = sum_same n (λ i. words.owes (s.node i)) (λ i. owes (census x (s.node i))) (λ i l. omega arith) ∙ sound.total

  -- a node with messages is one of the n
  busy_below : (k : ℕ) → 1 ≤ length (s.node k).up + length (s.node k).down → k < n
  busy_below k some = cases_lt_then n k (λ l. l) (λ l. absurd (let none : length (s.node k).up + length (s.node k).down ≡ 0 = ap (λ (v : LineNode). length v.up + length v.down) (sound.beyond k l) in omega arith))

  -- a node whose transaction is at the home waits for answers that somebody owes
  pub moves : (i : ℕ) → IsSome (s.node i).transaction → (k : ℕ) × ((k < n) × (1 ≤ length (s.node k).up + length (s.node k).down))
  moves i is =
      let c = sound.each i in
      let t = some_transaction (s.node i).transaction is in
      let u = up_kinds (s.node i).up in
      let d = down_kinds (s.node i).down in
      cases_lt_then 1 ((role s.home i).reads + (role s.home i).writes)
      (λ l. let here : 1 ≤ length (s.node i).up + length (s.node i).down = omega arith in (i, (busy_below i here, here)))
      (λ l.
      let counts = open_counts s.home.state (sole s.home.pointers) s.home.acks i sound.counter l in
      let k = some_of_sum n (λ j. owes (census x (s.node j))) (omega (arith, sound.total)) in
      (k.0, (k.1.0, omega (arith, k.1.1, up_kinds (s.node k.0).up, down_kinds (s.node k.0).down))))

  -- without a transaction anywhere, REPM is all that is on its way
  module _ (idle : (i : ℕ) → (s.node i).transaction ≡ None) where
    no_tokens : (i : ℕ) → (census x (s.node i)).tr + (census x (s.node i)).tw ≡ 0
    no_tokens i = ap (λ t. transactions_of is_read t + transactions_of is_write t) (idle i)

    quiet : s.home.acks ≡ 0
    quiet = idle_counts s.home.state (sole s.home.pointers) s.home.acks sound.counter (λ i. let c = sound.each i in let t = no_tokens i in omega arith)

    only_left : (i : ℕ) → (length (s.node i).down ≡ 0) × (length (s.node i).up ≡ count_of is_repm (s.node i).up)
    only_left i =
        let c = sound.each i in
        let t = no_tokens i in
        let q = quiet in
        let d = debts n x s sound i in
        (omega (arith, down_kinds (s.node i).down), omega (arith, up_kinds (s.node i).up))

    pub one_left : sum_below n (λ i. length (s.node i).up + length (s.node i).down) ≤ 1
    one_left = sum_few n (λ i. length (s.node i).up + length (s.node i).down)
        (λ i. let l = only_left i in let c = sound.each i in let q = owner_owes n x s sound i in omega arith)
        (λ i j apart. let l = only_left i in let m = only_left j in omega (arith, one_carrier n x s i j sound apart))

    pub rests : (i : ℕ) → ((s.node i).down ≡ []) × IsTrue (list_all is_repm (s.node i).up)
    rests i = (no_message (s.node i).down (only_left i).0, all_repm (s.node i).up (only_left i).1)
