-- The events of a legal journal are priced by the costs and the mesh, so that each finish has its deadline.
use Rattle.std.proofs.Common.{◌≡◌, ℕ, ◌+◌, ◌-◌, ◌*◌, ◌/◌, ◌<◌, ◌≤◌, ◌==◌, ◌^◌, max, Bool, true, false, cond, Option, Some, None, IsTrue, List, [], ◌∷◌, ◌++◌, length, refl, subst, arith}
use Rattle.std.specs.List.{AllByRecursion}
use Rattle.std.proofs.Math.Nat.{mod-lt, div-lt_iff_lt-mul, mul_comm, mul-le-mul_left}
use Rattle.std.proofs.lemmas.Nat.{mul-le}
use Rattle.alw_num.specs.Maps.{passes}
use Rattle.alw_msg.specs.declared.messages.Kind.{Kind}
use Rattle.alw_msg.specs.declared.messages.Kind.TheVariants as kinds
use Rattle.alw_msg.specs.declared.messages.Msg.{Msg}
use Rattle.alw_msg.specs.declared.events.Event.{Event}
use Rattle.alw_msg.specs.declared.events.Event.TheVariants.{Instr, Handle, Deliver, Evict}
use Rattle.alw_msg.specs.declared.events.Entry.{Entry}
use Rattle.alw_msg.specs.Events.{node_of}
use Rattle.alw_msg.specs.Kinds.{to_memory}
use Rattle.alw_image.specs.declared.parts.Parts.{Parts}
use Rattle.alw_image.specs.Images.{IsImage, node_count, hops_between}
use Rattle.alw_image.specs.Parameters.{Parameters}
use Rattle.alw_model.specs.NodeStates.{stamp_of}
use Rattle.alw_model.specs.Machine.{MachineState, machine_start, node_at, taken_by, is_enabled, step, AreLegal, IsLegal}
use Rattle.alw_model.specs.Runs.{moment_of, moments_from, moments}
use Rattle.law_lines.specs.Links.{GoBelow}
use Rattle.law_lines.proofs.Steps.{enabled_is}
use Rattle.law_order.specs.Aims.{IsAimed}
use Rattle.law_order.proofs.Aimed.{start_aimed, step_aimed, sends_below}
use Rattle.alw_times.specs.declared.costs.Costs.{Costs}
use Rattle.alw_times.specs.declared.happenings.TimedMoment.{TimedMoment}
use Rattle.alw_times.specs.Happening.{kind_of, happened_of}
use Rattle.alw_times.specs.Times.{work_before, turn_cost, cost_by, is_busy}
use Rattle.alw_times.specs.Laws.{finished}
use Rattle.law_times.specs.Prices.{WaysAre, IsPriced, ArePriced}
use Rattle.law_times.proofs.Prices.{finishes_are_priced}
use Rattle.law_deadlines.specs.Deadlines.{most_work, most_lengths, longest_way, cycles_a_stamp}
use Rattle.law_deadlines.proofs.Sent.{few_lengths, event_few}

-- an image has a node
some_node : (parts : Parts) → IsImage parts → 1 ≤ node_count parts
some_node parts is = mul-le 1 1 parts.width parts.height is.width.0 is.height.0

module _ (parts : Parts) (costs : Costs) where
  -- ---- work

  switch_few : (b : Bool) → cond b 0 costs.switch ≤ costs.switch
  switch_few true = omega arith
  switch_few false = omega arith

  turn_few : (last : ℕ) (slot : Option ℕ) → turn_cost costs last slot ≤ costs.hit + costs.switch
  turn_few last None = omega arith
  turn_few last (Some slot) = omega (arith, switch_few (slot == last))

  -- a delivery is to memory, or to a cache, where a BUSY makes wait
  kind_few : (kind : Kind) → cond (to_memory kind) costs.home costs.fill + cond (is_busy kind) (max costs.retry 1 - 1) 0 ≤ max costs.home (costs.fill + (costs.retry - 1))
  kind_few kinds.RREQ = omega arith
  kind_few kinds.WREQ = omega arith
  kind_few kinds.REPM = omega arith
  kind_few kinds.UPDATE = omega arith
  kind_few kinds.ACKC = omega arith
  kind_few kinds.RDATA = omega arith
  kind_few kinds.WDATA = omega arith
  kind_few kinds.INV = omega arith
  kind_few kinds.BUSY = omega arith

  taken_few : (taken : Option Msg) → cond (passes to_memory (kind_of taken)) costs.home costs.fill + cond (passes is_busy (kind_of taken)) (max costs.retry 1 - 1) 0 ≤ max costs.home (costs.fill + (costs.retry - 1))
  taken_few None = omega arith
  taken_few (Some msg) = kind_few msg.kind

  works_few : (happened : TimedMoment) (sends : List (ℕ × Msg)) (event : Event) → length sends ≤ node_count parts → work_before costs event + cost_by costs happened sends event ≤ most_work parts costs
  works_few happened sends (Instr at) few = omega (arith, turn_few happened.last happened.slot)
  works_few happened sends (Handle at) few = let written : costs.inv * (length sends - 1) ≤ costs.inv * (node_count parts - 1) = mul-le-mul_left costs.inv (omega (arith, few)) in omega (arith, written)
  works_few happened sends (Deliver from to) few = omega (arith, kind_free (passes to_memory happened.taken))
    where
      kind_free : (b : Bool) → cond b costs.home costs.fill ≤ max costs.home costs.fill
      kind_free true = omega arith
      kind_free false = omega arith
  works_few happened sends (Evict at set) few = omega arith

  -- ---- ways

  row_exists : IsImage parts → (k : ℕ) → k < node_count parts → k / parts.width < parts.height
  row_exists is k exists = (div-lt_iff_lt-mul is.width.0).1 (subst (λ (count : ℕ). k < count) (mul_comm parts.width parts.height) exists)

  hops_few : IsImage parts → (from to : ℕ) → from < node_count parts → to < node_count parts → hops_between parts from to ≤ parts.width + parts.height - 2
  hops_few is from to f t = omega (arith, mod-lt from is.width.0, mod-lt to is.width.0, row_exists is from f, row_exists is to t)

  ways_few : IsImage parts → (from : ℕ) (sends : List (ℕ × Msg)) → from < node_count parts → GoBelow (node_count parts) sends → WaysAre parts costs from (longest_way parts costs) sends
  ways_few is from [] f go = tt
  ways_few is from (send ∷ rest) f go = (mul-le-mul_left costs.hop (hops_few is from send.0 f go.0), ways_few is from rest f go.1)

  -- ---- journals

  module _ (parameters : Parameters) (is : IsImage parts) where
    -- an event waits for no longer than its work, with what it wakes
    wait_few : (s : MachineState) (happened : TimedMoment) (sends : List (ℕ × Msg)) (event : Event) → happened.taken ≡ kind_of (taken_by parts s event) → length sends ≤ node_count parts →
        cost_by costs happened sends event + cond (passes is_busy happened.taken) (max costs.retry 1 - 1) 0 ≤ most_work parts costs
    wait_few s happened sends (Instr at) same few = rw same (omega (arith, works_few happened sends (Instr at) few))
    wait_few s happened sends (Handle at) same few = rw same (omega (arith, works_few happened sends (Handle at) few))
    wait_few s happened sends (Deliver from to) same few = rw same (omega (arith, taken_few (taken_by parts s (Deliver from to))))
    wait_few s happened sends (Evict at set) same few = rw same (omega (arith, works_few happened sends (Evict at set) few))

    moment_priced : (s : MachineState) (entry : Entry) → IsAimed parts s → IsTrue (is_enabled parts parameters s entry.event) →
        IsPriced parts costs (most_work parts costs) (most_lengths parts costs) (longest_way parts costs) (moment_of parts parameters s entry)
    moment_priced s entry aimed enabled =
        let n = node_of entry.event in
        let here = (enabled_is parts parameters s entry.event enabled).here in
        let taken = taken_by parts s entry.event in
        let moment = moment_of parts parameters s entry in
        let few = event_few parts parameters (some_node parts is) n (stamp_of (node_at s n).clock taken) (node_at s n) (aimed.each n here) entry.event taken in
        record {
          work = works_few (happened_of moment) moment.stepped.sends entry.event few.count;
          wait = wait_few s (happened_of moment) moment.stepped.sends entry.event refl few.count;
          lengths = few_lengths costs (node_count parts) moment.stepped.sends few;
          ways = ways_few is n moment.stepped.sends here (sends_below parts parameters s entry.event enabled aimed);
        }

    all_priced : (s : MachineState) (journal : List Entry) → IsAimed parts s → AreLegal parts parameters s journal →
        AllByRecursion (IsPriced parts costs (most_work parts costs) (most_lengths parts costs) (longest_way parts costs)) (moments_from parts parameters s journal)
    all_priced s [] aimed legal = tt
    all_priced s (entry ∷ rest) aimed (next, legal) =
        (moment_priced s entry aimed next.enabled, all_priced (step parts parameters s entry.event) rest (step_aimed parts parameters s entry.event next.enabled aimed) legal)

    journal_priced : (journal : List Entry) → IsLegal parts parameters journal → ArePriced parts parameters costs (most_work parts costs) (most_lengths parts costs) (longest_way parts costs) journal
    unfolding moments
    journal_priced journal legal = all_priced (machine_start parts) journal (start_aimed parts parameters) legal

-- each event of a legal journal finishes by its deadline
pub finishes_have_deadlines : (parts : Parts) → IsImage parts → (parameters : Parameters) → 1 ≤ parameters.pointers → (costs : Costs) → (journal : List Entry) → (entry : Entry) →
    IsLegal parts parameters (journal ++ entry ∷ []) → finished parts parameters costs journal entry ≤ cycles_a_stamp parts costs * entry.stamp
finishes_have_deadlines parts is parameters some costs journal entry legal =
    finishes_are_priced parts parameters costs is.contexts.0 some (most_work parts costs) (most_lengths parts costs) (longest_way parts costs) journal entry legal
    (journal_priced parts costs parameters is (journal ++ entry ∷ []) legal)

-- ---- overflow

-- costs of 16 bits
pub record AreShort (costs : Costs) : Type 0 where
  pub hit : costs.hit < 65536
  pub switch : costs.switch < 65536
  pub hop : costs.hop < 65536
  pub send : costs.send < 65536
  pub body : costs.data < 65536
  pub home : costs.home < 65536
  pub fill : costs.fill < 65536
  pub trap : costs.trap < 65536
  pub inv : costs.inv < 65536
  pub retry : costs.retry < 65536

few_cycles : (parts : Parts) (costs : Costs) → IsImage parts → AreShort costs → cycles_a_stamp parts costs ≤ 67108864
few_cycles parts costs is short =
    let nodes : node_count parts ≤ 256 = mul-le parts.width parts.height 16 16 is.width.1 is.height.1 in
    let writes = mul-le costs.inv (node_count parts - 1) 65535 255 (omega (arith, short.inv)) (omega (arith, nodes)) in
    let sends = mul-le costs.send (node_count parts) 65535 256 (omega (arith, short.send)) nodes in
    let goes = mul-le costs.hop (parts.width + parts.height - 2) 65535 30 (omega (arith, short.hop)) (omega (arith, is.width.1, is.height.1)) in
    omega (arith, writes, sends, goes, short.hit, short.switch, short.body, short.home, short.fill, short.trap, short.retry)

-- where stamps are of 32 bits, the deadline is below 2 to the 58
pub finishes_fit : (parts : Parts) (costs : Costs) (stamp finish : ℕ) → IsImage parts → AreShort costs → stamp < 2 ^ 32 → finish ≤ cycles_a_stamp parts costs * stamp → finish < 2 ^ 58
finishes_fit parts costs stamp finish is short few le =
    let most = mul-le (cycles_a_stamp parts costs) stamp 67108864 4294967295 (few_cycles parts costs is short) (omega (arith, few)) in
    omega (arith, most, le)
