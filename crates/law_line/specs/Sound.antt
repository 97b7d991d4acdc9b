-- The invariant of a line as it is kept by every event: numbers of each node's census against the part that the home gives the node.
use Rattle.std.specs.Prelude.{◌≡◌, ℕ, ◌+◌, ◌<◌, ◌≤◌, ◌==◌, true, Option, Some, None}
use Rattle.alw_num.specs.declared.addresses.Line.{Line}
use Rattle.alw_num.specs.declared.states.State.{State}
use Rattle.alw_num.specs.declared.states.State.TheVariants.{RO, RW, RT, WT}
use Rattle.alw_num.specs.NodeSets.{has_node}
use Rattle.alw_num.specs.Weights.{digit, sum_below}
use Rattle.alw_model.specs.FullMap.{Home, sole}
use Rattle.alw_model.specs.Lines.{LineState, absent}
use Rattle.law_line.specs.Census.{Census, census, owes, carries}

-- 1 where the one pointer is this node
abbrev pub points : Option ℕ → ℕ → ℕ
points None i = 0
points (Some k) i = digit (i == k)

-- a number in one state, and 0 in the others: in Read-Transaction, in Write-Transaction, in Read-Write, in Read-Only
abbrev pub in_read_transaction : State → ℕ → ℕ
in_read_transaction RT d = d
in_read_transaction _ d = 0

abbrev pub in_write_transaction : State → ℕ → ℕ
in_write_transaction WT d = d
in_write_transaction _ d = 0

abbrev pub in_read_write : State → ℕ → ℕ
in_read_write RW d = d
in_read_write _ d = 0

abbrev pub in_read_only : State → ℕ → ℕ
in_read_only RO d = d
in_read_only _ d = 0

-- the part that the home gives a node, each 1 or 0: the home reads or writes for it, it owns the line, it shares the line; and the home's counter
pub record Role : Type 0 where
  pub reads : ℕ
  pub writes : ℕ
  pub owns : ℕ
  pub shares : ℕ
  pub acks : ℕ

-- the part of node i by the entry
abbrev pub role : Home → ℕ → Role
role h i = record {
  reads = in_read_transaction h.state (points (sole h.pointers) i);
  writes = in_write_transaction h.state (points (sole h.pointers) i);
  owns = in_read_write h.state (points (sole h.pointers) i);
  shares = in_read_only h.state (digit (has_node h.pointers i));
  acks = h.acks;
}

-- a node's census fits its part
pub record CensusFits (r : Role) (c : Census) : Type 0 where
  -- its transaction stands in one place: as a request, as a reply, or at the home
  pub tokens : c.rreq + c.rdata + r.reads + (c.wreq + c.wdata + r.writes) + c.busy ≡ c.tr + c.tw
  pub reads : c.rreq + c.rdata + r.reads ≤ c.tr
  pub writes : c.wreq + c.wdata + r.writes ≤ c.tw
  -- it owes one answer at most, and none where a transaction is its own
  pub debt : owes c + r.reads + r.writes ≤ 1
  -- an owner carries; who carries owns or owes, and then is the only one to owe
  pub owner : r.owns ≤ carries c
  pub carrier : carries c ≤ r.owns + owes c
  pub held : c.rw + c.wdata ≤ r.owns + c.inv
  pub last : 1 ≤ carries c → r.acks ≤ 1
  -- each body is the value
  pub fresh : c.off ≡ 0
  -- who reads shares, or is about to lose its copy, or is about to write
  pub reader : c.rdata ≤ r.shares + c.inv
  pub copy : c.ro ≤ r.shares + c.inv + r.writes + c.wdata
  -- no message stands in a wrong order
  pub down : c.wrong_down ≡ 0
  pub up : c.wrong_up ≡ 0
  -- at most one transaction and one copy, and not those that would be idle together
  pub one_transaction : c.tr + c.tw ≤ 1
  pub one_copy : c.ro + c.rw ≤ 1
  pub write_copy : c.rw + c.tr + c.tw ≤ 1
  pub read_transaction : c.tr + c.ro + c.rw ≤ 1

-- the counter by the state: P has one member outside Read-Only
abbrev pub CounterFits : State → Option ℕ → ℕ → Type 0
CounterFits RO one acks = acks ≡ 0
CounterFits RW (Some k) acks = acks ≡ 0
CounterFits RT (Some k) acks = acks ≡ 1
CounterFits WT (Some k) acks = 1 ≤ acks
CounterFits _ None acks = ⊥

-- a line of n nodes with this value is sound
pub record Sound (n : ℕ) (value : Line) (s : LineState) : Type 0 where
  -- each node's census fits the part that the home gives it
  pub each : (i : ℕ) → CensusFits (role s.home i) (census value (s.node i))
  pub counter : CounterFits s.home.state (sole s.home.pointers) s.home.acks
  -- the counter is the number of answers that are owed
  pub total : sum_below n (λ i. owes (census value (s.node i))) ≡ s.home.acks
  -- beside a carrier nobody is to get a copy, and who has a Read-Only one is to get a Read-Write one
  pub alone : (j k : ℕ) → 1 ≤ carries (census value (s.node j)) → ((census value (s.node k)).rdata ≡ 0) × ((census value (s.node k)).ro ≤ (census value (s.node k)).wdata)
  -- without a carrier the home has the value
  pub home_value : ((i : ℕ) → carries (census value (s.node i)) ≡ 0) → s.home.body ≡ value
  -- nodes from n on have nothing of the line, and P has none of them
  pub beyond : (i : ℕ) → n ≤ i → s.node i ≡ absent
  pub members : (i : ℕ) → has_node s.home.pointers i ≡ true → i < n
