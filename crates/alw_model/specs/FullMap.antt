-- A full-map directory entry and its home table: what the home of a line does with each message to memory. The states are those of Chaiken, Kubiatowicz and Agarwal, ASPLOS 1991; the table is this project's own.
use Rattle.std.specs.Prelude.{ℕ, zero, suc, Bool, true, false, ◌==◌, Option, Some, None, List, [], ◌∷◌, length, map}
use Rattle.alw_num.specs.declared.addresses.Line.{Line}
use Rattle.alw_num.specs.declared.states.State.{State}
use Rattle.alw_num.specs.declared.states.State.TheVariants.{RO, RW, RT, WT}
use Rattle.alw_num.specs.NodeSets.{Nodes, no_nodes, one_node, add_node, drop_node, members}
use Rattle.alw_msg.specs.Contents.{ToMemory, RREQ, WREQ, REPM, UPDATE, ACKC, ToCache, RDATA, WDATA, INV, BUSY}

-- an entry: its state, the pointers P, the counter of answers that are still to come, and the line's bytes
pub record Home : Type 0 where
  pub state : State
  pub pointers : Nodes
  pub acks : ℕ
  pub body : Line

-- messages that go to caches, each with the node it goes to, in the order in which they are sent
abbrev pub Sends : Type 0
Sends = List (ℕ × ToCache)

-- the entry of a line at the start
abbrev pub home_start : Line → Home
home_start body = record { state = RO; pointers = no_nodes; acks = 0; body = body }

-- the members but one, ascending
abbrev pub others : Nodes → ℕ → List ℕ
others nodes i = members (drop_node nodes i)

-- the one number of a list that has one
abbrev pub only : List ℕ → Option ℕ
only [] = None
only (j ∷ []) = Some j
only (j ∷ k ∷ rest) = None

-- the one member of a set that has one
abbrev pub sole : Nodes → Option ℕ
sole nodes = only (members nodes)

-- INV to each
abbrev pub invs : List ℕ → Sends
invs nodes = map (λ j. (j, INV)) nodes

-- nothing changes and nothing is sent: what a combination that the table doesn't list comes to
abbrev pub unlisted : Home → Home × Sends
unlisted h = (h, [])

-- a transaction for node i begins: P = {i}, and an INV to each of the nodes, whose answers are counted
abbrev pub begin : Home → ℕ → State → List ℕ → Home × Sends
begin h i state nodes = (record h { state = state; pointers = one_node i; acks = length nodes }, invs nodes)

-- RO, WREQ of i, by the other members of P: WDATA at once where there is none, and else an INV to each
abbrev pub write_shared : Home → ℕ → List ℕ → Home × Sends
write_shared h i [] = (record h { state = RW; pointers = one_node i }, (i, WDATA h.body) ∷ [])
write_shared h i (j ∷ rest) = begin h i WT (j ∷ rest)

-- RW, P = {owner}, a request of i that opens a transaction of this state: an INV to the owner, where that is another node
abbrev pub recall_from : Home → ℕ → State → ℕ → Bool → Home × Sends
recall_from h i state owner true = unlisted h
recall_from h i state owner false = begin h i state (owner ∷ [])

-- the same, by the one member of P
abbrev pub recall : Home → ℕ → State → Option ℕ → Home × Sends
recall h i state None = unlisted h
recall h i state (Some owner) = recall_from h i state owner (i == owner)

-- RW, P = {owner}, REPM of i: P becomes empty and the body is stored, where i is the owner
abbrev pub give_back_from : Home → Line → Bool → Home × Sends
give_back_from h body true = (record h { state = RO; pointers = no_nodes; body = body }, [])
give_back_from h body false = unlisted h

-- the same, by the one member of P
abbrev pub give_back : Home → ℕ → Line → Option ℕ → Home × Sends
give_back h i body None = unlisted h
give_back h i body (Some owner) = give_back_from h body (i == owner)

-- RT or WT, a request of i: refused
abbrev pub refuse : Home → ℕ → Home × Sends
refuse h i = (h, (i, BUSY) ∷ [])

-- RT, P = {k}, the last answer, with the body as it then is: RO, and RDATA to k
abbrev pub end_read : Home → Line → Option ℕ → Home × Sends
end_read h body None = unlisted h
end_read h body (Some k) = (record h { state = RO; acks = 0; body = body }, (k, RDATA body) ∷ [])

-- WT, P = {k}, the last answer, with the body as it then is: RW, and WDATA to k
abbrev pub end_write : Home → Line → Option ℕ → Home × Sends
end_write h body None = unlisted h
end_write h body (Some k) = (record h { state = RW; acks = 0; body = body }, (k, WDATA body) ∷ [])

-- RT or WT, ACKC, by the counter: at 1 the transaction ends so, and above 1 the counter falls by one
abbrev pub acknowledge : Home → Home × Sends → ℕ → Home × Sends
acknowledge h ended zero = unlisted h
acknowledge h ended (suc zero) = ended
acknowledge h ended (suc (suc left)) = (record h { acks = suc left }, [])

-- the home table: what an entry in this state does with a message of node i
abbrev pub row : Home → ℕ → State → ToMemory → Home × Sends
row h i RO RREQ = (record h { pointers = add_node h.pointers i }, (i, RDATA h.body) ∷ [])
row h i RO WREQ = write_shared h i (others h.pointers i)
row h i RO (REPM body) = unlisted h
row h i RO (UPDATE body) = unlisted h
row h i RO ACKC = unlisted h
row h i RW RREQ = recall h i RT (sole h.pointers)
row h i RW WREQ = recall h i WT (sole h.pointers)
row h i RW (REPM body) = give_back h i body (sole h.pointers)
row h i RW (UPDATE body) = unlisted h
row h i RW ACKC = unlisted h
row h i RT RREQ = refuse h i
row h i RT WREQ = refuse h i
row h i RT (REPM body) = (record h { body = body }, [])
row h i RT (UPDATE body) = end_read h body (sole h.pointers)
row h i RT ACKC = acknowledge h (end_read h h.body (sole h.pointers)) h.acks
row h i WT RREQ = refuse h i
row h i WT WREQ = refuse h i
row h i WT (REPM body) = (record h { body = body }, [])
row h i WT (UPDATE body) = end_write h body (sole h.pointers)
row h i WT ACKC = acknowledge h (end_write h h.body (sole h.pointers)) h.acks

-- the reaction of an entry to a message of node i: the entry afterwards, and what is sent
abbrev pub act : Home → ℕ → ToMemory → Home × Sends
act h i message = row h i h.state message
