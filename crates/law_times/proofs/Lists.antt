-- Lists of times beside a machine's lists: by node, and by link.
use Rattle.std.proofs.Common.{ℕ, zero, suc, ◌+◌, ◌*◌, ◌≤◌, List, [], ◌∷◌, ◌++◌, map, replicate, slice_index_or, slice_set, arith}
use Rattle.std.specs.List.{range_with_len}
use Rattle.alw_msg.specs.declared.messages.Msg.{Msg}
use Rattle.alw_msg.specs.Lists.{behind}
use Rattle.alw_image.specs.declared.parts.Parts.{Parts}
use Rattle.alw_model.specs.NodeStates.{NodeState, node_start}
use Rattle.alw_model.specs.Machine.{no_node}

-- ---- by node: each member has a relation to its node's clock

module _ {X : Type 0} (P : X → ℕ → Type 0) where
  pub data ByNode : List X → List NodeState → Type 0 where
    none : ByNode [] []
    more : {x : X} {node : NodeState} {xs : List X} {nodes : List NodeState} → P x node.clock → ByNode xs nodes → ByNode (x ∷ xs) (node ∷ nodes)

  pub by_at : (xs : List X) (nodes : List NodeState) (k : ℕ) (d : X) → P d 0 → ByNode xs nodes → P (slice_index_or xs k d) (slice_index_or nodes k no_node).clock
  by_at [] [] k d one none = one
  by_at (x ∷ xs) (node ∷ nodes) zero d one (more is rest) = is
  by_at (x ∷ xs) (node ∷ nodes) (suc k) d one (more is rest) = by_at xs nodes k d one rest
  by_at [] (node ∷ nodes) k d one never = elim never [ ]
  by_at (x ∷ xs) [] k d one never = elim never [ ]

  pub by_put : (xs : List X) (nodes : List NodeState) (k : ℕ) (x : X) → ByNode xs nodes → P x (slice_index_or nodes k no_node).clock → ByNode (slice_set xs k x) nodes
  by_put [] [] k x none is = none
  by_put (y ∷ ys) (n ∷ ns) zero x (more old rest) is = more is rest
  by_put (y ∷ ys) (n ∷ ns) (suc k) x (more old rest) is = more old (by_put ys ns k x rest is)
  by_put [] (n ∷ ns) k x never is = elim never [ ]
  by_put (y ∷ ys) [] k x never is = elim never [ ]

  pub by_kept : ((x : X) (a b : ℕ) → a ≤ b → P x a → P x b) → (xs : List X) (nodes : List NodeState) (k : ℕ) (node : NodeState) → ByNode xs nodes →
      (slice_index_or nodes k no_node).clock ≤ node.clock → ByNode xs (slice_set nodes k node)
  by_kept later [] [] k node none le = none
  by_kept later (y ∷ ys) (n ∷ ns) zero node (more old rest) le = more (later y n.clock node.clock le old) rest
  by_kept later (y ∷ ys) (n ∷ ns) (suc k) node (more old rest) le = more old (by_kept later ys ns k node rest le)
  by_kept later [] (n ∷ ns) k node never le = elim never [ ]
  by_kept later (y ∷ ys) [] k node never le = elim never [ ]

  pub by_start : (parts : Parts) (first n : ℕ) (x : X) → P x 0 → ByNode (replicate n x) (map (node_start parts) (range_with_len first n))
  by_start parts first zero x is = none
  by_start parts first (suc n) x is = more is (by_start parts (first + 1) n x is)

-- no clock falls where one rises
pub clock_kept : (nodes : List NodeState) (k m : ℕ) (node : NodeState) → (slice_index_or nodes k no_node).clock ≤ node.clock →
    (slice_index_or nodes m no_node).clock ≤ (slice_index_or (slice_set nodes k node) m no_node).clock
clock_kept [] k m node le = omega arith
clock_kept (n ∷ ns) zero zero node le = le
clock_kept (n ∷ ns) zero (suc m) node le = omega arith
clock_kept (n ∷ ns) (suc k) zero node le = omega arith
clock_kept (n ∷ ns) (suc k) (suc m) node le = clock_kept ns k m node le

-- ---- by link: each arrival is within a number of cycles for each stamp of its message

module _ (d : ℕ) where
  pub data Paired : List ℕ → List Msg → Type 0 where
    none : Paired [] []
    more : {time : ℕ} {msg : Msg} {times : List ℕ} {msgs : List Msg} → time ≤ d * msg.stamp → Paired times msgs → Paired (time ∷ times) (msg ∷ msgs)

  pub paired_push : (times : List ℕ) (msgs : List Msg) (time : ℕ) (msg : Msg) → Paired times msgs → time ≤ d * msg.stamp → Paired (times ++ time ∷ []) (msgs ++ msg ∷ [])
  paired_push [] [] time msg none le = more le none
  paired_push (t ∷ ts) (m ∷ ms) time msg (more old rest) le = more old (paired_push ts ms time msg rest le)
  paired_push [] (m ∷ ms) time msg never le = elim never [ ]
  paired_push (t ∷ ts) [] time msg never le = elim never [ ]

  pub paired_behind : (times : List ℕ) (msgs : List Msg) → Paired times msgs → Paired (behind times) (behind msgs)
  paired_behind [] [] none = none
  paired_behind (t ∷ ts) (m ∷ ms) (more old rest) = rest
  paired_behind [] (m ∷ ms) never = elim never [ ]
  paired_behind (t ∷ ts) [] never = elim never [ ]

  pub data AllPaired : List (List ℕ) → List (List Msg) → Type 0 where
    empty : AllPaired [] []
    and : {queue : List ℕ} {link : List Msg} {queues : List (List ℕ)} {links : List (List Msg)} → Paired queue link → AllPaired queues links → AllPaired (queue ∷ queues) (link ∷ links)

  pub all_at : (queues : List (List ℕ)) (links : List (List Msg)) (k : ℕ) → AllPaired queues links → Paired (slice_index_or queues k []) (slice_index_or links k [])
  all_at [] [] k empty = none
  all_at (q ∷ qs) (l ∷ ls) zero (and pair rest) = pair
  all_at (q ∷ qs) (l ∷ ls) (suc k) (and pair rest) = all_at qs ls k rest
  all_at [] (l ∷ ls) k never = elim never [ ]
  all_at (q ∷ qs) [] k never = elim never [ ]

  pub all_set : (queues : List (List ℕ)) (links : List (List Msg)) (k : ℕ) (queue : List ℕ) (link : List Msg) → AllPaired queues links → Paired queue link →
      AllPaired (slice_set queues k queue) (slice_set links k link)
  all_set [] [] k queue link empty is = empty
  all_set (q ∷ qs) (l ∷ ls) zero queue link (and pair rest) is = and is rest
  all_set (q ∷ qs) (l ∷ ls) (suc k) queue link (and pair rest) is = and pair (all_set qs ls k queue link rest is)
  all_set [] (l ∷ ls) k queue link never is = elim never [ ]
  all_set (q ∷ qs) [] k queue link never is = elim never [ ]

  pub all_start : (n : ℕ) → AllPaired (replicate n []) (replicate n [])
  all_start zero = empty
  all_start (suc n) = and none (all_start n)
