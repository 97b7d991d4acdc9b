-- How many messages and packets there are: no more than the lines have among their nodes.
use Rattle.std.proofs.Common.{◌≡◌, ℕ, ◌+◌, ◌<◌, ◌≤◌, ◌==◌, Bool, true, false, cond, List, [], ◌∷◌, ◌++◌, length, get_or, refl, ap, ◌∙◌, arith}
use Rattle.std.specs.List.{AllByRecursion}
use Rattle.std.proofs.lemmas.Bool.{eq-eqb, false≢true}
use Rattle.std.proofs.lemmas.List.{length-append}
use Rattle.law_machine.proofs.Vocabulary.{weigh, sum_below, Msg, Parts, node_count, line_count, Parameters, ToMemory, ToCache, Content, ForMemory, ForCache, content, request_in, reply_in}
use Rattle.law_machine.proofs.Vocabulary.{is_to_memory, home_node, is_at_home, NodeState, MachineState, no_node, node_at, link_at, LineNode, ups, downs, sent_by, packets_at, line_of, IsPacket}
use Rattle.law_machine.proofs.Vocabulary.{IsStanding}
use Rattle.alw_num.proofs.Weigh.{le_sum, sum_le, sum_same, sum_both}
use Rattle.law_lines.proofs.CacheSide.{old_part}
use Rattle.law_lines.proofs.Following.{home_below}
use Rattle.law_machine.proofs.Sums.{weigh_sum, sum_pairs, sum_swap, sum_pick, sum_cond}
use Rattle.law_machine.proofs.Sends.{MsgStands}
use Rattle.law_machine.proofs.Timing.{HasTimes}

-- what a message is to a line: one to memory, one to a cache
abbrev up_part : ℕ → Msg → List ToMemory
up_part l msg = cond (msg.line.0 == l) (request_in (content msg)) []

abbrev down_part : ℕ → Msg → List ToCache
down_part l msg = cond (msg.line.0 == l) (reply_in (content msg)) []

module _ (parts : Parts) where
  -- ---- a link

  -- what a list of messages on the link from a to b has of a line: what goes to the line's home, and what comes from it
  abbrev of_line : ℕ → ℕ → List Msg → ℕ → ℕ
  of_line a b msgs l = cond (home_node parts l == b) (length (ups l msgs)) 0 + cond (home_node parts l == a) (length (downs l msgs)) 0

  -- each message is one of its line
  counted : (a b : ℕ) (msg : Msg) (c : Content) → content msg ≡ c → is_at_home c (home_node parts msg.line.0) a b ≡ true → 1 ≤ of_line a b (msg ∷ []) msg.line.0
  counted a b msg (ForMemory said) e home = omega (arith, one)
    where
      one : cond (home_node parts msg.line.0 == b) (length (ups msg.line.0 (msg ∷ []))) 0 ≡ 1
      one = ap (λ t. cond t (length (ups msg.line.0 (msg ∷ []))) 0) home ∙ (λ x. length (cond (eq-eqb msg.line.0 msg.line.0 refl x) (request_in (e x)) [] ++ []))
  counted a b msg (ForCache said) e home = omega (arith, one)
    where
      one : cond (home_node parts msg.line.0 == a) (length (downs msg.line.0 (msg ∷ []))) 0 ≡ 1
      one = ap (λ t. cond t (length (downs msg.line.0 (msg ∷ []))) 0) home ∙ (λ x. length (cond (eq-eqb msg.line.0 msg.line.0 refl x) (reply_in (e x)) [] ++ []))

  more_of_line : (a b : ℕ) (msg : Msg) (rest : List Msg) (l : ℕ) → of_line a b (msg ∷ rest) l ≡ of_line a b (msg ∷ []) l + of_line a b rest l
  more_of_line a b msg rest l = go (home_node parts l == b) (home_node parts l == a) (length-append (up_part l msg) (ups l rest)) (length-append (down_part l msg) (downs l rest)) (length-append (up_part l msg) []) (length-append (down_part l msg) [])
    where
      go : (c d : Bool) → length (ups l (msg ∷ rest)) ≡ length (up_part l msg) + length (ups l rest) → length (downs l (msg ∷ rest)) ≡ length (down_part l msg) + length (downs l rest)
          → length (ups l (msg ∷ [])) ≡ length (up_part l msg) + 0 → length (downs l (msg ∷ [])) ≡ length (down_part l msg) + 0
          → cond c (length (ups l (msg ∷ rest))) 0 + cond d (length (downs l (msg ∷ rest))) 0 ≡ cond c (length (ups l (msg ∷ []))) 0 + cond d (length (downs l (msg ∷ []))) 0 + (cond c (length (ups l rest)) 0 + cond d (length (downs l rest)) 0)
      go true true u d v w = omega arith
      go true false u d v w = omega arith
      go false true u d v w = omega arith
      go false false u d v w = omega arith

  -- so a link has no more messages than the lines have on it
  link_counted : (a b clock : ℕ) (msgs : List Msg) → AllByRecursion (MsgStands parts a b clock) msgs → length msgs ≤ sum_below (line_count parts) (of_line a b msgs)
  link_counted a b clock [] all = omega arith
  link_counted a b clock (msg ∷ rest) all =
      let first = counted a b msg (content msg) refl all.0.home in
      let some = le_sum (line_count parts) (of_line a b (msg ∷ [])) msg.line.0 all.0.exists in
      let split = sum_same (line_count parts) (of_line a b (msg ∷ rest)) (λ l. of_line a b (msg ∷ []) l + of_line a b rest l) (λ l m. more_of_line a b msg rest l) in
      let both = sum_both (line_count parts) (of_line a b (msg ∷ [])) (of_line a b rest) in
      let more = link_counted a b clock rest all.1 in
      omega arith

  -- ---- a queue

  -- what packets at node n have of a line
  abbrev in_queue : ℕ → List Msg → ℕ → ℕ
  in_queue n packets l = cond (home_node parts l == n) (sum_below (node_count parts) (λ i. length (ups l (sent_by i packets)))) 0

  one_sent : (l i : ℕ) (packet : Msg) (rest : List Msg) → length (ups l (sent_by i (packet ∷ rest))) ≡ cond (packet.src.0 == i) (length (up_part l packet)) 0 + length (ups l (sent_by i rest))
  one_sent l i packet rest = go (packet.src.0 == i)
    where
      go : (c : Bool) → length (ups l (cond c (packet ∷ sent_by i rest) (sent_by i rest))) ≡ cond c (length (up_part l packet)) 0 + length (ups l (sent_by i rest))
      go true = length-append (up_part l packet) (ups l (sent_by i rest))
      go false = omega arith

  more_sent : (l : ℕ) (packet : Msg) (rest : List Msg) → packet.src.0 < node_count parts → sum_below (node_count parts) (λ i. length (ups l (sent_by i (packet ∷ rest)))) ≡ length (up_part l packet) + sum_below (node_count parts) (λ i. length (ups l (sent_by i rest)))
  more_sent l packet rest source = sum_same (node_count parts) (λ i. length (ups l (sent_by i (packet ∷ rest)))) (λ i. cond (packet.src.0 == i) (length (up_part l packet)) 0 + length (ups l (sent_by i rest))) (λ i m. one_sent l i packet rest)
      ∙ (sum_both (node_count parts) (λ i. cond (packet.src.0 == i) (length (up_part l packet)) 0) (λ i. length (ups l (sent_by i rest)))
      ∙ ap (λ k. k + sum_below (node_count parts) (λ i. length (ups l (sent_by i rest)))) (sum_pick (node_count parts) packet.src.0 (λ i. length (up_part l packet)) source))

  more_in_queue : (n : ℕ) (packet : Msg) (rest : List Msg) (l : ℕ) → packet.src.0 < node_count parts → in_queue n (packet ∷ rest) l ≡ cond (home_node parts l == n) (length (up_part l packet)) 0 + in_queue n rest l
  more_in_queue n packet rest l source = go (home_node parts l == n) (more_sent l packet rest source)
    where
      go : (c : Bool) → sum_below (node_count parts) (λ i. length (ups l (sent_by i (packet ∷ rest)))) ≡ length (up_part l packet) + sum_below (node_count parts) (λ i. length (ups l (sent_by i rest)))
          → cond c (sum_below (node_count parts) (λ i. length (ups l (sent_by i (packet ∷ rest))))) 0 ≡ cond c (length (up_part l packet)) 0 + cond c (sum_below (node_count parts) (λ i. length (ups l (sent_by i rest)))) 0
      go true e = e
      go false e = refl

  packet_counted : (n : ℕ) (packet : Msg) (c : Content) → content packet ≡ c → is_to_memory c ≡ true → home_node parts packet.line.0 ≡ n → cond (home_node parts packet.line.0 == n) (length (up_part packet.line.0 packet)) 0 ≡ 1
  packet_counted n packet (ForMemory said) e is home = ap (λ t. cond t (length (up_part packet.line.0 packet)) 0) (eq-eqb (home_node parts packet.line.0) n home) ∙ (λ x. length (cond (eq-eqb packet.line.0 packet.line.0 refl x) (request_in (e x)) []))
  packet_counted n packet (ForCache said) e is home = absurd (false≢true is)

  queue_counted : (n : ℕ) (packets : List Msg) → AllByRecursion (IsPacket parts n) packets → length packets ≤ sum_below (line_count parts) (in_queue n packets)
  queue_counted n [] all = omega arith
  queue_counted n (packet ∷ rest) all =
      let first = packet_counted n packet (content packet) refl all.0.to_memory all.0.home in
      let some = le_sum (line_count parts) (λ l. cond (home_node parts l == n) (length (up_part l packet)) 0) packet.line.0 all.0.line in
      let split = sum_same (line_count parts) (in_queue n (packet ∷ rest)) (λ l. cond (home_node parts l == n) (length (up_part l packet)) 0 + in_queue n rest l) (λ l m. more_in_queue n packet rest l all.0.source) in
      let both = sum_both (line_count parts) (λ l. cond (home_node parts l == n) (length (up_part l packet)) 0) (in_queue n rest) in
      let more = queue_counted n rest all.1 in
      omega arith

  -- ---- all links and all queues

  module _ (parameters : Parameters) (s : MachineState) (standing : IsStanding parts parameters s) (times : HasTimes parts parameters s) where
    -- what is on links, and what is in queues, of a line
    abbrev on_links : ℕ → ℕ
    on_links l = sum_below (node_count parts) (λ i. length (ups l (link_at parts s i (home_node parts l)))) + sum_below (node_count parts) (λ i. length (downs l (link_at parts s (home_node parts l) i)))

    abbrev in_queues : ℕ → ℕ
    in_queues l = sum_below (node_count parts) (λ i. length (ups l (sent_by i (packets_at parts s l))))

    -- of one line the links of its home alone have messages
    line_links : (l : ℕ) → l < line_count parts → sum_below (node_count parts) (λ a. sum_below (node_count parts) (λ b. of_line a b (link_at parts s a b) l)) ≡ on_links l
    line_links l lines =
        let h = home_node parts l in
        let below : h < node_count parts = home_below parts l lines in
        let up = λ (a b : ℕ). length (ups l (link_at parts s a b)) in
        let down = λ (a b : ℕ). length (downs l (link_at parts s a b)) in
        sum_same (node_count parts) (λ a. sum_below (node_count parts) (λ b. of_line a b (link_at parts s a b) l)) (λ a. up a h + cond (h == a) (sum_below (node_count parts) (down a)) 0) (λ a m.
        sum_both (node_count parts) (λ b. cond (h == b) (up a b) 0) (λ b. cond (h == a) (down a b) 0) ∙ (λ x. sum_pick (node_count parts) h (up a) below x + sum_cond (node_count parts) (h == a) (down a) x))
        ∙ (sum_both (node_count parts) (λ a. up a h) (λ a. cond (h == a) (sum_below (node_count parts) (down a)) 0)
        ∙ ap (λ k. sum_below (node_count parts) (λ a. up a h) + k) (sum_pick (node_count parts) h (λ a. sum_below (node_count parts) (down a)) below))

    pub links_counted : weigh length s.links ≤ sum_below (line_count parts) on_links
    links_counted =
        let n = node_count parts in
        let all : weigh length s.links ≡ sum_below n (λ a. sum_below n (λ b. length (link_at parts s a b))) = weigh_sum length s.links [] ∙ (ap (λ k. sum_below k (λ p. length (get_or s.links p []))) standing.links ∙ sum_pairs n n (λ p. length (get_or s.links p []))) in
        let few : sum_below n (λ a. sum_below n (λ b. length (link_at parts s a b))) ≤ sum_below n (λ a. sum_below n (λ b. sum_below (line_count parts) (of_line a b (link_at parts s a b)))) =
        sum_le n _ _ (λ a l. sum_le n _ _ (λ b m. link_counted a b (node_at s a).clock (link_at parts s a b) (times.links a b l m))) in
        let turned : sum_below n (λ a. sum_below n (λ b. sum_below (line_count parts) (of_line a b (link_at parts s a b)))) ≡ sum_below (line_count parts) on_links =
        sum_same n _ (λ a. sum_below (line_count parts) (λ l. sum_below n (λ b. of_line a b (link_at parts s a b) l))) (λ a l. sum_swap n (line_count parts) (λ b l. of_line a b (link_at parts s a b) l))
        ∙ (sum_swap n (line_count parts) (λ a l. sum_below n (λ b. of_line a b (link_at parts s a b) l)) ∙ sum_same (line_count parts) _ on_links line_links) in
        omega arith

    pub queues_counted : weigh (λ (node : NodeState). length node.packets) s.nodes ≤ sum_below (line_count parts) in_queues
    queues_counted =
        let n = node_count parts in
        let all : weigh (λ (node : NodeState). length node.packets) s.nodes ≡ sum_below n (λ a. length (node_at s a).packets) = weigh_sum (λ (node : NodeState). length node.packets) s.nodes no_node ∙ ap (λ k. sum_below k (λ a. length (node_at s a).packets)) standing.nodes in
        let few : sum_below n (λ a. length (node_at s a).packets) ≤ sum_below n (λ a. sum_below (line_count parts) (in_queue a (node_at s a).packets)) = sum_le n _ _ (λ a l. queue_counted a (node_at s a).packets (standing.each a l).packets) in
        let turned : sum_below n (λ a. sum_below (line_count parts) (in_queue a (node_at s a).packets)) ≡ sum_below (line_count parts) in_queues =
        sum_swap n (line_count parts) (λ a l. in_queue a (node_at s a).packets l)
        ∙ sum_same (line_count parts) _ in_queues (λ l lines. sum_pick n (home_node parts l) (λ a. sum_below n (λ i. length (ups l (sent_by i (node_at s a).packets)))) (home_below parts l lines)) in
        omega arith

    -- links and queues together have no more than the lines have among the nodes
    pub all_counted : weigh length s.links + weigh (λ (node : NodeState). length node.packets) s.nodes ≤ sum_below (line_count parts) (λ l. sum_below (node_count parts) (λ i. length ((line_of parts parameters s l).node i).up + length ((line_of parts parameters s l).node i).down))
    all_counted =
        let n = node_count parts in
        let same : sum_below (line_count parts) (λ l. sum_below n (λ i. length ((line_of parts parameters s l).node i).up + length ((line_of parts parameters s l).node i).down)) ≡ sum_below (line_count parts) (λ l. in_queues l + on_links l) =
        sum_same (line_count parts) _ (λ l. in_queues l + on_links l) (λ l lines. of_nodes l) in
        let both = sum_both (line_count parts) in_queues on_links in
        omega (arith, links_counted, queues_counted)
      where
        of_node : (l i : ℕ) → i < node_count parts → length ((line_of parts parameters s l).node i).up + length ((line_of parts parameters s l).node i).down
            ≡ (length (ups l (sent_by i (packets_at parts s l))) + length (ups l (link_at parts s i (home_node parts l)))) + length (downs l (link_at parts s (home_node parts l) i))
        of_node l i m = ap (λ (v : LineNode). length v.up + length v.down) (old_part parts parameters s i l m)
            ∙ ap (λ k. k + length (downs l (link_at parts s (home_node parts l) i))) (length-append (ups l (sent_by i (packets_at parts s l))) (ups l (link_at parts s i (home_node parts l))))

        regroup : (a b c d : ℕ) → a ≡ b + c → a + d ≡ b + (c + d)
        regroup a b c d e = omega arith

        of_nodes : (l : ℕ) → sum_below (node_count parts) (λ i. length ((line_of parts parameters s l).node i).up + length ((line_of parts parameters s l).node i).down) ≡ in_queues l + on_links l
        of_nodes l =
            let n = node_count parts in
            let q = λ (i : ℕ). length (ups l (sent_by i (packets_at parts s l))) in
            let u = λ (i : ℕ). length (ups l (link_at parts s i (home_node parts l))) in
            let d = λ (i : ℕ). length (downs l (link_at parts s (home_node parts l) i)) in
            sum_same n _ (λ i. (q i + u i) + d i) (λ i m. of_node l i m) ∙ (sum_both n (λ i. q i + u i) d ∙ regroup (sum_below n (λ i. q i + u i)) (sum_below n q) (sum_below n u) (sum_below n d) (sum_both n q u))
