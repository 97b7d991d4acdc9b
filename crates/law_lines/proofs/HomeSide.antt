-- An event at a line's home that leaves its caches and transactions as they are: for a line, the entry changes, one node's front message is taken, and messages are sent.
use Rattle.std.proofs.Common.{◌≡◌, ◌≢◌, ℕ, ◌*◌, ◌<◌, ◌==◌, nat_lt, Bool, true, false, cond, List, [], ◌∷◌, ◌++◌, length, get_or, refl, sym, ap, ◌∙◌, append-nil}
use Rattle.std.proofs.lemmas.Bool.{eqb-false, eq-eqb, ne_eqb, lt-ltb, ltb-false}
use Rattle.alw_num.proofs.Weigh.{at_nodes, is_node}
use Rattle.alw_msg.specs.declared.messages.Msg.{Msg}
use Rattle.alw_image.specs.declared.parts.Parts.{Parts}
use Rattle.alw_image.specs.Images.{node_count}
use Rattle.alw_image.specs.Parameters.{Parameters}
use Rattle.alw_num.specs.Maps.{value_at}
use Rattle.alw_msg.specs.Contents.{ToMemory, ToCache}
use Rattle.alw_model.specs.FullMap.{Home, Sends}
use Rattle.alw_model.specs.LimitLess.{full_map_of}
use Rattle.alw_model.specs.Caches.{copy_at}
use Rattle.alw_model.specs.Messages.{home_node, to_caches}
use Rattle.alw_model.specs.NodeStates.{NodeState, home_at}
use Rattle.alw_model.specs.Machine.{MachineState, node_at, link_at, link_place}
use Rattle.alw_model.specs.Lines.{LineState, absent, ups, downs, sent_by, line_node, line_of}
use Rattle.law_line.specs.Protocol.{receives, taken_from, sent_to, acted}
use Rattle.law_line.proofs.Homes.{DestsBelow, sent_beyond}
use Rattle.law_lines.specs.Links.{msgs_to, GoBelow}
use Rattle.law_lines.proofs.Contents.{ups-append, downs-append, ups_sent, downs_sent}
use Rattle.law_lines.proofs.Views.{seen_copy, seen_transaction, below_same, next_machine, next_node, next_line, next_line_is}
use Rattle.law_lines.proofs.CacheSide.{kept_part}

pub dests_go : (n node stamp line : ℕ) (sends : Sends) → DestsBelow n sends → GoBelow n (to_caches node stamp line sends)
dests_go n node stamp line [] below = tt
dests_go n node stamp line (send ∷ rest) (here, below) = (here, dests_go n node stamp line rest below)

module _ (parts : Parts) (parameters : Parameters) (s : MachineState) (n : ℕ) (v : NodeState) (links : List (List Msg)) (stamp l : ℕ) (sends : Sends) (k : ℕ) (entry : Home) (up : ℕ → List ToMemory) where
  -- the line afterwards: its entry, and what each node's `up` has left
  abbrev pub new_line : LineState
  new_line = record {
    home = entry;
    node = λ j. cond (nat_lt j (node_count parts)) (record {
      copy = seen_copy (copy_at parameters.sets (node_at s j).cache k);
      transaction = seen_transaction (value_at (node_at s j).transactions k);
      up = up j;
      down = downs k (link_at parts s (home_node parts k) j) ++ cond (l == k) (sent_to j sends) [];
    }) absent;
  }

  -- what the event keeps, and what it leaves of the line
  pub record Keeps : Type 0 where
    pub fits : n < length s.nodes
    pub here : n < node_count parts
    pub home : home_node parts k < node_count parts
    pub is_home : home_node parts l ≡ n
    pub size : length links ≡ node_count parts * node_count parts
    pub below : DestsBelow (node_count parts) sends
    pub cache : v.cache ≡ (node_at s n).cache
    pub transactions : v.transactions ≡ (node_at s n).transactions
    pub entry_is : full_map_of (home_at parts (cond (home_node parts k == n) v (node_at s (home_node parts k))) k) ≡ entry
    pub up_is : (j : ℕ) → j < node_count parts → ups k (sent_by j (cond (home_node parts k == n) v (node_at s (home_node parts k))).packets) ++ ups k (get_or links (link_place parts j (home_node parts k)) []) ≡ up j
    pub down : (j : ℕ) → j < node_count parts → downs k (get_or links (link_place parts (home_node parts k) j) []) ≡ downs k (link_at parts s (home_node parts k) j)

  module _ (keeps : Keeps) where
    up_sent : (b : Bool) (old : List Msg) → ups k (old ++ cond b (msgs_to (home_node parts k) (to_caches n stamp l sends)) []) ≡ ups k old
    up_sent b old = ups-append k old _ ∙ (ap (λ (m : List ToMemory). ups k old ++ m) (none b) ∙ append-nil (ups k old))
      where
        none : (b : Bool) → ups k (cond b (msgs_to (home_node parts k) (to_caches n stamp l sends)) []) ≡ []
        none true = ups_sent n stamp l k (home_node parts k) sends
        none false = refl

    -- from another home than the line's nothing of the line is sent
    down_sent : (j : ℕ) (old : List Msg) → downs k (old ++ cond (home_node parts k == n) (msgs_to j (to_caches n stamp l sends)) []) ≡ downs k old ++ cond (l == k) (sent_to j sends) []
    down_sent j old = downs-append k old _ ∙ ap (λ (m : List ToCache). downs k old ++ m) (go (home_node parts k == n) refl)
      where
        go : (b : Bool) → (home_node parts k == n) ≡ b → downs k (cond b (msgs_to j (to_caches n stamp l sends)) []) ≡ cond (l == k) (sent_to j sends) []
        go true e = downs_sent n stamp l k j sends
        go false e = is_node _ l k
            (λ same. absurd (eqb-false (home_node parts k) n e (ap (home_node parts) (sym same) ∙ keeps.is_home)))
            (λ other. rw (ne_eqb l k other) refl)

    new_line_is : next_line parts parameters s n v links (to_caches n stamp l sends) k ≡ new_line
    new_line_is =
        let cache : (j : ℕ) → (next_node parts parameters s n v links (to_caches n stamp l sends) k j).cache ≡ (node_at s j).cache = λ j. kept_part (λ u. u.cache) (node_at s) n v j keeps.cache in
        let transactions : (j : ℕ) → (next_node parts parameters s n v links (to_caches n stamp l sends) k j).transactions ≡ (node_at s j).transactions = λ j. kept_part (λ u. u.transactions) (node_at s) n v j keeps.transactions in
        λ x. record {
          home = keeps.entry_is x;
          node = λ j. below_same j (node_count parts) _ _ absent (λ m y. record {
            copy = seen_copy (copy_at parameters.sets (cache j y) k);
            transaction = seen_transaction (value_at (transactions j y) k);
            up = (ap (λ (u : List ToMemory). ups k (sent_by j (cond (home_node parts k == n) v (node_at s (home_node parts k))).packets) ++ u) (up_sent (j == n) (get_or links (link_place parts j (home_node parts k)) [])) ∙ keeps.up_is j m) y;
            down = (down_sent j (get_or links (link_place parts (home_node parts k) j) []) ∙ ap (λ (d : List ToCache). d ++ cond (l == k) (sent_to j sends) []) (keeps.down j m)) y;
          }) x;
        }

  pub home_line : Keeps → line_of parts parameters (next_machine parts parameters s n v links (to_caches n stamp l sends) k) k ≡ new_line
  home_line keeps = next_line_is parts parameters s n v links (to_caches n stamp l sends) k keeps.fits keeps.here keeps.home keeps.size (dests_go (node_count parts) n stamp l sends keeps.below) ∙ new_line_is keeps

  -- a line of which nothing is sent or taken stays
  pub other_line : Keeps → ((j : ℕ) → cond (l == k) (sent_to j sends) [] ≡ []) → entry ≡ (line_of parts parameters s k).home → ((j : ℕ) → j < node_count parts → up j ≡ ups k (sent_by j (node_at s (home_node parts k)).packets) ++ ups k (link_at parts s j (home_node parts k)))
      → line_of parts parameters (next_machine parts parameters s n v links (to_caches n stamp l sends) k) k ≡ line_of parts parameters s k
  other_line keeps quiet same ups_same = home_line keeps ∙ (λ x. record {
    home = same x;
    node = λ j. below_same j (node_count parts) _ _ absent (λ m y. record {
      copy = seen_copy (copy_at parameters.sets (node_at s j).cache k);
      transaction = seen_transaction (value_at (node_at s j).transactions k);
      up = ups_same j m y;
      down = (ap (λ (d : List ToCache). downs k (link_at parts s (home_node parts k) j) ++ d) (quiet j) ∙ append-nil (downs k (link_at parts s (home_node parts k) j))) y;
    }) x;
  })

  -- the line that the event is about: its home acts on the front message of node i
  pub acted_line : Keeps → l ≡ k → (i : ℕ) (rest : List ToMemory) → i < node_count parts → ((j : ℕ) → up j ≡ cond (j == i) rest (ups k (sent_by j (node_at s (home_node parts k)).packets) ++ ups k (link_at parts s j (home_node parts k))))
      → line_of parts parameters (next_machine parts parameters s n v links (to_caches n stamp l sends) k) k ≡ acted (line_of parts parameters s k) i rest (entry, sends)
  acted_line keeps same i rest i_here ups_are = home_line keeps ∙ (λ x. record { home = entry; node = λ j. node_is j x })
    where
      sent_is : (j : ℕ) → cond (l == k) (sent_to j sends) [] ≡ sent_to j sends
      sent_is j = ap (λ b. cond b (sent_to j sends) []) (eq-eqb l k same)

      at_it : new_line.node i ≡ receives (taken_from ((line_of parts parameters s k).node i) rest) (sent_to i sends)
      at_it = rw (lt-ltb i (node_count parts) i_here) (λ x. record {
        copy = seen_copy (copy_at parameters.sets (node_at s i).cache k);
        transaction = seen_transaction (value_at (node_at s i).transactions k);
        up = (ups_are i ∙ ap (λ b. cond b rest (ups k (sent_by i (node_at s (home_node parts k)).packets) ++ ups k (link_at parts s i (home_node parts k)))) (eq-eqb i i refl)) x;
        down = downs k (link_at parts s (home_node parts k) i) ++ sent_is i x;
      })

      at_other : (j : ℕ) → j ≢ i → new_line.node j ≡ receives ((line_of parts parameters s k).node j) (sent_to j sends)
      at_other j other = go (nat_lt j (node_count parts)) refl
        where
          go : (b : Bool) → nat_lt j (node_count parts) ≡ b → cond b (record {
            copy = seen_copy (copy_at parameters.sets (node_at s j).cache k);
            transaction = seen_transaction (value_at (node_at s j).transactions k);
            up = up j;
            down = downs k (link_at parts s (home_node parts k) j) ++ cond (l == k) (sent_to j sends) [];
          }) absent ≡ receives (cond b (line_node parts parameters s k j) absent) (sent_to j sends)
          go true e = λ x. record {
            copy = seen_copy (copy_at parameters.sets (node_at s j).cache k);
            transaction = seen_transaction (value_at (node_at s j).transactions k);
            up = (ups_are j ∙ ap (λ b. cond b rest (ups k (sent_by j (node_at s (home_node parts k)).packets) ++ ups k (link_at parts s j (home_node parts k)))) (ne_eqb j i other)) x;
            down = downs k (link_at parts s (home_node parts k) j) ++ sent_is j x;
          }
          go false e = let none = sent_beyond (node_count parts) j sends keeps.below (ltb-false j (node_count parts) e) in λ x. receives absent (sym none x)

      node_is : (j : ℕ) → new_line.node j ≡ receives (cond (j == i) (taken_from ((line_of parts parameters s k).node i) rest) ((line_of parts parameters s k).node j)) (sent_to j sends)
      node_is = at_nodes (λ j u. new_line.node j ≡ receives u (sent_to j sends)) (line_of parts parameters s k).node i (taken_from ((line_of parts parameters s k).node i) rest) at_it at_other
