-- An event at a node that leaves its home lines as they are: for a line, one node's part changes.
use Rattle.std.proofs.Common.{◌≡◌, ◌≢◌, ℕ, ◌*◌, ◌<◌, ◌==◌, Bool, true, false, cond, List, [], ◌++◌, length, get_or, refl, sym, ap, ◌∙◌, append-nil, append_assoc}
use Rattle.std.proofs.lemmas.Bool.{eq-eqb, ne_eqb, lt-ltb}
use Rattle.alw_num.proofs.Weigh.{at_nodes}
use Rattle.alw_msg.specs.declared.messages.Msg.{Msg}
use Rattle.alw_image.specs.declared.parts.Parts.{Parts}
use Rattle.alw_image.specs.Images.{node_count, zero_line}
use Rattle.alw_image.specs.Parameters.{Parameters}
use Rattle.alw_num.specs.Maps.{value_at}
use Rattle.alw_msg.specs.Contents.{ToMemory, ToCache}
use Rattle.alw_model.specs.LimitLess.{directory_start, full_map_of}
use Rattle.alw_model.specs.Caches.{Requests, copy_at}
use Rattle.alw_model.specs.Messages.{home_node, to_homes}
use Rattle.alw_model.specs.NodeStates.{NodeState, place_of}
use Rattle.alw_model.specs.Machine.{MachineState, node_at, link_at, link_place}
use Rattle.alw_model.specs.Lines.{LineNode, LineState, absent, ups, downs, sent_by, line_node, line_of}
use Rattle.law_line.specs.Protocol.{changed}
use Rattle.law_lines.specs.Links.{msgs_to, asked, GoBelow}
use Rattle.law_lines.proofs.Contents.{ups-append, downs-append, ups_asked, downs_asked}
use Rattle.law_lines.proofs.Views.{seen_copy, seen_transaction, below_same, next_machine, next_node, next_line, next_line_is}

-- a part of a node that an event keeps, read at any node
pub kept_part : {X : Type 0} (part : NodeState → X) (f : ℕ → NodeState) (n : ℕ) (v : NodeState) (h : ℕ) → part v ≡ part (f n) → part (cond (h == n) v (f h)) ≡ part (f h)
kept_part part f n v h keeps = at_nodes (λ j u. part u ≡ part (f j)) f n v keeps (λ j other. refl) h

module _ (parts : Parts) (parameters : Parameters) (s : MachineState) (n : ℕ) (v : NodeState) (links : List (List Msg)) (stamp : ℕ) (requests : Requests) (k : ℕ) (down : List ToCache) where
  -- the part of the node afterwards
  abbrev pub new_part : LineNode
  new_part = record {
    copy = seen_copy (copy_at parameters.sets v.cache k);
    transaction = seen_transaction (value_at v.transactions k);
    up = (ups k (sent_by n (node_at s (home_node parts k)).packets) ++ ups k (link_at parts s n (home_node parts k))) ++ asked k requests;
    down = down;
  }

  -- what the event keeps, and what it leaves on the links of the line
  pub record Keeps : Type 0 where
    pub fits : n < length s.nodes
    pub here : n < node_count parts
    pub home : home_node parts k < node_count parts
    pub size : length links ≡ node_count parts * node_count parts
    pub below : GoBelow (node_count parts) (to_homes parts n stamp requests)
    pub homes : v.homes ≡ (node_at s n).homes
    pub packets : v.packets ≡ (node_at s n).packets
    pub up : (j : ℕ) → j < node_count parts → ups k (get_or links (link_place parts j (home_node parts k)) []) ≡ ups k (link_at parts s j (home_node parts k))
    pub down_other : (j : ℕ) → j < node_count parts → j ≢ n → downs k (get_or links (link_place parts (home_node parts k) j) []) ≡ downs k (link_at parts s (home_node parts k) j)
    pub down_here : downs k (get_or links (link_place parts (home_node parts k) n) []) ≡ down

  module _ (keeps : Keeps) where
    down_asked : (b : Bool) (to : ℕ) (old : List Msg) → downs k (old ++ cond b (msgs_to to (to_homes parts n stamp requests)) []) ≡ downs k old
    down_asked b to old = downs-append k old _ ∙ (ap (λ (l : List ToCache). downs k old ++ l) (none b) ∙ append-nil (downs k old))
      where
        none : (b : Bool) → downs k (cond b (msgs_to to (to_homes parts n stamp requests)) []) ≡ []
        none true = downs_asked parts n stamp k to requests
        none false = refl

    up_other : (j : ℕ) → j < node_count parts → j ≢ n → ups k (get_or links (link_place parts j (home_node parts k)) [] ++ cond (j == n) (msgs_to (home_node parts k) (to_homes parts n stamp requests)) []) ≡ ups k (link_at parts s j (home_node parts k))
    up_other j l other = rw (ne_eqb j n other) (ap (ups k) (append-nil (get_or links (link_place parts j (home_node parts k)) [])) ∙ keeps.up j l)

    up_here : ups k (get_or links (link_place parts n (home_node parts k)) [] ++ cond (n == n) (msgs_to (home_node parts k) (to_homes parts n stamp requests)) []) ≡ ups k (link_at parts s n (home_node parts k)) ++ asked k requests
    up_here = rw (eq-eqb n n refl) (ups-append k (get_or links (link_place parts n (home_node parts k)) []) (msgs_to (home_node parts k) (to_homes parts n stamp requests))
        ∙ (λ x. keeps.up n keeps.here x ++ ups_asked parts n stamp k requests x))

    new_node : (j : ℕ) → (next_line parts parameters s n v links (to_homes parts n stamp requests) k).node j ≡ cond (j == n) new_part ((line_of parts parameters s k).node j)
    new_node = at_nodes (λ j u. (next_line parts parameters s n v links (to_homes parts n stamp requests) k).node j ≡ u) (line_of parts parameters s k).node n new_part at_it at_other
      where
        packets : (next_node parts parameters s n v links (to_homes parts n stamp requests) k (home_node parts k)).packets ≡ (node_at s (home_node parts k)).packets
        packets = kept_part (λ u. u.packets) (node_at s) n v (home_node parts k) keeps.packets

        at_it : (next_line parts parameters s n v links (to_homes parts n stamp requests) k).node n ≡ new_part
        at_it = rw (lt-ltb n (node_count parts) keeps.here) (λ x. record {
          copy = seen_copy (copy_at parameters.sets (same x).cache k);
          transaction = seen_transaction (value_at (same x).transactions k);
          up = (ap (λ (p : List Msg). ups k (sent_by n p) ++ ups k (get_or links (link_place parts n (home_node parts k)) [] ++ cond (n == n) (msgs_to (home_node parts k) (to_homes parts n stamp requests)) [])) packets
              ∙ (ap (λ (l : List ToMemory). ups k (sent_by n (node_at s (home_node parts k)).packets) ++ l) up_here
              ∙ sym (append_assoc (ups k (sent_by n (node_at s (home_node parts k)).packets)) (ups k (link_at parts s n (home_node parts k))) (asked k requests)))) x;
          down = (down_asked (home_node parts k == n) n (get_or links (link_place parts (home_node parts k) n) []) ∙ keeps.down_here) x;
        })
          where
            same : cond (n == n) v (node_at s n) ≡ v
            same = rw (eq-eqb n n refl) refl

        at_other : (j : ℕ) → j ≢ n → (next_line parts parameters s n v links (to_homes parts n stamp requests) k).node j ≡ (line_of parts parameters s k).node j
        at_other j other = below_same j (node_count parts) _ _ absent (λ l x. record {
          copy = seen_copy (copy_at parameters.sets (same x).cache k);
          transaction = seen_transaction (value_at (same x).transactions k);
          up = ups k (sent_by j (packets x)) ++ up_other j l other x;
          down = (down_asked (home_node parts k == n) j (get_or links (link_place parts (home_node parts k) j) []) ∙ keeps.down_other j l other) x;
        })
          where
            same : cond (j == n) v (node_at s j) ≡ node_at s j
            same = rw (ne_eqb j n other) refl

    changed_line_is : next_line parts parameters s n v links (to_homes parts n stamp requests) k ≡ changed (line_of parts parameters s k) n new_part
    changed_line_is =
        let homes : (next_node parts parameters s n v links (to_homes parts n stamp requests) k (home_node parts k)).homes ≡ (node_at s (home_node parts k)).homes = kept_part (λ u. u.homes) (node_at s) n v (home_node parts k) keeps.homes in
        λ x. record { home = full_map_of (get_or (homes x) (place_of parts k) (directory_start zero_line false)); node = λ j. new_node j x }

  pub changed_line : Keeps → line_of parts parameters (next_machine parts parameters s n v links (to_homes parts n stamp requests) k) k ≡ changed (line_of parts parameters s k) n new_part
  changed_line keeps = next_line_is parts parameters s n v links (to_homes parts n stamp requests) k keeps.fits keeps.here keeps.home keeps.size keeps.below ∙ changed_line_is keeps

-- a node's part of the line, as it was
pub old_part : (parts : Parts) (parameters : Parameters) (s : MachineState) (n k : ℕ) → n < node_count parts → (line_of parts parameters s k).node n ≡ line_node parts parameters s k n
old_part parts parameters s n k here = rw (lt-ltb n (node_count parts) here) refl

-- a line of which one node's part changes to what it was is the same
pub changed_same : (s : LineState) (n : ℕ) (w : LineNode) → w ≡ s.node n → changed s n w ≡ s
changed_same s n w same = λ x. record { home = s.home; node = λ j. at_nodes (λ j u. u ≡ s.node j) s.node n w same (λ j other. refl) j x }
