-- What a line has in a machine once a node has changed and has sent messages.
use Rattle.std.proofs.Common.{◌≡◌, ℕ, ◌*◌, ◌<◌, ◌==◌, nat_lt, Bool, true, false, cond, Option, List, [], ◌++◌, length, get_or, set, option_map, refl}
use Rattle.std.proofs.lemmas.Bool.{ltb-true}
use Rattle.alw_num.specs.declared.addresses.Line.{Line}
use Rattle.alw_num.specs.declared.states.Mode.{Mode}
use Rattle.alw_msg.specs.declared.messages.Msg.{Msg}
use Rattle.alw_image.specs.declared.parts.Parts.{Parts}
use Rattle.alw_image.specs.Images.{node_count}
use Rattle.alw_image.specs.Parameters.{Parameters}
use Rattle.alw_num.specs.Maps.{value_at}
use Rattle.alw_model.specs.LimitLess.{full_map_of}
use Rattle.alw_model.specs.Caches.{Copy, Transaction, copy_at}
use Rattle.alw_model.specs.Messages.{home_node}
use Rattle.alw_model.specs.NodeStates.{NodeState, home_at}
use Rattle.alw_model.specs.Machine.{MachineState, node_at, link_at, link_place, links_sent}
use Rattle.alw_model.specs.Lines.{LineNode, LineState, absent, ups, downs, sent_by, line_of}
use Rattle.law_lines.specs.Links.{msgs_to, GoBelow}
use Rattle.law_lines.proofs.Links.{read_set, link_sent}

-- below a number two values are one
pub below_same : {X : Type 0} (j n : ℕ) (x y z : X) → (j < n → x ≡ y) → cond (nat_lt j n) x z ≡ cond (nat_lt j n) y z
below_same {X} j n x y z same = go (nat_lt j n) refl
  where
    go : (b : Bool) → nat_lt j n ≡ b → cond b x z ≡ cond b y z
    go true e = same (ltb-true j n e)
    go false e = refl

-- a copy and a transaction, as a line sees them
abbrev pub seen_copy : Option Copy → Option (Mode × Line)
seen_copy copy = option_map (λ (held : Copy). (held.mode, held.body)) copy

abbrev pub seen_transaction : Option Transaction → Option Mode
seen_transaction transaction = option_map (λ (opened : Transaction). opened.mode) transaction

-- what a node has of a line, by its own state, the packets at the home, and the links of both
abbrev pub part_of : Parameters → ℕ → ℕ → NodeState → List Msg → List Msg → List Msg → LineNode
part_of parameters k j node packets up down = record {
  copy = seen_copy (copy_at parameters.sets node.cache k);
  transaction = seen_transaction (value_at node.transactions k);
  up = ups k (sent_by j packets) ++ ups k up;
  down = downs k down;
}

module _ (parts : Parts) (parameters : Parameters) (s : MachineState) (n : ℕ) (v : NodeState) (links : List (List Msg)) (sends : List (ℕ × Msg)) (k : ℕ) where
  abbrev pub next_machine : MachineState
  next_machine = record { nodes = set s.nodes n v; links = links_sent parts links n sends }

  -- a node afterwards
  abbrev pub next_node : ℕ → NodeState
  next_node j = cond (j == n) v (node_at s j)

  -- the line afterwards
  abbrev pub next_line : LineState
  next_line =
      let home = home_node parts k in
      record {
        home = full_map_of (home_at parts (next_node home) k);
        node = λ j. cond (nat_lt j (node_count parts)) (part_of parameters k j (next_node j) (next_node home).packets
            (get_or links (link_place parts j home) [] ++ cond (j == n) (msgs_to home sends) [])
            (get_or links (link_place parts home j) [] ++ cond (home == n) (msgs_to j sends) [])) absent;
      }

  pub next_line_is : n < length s.nodes → n < node_count parts → home_node parts k < node_count parts → length links ≡ node_count parts * node_count parts → GoBelow (node_count parts) sends → line_of parts parameters next_machine k ≡ next_line
  next_line_is fits here home size below =
      let node : (j : ℕ) → node_at next_machine j ≡ next_node j = λ j. read_set s.nodes n v _ j fits in
      let link : (a b : ℕ) → b < node_count parts → link_at parts next_machine a b ≡ get_or links (link_place parts a b) [] ++ cond (a == n) (msgs_to b sends) [] = λ a b m. link_sent parts n a b sends links here m size below in
      λ x. record {
        home = full_map_of (home_at parts (node (home_node parts k) x) k);
        node = λ j. below_same j (node_count parts) _ _ absent (λ l y. part_of parameters k j (node j y) (node (home_node parts k) y).packets (link j (home_node parts k) home y) (link (home_node parts k) j l y)) x;
      }
