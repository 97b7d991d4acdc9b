-- What a view shows of one line, in the words that the machine's state has for it (Lines of alw_model), and when a view meets the line invariant.
use Rattle.std.specs.Prelude.{ℕ, ◌<◌, Bool, false, ◌&&◌, ◌==◌, nat_le, Option, List, ◌++◌, length, map, filter, find, option_map, option_to_list, IsTrue}
use Rattle.std.specs.List.{count_by}
use Rattle.alw_num.specs.declared.addresses.Line.{Line}
use Rattle.alw_num.specs.declared.addresses.NodeNo.{NodeNo}
use Rattle.alw_num.specs.declared.states.Mode.{Mode}
use Rattle.alw_num.specs.NodeSets.{nodes_of}
use Rattle.alw_msg.specs.declared.messages.Msg.{Msg}
use Rattle.alw_model.specs.LimitLess.{Directory, full_map_of}
use Rattle.alw_model.specs.Lines.{LineNode, LineState, ups, downs, sent_by}
use Rattle.alw_model.specs.LineInvariant.{LineInvariant}
use Rattle.alw_memory.specs.declared.views.HomeView.{HomeView}
use Rattle.alw_laws.specs.declared.views.LineView.{LineView}

-- a copy with its node, a transaction with its node, and a message with the nodes of its link
abbrev pub Held : Type 0
Held = NodeNo × Mode × Line

abbrev pub Opened : Type 0
Opened = NodeNo × Mode

abbrev pub Sent : Type 0
Sent = NodeNo × NodeNo × Msg

-- the entry of the line's home. A view doesn't tell whether the image lists the line, and the line invariant doesn't ask.
abbrev pub entry_of_view : HomeView → Directory
entry_of_view home = record {
  state = home.state;
  meta = home.meta;
  hardware = nodes_of home.hw;
  software = nodes_of home.sw;
  acks = home.acks;
  body = home.body;
  always = false;
}

-- what is a node's, and what stands on the link of two nodes
abbrev pub is_holder : ℕ → Held → Bool
is_holder number held = held.0.0 == number

abbrev pub is_opener : ℕ → Opened → Bool
is_opener number opened = opened.0.0 == number

abbrev pub is_between : ℕ → ℕ → Sent → Bool
is_between from to sent = sent.0.0 == from && (sent.1.0 == to)

-- the copy of a node: its first, where several are shown
abbrev pub copy_in : List Held → ℕ → Option (Mode × Line)
copy_in copies number = option_map (λ (held : Held). (held.1, held.2)) (find (is_holder number) copies)

-- the transaction of a node: its first, where several are shown
abbrev pub transaction_in : List Opened → ℕ → Option Mode
transaction_in pending number = option_map (λ (opened : Opened). opened.1) (find (is_opener number) pending)

-- the messages on the link of two nodes, in order
abbrev pub link_in : List Sent → ℕ → ℕ → List Msg
link_in links from to = map (λ (sent : Sent). sent.2) (filter (is_between from to) links)

-- what a node has of the line: `up` is the packet, where the node sent it, and then what is on its link to the home. What is about another line is left aside.
unfoldable pub node_in : LineView → ℕ → LineNode
node_in view number = record {
  copy = copy_in view.copies number;
  transaction = transaction_in view.transactions number;
  up = ups view.line.0 (sent_by number (option_to_list view.packet)) ++ ups view.line.0 (link_in view.links number view.at.0);
  down = downs view.line.0 (link_in view.links view.at.0 number);
}

-- the state of the line
abbrev pub line_in : LineView → LineState
line_in view = record { home = full_map_of (entry_of_view view.home); node = node_in view }

-- how many packets of the line wait for the handler
abbrev pub pending_in : LineView → ℕ
pending_in view = length (ups view.line.0 (option_to_list view.packet))

-- a node is shown with at most one copy and at most one transaction
abbrev pub shows_once : LineView → ℕ → Bool
shows_once view number = nat_le (count_by (is_holder number) view.copies) 1 && nat_le (count_by (is_opener number) view.transactions) 1

-- a view meets the line invariant at the nodes below a number: the line that it shows does, and it shows each node with one copy and one transaction at most
pub record MeetsInvariant (count : ℕ) (view : LineView) : Type 0 where
  pub line : LineInvariant count (line_in view) (entry_of_view view.home) (pending_in view)
  pub once : (number : ℕ) → number < count → IsTrue (shows_once view number)
