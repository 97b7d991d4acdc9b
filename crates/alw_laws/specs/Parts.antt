-- What one node has of the line that a view shows, as the program sums it up.
use Rattle.std.specs.Prelude.{◌≡◌, ℕ, ◌<◌, ◌^◌, Bool, ◌&&◌, ◌==◌, Option, option_to_list, List, filter}
use Rattle.std.specs.List.{list_all}
use Rattle.alw_num.specs.declared.addresses.Line.{Line}
use Rattle.alw_num.specs.declared.states.Mode.{Mode}
use Rattle.alw_msg.specs.Contents.{ToMemory, content, reply_in}
use Rattle.alw_model.specs.Lines.{LineNode, ups, sent_by}
use Rattle.alw_model.specs.LineInvariant.{data_holds}
use Rattle.alw_laws.specs.declared.views.LineView.{LineView}
use Rattle.alw_laws.specs.declared.traffic.Up.{Up}
use Rattle.alw_laws.specs.declared.traffic.Down.{Down}
use Rattle.alw_laws.specs.Views.{Sent}
use Rattle.alw_laws.specs.Traffic.{IsTrafficUp, IsTrafficDown, sent, received}

-- a node's copy, transaction and messages
pub record IsPart (node : LineNode) (copy : Option (Mode × Line)) (transaction : Option Mode) (up : Up) (down : Down) : Type 0 where
  pub copy_is : copy ≡ node.copy
  pub transaction_is : transaction ≡ node.transaction
  pub up_is : IsTrafficUp up node.up
  pub down_is : IsTrafficDown down node.down
  pub few_up : sent up < 2 ^ 40
  pub few_down : received down < 2 ^ 40

-- a message stands on the link of two nodes, and is about a line
abbrev pub stands_on : ℕ → ℕ → ℕ → Sent → Bool
stands_on line from to sent = sent.0.0 == from && (sent.1.0 == to && (sent.2.line.0 == line))

-- what the packet says, where a node sent it
abbrev pub packet_said_by : LineView → ℕ → List ToMemory
packet_said_by view number = ups view.line.0 (sent_by number (option_to_list view.packet))

-- each RDATA on the link from the home to a node holds a value
abbrev pub link_holds : LineView → ℕ → Line → Bool
link_holds view number value =
    let on_link = filter (stands_on view.line.0 view.at.0 number) view.links in
    list_all (λ (sent : Sent). list_all (data_holds value) (reply_in (content sent.2))) on_link
