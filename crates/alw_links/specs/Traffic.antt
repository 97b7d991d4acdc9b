-- The messages on the way between the nodes of a machine: one link for each ordered pair of nodes, a node with itself too, first in, first out (after Lamport
-- 1978).
use Rattle.std.specs.Prelude.{ℕ, ◌+◌, ◌-◌, ◌*◌, List, [], ◌∷◌, ◌++◌, length, slice_index_or, slice_set}
use Rattle.alw_num.specs.Weights.{digit, weigh}
use Rattle.alw_msg.specs.declared.messages.Msg.{Msg}
use Rattle.alw_msg.specs.Lists.{is_nonempty, behind}

-- the number of nodes, the number of messages more that there is room for, and what each link has, its head first; the link of (from, to) has the place from
-- * nodes + to
pub record Traffic : Type 0 where
  pub nodes : ℕ
  pub room : ℕ
  pub links : List (List Msg)

abbrev pub place_of : ℕ → ℕ → ℕ → ℕ
place_of nodes from to = from * nodes + to

-- what the link of a pair has
abbrev pub link_of : ℕ → List (List Msg) → ℕ → ℕ → List Msg
link_of nodes links from to = slice_index_or links (place_of nodes from to) []

abbrev pub link_in : Traffic → ℕ → ℕ → List Msg
link_in traffic from to = link_of traffic.nodes traffic.links from to

-- one link without its head
abbrev pub links_without : ℕ → List (List Msg) → ℕ → ℕ → List (List Msg)
links_without nodes links from to =
    let place = place_of nodes from to in
    slice_set links place (behind (slice_index_or links place []))

-- a message more at the end of one link
abbrev pub links_with : ℕ → List (List Msg) → ℕ → ℕ → Msg → List (List Msg)
links_with nodes links from to msg =
    let place = place_of nodes from to in
    slice_set links place (slice_index_or links place [] ++ msg ∷ [])

-- what a node sends goes to the ends of its links, in order
abbrev pub links_with_all : ℕ → List (List Msg) → ℕ → List (ℕ × Msg) → List (List Msg)
links_with_all nodes links from [] = links
links_with_all nodes links from (send ∷ rest) = links_with_all nodes (links_with nodes links from send.0 send.1) from rest

-- the number of messages on all links
abbrev pub in_flight : List (List Msg) → ℕ
in_flight links = weigh (λ link. length link) links

-- a message has been taken off the link of a pair, and left its room, where one was there
abbrev pub after_take : Traffic → ℕ → ℕ → Traffic
after_take traffic from to = record {
  nodes = traffic.nodes;
  room = traffic.room + digit (is_nonempty (link_in traffic from to));
  links = links_without traffic.nodes traffic.links from to;
}

-- a message has been sent, and has taken room
abbrev pub after_send : Traffic → ℕ → ℕ → Msg → Traffic
after_send traffic from to msg = record {
  nodes = traffic.nodes;
  room = traffic.room - 1;
  links = links_with traffic.nodes traffic.links from to msg;
}

-- a node has sent some messages
abbrev pub after_sends : Traffic → ℕ → List (ℕ × Msg) → Traffic
after_sends traffic from sends = record {
  nodes = traffic.nodes;
  room = traffic.room - length sends;
  links = links_with_all traffic.nodes traffic.links from sends;
}
