-- A line follows what its home does: hardware or the handler acts on its message as a full-map entry, and a trap only moves the message into the queue.
use Rattle.std.proofs.Common.{◌≡◌, ◌≢◌, ℕ, ◌<◌, ◌==◌, Bool, true, false, cond, Some, List, [], ◌∷◌, ◌++◌, length, get_or, refl, sym, subst, ap, ◌∙◌, append-nil, append_assoc, arith}
use Rattle.std.proofs.lemmas.Bool.{eq-eqb, ne_eqb}
use Rattle.std.proofs.lemmas.List.{length-append}
use Rattle.alw_num.proofs.Weigh.{is_node}
use Rattle.alw_num.specs.NodeSets.{has_node}
use Rattle.alw_num.specs.Weights.{digit}
use Rattle.alw_msg.specs.declared.messages.Msg.{Msg}
use Rattle.alw_image.specs.declared.parts.Parts.{Parts}
use Rattle.alw_image.specs.Images.{node_count, line_count, zero_line}
use Rattle.alw_image.specs.Parameters.{Parameters}
use Rattle.alw_msg.specs.Contents.{ToMemory, ToCache, ForMemory, content, request_in}
use Rattle.alw_model.specs.FullMap.{Home, Sends, act}
use Rattle.alw_model.specs.LimitLess.{Directory, directory_start, full_map_of, is_trapped, is_in_progress, hardware_act, trapped, handle}
use Rattle.alw_model.specs.Messages.{home_node, to_caches}
use Rattle.alw_model.specs.NodeStates.{NodeState, home_at, with_home, place_of}
use Rattle.alw_model.specs.NodeSteps.{clocked, at_home, handle_by}
use Rattle.alw_msg.specs.Lists.{front, behind}
use Rattle.alw_model.specs.Machine.{MachineState, node_at, link_at}
use Rattle.alw_model.specs.Lines.{LineNode, LineState, ups, downs, sent_by, entry_of, packets_at, line_of}
use Rattle.law_line.specs.Protocol.{Acts, sent_to, acted, acts, step}
use Rattle.law_line.proofs.Homes.{DestsBelow}
use Rattle.law_entry.specs.Entries.{EntryIsSound, ActsAlike}
use Rattle.law_entry.proofs.Actions.{hardware_acts, handler_acts}
use Rattle.law_lines.specs.LineEvents.{Follows, about}
use Rattle.law_lines.specs.Standing.{IsPacket, IsStanding}
use Rattle.law_lines.proofs.Contents.{ups-append, sent_by-append}
use Rattle.law_lines.proofs.Views.{next_machine}
use Rattle.law_lines.proofs.CacheSide.{kept_part, old_part}
use Rattle.law_lines.proofs.HomeSide as side
use Rattle.law_lines.proofs.HomeSide.{other_line, acted_line}
use Rattle.law_lines.proofs.Destinations.{act_below}
use Rattle.law_lines.proofs.Places.{entry_set}
use Rattle.law_lines.proofs.Following.{stays, takes_about, home_below}
use Rattle.law_lines.proofs.Taken.{split_front, ups_without, downs_without, no_reply, other_request, links_left, links_size, left_at, left_here, left_from_other, left_to_other, as_before}

no_sends : (b : Bool) → cond {A = List ToCache} b [] [] ≡ []
no_sends true = refl
no_sends false = refl

-- a message from the front of one list to the end of another
moved_up : (k : ℕ) (before : List Msg) (msg : Msg) (rest all : List Msg) → all ≡ msg ∷ rest → ups k (before ++ msg ∷ []) ++ ups k rest ≡ ups k before ++ ups k all
moved_up k before msg rest all e = ap (λ (u : List ToMemory). u ++ ups k rest) (ups-append k before (msg ∷ []))
    ∙ (append_assoc (ups k before) (ups k (msg ∷ [])) (ups k rest) ∙ ap (λ (u : List ToMemory). ups k before ++ u) (sym (ups-append k (msg ∷ []) rest) ∙ ap (ups k) (sym e)))

-- where nothing of the line waits, nothing of it was sent by anyone
none_sent : (k j : ℕ) (msgs : List Msg) → length (ups k msgs) ≡ 0 → ups k (sent_by j msgs) ≡ []
none_sent k j [] e = refl
none_sent k j (msg ∷ rest) e =
    let first = cond (msg.line.0 == k) (request_in (content msg)) [] in
    let none : first ≡ [] = empty first (omega (arith, e, length-append first (ups k rest))) in
    go (msg.src.0 == j) none (none_sent k j rest (omega (arith, e, length-append first (ups k rest))))
  where
    empty : (xs : List ToMemory) → length xs ≡ 0 → xs ≡ []
    empty [] e = refl
    empty (x ∷ xs) e = absurd (omega arith)

    go : (b : Bool) → cond (msg.line.0 == k) (request_in (content msg)) [] ≡ [] → ups k (sent_by j rest) ≡ [] → ups k (cond b (msg ∷ sent_by j rest) (sent_by j rest)) ≡ []
    go true none tail = (λ x. none x ++ tail x)
    go false none tail = tail

-- the home acts on the front message of a node
acts_step : (s : LineState) (i : ℕ) (rest : List ToMemory) (said : ToMemory) (after : Home × Sends) → (s.node i).up ≡ said ∷ rest → after ≡ act s.home i said → acted s i rest after ≡ step s (Acts i)
acts_step s i rest said after up is = ap (acted s i rest) is ∙ sym (ap (acts s i) up)

-- a line's full-map entry, once its home's node has another entry for line l
pub new_entry : (parts : Parts) (s : MachineState) (n : ℕ) (v : NodeState) (l k : ℕ) (d : Directory) → home_node parts l ≡ n → length (node_at s n).homes ≡ parts.per_node → l < line_count parts → v.homes ≡ (with_home parts (node_at s n) l d).homes
    → full_map_of (home_at parts (cond (home_node parts k == n) v (node_at s (home_node parts k))) k) ≡ cond (k == l) (full_map_of d) (full_map_of (home_at parts (node_at s (home_node parts k)) k))
new_entry parts s n v l k d is_home size lines homes = is_node _ (home_node parts k) n
    (λ same. ap (λ b. full_map_of (home_at parts (cond b v (node_at s (home_node parts k))) k)) (eq-eqb (home_node parts k) n same)
    ∙ (ap (λ (hs : List Directory). full_map_of (get_or hs (place_of parts k) (directory_start zero_line false))) homes
    ∙ (ap full_map_of (entry_set parts (node_at s n) l k d size lines (same ∙ sym is_home)) ∙ (pushed (k == l) ∙ ap (λ a. cond (k == l) (full_map_of d) (full_map_of (home_at parts (node_at s a) k))) (sym same)))))
    (λ other. ap (λ b. full_map_of (home_at parts (cond b v (node_at s (home_node parts k))) k)) (ne_eqb (home_node parts k) n other)
    ∙ ap (λ b. cond b (full_map_of d) (full_map_of (home_at parts (node_at s (home_node parts k)) k))) (sym (ne_eqb k l (λ is. other (ap (home_node parts) is ∙ is_home)))))
  where
    pushed : (b : Bool) → full_map_of (cond b d (home_at parts (node_at s n) k)) ≡ cond b (full_map_of d) (full_map_of (home_at parts (node_at s n) k))
    pushed true = refl
    pushed false = refl

-- ---- a delivery to memory

module _ (parts : Parts) (parameters : Parameters) (s : MachineState) (standing : IsStanding parts parameters s) (from n : ℕ) (f : from < node_count parts) (here : n < node_count parts) (stamp k : ℕ) (exists : k < line_count parts) (msg : Msg) (e : front (link_at parts s from n) ≡ Some msg) (at_home_is : home_node parts msg.line.0 ≡ n) (lines : msg.line.0 < line_count parts) (source : msg.src.0 ≡ from) (said : ToMemory) (is : content msg ≡ ForMemory said) where
  abbrev links : List (List Msg)
  links = links_left parts s from n f here standing.links msg e

  abbrev node : NodeState
  node = node_at s n

  abbrev l : ℕ
  l = msg.line.0

  abbrev h : ℕ
  h = home_node parts k

  abbrev left : ℕ → ℕ → List Msg
  left = left_at parts s from n f here standing.links msg e

  abbrev entry : Directory
  entry = home_at parts node l

  abbrev old_up : ℕ → List ToMemory
  old_up j = ups k (sent_by j (node_at s h).packets) ++ ups k (link_at parts s j h)

  downs_are : (a b : ℕ) → b < node_count parts → downs k (left a b) ≡ downs k (link_at parts s a b)
  downs_are = as_before parts s from n f here standing.links msg e (downs k) (downs_without k msg _ (no_reply k msg said is))

  -- ---- a trap

  abbrev trap_node : NodeState
  trap_node = (clocked stamp (at_home parts parameters n stamp node msg said true)).node

  -- the message moves from the link to the end of the queue
  up_moves : (j : ℕ) → j < node_count parts → ups k (sent_by j (cond (h == n) trap_node (node_at s h)).packets) ++ ups k (left j h) ≡ old_up j
  up_moves j m = is_node _ h n
      (λ same. ap (λ b. ups k (sent_by j (cond b trap_node (node_at s h)).packets) ++ ups k (left j h)) (eq-eqb h n same) ∙ (moved (same) ∙ ap (λ a. ups k (sent_by j (node_at s a).packets) ++ ups k (link_at parts s j h)) (sym same)))
      (λ other. ap (λ b. ups k (sent_by j (cond b trap_node (node_at s h)).packets) ++ ups k (left j h)) (ne_eqb h n other) ∙ ap (λ (c : List Msg). ups k (sent_by j (node_at s h).packets) ++ ups k c) (left_to_other parts s from n f here standing.links msg e j h (home_below parts k exists) other))
    where
      moved : h ≡ n → ups k (sent_by j (node.packets ++ msg ∷ [])) ++ ups k (left j h) ≡ ups k (sent_by j node.packets) ++ ups k (link_at parts s j h)
      moved same = ap (λ (c : List Msg). ups k c ++ ups k (left j h)) (sent_by-append j node.packets (msg ∷ [])) ∙ is_node _ j from
          (λ mine. ap (λ b. ups k (sent_by j node.packets ++ cond b (msg ∷ []) []) ++ ups k (left j h)) (eq-eqb msg.src.0 j (source ∙ sym mine))
          ∙ (ap (λ (c : List Msg). ups k (sent_by j node.packets ++ msg ∷ []) ++ ups k c) ((λ x. left (mine x) (same x)) ∙ left_here parts s from n f here standing.links msg e)
          ∙ moved_up k (sent_by j node.packets) msg (behind (link_at parts s from n)) (link_at parts s j h) ((λ x. link_at parts s (mine x) (same x)) ∙ split_front (link_at parts s from n) msg e)))
          (λ other. ap (λ b. ups k (sent_by j node.packets ++ cond b (msg ∷ []) []) ++ ups k (left j h)) (ne_eqb msg.src.0 j (λ is. other (sym is ∙ source)))
          ∙ (λ x. ups k (append-nil (sent_by j node.packets) x) ++ ups k (left_from_other parts s from n f here standing.links msg e j h (home_below parts k exists) other x)))

  -- the full map of the entry is as it was
  unmoved : cond (k == l) (full_map_of (trapped entry)) (line_of parts parameters s k).home ≡ (line_of parts parameters s k).home
  unmoved = is_node _ k l
      (λ same. ap (λ b. cond b (full_map_of (trapped entry)) (line_of parts parameters s k).home) (eq-eqb k l same) ∙ (λ x. full_map_of (home_at parts (node_at s ((sym at_home_is ∙ ap (home_node parts) (sym same)) x)) (sym same x))))
      (λ other. ap (λ b. cond b (full_map_of (trapped entry)) (line_of parts parameters s k).home) (ne_eqb k l other))

  trap_keeps : side.Keeps parts parameters s n trap_node links stamp l [] k (line_of parts parameters s k).home old_up
  trap_keeps = record {
    fits = rw standing.nodes here;
    here = here;
    home = home_below parts k exists;
    is_home = at_home_is;
    size = links_size parts s from n f here standing.links msg e;
    below = tt;
    cache = refl;
    transactions = refl;
    entry_is = new_entry parts s n trap_node l k (trapped entry) at_home_is (standing.each n here).homes lines refl ∙ unmoved;
    up_is = up_moves;
    down = λ j m. downs_are h j m;
  }

  pub trap_follows : Follows (node_count parts) (line_of parts parameters s k) [] (line_of parts parameters (next_machine parts parameters s n trap_node links [] k) k)
  trap_follows = stays _ _ _ (other_line parts parameters s n trap_node links stamp l [] k (line_of parts parameters s k).home old_up trap_keeps (λ j. no_sends (l == k)) refl (λ j m. refl))

  -- ---- where no packet waits

  abbrev rest : List ToMemory
  rest = ups k (behind (link_at parts s from n))

  home_is : k ≡ l → h ≡ n
  home_is same = ap (home_node parts) same ∙ at_home_is

  entry_is_of : entry_of parts s l ≡ entry
  entry_is_of = ap (λ a. home_at parts (node_at s a) l) at_home_is

  module _ (free : is_in_progress entry.meta ≡ false) where
    -- no packet of the line waits
    none_waits : k ≡ l → (j : ℕ) → ups k (sent_by j (node_at s h).packets) ≡ []
    none_waits same j = none_sent k j (node_at s h).packets
        (ap (λ a. length (ups a (packets_at parts s a))) same
        ∙ ((standing.each (home_node parts l) (home_below parts l lines)).pending l lines refl
        ∙ ap (λ (d : Directory). digit (is_in_progress d.meta)) entry_is_of ∙ ap digit free))

    -- so the message is the first of its sender's
    pub front_up : k ≡ l → ((line_of parts parameters s k).node from).up ≡ said ∷ rest
    front_up same = ap (λ (u : LineNode). u.up) (old_part parts parameters s from k f)
        ∙ ((λ x. none_waits same from x ++ ups k (link_at parts s from (home_is same x)))
        ∙ (ap (ups k) (split_front (link_at parts s from n) msg e) ∙ (λ x. cond (eq-eqb l k (sym same) x) (request_in (is x)) [] ++ rest)))

  -- ---- hardware acts

  module _ (calm : is_trapped parameters.pointers entry msg.src.0 said ≡ false) (free : is_in_progress entry.meta ≡ false) (points : (j : ℕ) → has_node (full_map_of entry).pointers j ≡ true → j < node_count parts) where
    abbrev hardware : Directory × Sends
    hardware = hardware_act entry msg.src.0 said

    abbrev hardware_node : NodeState
    hardware_node = (clocked stamp (at_home parts parameters n stamp node msg said false)).node

    alike : ActsAlike entry msg.src.0 said hardware
    alike = hardware_acts parameters.pointers entry msg.src.0 said (subst (λ (d : Directory). EntryIsSound parameters.pointers d) entry_is_of ((standing.each (home_node parts l) (home_below parts l lines)).entries l lines refl)) calm free

    dests : DestsBelow (node_count parts) hardware.1
    dests = rw alike.sent (act_below (node_count parts) (full_map_of entry) msg.src.0 (rw source f) points said)

    entry_after : full_map_of (home_at parts (cond (h == n) hardware_node (node_at s h)) k) ≡ cond (k == l) (full_map_of hardware.0) (line_of parts parameters s k).home
    entry_after = new_entry parts s n hardware_node l k (hardware.0) at_home_is (standing.each n here).homes lines refl

    packets_stay : (cond (h == n) hardware_node (node_at s h)).packets ≡ (node_at s h).packets
    packets_stay = kept_part (λ u. u.packets) (node_at s) n hardware_node h refl

    hardware_keeps : (after : Home) (up : ℕ → List ToMemory) → cond (k == l) (full_map_of hardware.0) (line_of parts parameters s k).home ≡ after → ((j : ℕ) → j < node_count parts → ups k (sent_by j (node_at s h).packets) ++ ups k (left j h) ≡ up j) → side.Keeps parts parameters s n hardware_node links stamp l hardware.1 k after up
    hardware_keeps after up is_after is_up = record {
      fits = rw standing.nodes here;
      here = here;
      home = home_below parts k exists;
      is_home = at_home_is;
      size = links_size parts s from n f here standing.links msg e;
      below = dests;
      cache = refl;
      transactions = refl;
      entry_is = entry_after ∙ is_after;
      up_is = λ j m. ap (λ (p : List Msg). ups k (sent_by j p) ++ ups k (left j h)) packets_stay ∙ is_up j m;
      down = λ j m. downs_are h j m;
    }

    abbrev new_up : ℕ → List ToMemory
    new_up j = cond (j == from) rest (old_up j)

    up_taken : k ≡ l → (j : ℕ) → j < node_count parts → ups k (sent_by j (node_at s h).packets) ++ ups k (left j h) ≡ new_up j
    up_taken same j m = is_node _ j from
        (λ mine. (λ x. none_waits free same j x ++ ups k (left (mine x) (home_is same x)))
        ∙ (ap (ups k) (left_here parts s from n f here standing.links msg e) ∙ ap (λ b. cond b rest (old_up j)) (sym (eq-eqb j from mine))))
        (λ other. ap (λ (c : List Msg). ups k (sent_by j (node_at s h).packets) ++ ups k c) (left_from_other parts s from n f here standing.links msg e j h (home_below parts k exists) other) ∙ ap (λ b. cond b rest (old_up j)) (sym (ne_eqb j from other)))

    acts_as : k ≡ l → ◌≡◌ {A = Home × Sends} (full_map_of hardware.0, hardware.1) (act (line_of parts parameters s k).home from said)
    acts_as same = (λ x. (alike.entry x, alike.sent x)) ∙ (λ x. act (full_map_of (home_at parts (node_at s (sym (home_is same) x)) (sym same x))) (source x) said)

    pub hardware_follows : Follows (node_count parts) (line_of parts parameters s k) (about k l (Acts msg.src.0)) (line_of parts parameters (next_machine parts parameters s n hardware_node links (to_caches n stamp l hardware.1) k) k)
    hardware_follows = subst (λ (i : ℕ). Follows (node_count parts) (line_of parts parameters s k) (about k l (Acts i)) (line_of parts parameters (next_machine parts parameters s n hardware_node links (to_caches n stamp l hardware.1) k) k)) (sym source)
        (takes_about (node_count parts) (line_of parts parameters s k) (line_of parts parameters (next_machine parts parameters s n hardware_node links (to_caches n stamp l hardware.1) k) k) k l (Acts from)
        (λ same. (
          f,
          acted_line parts parameters s n hardware_node links stamp l hardware.1 k (full_map_of hardware.0) new_up
              (hardware_keeps (full_map_of hardware.0) new_up (ap (λ b. cond b (full_map_of hardware.0) (line_of parts parameters s k).home) (eq-eqb k l same)) (up_taken same)) (sym same) from rest f (λ j. refl)
              ∙ acts_step (line_of parts parameters s k) from rest said (full_map_of hardware.0, hardware.1) (front_up free same) (acts_as same),
        ))
        (λ other. other_line parts parameters s n hardware_node links stamp l hardware.1 k (line_of parts parameters s k).home old_up
        (hardware_keeps (line_of parts parameters s k).home old_up (ap (λ b. cond b (full_map_of hardware.0) (line_of parts parameters s k).home) (ne_eqb k l other))
        (λ j m. ap (λ (u : List ToMemory). ups k (sent_by j (node_at s h).packets) ++ u) (as_before parts s from n f here standing.links msg e (ups k) (ups_without k msg _ (other_request k msg other)) j h (home_below parts k exists))))
        (λ j. ap (λ b. cond b (sent_to j hardware.1) []) (ne_eqb l k (λ is. other (sym is)))) refl (λ j m. refl)))

-- ---- the handler acts

module _ (parts : Parts) (parameters : Parameters) (s : MachineState) (standing : IsStanding parts parameters s) (n : ℕ) (here : n < node_count parts)
    (stamp k : ℕ) (exists : k < line_count parts) (packet : Msg) (waiting : List Msg) (queue : (node_at s n).packets ≡ packet ∷ waiting)
    (packed : IsPacket parts n packet) (said : ToMemory) (is : content packet ≡ ForMemory said) where
  -- the pointers of its entry are nodes
  abbrev PointsExist : Type 0
  PointsExist = (j : ℕ) → has_node (full_map_of (home_at parts (node_at s n) packet.line.0)).pointers j ≡ true → j < node_count parts

  abbrev line : ℕ
  line = packet.line.0

  abbrev source_node : ℕ
  source_node = packet.src.0

  abbrev at : ℕ
  at = home_node parts k

  abbrev its_entry : Directory
  its_entry = home_at parts (node_at s n) line

  abbrev after : Directory × Sends
  after = handle its_entry source_node said

  abbrev handled_node : NodeState
  handled_node = (clocked stamp (handle_by parts parameters n stamp (record (node_at s n) { packets = waiting }) packet (ForMemory said))).node

  abbrev was_up : ℕ → List ToMemory
  was_up j = ups k (sent_by j (node_at s at).packets) ++ ups k (link_at parts s j at)

  -- what is left in the queue of the line's home
  left_waiting : (part : List Msg → List ToMemory) → part waiting ≡ part (packet ∷ waiting) → part (cond (at == n) handled_node (node_at s at)).packets ≡ part (node_at s at).packets
  left_waiting part same = kept_part (λ u. part u.packets) (node_at s) n handled_node at (same ∙ ap part (sym queue))

  handled_keeps : PointsExist →
      (next : Home) (up : ℕ → List ToMemory) → cond (k == line) (full_map_of after.0) (line_of parts parameters s k).home ≡ next →
      ((j : ℕ) → j < node_count parts →
      ups k (sent_by j (cond (at == n) handled_node (node_at s at)).packets) ++ ups k (link_at parts s j at) ≡ up j) →
      side.Keeps parts parameters s n handled_node s.links stamp line after.1 k next up
  handled_keeps points next up is_next is_up = record {
    fits = rw standing.nodes here;
    here = here;
    home = home_below parts k exists;
    is_home = packed.home;
    size = standing.links;
    below = rw (handler_acts its_entry source_node said).sent (act_below (node_count parts) (full_map_of its_entry) source_node packed.source points said);
    cache = refl;
    transactions = refl;
    entry_is = new_entry parts s n handled_node line k after.0 packed.home (standing.each n here).homes packed.line refl ∙ is_next;
    up_is = is_up;
    down = λ j m. refl;
  }

  at_is : k ≡ line → at ≡ n
  at_is same = ap (home_node parts) same ∙ packed.home

  abbrev rest_up : List ToMemory
  rest_up = ups k (sent_by source_node waiting) ++ ups k (link_at parts s source_node at)

  -- the packet is the front message of its sender
  pub packet_first : k ≡ line → ((line_of parts parameters s k).node source_node).up ≡ said ∷ rest_up
  packet_first same = ap (λ (u : LineNode). u.up) (old_part parts parameters s source_node k packed.source)
      ∙ (ap (λ (q : List Msg). ups k (sent_by source_node q) ++ ups k (link_at parts s source_node at)) ((λ x. (node_at s (at_is same x)).packets) ∙ queue)
      ∙ (ap (λ b. ups k (cond b (packet ∷ sent_by source_node waiting) (sent_by source_node waiting)) ++ ups k (link_at parts s source_node at)) (eq-eqb source_node source_node refl)
      ∙ (λ x. (cond (eq-eqb line k (sym same) x) (request_in (is x)) [] ++ ups k (sent_by source_node waiting)) ++ ups k (link_at parts s source_node at))))

  abbrev up_after : ℕ → List ToMemory
  up_after j = cond (j == source_node) rest_up (was_up j)

  up_handled : k ≡ line → (j : ℕ) → j < node_count parts → ups k (sent_by j (cond (at == n) handled_node (node_at s at)).packets) ++ ups k (link_at parts s j at) ≡ up_after j
  up_handled same j m = is_node _ j source_node
      (λ mine. ap (λ b. ups k (sent_by j (cond b handled_node (node_at s at)).packets) ++ ups k (link_at parts s j at)) (eq-eqb at n (at_is same))
      ∙ ((λ x. ups k (sent_by (mine x) waiting) ++ ups k (link_at parts s (mine x) at)) ∙ ap (λ b. cond b rest_up (was_up j)) (sym (eq-eqb j source_node mine))))
      (λ other. ap (λ (u : List ToMemory). u ++ ups k (link_at parts s j at)) (left_waiting (λ q. ups k (sent_by j q)) (ap (λ b. ups k (cond b (packet ∷ sent_by j waiting) (sent_by j waiting))) (sym (ne_eqb source_node j (λ is. other (sym is))))))
      ∙ ap (λ b. cond b rest_up (was_up j)) (sym (ne_eqb j source_node other)))

  handles_as : k ≡ line → ◌≡◌ {A = Home × Sends} (full_map_of after.0, after.1) (act (line_of parts parameters s k).home source_node said)
  handles_as same = (λ x. ((handler_acts its_entry source_node said).entry x, (handler_acts its_entry source_node said).sent x)) ∙ (λ x. act (full_map_of (home_at parts (node_at s (sym (at_is same) x)) (sym same x))) source_node said)

  -- of another line nothing waited in the packet
  not_in_packet : k ≢ line → (j : ℕ) → ups k (sent_by j waiting) ≡ ups k (sent_by j (packet ∷ waiting))
  not_in_packet other j = go (source_node == j)
    where
      go : (b : Bool) → ups k (sent_by j waiting) ≡ ups k (cond b (packet ∷ sent_by j waiting) (sent_by j waiting))
      go true = ups_without k packet (sent_by j waiting) (other_request k packet other)
      go false = refl

  pub handler_follows : PointsExist →
      Follows (node_count parts) (line_of parts parameters s k) (about k line (Acts source_node))
      (line_of parts parameters (next_machine parts parameters s n handled_node s.links (to_caches n stamp line after.1) k) k)
  handler_follows points =
      takes_about (node_count parts) (line_of parts parameters s k)
      (line_of parts parameters (next_machine parts parameters s n handled_node s.links (to_caches n stamp line after.1) k) k) k line (Acts source_node)
      (λ same. (
        packed.source,
        acted_line parts parameters s n handled_node s.links stamp line after.1 k (full_map_of after.0) up_after
            (handled_keeps points (full_map_of after.0) up_after
            (ap (λ b. cond b (full_map_of after.0) (line_of parts parameters s k).home) (eq-eqb k line same)) (up_handled same))
            (sym same) source_node rest_up packed.source (λ j. refl)
            ∙ acts_step (line_of parts parameters s k) source_node rest_up said (full_map_of after.0, after.1) (packet_first same) (handles_as same),
      ))
      (λ other. other_line parts parameters s n handled_node s.links stamp line after.1 k (line_of parts parameters s k).home was_up
      (handled_keeps points (line_of parts parameters s k).home was_up
      (ap (λ b. cond b (full_map_of after.0) (line_of parts parameters s k).home) (ne_eqb k line other))
      (λ j m. ap (λ (u : List ToMemory). u ++ ups k (link_at parts s j at)) (left_waiting (λ q. ups k (sent_by j q)) (not_in_packet other j))))
      (λ j. ap (λ b. cond b (sent_to j after.1) []) (ne_eqb line k (λ is. other (sym is)))) refl (λ j m. refl))
