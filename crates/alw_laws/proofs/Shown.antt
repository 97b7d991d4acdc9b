-- A view that shows exactly what a machine has of a line shows the line's part of the machine's state.
use Rattle.std.proofs.Common.{◌≡◌, ℕ, ◌<◌, ◌≤◌, nat_lt, Bool, true, false, ◌||◌, Option, Some, None, IsTrue, List, [], ◌∷◌, ◌++◌, length}
use Rattle.std.proofs.Common.{refl, sym, ap, subst, ◌∙◌, arith}
use Rattle.std.specs.List.{list_all, count_by}
use Rattle.std.specs.Option.{option_map, option_to_list}
use Rattle.std.proofs.lemmas.Bool.{false≢true, le-leb, le-ltb, lt-ltb, ltb-true}
use Rattle.alw_num.specs.declared.addresses.Line.{Line}
use Rattle.alw_num.specs.declared.states.Mode.{Mode}
use Rattle.alw_num.specs.Maps.{value_at}
use Rattle.alw_num.specs.NodeSets.{Nodes, has_node, join_nodes, members}
use Rattle.alw_num.specs.Weights.{digit, times}
use Rattle.alw_num.proofs.Sets.{member, has-join}
use Rattle.alw_num.proofs.Weigh.{is_node, cases_lt_then, digit_other}
use Rattle.alw_msg.specs.declared.messages.Msg.{Msg}
use Rattle.alw_msg.specs.Contents.{Content, request_in, reply_in}
use Rattle.alw_image.specs.declared.parts.Parts.{Parts}
use Rattle.alw_image.specs.Images.{node_count, line_count}
use Rattle.alw_image.specs.Parameters.{Parameters}
use Rattle.alw_image.proofs.HeaderFields.{product}
use Rattle.alw_model.specs.LimitLess.{Directory, full_map_of}
use Rattle.alw_model.specs.Caches.{Copy, Transaction, copy_at}
use Rattle.alw_model.specs.Messages.{home_node}
use Rattle.alw_model.specs.Machine.{MachineState, node_at, link_at}
use Rattle.alw_model.specs.Lines.{LineState, absent, ups, downs, sent_by, entry_of, packets_at, line_node, line_of}
use Rattle.alw_model.specs.LineInvariant.{LineInvariant}
use Rattle.alw_model.specs.MachineInvariant.{MachineInvariant}
use Rattle.alw_model.proofs.Journals.{and_parts, and_is}
use Rattle.law_lines.proofs.Following.{home_below}
use Rattle.law_machine.specs.Machines.{OnEveryMachine}
use Rattle.law_machine.proofs.MachineFacts.{always_invariant}
use Rattle.alw_laws.specs.declared.views.LineView.{LineView}
use Rattle.alw_laws.specs.Views.{Held, Opened, Sent, is_holder, is_opener, copy_in, transaction_in, link_in}
use Rattle.alw_laws.specs.Views.{entry_of_view, node_in, line_in, pending_in, shows_once, MeetsInvariant}
use Rattle.alw_laws.specs.Shown.{copy_shown, transaction_shown, of_line, Shows}
use Rattle.alw_laws.proofs.Links.{about}
use Rattle.alw_laws.proofs.LinkLists.{link_is, no_link_from, no_link_to}
use Rattle.alw_laws.proofs.Messages.{ArePacked, about_line, sent_of_line, few_pending, front_list, packets_said, none_sent}
use Rattle.alw_laws.proofs.Picks.{found_of, found_beyond, there_once}
use Rattle.alw_laws.proofs.Wider.{IsBelow, wider}

-- ---- pointers

-- a member of a list passes a test that all pass
member_passes : (test : ℕ → Bool) (numbers : List ℕ) (k : ℕ) → IsTrue (list_all test numbers) → 1 ≤ times k numbers → IsTrue (test k)
member_passes test [] k all some = absurd (omega arith)
member_passes test (n ∷ rest) k all some =
    let both = and_parts (test n) (list_all test rest) all in
    is_node _ k n (λ same. rw same both.0) (λ other. member_passes test rest k both.1 (omega (arith, digit_other k n other)))

-- the members of a set exist
abbrev Exist : ℕ → Nodes → Type 0
Exist count nodes = IsTrue (list_all (λ i. nat_lt i count) (members nodes))

in_set : (count : ℕ) (nodes : Nodes) (k : ℕ) → Exist count nodes → has_node nodes k ≡ true → k < count
in_set count nodes k all has = ltb-true k count (member_passes (λ i. nat_lt i count) (members nodes) k all (omega (arith, member nodes k, ap digit has)))

in_either : (count : ℕ) (one other : Nodes) (k : ℕ) → Exist count one → Exist count other → has_node (join_nodes one other) k ≡ true → k < count
in_either count one other k first second has = go (has_node one k) (has_node other k) refl refl (sym (has-join one other k) ∙ has)
  where
    go : (a b : Bool) → has_node one k ≡ a → has_node other k ≡ b → (a || b) ≡ true → k < count
    go true b e f is = in_set count one k first e
    go false true e f is = in_set count other k second f
    go false false e f is = absurd (false≢true is)

-- ---- a node's own

-- a copy and a transaction, without the node
abbrev bare_copy : Held → Mode × Line
bare_copy held = (held.1, held.2)

abbrev bare_mode : Opened → Mode
bare_mode opened = opened.1

abbrev seen_copy : Option Copy → Option (Mode × Line)
seen_copy o = option_map (λ (copy : Copy). (copy.mode, copy.body)) o

abbrev seen_transaction : Option Transaction → Option Mode
seen_transaction o = option_map (λ (transaction : Transaction). transaction.mode) o

copy_is : (i : ℕ) (o : Option Copy) → option_map bare_copy (option_map (copy_shown i) o) ≡ seen_copy o
copy_is i None = refl
copy_is i (Some copy) = refl

transaction_is : (i : ℕ) (o : Option Transaction) → option_map bare_mode (option_map (transaction_shown i) o) ≡ seen_transaction o
transaction_is i None = refl
transaction_is i (Some transaction) = refl

-- ---- the line

-- a view of a line of a machine that meets its invariant
pub record IsView (parts : Parts) (parameters : Parameters) (machine : MachineState) (line : ℕ) (view : LineView) : Type 0 where
  pub invariant : MachineInvariant parts parameters machine
  pub here : line < line_count parts
  pub shows : Shows parts parameters machine line view

module _ (parts : Parts) (parameters : Parameters) (machine : MachineState) (line : ℕ) (view : LineView) (is : IsView parts parameters machine line view) where
  abbrev count : ℕ
  count = node_count parts

  abbrev home : ℕ
  home = home_node parts line

  abbrev entry : Directory
  entry = entry_of parts machine line

  abbrev packets : List Msg
  packets = packets_at parts machine line

  abbrev line_state : LineState
  line_state = line_of parts parameters machine line

  abbrev held : ℕ → Option Copy
  held i = copy_at parameters.sets (node_at machine i).cache line

  abbrev opened : ℕ → Option Transaction
  opened i = value_at (node_at machine i).transactions line

  abbrev on_links : ℕ → ℕ → List Msg
  on_links from to = of_line line (link_at parts machine from to)

  home_here : home < count
  home_here = home_below parts line is.here

  -- ---- messages

  packed : ArePacked parts home line (node_at machine home) packets
  packed = is.invariant.packets home home_here

  packet_list : option_to_list view.packet ≡ of_line line packets
  packet_list =
      let said = packets_said parts home line (node_at machine home) packets packed in
      let few = few_pending entry.meta _ _ _ (is.invariant.lines line is.here).software in
      ap option_to_list is.shows.packet ∙ front_list (of_line line packets) (omega arith)

  pending_same : pending_in view ≡ length (ups line packets)
  pending_same = rw (is.shows.line_is, packet_list) (ap length (about_line request_in line packets))

  sent_up : (i : ℕ) → ups view.line.0 (sent_by i (option_to_list view.packet)) ≡ ups line (sent_by i packets)
  sent_up i = rw (is.shows.line_is, packet_list) (sent_of_line line i packets)

  -- what is said on the link of two nodes
  said_on : {S : Type 0} (said : Content → List S) (from to : ℕ) → from < count → to < count
      → about said view.line.0 (link_in view.links from to) ≡ about said line (link_at parts machine from to)
  said_on said from to l m =
      rw (is.shows.line_is, is.shows.links) (ap (about said line) (link_is count on_links from to l m) ∙ about_line said line (link_at parts machine from to))

  up_on : (i : ℕ) → i < count → ups view.line.0 (link_in view.links i view.at.0) ≡ ups line (link_at parts machine i home)
  up_on i l = ap (λ (at : ℕ). ups view.line.0 (link_in view.links i at)) is.shows.home_is ∙ said_on request_in i home l home_here

  down_on : (i : ℕ) → i < count → downs view.line.0 (link_in view.links view.at.0 i) ≡ downs line (link_at parts machine home i)
  down_on i l = ap (λ (at : ℕ). downs view.line.0 (link_in view.links at i)) is.shows.home_is ∙ said_on reply_in home i home_here l

  -- ---- a node

  copies_same : (i : ℕ) → i < count → copy_in view.copies i ≡ seen_copy (held i)
  copies_same i l =
      let found = found_of copy_shown (λ e. e.0.0) (λ n x. refl) held count i l in
      ap (λ (copies : List Held). copy_in copies i) is.shows.copies ∙ (ap (option_map bare_copy) found ∙ copy_is i (held i))

  transactions_same : (i : ℕ) → i < count → transaction_in view.transactions i ≡ seen_transaction (opened i)
  transactions_same i l =
      let found = found_of transaction_shown (λ e. e.0.0) (λ n x. refl) opened count i l in
      ap (λ (pending : List Opened). transaction_in pending i) is.shows.transactions ∙ (ap (option_map bare_mode) found ∙ transaction_is i (opened i))

  node_below : (i : ℕ) → i < count → node_in view i ≡ line_node parts parameters machine line i
  unfolding node_in
  node_below i l =
      let copy = copies_same i l in
      let transaction = transactions_same i l in
      let link_up = up_on i l in
      let link_down = down_on i l in
      λ x. record { copy = copy x; transaction = transaction x; up = sent_up i x ++ link_up x; down = link_down x }

  node_beyond : (i : ℕ) → count ≤ i → node_in view i ≡ absent
  unfolding node_in
  node_beyond i past =
      let no_copy = found_beyond copy_shown (λ e. e.0.0) (λ n x. refl) held count i past in
      let no_transaction = found_beyond transaction_shown (λ e. e.0.0) (λ n x. refl) opened count i past in
      let copy = ap (λ (copies : List Held). copy_in copies i) is.shows.copies ∙ ap (option_map bare_copy) no_copy in
      let transaction = ap (λ (pending : List Opened). transaction_in pending i) is.shows.transactions ∙ ap (option_map bare_mode) no_transaction in
      let sent = sent_up i ∙ ap (ups line) (none_sent parts home line (node_at machine home) i past packets packed) in
      let no_up = ap (ups view.line.0) (no_link_from count on_links i view.at.0 past) in
      let link_up = ap (λ (links : List Sent). ups view.line.0 (link_in links i view.at.0)) is.shows.links ∙ no_up in
      let no_down = ap (downs view.line.0) (no_link_to count on_links view.at.0 i past) in
      let link_down = ap (λ (links : List Sent). downs view.line.0 (link_in links view.at.0 i)) is.shows.links ∙ no_down in
      λ x. record { copy = copy x; transaction = transaction x; up = sent x ++ link_up x; down = link_down x }

  node_same : (i : ℕ) → node_in view i ≡ line_state.node i
  node_same i = cases_lt_then count i
      (λ l. node_below i l ∙ rw (lt-ltb i count l) refl)
      (λ past. node_beyond i past ∙ rw (le-ltb i count past) refl)

  -- ---- the whole

  home_same : full_map_of (entry_of_view view.home) ≡ full_map_of entry
  home_same = λ x. record {
    state = is.shows.entry.state x;
    pointers = join_nodes (is.shows.entry.hardware x) (is.shows.entry.software x);
    acks = is.shows.entry.acks x;
    body = is.shows.entry.body x;
  }

  line_same : line_in view ≡ line_state
  line_same = λ x. record { home = home_same x; node = λ i. node_same i x }

  once_each : (i : ℕ) → IsTrue (shows_once view i)
  once_each i =
      let one_copy = there_once copy_shown (λ e. e.0.0) (λ n x. refl) held count i in
      let one_transaction = there_once transaction_shown (λ e. e.0.0) (λ n x. refl) opened count i in
      let copies : count_by (is_holder i) view.copies ≤ 1 = rw is.shows.copies one_copy in
      let transactions : count_by (is_opener i) view.transactions ≤ 1 = rw is.shows.transactions one_transaction in
      and_is _ _ (le-leb _ 1 copies) (le-leb _ 1 transactions)

  line_below : IsBelow count line_state
  line_below =
      let hardware = and_parts (list_all (λ i. nat_lt i count) (members entry.hardware)) _ (is.invariant.entries line is.here) in
      let software = and_parts (list_all (λ i. nat_lt i count) (members entry.software)) _ hardware.1 in
      record { beyond = λ i past. rw (le-ltb i count past) refl; members = λ k has. in_either count _ _ k hardware.0 software.0 has }

  -- so at as many nodes as may be
  pub shown_line : (many : ℕ) → count ≤ many → MeetsInvariant many view
  shown_line many le =
      let meets = wider count many line_state le line_below _ _ (is.invariant.lines line is.here) in
      let same = subst (λ (s : LineState). LineInvariant many s entry (length (ups line packets))) (sym line_same) meets in
      record {
        line = record {
          transaction = same.transaction;
          counter = same.counter;
          carrier = same.carrier;
          current = same.current;
          sharers = same.sharers;
          order = same.order;
          single = same.single;
          software = rw (pending_same, is.shows.entry.meta, is.shows.entry.state, is.shows.entry.software) same.software;
        };
        once = λ i l. once_each i;
      }

-- on a machine that meets its invariant, and so after every legal journal
pub machine_shown : (parts : Parts) → node_count parts ≤ 256 → (parameters : Parameters) → (machine : MachineState) → MachineInvariant parts parameters machine
    → (line : ℕ) → line < line_count parts → (view : LineView) → Shows parts parameters machine line view → MeetsInvariant 256 view
machine_shown parts few parameters machine invariant line here view shows =
    shown_line parts parameters machine line view (record { invariant = invariant; here = here; shows = shows }) 256 few

pub journal_shown : OnEveryMachine (λ parts parameters journal machine. (line : ℕ) → line < line_count parts
    → (view : LineView) → Shows parts parameters machine line view → MeetsInvariant 256 view)
journal_shown parts image parameters are journal legal =
    let few : node_count parts ≤ 256 = product parts.width parts.height 16 16 image.width.1 image.height.1 in
    machine_shown parts few parameters _ (always_invariant parts image parameters are journal legal)
