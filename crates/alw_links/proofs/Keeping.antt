-- What the links keep, at the start and once one link has another list.
use Rattle.std.proofs.Common.{◌≡◌, ℕ, zero, suc, ◌*◌, ◌<◌, ◌≤◌, ◌==◌, nat_lt, Bool, true, false, cond, not, ◌&&◌, List, [], ◌∷◌, ◌++◌, length, replicate}
use Rattle.std.proofs.Common.{get_or, set, refl, sym, ap, subst, ◌∙◌, arith}
use Rattle.std.proofs.lemmas.Bool.{false≢true, eq-eqb, ne_eqb, lt-ltb}
use Rattle.std.proofs.lemmas.Bool.Decides.{nat_tests}
use Rattle.std.proofs.lemmas.List.{get_or-set_same, get_or-set_other, get_or-replicate, length-replicate, length-set, length-map}
use Rattle.alw_num.specs.declared.node_sets.NodeSet.{NodeSet}
use Rattle.alw_num.specs.Limits.{most_nodes}
use Rattle.alw_num.specs.NodeSets.{no_nodes, has_node, add_node, drop_node, nodes_of}
use Rattle.alw_num.specs.Weights.{digit, weigh}
use Rattle.alw_num.proofs.Weigh.{is_node}
use Rattle.alw_num.proofs.Sets.{has-none, has-add, has-drop}
use Rattle.alw_msg.specs.declared.messages.Msg.{Msg}
use Rattle.alw_msg.specs.Lists.{is_nonempty, behind}
use Rattle.alw_links.specs.declared.pools.Ends.{Ends}
use Rattle.alw_links.specs.declared.pools.PoolPlace.{PoolPlace}
use Rattle.alw_links.specs.Traffic.{place_of, link_of, links_without, links_with}
use Rattle.alw_links.specs.Chains.{no_place, links_of, Spot, times_in, AreLinks, IsPool, IsPoolOf}
use Rattle.alw_links.specs.Keeping.{nobody, AreSenders, IsTraffic}
use Rattle.alw_links.proofs.Places.{place_below, link_set}

-- ---- the start

abbrev pub no_ends : Ends
no_ends = record { first = no_place; last = no_place }

pub links-start : (n : ℕ) → links_of [] (replicate n no_ends) ≡ replicate n []
links-start zero = refl
links-start (suc n) = ap (λ (ls : List (List Msg)). [] ∷ ls) (links-start n)

link-start : (n i : ℕ) → get_or {A = List Msg} (replicate n []) i [] ≡ []
link-start zero i = refl
link-start (suc n) zero = refl
link-start (suc n) (suc i) = link-start n i

linked-start : (n : ℕ) → AreLinks [] (replicate n no_ends) (replicate n [])
linked-start zero = tt
linked-start (suc n) = (record { first = refl; last = refl; path = tt }, linked-start n)

weigh-start : (f : List Spot → ℕ) (n : ℕ) → f [] ≡ 0 → weigh f (replicate n []) ≡ 0
weigh-start f zero e = refl
weigh-start f (suc n) e = omega (arith, e, weigh-start f n e)

pool-start : (n : ℕ) → IsPool [] (replicate n no_ends) no_place 0
pool-start n = record {
  chains = replicate n [];
  loose = [];
  linked = linked-start n;
  starts = refl;
  path = tt;
  left = refl;
  once = λ k. omega (arith, weigh-start (λ (chain : List Spot). times_in k chain) n refl, none_below k);
  counted = omega (arith, weigh-start (λ (chain : List Spot). length chain) n refl);
  few = omega arith;
}
  where
    none_below : (k : ℕ) → digit (nat_lt k 0) ≡ 0
    none_below k = grind (arith, nat_tests)

pub starts : (nodes : ℕ) (none : NodeSet) → nodes ≤ most_nodes → nodes_of none ≡ no_nodes → IsTraffic nodes (replicate (nodes * nodes) no_ends) (replicate nodes none) [] no_place 0
starts nodes none few empty = record {
  few_nodes = few;
  links_are = length-replicate (nodes * nodes) no_ends;
  senders_are = length-replicate nodes none;
  sent_by = λ from to l. (λ i. has_node (nodes_of (get_or-replicate nodes to none nobody l i)) from)
      ∙ ((λ i. has_node (empty i) from) ∙ has-none from ∙ nothing (nat_lt from nodes) _ (ap (λ (ls : List (List Msg)). get_or ls (place_of nodes from to) []) (links-start (nodes * nodes)) ∙ link-start (nodes * nodes) (place_of nodes from to)));
  pool = pool-start (nodes * nodes);
}
  where
    nothing : (b : Bool) (link : List Msg) → link ≡ [] → false ≡ (b && is_nonempty link)
    nothing true link e = ap is_nonempty (sym e)
    nothing false link e = refl

-- ---- lists of messages

nonempty_push : (link : List Msg) (msg : Msg) → is_nonempty (link ++ msg ∷ []) ≡ true
nonempty_push [] msg = refl
nonempty_push (first ∷ rest) msg = refl

nonempty : (link : List Msg) → 1 ≤ length link → is_nonempty link ≡ true
nonempty [] l = absurd (omega arith)
nonempty (first ∷ rest) l = refl

-- ---- one link has another list

module _ (nodes : ℕ) (links : List (List Msg)) (senders : List NodeSet) (from to : ℕ) where
  -- the set of the node whose link changed says of the sender what the link says, and of the others what it said
  senders_set : (link : List Msg) (now : NodeSet) → from < nodes → to < nodes → length links ≡ nodes * nodes → length senders ≡ nodes
      → AreSenders nodes links senders
      → ((k : ℕ) → has_node (nodes_of now) k ≡ cond (k == from) (is_nonempty link) (has_node (nodes_of (get_or senders to nobody)) k))
      → AreSenders nodes (set links (place_of nodes from to) link) (set senders to now)
  senders_set link now f t size places before is a b l = rw (link_set nodes links from to link a b f t l size) (is_node _ b to
      (λ here. rw (here, get_or-set_same senders to now nobody (rw places t), is a, eq-eqb to to refl, before a to t) (is_node _ a from
      (λ same. rw (same, eq-eqb from from refl, lt-ltb from nodes f) refl)
      (λ other. rw (ne_eqb a from other) refl)))
      (λ there. rw (get_or-set_other senders to b now nobody there, before a b l, ne_eqb b to there) (is_node _ a from
      (λ same. rw (eq-eqb a from same) refl)
      (λ other. rw (ne_eqb a from other) refl))))

module _ (nodes : ℕ) (links : List Ends) (senders : List NodeSet) (places : List PoolPlace) (spare room from to : ℕ) (is : IsTraffic nodes links senders places spare room)
    (f : from < nodes) (t : to < nodes) where
  old : NodeSet
  old = get_or senders to nobody

  link : List Msg
  link = link_of nodes (links_of places links) from to

  pub place_within : place_of nodes from to < length links
  place_within = rw is.links_are (place_below nodes from to f t)

  -- one link has another list
  changes : (msgs : List Msg) (now : NodeSet) (after : List Ends) (pool : List PoolPlace) (first left : ℕ) → IsPoolOf pool after first left (set (links_of places links) (place_of nodes from to) msgs)
      → ((k : ℕ) → has_node (nodes_of now) k ≡ cond (k == from) (is_nonempty msgs) (has_node (nodes_of old) k)) → IsTraffic nodes after (set senders to now) pool first left
  unfolding old
  changes msgs now after pool first left is_pool told =
      let long : length (links_of places links) ≡ nodes * nodes = length-map links _ ∙ is.links_are in
      record {
        few_nodes = is.few_nodes;
        links_are = sym (length-map after _) ∙ (ap length is_pool.lists_are ∙ (length-set (links_of places links) (place_of nodes from to) msgs ∙ long));
        senders_are = length-set senders to now ∙ is.senders_are;
        sent_by = subst (λ (ls : List (List Msg)). AreSenders nodes ls (set senders to now)) (sym is_pool.lists_are)
            (senders_set nodes (links_of places links) senders from to msgs now f t long is.senders_are is.sent_by told);
        pool = is_pool.pool;
      }

  -- the sender of a message is among the senders, where the link was empty only then
  pub sends : (msg : Msg) (now : NodeSet) (alone : Bool) (after : List Ends) (pool : List PoolPlace) (first left : ℕ) → IsPoolOf pool after first left (links_with nodes (links_of places links) from to msg)
      → alone ≡ not (is_nonempty (link_of nodes (links_of places links) from to)) → nodes_of now ≡ cond alone (add_node (nodes_of (get_or senders to nobody)) from) (nodes_of (get_or senders to nobody))
      → IsTraffic nodes after (set senders to now) pool first left
  unfolding old link
  sends msg now alone after pool first left is_pool alone_is told = changes (link ++ msg ∷ []) now after pool first left is_pool (λ k.
      (λ i. has_node (told i) k) ∙ (joins alone k (is_nonempty link) refl alone_is ∙ ap (λ b. cond (k == from) b (has_node (nodes_of old) k)) (sym (nonempty_push link msg))))
    where
      joins : (alone : Bool) (k : ℕ) (some : Bool) → is_nonempty link ≡ some → alone ≡ not some → has_node (cond alone (add_node (nodes_of old) from) (nodes_of old)) k ≡ cond (k == from) true (has_node (nodes_of old) k)
      joins true k some e a = has-add (nodes_of old) from k
      joins false k true e a = is_node _ k from (λ same. rw (eq-eqb k from same, same) (is.sent_by from to t ∙ rw (lt-ltb from nodes f, e) refl)) (λ other. rw (ne_eqb k from other) refl)
      joins false k false e a = absurd (false≢true a)

  -- of a link that had a message the head was taken, and its sender stays where the link has another
  pub takes : (now : NodeSet) (more : Bool) (after : List Ends) (pool : List PoolPlace) (first left : ℕ) → IsPoolOf pool after first left (links_without nodes (links_of places links) from to)
      → 1 ≤ length (link_of nodes (links_of places links) from to) → more ≡ is_nonempty (behind (link_of nodes (links_of places links) from to))
      → nodes_of now ≡ cond more (nodes_of (get_or senders to nobody)) (drop_node (nodes_of (get_or senders to nobody)) from) → IsTraffic nodes after (set senders to now) pool first left
  unfolding old link
  takes now more after pool first left is_pool some others told =
      let was : has_node (nodes_of old) from ≡ true = is.sent_by from to t ∙ rw (lt-ltb from nodes f, nonempty link some) refl in
      changes (behind link) now after pool first left is_pool (λ k.
      (λ i. has_node (told i) k) ∙ (stays more k was ∙ ap (λ b. cond (k == from) b (has_node (nodes_of old) k)) others))
    where
      stays : (more : Bool) (k : ℕ) → has_node (nodes_of old) from ≡ true → has_node (cond more (nodes_of old) (drop_node (nodes_of old) from)) k ≡ cond (k == from) more (has_node (nodes_of old) k)
      stays false k was = has-drop (nodes_of old) from k
      stays true k was = is_node _ k from (λ same. rw (eq-eqb k from same, same, was) refl) (λ other. rw (ne_eqb k from other) refl)
