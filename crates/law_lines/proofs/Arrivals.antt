-- A line follows the delivery of a message to a cache: its node receives the message, and the line that a fill replaces leaves.
use Rattle.std.proofs.Common.{◌≡◌, ◌≢◌, ℕ, ◌<◌, ◌==◌, Bool, true, false, cond, not, Option, Some, None, List, [], ◌∷◌, ◌++◌, refl, sym, ap, ◌∙◌, append-nil}
use Rattle.std.proofs.lemmas.Bool.{eq-eqb, ne_eqb, eqb-true, eqb-false}
use Rattle.alw_num.proofs.Weigh.{is_node}
use Rattle.alw_num.specs.declared.addresses.Line.{Line}
use Rattle.alw_num.specs.declared.states.Mode.{Mode}
use Rattle.alw_num.specs.declared.states.Mode.TheVariants.{Read, Write}
use Rattle.alw_msg.specs.declared.messages.Msg.{Msg}
use Rattle.alw_image.specs.declared.parts.Parts.{Parts}
use Rattle.alw_image.specs.Images.{node_count, line_count}
use Rattle.alw_image.specs.Parameters.{Parameters}
use Rattle.alw_num.specs.Maps.{kept_if, value_at, with_value, without_value}
use Rattle.alw_msg.specs.Contents.{ToMemory, ACKC, ToCache, RDATA, WDATA, INV, BUSY, ForCache, content, reply_in}
use Rattle.alw_model.specs.Caches.{Copy, Cache, Requests, set_of, copy_at, replaced, evicted, invalidate, inv_answer, react}
use Rattle.alw_model.specs.Messages.{home_node, to_homes}
use Rattle.alw_model.specs.NodeStates.{NodeState}
use Rattle.alw_model.specs.NodeSteps.{Stepped, clocked, at_cache}
use Rattle.alw_msg.specs.Lists.{front, behind}
use Rattle.alw_model.specs.Machine.{MachineState, node_at, link_at}
use Rattle.alw_model.specs.Lines.{LineState, ups, downs, line_node, line_of}
use Rattle.alw_num.proofs.MapLaws.{value-without}
use Rattle.law_line.specs.Protocol.{LineEvent, Comes, answer, received, step, IsLegal}
use Rattle.law_lines.specs.Links.{asked, GoBelow}
use Rattle.law_lines.specs.LineEvents.{Follows, about, in_leaving, in_cache}
use Rattle.law_lines.specs.Standing.{IsStanding}
use Rattle.law_lines.proofs.Views.{seen_copy, seen_transaction, next_machine}
use Rattle.law_lines.proofs.CacheSide as cache
use Rattle.law_lines.proofs.CacheSide.{new_part}
use Rattle.law_lines.proofs.CopyLaws.{away, copy_filled, copy_evicted}
use Rattle.law_lines.proofs.Following.{stays, takes, home_below, part_changes, part_stays}
use Rattle.law_lines.proofs.Leaving.{told_other, copy_standing, stands_at, told_below, leaving_follows}
use Rattle.law_lines.proofs.Taken.{split_front, ups_without, downs_without, no_request, other_reply, links_left, links_size, left_at, left_here, left_to_other, as_before}
use Rattle.law_lines.proofs.Instructions.{kept_is}

-- an event of one line, before what else there is of a line
comes_first : (n : ℕ) (s t : LineState) (k l : ℕ) (e : LineEvent) (more : List LineEvent) → (k ≡ l → (more ≡ []) × IsLegal n s e × (t ≡ step s e)) → (k ≢ l → Follows n s more t) → Follows n s (about k l e ++ more) t
comes_first n s t k l e more same other = is_node _ k l
    (λ is. rw (eq-eqb k l is, (same is).0) (takes n s t e (same is).1 (same is).2))
    (λ isnt. rw (ne_eqb k l isnt) (other isnt))

-- what a fill replaces is another line's copy
module _ (sets : ℕ) (held : Cache) (n k l : ℕ) (same : k ≡ l) where
  not_replaced : (o : Option Copy) → in_leaving k n (kept_if (λ copy. not (copy.line == l)) o) ≡ []
  not_replaced None = refl
  not_replaced (Some copy) = go (copy.line == l) refl
    where
      go : (b : Bool) → (copy.line == l) ≡ b → in_leaving k n (cond (not b) (Some copy) None) ≡ []
      go true e = refl
      go false e = rw (ne_eqb k copy.line (λ is. eqb-false copy.line l e (sym is ∙ same))) refl

  not_told : (o : Option Copy) → asked k (evicted (kept_if (λ copy. not (copy.line == l)) o)) ≡ []
  not_told None = refl
  not_told (Some copy) = go (copy.line == l) refl
    where
      go : (b : Bool) → (copy.line == l) ≡ b → asked k (evicted (cond (not b) (Some copy) None)) ≡ []
      go true e = refl
      go false e = told_other k copy.line copy.mode copy.body (λ is. eqb-false copy.line l e (sym is ∙ same))

module _ (parts : Parts) (parameters : Parameters) (s : MachineState) (standing : IsStanding parts parameters s) (from n : ℕ) (f : from < node_count parts) (here : n < node_count parts) (stamp k : ℕ) (exists : k < line_count parts) (msg : Msg) (e : front (link_at parts s from n) ≡ Some msg) (at_home : home_node parts msg.line.0 ≡ from) (lines : msg.line.0 < line_count parts) where
  abbrev links : List (List Msg)
  links = links_left parts s from n f here standing.links msg e

  abbrev node : NodeState
  node = node_at s n

  abbrev l : ℕ
  l = msg.line.0

  abbrev old_down : List ToCache
  old_down = downs k (link_at parts s (home_node parts k) n)

  abbrev rest_down : List ToCache
  rest_down = downs k (behind (link_at parts s from n))

  -- a reply ends the transaction of its line
  ended_here : k ≡ l → value_at (without_value node.transactions l) k ≡ None
  ended_here same = value-without node.transactions l k ∙ ap (λ b. cond b None (value_at node.transactions k)) (eq-eqb k l same)

  ended_other : k ≢ l → value_at (without_value node.transactions l) k ≡ value_at node.transactions k
  ended_other other = value-without node.transactions l k ∙ ap (λ b. cond b None (value_at node.transactions k)) (ne_eqb k l other)

  module _ (said : ToCache) (is : content msg ≡ ForCache said) where
    home_is : k ≡ l → home_node parts k ≡ from
    home_is same = ap (home_node parts) same ∙ at_home

    abbrev stepped : Stepped
    stepped = clocked stamp (at_cache parts parameters n stamp node l said)

    abbrev requests : Requests
    requests = (react parameters.sets node.cache l said).1

    ups_are : (a b : ℕ) → b < node_count parts → ups k (left_at parts s from n f here standing.links msg e a b) ≡ ups k (link_at parts s a b)
    ups_are = as_before parts s from n f here standing.links msg e (ups k) (ups_without k msg _ (no_request k msg said is))

    downs_are : k ≢ l → (a b : ℕ) → b < node_count parts → downs k (left_at parts s from n f here standing.links msg e a b) ≡ downs k (link_at parts s a b)
    downs_are other = as_before parts s from n f here standing.links msg e (downs k) (downs_without k msg _ (other_reply k msg other))

    -- of another line `down` is as it was
    keeps_other : k ≢ l → GoBelow (node_count parts) (to_homes parts n stamp requests) → cache.Keeps parts parameters s n stepped.node links stamp requests k old_down
    keeps_other other below = record {
      fits = rw standing.nodes here;
      here = here;
      home = home_below parts k exists;
      size = links_size parts s from n f here standing.links msg e;
      below = below;
      homes = refl;
      packets = refl;
      up = λ j m. ups_are j (home_node parts k) (home_below parts k exists);
      down_other = λ j m apart. downs_are other (home_node parts k) j m;
      down_here = downs_are other (home_node parts k) n here;
    }

    -- of its own line `down` has lost its front
    keeps_here : k ≡ l → GoBelow (node_count parts) (to_homes parts n stamp requests) → cache.Keeps parts parameters s n stepped.node links stamp requests k rest_down
    keeps_here same below = record {
      fits = rw standing.nodes here;
      here = here;
      home = home_below parts k exists;
      size = links_size parts s from n f here standing.links msg e;
      below = below;
      homes = refl;
      packets = refl;
      up = λ j m. ups_are j (home_node parts k) (home_below parts k exists);
      down_other = λ j m apart. ap (downs k) (left_to_other parts s from n f here standing.links msg e (home_node parts k) j m apart);
      down_here = ap (λ h. downs k (left_at parts s from n f here standing.links msg e h n)) (home_is same) ∙ ap (downs k) (left_here parts s from n f here standing.links msg e);
    }

    -- the message is the first that comes of its line
    pub down_is : k ≡ l → (line_node parts parameters s k n).down ≡ said ∷ rest_down
    down_is same = ap (λ h. downs k (link_at parts s h n)) (home_is same) ∙ (ap (downs k) (split_front (link_at parts s from n) msg e)
        ∙ (λ x. cond (eq-eqb l k (sym same) x) (reply_in (is x)) [] ++ rest_down))

    -- the node receives the message, where its part becomes what that leaves
    receives_it : (same : k ≡ l) → (below : GoBelow (node_count parts) (to_homes parts n stamp requests)) → new_part parts parameters s n stepped.node links stamp requests k rest_down ≡ received (line_node parts parameters s k n) (said ∷ rest_down)
        → line_of parts parameters (next_machine parts parameters s n stepped.node links stepped.sends k) k ≡ step (line_of parts parameters s k) (Comes n)
    receives_it same below becomes = part_changes parts parameters s n stepped.node links stamp requests k rest_down (keeps_here same below) (λ u. received u u.down)
        (becomes ∙ ap (received (line_node parts parameters s k n)) (sym (down_is same)))

  -- ---- RDATA and WDATA

  module _ (mode : Mode) (body : Line) (v : NodeState) (fills : v.cache ≡ with_value node.cache (set_of parameters.sets l) (record { line = l; mode = mode; body = body })) (ends : v.transactions ≡ without_value node.transactions l) where
    abbrev brought : Copy
    brought = record { line = l; mode = mode; body = body }

    abbrev out : Option Copy
    out = replaced parameters.sets node.cache l

    filled_copy : copy_at parameters.sets v.cache k ≡ cond (k == l) (Some brought) (away out k (copy_at parameters.sets node.cache k))
    filled_copy = ap (λ c. copy_at parameters.sets c k) fills ∙ copy_filled parameters.sets node.cache brought k (stands_at parts parameters node.cache (set_of parameters.sets l) (value_at node.cache (set_of parameters.sets l)) ((standing.each n here).caches) refl)

    filled_part : k ≡ l → new_part parts parameters s n v links stamp (evicted out) k rest_down ≡ record { copy = Some (mode, body); transaction = None; up = (line_node parts parameters s k n).up; down = rest_down }
    filled_part same = λ x. record {
      copy = seen_copy ((filled_copy ∙ ap (λ b. cond b (Some brought) (away out k (copy_at parameters.sets node.cache k))) (eq-eqb k l same)) x);
      transaction = seen_transaction ((ap (λ t. value_at t k) ends ∙ ended_here same) x);
      up = (ap (λ (m : List ToMemory). (line_node parts parameters s k n).up ++ m) (not_told parameters.sets node.cache n k l same (value_at node.cache (set_of parameters.sets l))) ∙ append-nil (line_node parts parameters s k n).up) x;
      down = rest_down;
    }

    filled_other : k ≢ l → cache.Keeps parts parameters s n v links stamp (evicted out) k old_down → Follows (node_count parts) (line_of parts parameters s k) (in_leaving k n out) (line_of parts parameters (next_machine parts parameters s n v links (to_homes parts n stamp (evicted out)) k) k)
    filled_other other keeps = leaving_follows parts parameters s n v links stamp k out keeps
        (filled_copy ∙ ap (λ b. cond b (Some brought) (away out k (copy_at parameters.sets node.cache k))) (ne_eqb k l other))
        (ap (λ t. value_at t k) ends ∙ ended_other other)
        (λ copy is. copy_standing parts parameters node.cache (set_of parameters.sets l) copy ((standing.each n here).caches) (kept_is (λ (c : Copy). not (c.line == l)) (value_at node.cache (set_of parameters.sets l)) copy is).0)

  out_below : GoBelow (node_count parts) (to_homes parts n stamp (evicted (replaced parameters.sets node.cache l)))
  out_below = told_below parts parameters n stamp (replaced parameters.sets node.cache l) (λ copy is. ((standing.each n here).caches (set_of parameters.sets l) copy (kept_is (λ (c : Copy). not (c.line == l)) (value_at node.cache (set_of parameters.sets l)) copy is).0).0)

  -- ---- INV

  module _ (is : content msg ≡ ForCache INV) where
    inv_below : (o : Option Copy) → GoBelow (node_count parts) (to_homes parts n stamp (invalidate parameters.sets node.cache l o).1)
    inv_below None = (home_below parts l lines, tt)
    inv_below (Some copy) = (home_below parts l lines, tt)

    -- the copy of the line is gone
    inv_here : (o : Option Copy) → k ≡ l → copy_at parameters.sets node.cache l ≡ o → copy_at parameters.sets (invalidate parameters.sets node.cache l o).0 k ≡ None
    inv_here None same e = ap (copy_at parameters.sets node.cache) same ∙ e
    inv_here (Some copy) same e = ap (kept_if (λ (held : Copy). held.line == k)) (value-without node.cache (set_of parameters.sets l) (set_of parameters.sets k) ∙ ap (λ b. cond b None (value_at node.cache (set_of parameters.sets k))) (eq-eqb (set_of parameters.sets k) (set_of parameters.sets l) (ap (set_of parameters.sets) same)))

    inv_other : (o : Option Copy) → k ≢ l → copy_at parameters.sets node.cache l ≡ o → copy_at parameters.sets (invalidate parameters.sets node.cache l o).0 k ≡ copy_at parameters.sets node.cache k
    inv_other None other e = refl
    inv_other (Some copy) other e =
        let g = kept_is (λ (held : Copy). held.line == l) (value_at node.cache (set_of parameters.sets l)) copy e in
        copy_evicted parameters.sets node.cache (set_of parameters.sets l) k (stands_at parts parameters node.cache (set_of parameters.sets l) (value_at node.cache (set_of parameters.sets l)) ((standing.each n here).caches) refl)
        ∙ (ap (λ o. away o k (copy_at parameters.sets node.cache k)) g.0 ∙ ap (λ b. cond b None (copy_at parameters.sets node.cache k)) (ne_eqb k copy.line (λ same. other (same ∙ eqb-true copy.line l g.1))))

    -- its home is answered
    inv_told_here : (o : Option Copy) → k ≡ l → asked k (invalidate parameters.sets node.cache l o).1 ≡ answer (seen_copy o) ∷ []
    inv_told_here None same = ap (λ b. cond b (ACKC ∷ []) []) (eq-eqb k l same)
    inv_told_here (Some copy) same = ap (λ b. cond b (inv_answer copy.mode copy.body ∷ []) []) (eq-eqb k l same)

    inv_told_other : (o : Option Copy) → k ≢ l → asked k (invalidate parameters.sets node.cache l o).1 ≡ []
    inv_told_other None other = ap (λ b. cond b (ACKC ∷ []) []) (ne_eqb k l other)
    inv_told_other (Some copy) other = ap (λ b. cond b (inv_answer copy.mode copy.body ∷ []) []) (ne_eqb k l other)

  -- ---- by what the message says

  pub arrival_follows : (said : ToCache) → (is : content msg ≡ ForCache said) → Follows (node_count parts) (line_of parts parameters s k) (in_cache k n parameters.sets node l said) (line_of parts parameters (next_machine parts parameters s n (stepped said is).node links (stepped said is).sends k) k)
  arrival_follows (RDATA body) is = comes_first (node_count parts) (line_of parts parameters s k) _ k l (Comes n) (in_leaving k n (replaced parameters.sets node.cache l))
      (λ same. (not_replaced parameters.sets node.cache n k l same (value_at node.cache (set_of parameters.sets l)), here, receives_it (RDATA body) is same out_below (filled_part Read body (stepped (RDATA body) is).node refl refl same)))
      (λ other. filled_other Read body (stepped (RDATA body) is).node refl refl other (keeps_other (RDATA body) is other out_below))
  arrival_follows (WDATA body) is = comes_first (node_count parts) (line_of parts parameters s k) _ k l (Comes n) (in_leaving k n (replaced parameters.sets node.cache l))
      (λ same. (not_replaced parameters.sets node.cache n k l same (value_at node.cache (set_of parameters.sets l)), here, receives_it (WDATA body) is same out_below (filled_part Write body (stepped (WDATA body) is).node refl refl same)))
      (λ other. filled_other Write body (stepped (WDATA body) is).node refl refl other (keeps_other (WDATA body) is other out_below))
  arrival_follows BUSY is = comes_first (node_count parts) (line_of parts parameters s k) _ k l (Comes n) []
      (λ same. (
        refl,
        here,
        receives_it BUSY is same tt (λ x. record {
          copy = (line_node parts parameters s k n).copy;
          transaction = seen_transaction (ended_here same x);
          up = append-nil (line_node parts parameters s k n).up x;
          down = rest_down;
        }),
      ))
      (λ other. stays _ _ _ (part_stays parts parameters s n (stepped BUSY is).node links stamp [] k old_down (keeps_other BUSY is other tt) (λ x. record {
        copy = (line_node parts parameters s k n).copy;
        transaction = seen_transaction (ended_other other x);
        up = append-nil (line_node parts parameters s k n).up x;
        down = old_down;
      })))
  arrival_follows INV is = comes_first (node_count parts) (line_of parts parameters s k) _ k l (Comes n) []
      (λ same. (
        refl,
        here,
        receives_it INV is same (inv_below is (copy_at parameters.sets node.cache l)) (λ x. record {
          copy = seen_copy (inv_here is (copy_at parameters.sets node.cache l) same refl x);
          transaction = (line_node parts parameters s k n).transaction;
          up = (line_node parts parameters s k n).up ++ (inv_told_here is (copy_at parameters.sets node.cache l) same ∙ ap (λ j. answer (seen_copy (copy_at parameters.sets node.cache j)) ∷ []) (sym same)) x;
          down = rest_down;
        }),
      ))
      (λ other. stays _ _ _ (part_stays parts parameters s n (stepped INV is).node links stamp (react parameters.sets node.cache l INV).1 k old_down (keeps_other INV is other (inv_below is (copy_at parameters.sets node.cache l))) (λ x. record {
        copy = seen_copy (inv_other is (copy_at parameters.sets node.cache l) other refl x);
        transaction = (line_node parts parameters s k n).transaction;
        up = (ap (λ (m : List ToMemory). (line_node parts parameters s k n).up ++ m) (inv_told_other is (copy_at parameters.sets node.cache l) other) ∙ append-nil (line_node parts parameters s k n).up) x;
        down = old_down;
      })))
