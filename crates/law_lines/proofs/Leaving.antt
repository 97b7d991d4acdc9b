-- A line follows a copy's leaving of its set: where it is the line's copy, it is given up, and else the line stays.
use Rattle.std.proofs.Common.{◌≡◌, ◌≢◌, ℕ, ◌<◌, ◌==◌, cond, Option, Some, None, List, [], ◌++◌, refl, sym, ap, ◌∙◌, append-nil}
use Rattle.std.proofs.lemmas.Bool.{eq-eqb, ne_eqb}
use Rattle.alw_num.specs.declared.addresses.Line.{Line}
use Rattle.alw_num.specs.declared.states.Mode.{Mode}
use Rattle.alw_num.specs.declared.states.Mode.TheVariants.{Read, Write}
use Rattle.alw_msg.specs.declared.messages.Msg.{Msg}
use Rattle.alw_image.specs.declared.parts.Parts.{Parts}
use Rattle.alw_image.specs.Images.{node_count, line_count}
use Rattle.alw_image.specs.Parameters.{Parameters}
use Rattle.alw_num.specs.Maps.{kept_if, value_at}
use Rattle.alw_msg.specs.Contents.{ToMemory, ToCache}
use Rattle.alw_model.specs.Caches.{Copy, Cache, copy_at, give_up, evicted}
use Rattle.alw_model.specs.Messages.{home_node, to_homes}
use Rattle.alw_model.specs.NodeStates.{NodeState}
use Rattle.alw_model.specs.NodeSteps.{clocked, evict_from}
use Rattle.alw_model.specs.Machine.{MachineState, node_at, link_at}
use Rattle.alw_model.specs.Lines.{downs, line_node, line_of}
use Rattle.law_line.specs.Protocol.{Leaves, given_up, left}
use Rattle.law_lines.specs.Links.{asked, GoBelow}
use Rattle.law_lines.specs.LineEvents.{Follows, in_leaving}
use Rattle.law_lines.specs.Standing.{IsCache, IsStanding}
use Rattle.law_lines.proofs.Views.{seen_copy, seen_transaction, next_machine}
use Rattle.law_lines.proofs.CacheSide as cache
use Rattle.law_lines.proofs.CopyLaws.{away, CopyStandsAt, copy_evicted}
use Rattle.law_lines.proofs.Following.{stays, takes_about, home_below, part_changes, part_stays}

-- what the home of a copy's line is told where the copy leaves
given_home : (k line : ℕ) (mode : Mode) (body : Line) → k ≡ line → asked k (give_up line mode body) ≡ given_up (Some (mode, body))
given_home k line Write body same = rw (eq-eqb k line same) refl
given_home k line Read body same = refl

pub told_other : (k line : ℕ) (mode : Mode) (body : Line) → k ≢ line → asked k (give_up line mode body) ≡ []
told_other k line Write body other = rw (ne_eqb k line other) refl
told_other k line Read body other = refl

module _ (parts : Parts) (parameters : Parameters) where
  -- a copy in a set is its line's copy
  pub copy_standing : (cache : Cache) (set : ℕ) (copy : Copy) → IsCache parts parameters cache → value_at cache set ≡ Some copy → copy_at parameters.sets cache copy.line ≡ Some copy
  copy_standing cache set copy each e = ap (λ p. kept_if (λ (held : Copy). held.line == copy.line) (value_at cache p)) (each set copy e).1
      ∙ (ap (kept_if (λ (held : Copy). held.line == copy.line)) e ∙ ap (λ b. cond b (Some copy) None) (eq-eqb copy.line copy.line refl))

  pub stands_at : (cache : Cache) (set : ℕ) (o : Option Copy) → IsCache parts parameters cache → value_at cache set ≡ o → CopyStandsAt parameters.sets set o
  stands_at cache set None each e = tt
  stands_at cache set (Some copy) each e = (each set copy e).1

  -- what is told goes to a home
  pub told_below : (n stamp : ℕ) (o : Option Copy) → ((copy : Copy) → o ≡ Some copy → copy.line < line_count parts) → GoBelow (node_count parts) (to_homes parts n stamp (evicted o))
  told_below n stamp None each = tt
  told_below n stamp (Some copy) each = go copy.mode (home_below parts copy.line (each copy refl))
    where
      go : (mode : Mode) → home_node parts copy.line < node_count parts → GoBelow (node_count parts) (to_homes parts n stamp (give_up copy.line mode copy.body))
      go Write below = (below, tt)
      go Read below = tt

  module _ (s : MachineState) (n : ℕ) (v : NodeState) (links : List (List Msg)) (stamp k : ℕ) where
    abbrev old_down : List ToCache
    old_down = downs k (link_at parts s (home_node parts k) n)

    pub leaving_follows : (o : Option Copy) → cache.Keeps parts parameters s n v links stamp (evicted o) k old_down
        → copy_at parameters.sets v.cache k ≡ away o k (copy_at parameters.sets (node_at s n).cache k)
        → value_at v.transactions k ≡ value_at (node_at s n).transactions k
        → ((copy : Copy) → o ≡ Some copy → copy_at parameters.sets (node_at s n).cache copy.line ≡ Some copy)
        → Follows (node_count parts) (line_of parts parameters s k) (in_leaving k n o) (line_of parts parameters (next_machine parts parameters s n v links (to_homes parts n stamp (evicted o)) k) k)
    leaving_follows None keeps copies transactions stands = stays _ _ _ (part_stays parts parameters s n v links stamp [] k old_down keeps (λ x. record {
      copy = seen_copy (copies x);
      transaction = seen_transaction (transactions x);
      up = append-nil (line_node parts parameters s k n).up x;
      down = old_down;
    }))
    leaving_follows (Some copy) keeps copies transactions stands = takes_about (node_count parts) (line_of parts parameters s k) _ k copy.line (Leaves n)
        (λ same. (
          keeps.here,
          part_changes parts parameters s n v links stamp (evicted (Some copy)) k old_down keeps left (λ x. record {
            copy = seen_copy ((copies ∙ gone same) x);
            transaction = seen_transaction (transactions x);
            up = (line_node parts parameters s k n).up ++ (given_home k copy.line copy.mode copy.body same ∙ ap given_up (sym (had same))) x;
            down = old_down;
          }),
        ))
        (λ other. part_stays parts parameters s n v links stamp (evicted (Some copy)) k old_down keeps (λ x. record {
          copy = seen_copy ((copies ∙ kept other) x);
          transaction = seen_transaction (transactions x);
          up = (ap (λ (l : List ToMemory). (line_node parts parameters s k n).up ++ l) (told_other k copy.line copy.mode copy.body other) ∙ append-nil (line_node parts parameters s k n).up) x;
          down = old_down;
        }))
      where
        gone : k ≡ copy.line → away (Some copy) k (copy_at parameters.sets (node_at s n).cache k) ≡ None
        gone same = ap (λ b. cond b None (copy_at parameters.sets (node_at s n).cache k)) (eq-eqb k copy.line same)

        kept : k ≢ copy.line → away (Some copy) k (copy_at parameters.sets (node_at s n).cache k) ≡ copy_at parameters.sets (node_at s n).cache k
        kept other = ap (λ b. cond b None (copy_at parameters.sets (node_at s n).cache k)) (ne_eqb k copy.line other)

        had : k ≡ copy.line → seen_copy (copy_at parameters.sets (node_at s n).cache k) ≡ Some (copy.mode, copy.body)
        had same = ap (λ j. seen_copy (copy_at parameters.sets (node_at s n).cache j)) same ∙ ap seen_copy (stands copy refl)

  -- a line follows an eviction
  pub evict_follows : (s : MachineState) → IsStanding parts parameters s → (n : ℕ) → n < node_count parts → (stamp k : ℕ) → k < line_count parts → (set : ℕ)
      → Follows (node_count parts) (line_of parts parameters s k) (in_leaving k n (value_at (node_at s n).cache set))
      (line_of parts parameters
      (next_machine parts parameters s n (clocked stamp (evict_from parts parameters n stamp (node_at s n) set)).node s.links
      (clocked stamp (evict_from parts parameters n stamp (node_at s n) set)).sends k) k)
  evict_follows s standing n here stamp k exists set =
      let node = node_at s n in
      let o = value_at node.cache set in
      let v = (clocked stamp (evict_from parts parameters n stamp node set)).node in
      leaving_follows s n v s.links stamp k o (record {
        fits = rw standing.nodes here;
        here = here;
        home = home_below parts k exists;
        size = standing.links;
        below = told_below n stamp o (λ copy e. ((standing.each n here).caches set copy e).0);
        homes = refl;
        packets = refl;
        up = λ j l. refl;
        down_other = λ j l other. refl;
        down_here = refl;
      })
      (copy_evicted parameters.sets node.cache set k (stands_at node.cache set o ((standing.each n here).caches) refl)) refl
      (λ copy e. copy_standing node.cache set copy ((standing.each n here).caches) e)
