-- A line follows an instruction: a miss opens a transaction on it, a store changes its copy, and else it stays.
use Rattle.std.proofs.Common.{◌≡◌, ◌≢◌, ℕ, ◌<◌, ◌==◌, Bool, true, false, cond, Option, Some, None, List, [], ◌∷◌, ◌++◌, refl, sym, ap, ◌∙◌, append-nil}
use Rattle.std.proofs.lemmas.Bool.{eq-eqb, ne_eqb, eqb-true}
use Rattle.alw_num.specs.declared.addresses.Line.{Line}
use Rattle.alw_num.specs.declared.states.Mode.{Mode}
use Rattle.alw_num.specs.declared.states.Mode.TheVariants.{Read, Write}
use Rattle.sparc_table.specs.declared.registers.Regs.{Regs}
use Rattle.sparc_table.specs.declared.outcomes.Need.{Need}
use Rattle.sparc_table.specs.declared.outcomes.Need.TheVariants as needs
use Rattle.sparc_table.specs.declared.outcomes.Outcome.{Outcome}
use Rattle.sparc_table.specs.Turns.{need_of, turn_of}
use Rattle.sparc_table.proofs.Effects.{turn_exists}
use Rattle.alw_image.specs.declared.parts.Parts.{Parts}
use Rattle.alw_image.specs.Images.{node_count, line_count}
use Rattle.alw_image.specs.Parameters.{Parameters}
use Rattle.alw_num.specs.Maps.{kept_if, value_at}
use Rattle.alw_msg.specs.Contents.{ToCache}
use Rattle.alw_model.specs.Caches.{Copy, Cache, Transaction, Requests, set_of, grants, request, copy_at, granted_copy}
use Rattle.alw_msg.specs.declared.contexts.Status.TheVariants.{Waiting}
use Rattle.alw_model.specs.declared.steps.Did.TheVariants.{Missed}
use Rattle.alw_model.specs.Contexts.{slot_at, ran}
use Rattle.alw_model.specs.Messages.{home_node, to_homes}
use Rattle.alw_model.specs.NodeStates.{NodeState}
use Rattle.alw_model.specs.ProcessorSteps.{written, opened}
use Rattle.alw_model.specs.NodeSteps.{Stepped, take_turn, access, instr_by, instr, nothing, clocked}
use Rattle.alw_model.specs.Machine.{MachineState, node_at, link_at}
use Rattle.alw_model.specs.Lines.{LineNode, downs, line_node, line_of}
use Rattle.alw_num.proofs.MapLaws.{value-with}
use Rattle.law_line.specs.Protocol.{Opens, Stores, is_granted}
use Rattle.law_line.specs.Protocol as line
use Rattle.law_lines.specs.Links.{GoBelow}
use Rattle.law_lines.specs.LineEvents.{Follows, in_miss, in_turn, in_access, in_need, in_instr}
use Rattle.law_lines.specs.Standing.{IsStanding}
use Rattle.law_lines.proofs.Views.{seen_copy, seen_transaction, next_machine}
use Rattle.law_lines.proofs.CacheSide as cache
use Rattle.law_lines.proofs.CacheSide.{old_part}
use Rattle.law_lines.proofs.CopyLaws.{copy_stored}
use Rattle.law_lines.proofs.Following.{stays, takes_about, home_below, part_changes, part_stays}

-- a copy that a test keeps, and one that it doesn't
pub kept_is : {X : Type 0} (test : X → Bool) (o : Option X) (x : X) → kept_if test o ≡ Some x → (o ≡ Some x) × (test x ≡ true)
kept_is test None x e = absurd (cc)
kept_is test (Some y) x e = go (test y) refl e
  where
    go : (b : Bool) → test y ≡ b → cond b (Some y) None ≡ Some x → (Some y ≡ Some x) × (test x ≡ true)
    go true is e = let same : y ≡ x = cc in (e, ap test (sym same) ∙ is)
    go false is e = absurd (cc)

ungranted : (mode : Mode) (o : Option Copy) → kept_if (λ copy. grants copy.mode mode) o ≡ None → is_granted mode (seen_copy o) ≡ false
ungranted mode None none = refl
ungranted mode (Some copy) none = go (grants copy.mode mode) none
  where
    go : (b : Bool) → cond b (Some copy) None ≡ None → b ≡ false
    go true none = absurd (cc)
    go false none = refl

writable : (mode : Mode) → grants mode Write ≡ true → mode ≡ Write
writable Write is = refl
writable Read is = absurd (cc)

-- what it is for a copy to grant an access
pub record Granted (sets : ℕ) (cache : Cache) (l : ℕ) (mode : Mode) (copy : Copy) : Type 0 where
  pub stands : value_at cache (set_of sets l) ≡ Some copy
  pub is_its : copy.line ≡ l
  pub has : copy_at sets cache l ≡ Some copy
  pub permits : grants copy.mode mode ≡ true

module _ (parts : Parts) (parameters : Parameters) (s : MachineState) (stands : IsStanding parts parameters s) (n : ℕ) (here : n < node_count parts) (stamp k : ℕ) (exists : k < line_count parts) where
  -- the machine after an event of the node that takes no message
  abbrev pub left_by : Stepped → MachineState
  left_by stepped = next_machine parts parameters s n (clocked stamp stepped).node s.links (clocked stamp stepped).sends k

  abbrev old_down : List ToCache
  old_down = downs k (link_at parts s (home_node parts k) n)

  keeps_of : (v : NodeState) (requests : Requests) → GoBelow (node_count parts) (to_homes parts n stamp requests) → v.homes ≡ (node_at s n).homes → v.packets ≡ (node_at s n).packets → cache.Keeps parts parameters s n v s.links stamp requests k old_down
  keeps_of v requests below homes packets = record {
    fits = rw stands.nodes here;
    here = here;
    home = home_below parts k exists;
    size = stands.links;
    below = below;
    homes = homes;
    packets = packets;
    up = λ j l. refl;
    down_other = λ j l other. refl;
    down_here = refl;
  }

  -- a node that keeps its copies and transactions, and sends nothing, leaves the line as it is
  stays_with : (v : NodeState) → v.cache ≡ (node_at s n).cache → v.transactions ≡ (node_at s n).transactions → v.homes ≡ (node_at s n).homes → v.packets ≡ (node_at s n).packets
      → line_of parts parameters (next_machine parts parameters s n v s.links [] k) k ≡ line_of parts parameters s k
  stays_with v caches transactions homes packets = part_stays parts parameters s n v s.links stamp [] k old_down (keeps_of v [] tt homes packets) (λ x. record {
    copy = seen_copy (copy_at parameters.sets (caches x) k);
    transaction = seen_transaction (value_at (transactions x) k);
    up = append-nil (line_node parts parameters s k n).up x;
    down = old_down;
  })

  pub granted_is : (l : ℕ) (mode : Mode) (copy : Copy) → granted_copy parameters.sets (node_at s n).cache l mode ≡ Some copy → Granted parameters.sets (node_at s n).cache l mode copy
  granted_is l mode copy e =
      let a = kept_is (λ (c : Copy). grants c.mode mode) (copy_at parameters.sets (node_at s n).cache l) copy e in
      let b = kept_is (λ (c : Copy). c.line == l) (value_at (node_at s n).cache (set_of parameters.sets l)) copy a.0 in
      record { stands = b.0; is_its = eqb-true copy.line l b.1; has = a.0; permits = a.1 }

  module _ (slot l : ℕ) where
    -- a miss of a slot, where the line has this transaction
    abbrev missed : Mode → Option Transaction → Stepped
    missed mode o =
        let after = opened (node_at s n).transactions l mode slot o in
        record {
          node = record (node_at s n) { slots = ran (node_at s n).slots slot (slot_at (node_at s n).slots slot).regs (Waiting (record { 0 = l })); current = slot; transactions = after.0 };
          sends = to_homes parts n stamp after.1;
          did = Missed slot;
        }

    -- the request goes to the line's home
    asks_home : (mode : Mode) → l < line_count parts → GoBelow (node_count parts) (to_homes parts n stamp ((l, request mode) ∷ []))
    asks_home mode lines = (home_below parts l lines, tt)

    module _ (mode : Mode) where
      abbrev opening : Transaction
      opening = record { mode = mode; opener = slot }

      abbrev requests : Requests
      requests = (l, request mode) ∷ []

      abbrev v : NodeState
      v = (clocked stamp (missed mode None)).node

    opened_here : (mode : Mode) → k ≡ l → value_at (v mode).transactions k ≡ Some (opening mode)
    opened_here mode same = value-with (node_at s n).transactions l (opening mode) k ∙ ap (λ b. cond b (Some (opening mode)) (value_at (node_at s n).transactions k)) (eq-eqb k l same)

    opened_other : (mode : Mode) → k ≢ l → value_at (v mode).transactions k ≡ value_at (node_at s n).transactions k
    opened_other mode other = value-with (node_at s n).transactions l (opening mode) k ∙ ap (λ b. cond b (Some (opening mode)) (value_at (node_at s n).transactions k)) (ne_eqb k l other)

    no_transaction : (mode : Mode) → k ≡ l → value_at (node_at s n).transactions l ≡ None → ((line_of parts parameters s k).node n).transaction ≡ None
    no_transaction mode same e = ap (λ (u : LineNode). u.transaction) (old_part parts parameters s n k here) ∙ ap seen_transaction (ap (value_at (node_at s n).transactions) same ∙ e)

    not_granted : (mode : Mode) → k ≡ l → granted_copy parameters.sets (node_at s n).cache l mode ≡ None → is_granted mode ((line_of parts parameters s k).node n).copy ≡ false
    not_granted mode same none = ap (λ (u : LineNode). is_granted mode u.copy) (old_part parts parameters s n k here) ∙ (ap (λ j. is_granted mode (seen_copy (copy_at parameters.sets (node_at s n).cache j))) same ∙ ungranted mode (copy_at parameters.sets (node_at s n).cache l) none)

    miss_follows : (mode : Mode) (o : Option Transaction) → value_at (node_at s n).transactions l ≡ o → granted_copy parameters.sets (node_at s n).cache l mode ≡ None → l < line_count parts → Follows (node_count parts) (line_of parts parameters s k) (in_miss k n l mode o) (line_of parts parameters (left_by (missed mode o)) k)
    miss_follows mode (Some transaction) e none lines = stays _ _ _ (stays_with (clocked stamp (missed mode (Some transaction))).node refl refl refl refl)
    miss_follows mode None e none lines = takes_about (node_count parts) (line_of parts parameters s k) (line_of parts parameters (left_by (missed mode None)) k) k l (Opens n mode)
        (λ same. (
          (here, no_transaction mode same e, not_granted mode same none),
          part_changes parts parameters s n (v mode) s.links stamp (requests mode) k old_down (keeps_of (v mode) (requests mode) (asks_home mode lines) refl refl) (λ u. line.opened u mode) (λ x. record {
            copy = (line_node parts parameters s k n).copy;
            transaction = seen_transaction (opened_here mode same x);
            up = (line_node parts parameters s k n).up ++ cond ((eq-eqb k l same) x) (request mode ∷ []) [];
            down = old_down;
          }),
        ))
        (λ other. part_stays parts parameters s n (v mode) s.links stamp (requests mode) k old_down (keeps_of (v mode) (requests mode) (asks_home mode lines) refl refl) (λ x. record {
          copy = (line_node parts parameters s k n).copy;
          transaction = seen_transaction (opened_other mode other x);
          up = (ap (λ b. (line_node parts parameters s k n).up ++ cond b (request mode ∷ []) []) (ne_eqb k l other) ∙ append-nil (line_node parts parameters s k n).up) x;
          down = old_down;
        }))

    -- ---- a turn

    module _ (copy : Copy) (regs : Regs) (outcome : Outcome) (body : Line) where
      abbrev after_store : NodeState
      after_store = (clocked stamp
          (take_turn parts parameters n (node_at s n) slot (written parameters.sets (node_at s n).cache copy Write body) regs outcome)).node

      abbrev next_copy : Copy
      next_copy = record copy { body = body }

      stored_keeps : cache.Keeps parts parameters s n after_store s.links stamp [] k old_down
      stored_keeps = keeps_of after_store [] tt refl refl

      stored_copy : granted_copy parameters.sets (node_at s n).cache l Write ≡ Some copy → copy_at parameters.sets after_store.cache k ≡ cond (k == l) (Some next_copy) (copy_at parameters.sets (node_at s n).cache k)
      stored_copy e = let g = granted_is l Write copy e in
          copy_stored parameters.sets (node_at s n).cache copy next_copy k (ap (λ j. value_at (node_at s n).cache (set_of parameters.sets j)) g.is_its ∙ g.stands) refl
          ∙ ap (λ j. cond (k == j) (Some next_copy) (copy_at parameters.sets (node_at s n).cache k)) g.is_its

      stored_here : k ≡ l → granted_copy parameters.sets (node_at s n).cache l Write ≡ Some copy → seen_copy (copy_at parameters.sets after_store.cache k) ≡ Some (Write, body)
      stored_here same e = ap seen_copy (stored_copy e ∙ ap (λ b. cond b (Some next_copy) (copy_at parameters.sets (node_at s n).cache k)) (eq-eqb k l same))
          ∙ ap (λ (m : Mode). Some (m, body)) (writable copy.mode (granted_is l Write copy e).permits)

      stored_other : k ≢ l → granted_copy parameters.sets (node_at s n).cache l Write ≡ Some copy → copy_at parameters.sets after_store.cache k ≡ copy_at parameters.sets (node_at s n).cache k
      stored_other other e = stored_copy e ∙ ap (λ b. cond b (Some next_copy) (copy_at parameters.sets (node_at s n).cache k)) (ne_eqb k l other)

      is_writable : k ≡ l → granted_copy parameters.sets (node_at s n).cache l Write ≡ Some copy → is_granted Write ((line_of parts parameters s k).node n).copy ≡ true
      is_writable same e = ap (λ (u : LineNode). is_granted Write u.copy) (old_part parts parameters s n k here)
          ∙ (ap (λ j. is_granted Write (seen_copy (copy_at parameters.sets (node_at s n).cache j))) same
          ∙ (ap (λ (o : Option Copy). is_granted Write (seen_copy o)) (granted_is l Write copy e).has ∙ (granted_is l Write copy e).permits))

      turn_follows : (mode : Mode) → granted_copy parameters.sets (node_at s n).cache l mode ≡ Some copy
          → Follows (node_count parts) (line_of parts parameters s k) (in_turn k n l mode body)
          (line_of parts parameters
          (left_by (take_turn parts parameters n (node_at s n) slot (written parameters.sets (node_at s n).cache copy mode body) regs outcome)) k)
      turn_follows Read e =
          stays _ _ _ (stays_with (clocked stamp (take_turn parts parameters n (node_at s n) slot (node_at s n).cache regs outcome)).node refl refl refl refl)
      turn_follows Write e =
          takes_about (node_count parts) (line_of parts parameters s k)
          (line_of parts parameters
          (left_by (take_turn parts parameters n (node_at s n) slot (written parameters.sets (node_at s n).cache copy Write body) regs outcome)) k) k l
          (Stores n body)
          (λ same. (
            (here, is_writable same e),
            part_changes parts parameters s n after_store s.links stamp [] k old_down stored_keeps (λ u. line.stored u body) (λ x. record {
              copy = stored_here same e x;
              transaction = (line_node parts parameters s k n).transaction;
              up = append-nil (line_node parts parameters s k n).up x;
              down = old_down;
            }),
          ))
          (λ other. part_stays parts parameters s n after_store s.links stamp [] k old_down stored_keeps (λ x. record {
            copy = seen_copy (stored_other other e x);
            transaction = (line_node parts parameters s k n).transaction;
            up = append-nil (line_node parts parameters s k n).up x;
            down = old_down;
          }))

    -- ---- an access, by the copy that grants it

    access_follows : (mode : Mode) (o : Option Copy) → granted_copy parameters.sets (node_at s n).cache l mode ≡ o → l < line_count parts
        → Follows (node_count parts) (line_of parts parameters s k) (in_access parts n (node_at s n) slot l mode k o) (line_of parts parameters (left_by (access parts parameters n stamp (node_at s n) slot l mode o)) k)
    access_follows mode None e lines = miss_follows mode (value_at (node_at s n).transactions l) refl e lines
    access_follows mode (Some copy) e lines =
        let after = turn_of parts.code (slot_at (node_at s n).slots slot).regs (line_count parts) copy.body in
        turn_follows copy after.0 after.2 after.1 mode e

  -- an instruction by what it needs
  need_follows : (slot : ℕ) (need : Need) → need_of parts.code (slot_at (node_at s n).slots slot).regs (line_count parts) ≡ need
      → Follows (node_count parts) (line_of parts parameters s k) (in_need parts parameters n (node_at s n) slot k need) (line_of parts parameters (left_by (instr_by parts parameters n stamp (node_at s n) slot need)) k)
  need_follows slot (needs.Copy l mode) e = access_follows slot l.0 mode (granted_copy parameters.sets (node_at s n).cache l.0 mode) refl (turn_exists parts.code (slot_at (node_at s n).slots slot).regs (line_count parts) l mode e)
  need_follows slot needs.Nothing e = stays _ _ _ (stays_with (clocked stamp (instr_by parts parameters n stamp (node_at s n) slot needs.Nothing)).node refl refl refl refl)
  need_follows slot (needs.Trap tt) e = stays _ _ _ (stays_with (clocked stamp (instr_by parts parameters n stamp (node_at s n) slot (needs.Trap tt))).node refl refl refl refl)

  -- a line follows an instruction of the slot that runs
  pub instr_follows : (slot : Option ℕ) → Follows (node_count parts) (line_of parts parameters s k) (in_instr parts parameters n (node_at s n) k slot) (line_of parts parameters (left_by (instr parts parameters n stamp (node_at s n) slot)) k)
  instr_follows None = stays _ _ _ (stays_with (clocked stamp (nothing (node_at s n))).node refl refl refl refl)
  instr_follows (Some slot) = need_follows slot (need_of parts.code (slot_at (node_at s n).slots slot).regs (line_count parts)) refl
