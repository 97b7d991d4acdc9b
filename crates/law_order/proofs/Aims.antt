-- Whatever nodes keep names nodes and lines that exist, so that what they send goes to nodes that exist.
use Rattle.std.proofs.Common.{◌≡◌, ℕ, zero, suc, ◌*◌, ◌<◌, ◌==◌, nat_lt, not, Bool, true, false, cond, Option, Some, None, List, [], ◌∷◌, get_or, set, map, IsTrue, refl, sym, subst, ◌∙◌}
use Rattle.std.specs.List.{AllByRecursion, range_with_len}
use Rattle.std.proofs.lemmas.Bool.{ltb-true, false≢true}
use Rattle.alw_num.proofs.MapLaws.{value-empty, value-with, value-without}
use Rattle.alw_num.specs.Maps.{passes, value_at, with_value, without_value}
use Rattle.alw_num.specs.declared.addresses.Line.{Line}
use Rattle.alw_num.specs.declared.states.Mode.{Mode}
use Rattle.alw_num.specs.declared.states.Mode.TheVariants.{Read, Write}
use Rattle.sparc_table.specs.declared.registers.Regs.{Regs}
use Rattle.sparc_table.specs.declared.outcomes.Outcome.{Outcome}
use Rattle.sparc_table.specs.declared.outcomes.Need.{Need}
use Rattle.sparc_table.specs.declared.outcomes.Need.TheVariants as needs
use Rattle.sparc_table.specs.Turns.{need_of, turn_of}
use Rattle.sparc_table.proofs.Effects.{turn_exists}
use Rattle.alw_msg.specs.declared.messages.Msg.{Msg}
use Rattle.alw_msg.specs.declared.events.Event.{Event}
use Rattle.alw_msg.specs.declared.events.Event.TheVariants.{Instr, Handle, Deliver, Evict}
use Rattle.alw_image.specs.declared.parts.Parts.{Parts}
use Rattle.alw_image.specs.Images.{node_count, line_count, zero_line, body_of, is_always}
use Rattle.alw_image.specs.Parameters.{Parameters}
use Rattle.alw_msg.specs.Contents.{ToMemory, ToCache, RDATA, WDATA, INV, BUSY, Content, ForMemory, ForCache, content}
use Rattle.alw_model.specs.LimitLess.{Directory, directory_start, is_trapped, hardware_act, handle}
use Rattle.alw_model.specs.Caches.{Copy, Cache, Transaction, set_of, grants, copy_at, granted_copy, replaced, react, invalidate}
use Rattle.alw_model.specs.Contexts.{slot_at, running}
use Rattle.alw_model.specs.Messages.{to_homes, is_fit}
use Rattle.alw_msg.specs.Events.{node_of}
use Rattle.alw_model.specs.NodeStates.{NodeState, node_start, home_at, with_home, place_of, may, may_deliver}
use Rattle.alw_model.specs.ProcessorSteps.{written, opened}
use Rattle.alw_model.specs.NodeSteps.{Stepped, take_turn, miss, access, instr_by, instr, at_home, deliver_by, deliver, handle_by, handle_front, event_at, clocked}
use Rattle.alw_model.proofs.Journals.{and_parts}
use Rattle.law_lines.specs.Links.{GoBelow}
use Rattle.law_lines.proofs.HomeSide.{dests_go}
use Rattle.law_lines.proofs.Following.{home_below}
use Rattle.law_lines.proofs.Instructions.{kept_is}
use Rattle.law_lines.proofs.Leaving.{told_below}
use Rattle.law_lines.proofs.Steps.{fit_is}
use Rattle.law_entry.specs.Entries.{PointsBelow}
use Rattle.law_entry.proofs.Pointers.{hardware_points, handler_points, trap_points, no_points}
use Rattle.law_order.specs.Aims.{CachesExist, NodeAims}
use Rattle.law_order.proofs.Pointers.{hardware_sends, handler_sends}
use Rattle.alw_num.proofs.Alls.{all_push}

pub every_set : {X : Type 0} (P : X → Type 0) (xs : List X) (i : ℕ) (x : X) → AllByRecursion P xs → P x → AllByRecursion P (set xs i x)
every_set P [] i x all is = tt
every_set P (y ∷ rest) zero x all is = (is, all.1)
every_set P (y ∷ rest) (suc i) x all is = (all.0, every_set P rest i x all.1 is)

pub every_at : {X : Type 0} (P : X → Type 0) (xs : List X) (i : ℕ) (d : X) → AllByRecursion P xs → P d → P (get_or xs i d)
every_at P [] i d all is = is
every_at P (y ∷ rest) zero d all is = all.0
every_at P (y ∷ rest) (suc i) d all is = every_at P rest i d all.1 is

pub every_of : {X Y : Type 0} (P : Y → Type 0) (f : X → Y) (xs : List X) → ((x : X) → P (f x)) → AllByRecursion P (map f xs)
every_of P f [] each = tt
every_of P f (x ∷ rest) each = (each x, every_of P f rest each)

-- an event leaves its node so, and sends to nodes that exist
pub record StepAims (parts : Parts) (stepped : Stepped) : Type 0 where
  pub node : NodeAims parts stepped.node
  pub sends : GoBelow (node_count parts) stepped.sends

module _ (parts : Parts) (parameters : Parameters) where
  -- ---- the start

  pub start_aims : (n : ℕ) → NodeAims parts (node_start parts n)
  start_aims n = record {
    homes = every_of (PointsBelow (node_count parts)) (λ line. directory_start (body_of parts line) (is_always parts line)) (range_with_len (n * parts.per_node) parts.per_node) (λ line. no_points (node_count parts) _ refl refl);
    cache = λ at copy e. absurd (let none : None ≡ Some copy = sym (value-empty at) ∙ e in cc);
    packets = tt;
  }

  -- ---- caches

  cache_with : (cache : Cache) (key : ℕ) (copy : Copy) → CachesExist parts cache → copy.line < line_count parts → CachesExist parts (with_value cache key copy)
  cache_with cache key copy each lines at held e = go (at == key) (sym (value-with cache key copy at) ∙ e)
    where
      go : (b : Bool) → cond b (Some copy) (value_at cache at) ≡ Some held → held.line < line_count parts
      go true is = let same : copy ≡ held = cc in rw (← same) lines
      go false is = each at held is

  cache_without : (cache : Cache) (key : ℕ) → CachesExist parts cache → CachesExist parts (without_value cache key)
  cache_without cache key each at held e = go (at == key) (sym (value-without cache key at) ∙ e)
    where
      go : (b : Bool) → cond b None (value_at cache at) ≡ Some held → held.line < line_count parts
      go true is = absurd (cc)
      go false is = each at held is

  module _ (n stamp : ℕ) (node : NodeState) (aims : NodeAims parts node) where
    home_points : (line : ℕ) → PointsBelow (node_count parts) (home_at parts node line)
    home_points line = every_at (PointsBelow (node_count parts)) node.homes (place_of parts line) (directory_start zero_line false) aims.homes (no_points (node_count parts) _ refl refl)

    homes_with : (line : ℕ) (d : Directory) → PointsBelow (node_count parts) d → AllByRecursion (PointsBelow (node_count parts)) (with_home parts node line d).homes
    homes_with line d points = every_set (PointsBelow (node_count parts)) node.homes (place_of parts line) d aims.homes points

    -- ---- an instruction

    turn_aims : (slot line : ℕ) (mode : Mode) (copy : Copy) (regs : Regs) (outcome : Outcome) (body : Line)
        → granted_copy parameters.sets node.cache line mode ≡ Some copy
        → StepAims parts (take_turn parts parameters n node slot (written parameters.sets node.cache copy mode body) regs outcome)
    turn_aims slot line Read copy regs outcome body e = record { node = record { homes = aims.homes; cache = aims.cache; packets = aims.packets }; sends = tt }
    turn_aims slot line Write copy regs outcome body e =
        let a = kept_is (λ (c : Copy). grants c.mode Write) (copy_at parameters.sets node.cache line) copy e in
        let b = kept_is (λ (c : Copy). c.line == line) (value_at node.cache (set_of parameters.sets line)) copy a.0 in
        record {
          node = record { homes = aims.homes; cache = cache_with node.cache (set_of parameters.sets copy.line) (record copy { body = body }) aims.cache (aims.cache (set_of parameters.sets line) copy b.0); packets = aims.packets };
          sends = tt;
        }

    opened_below : (slot line : ℕ) (mode : Mode) (o : Option Transaction) → line < line_count parts → GoBelow (node_count parts) (to_homes parts n stamp (opened node.transactions line mode slot o).1)
    opened_below slot line mode None lines = (home_below parts line lines, tt)
    opened_below slot line mode (Some transaction) lines = tt

    miss_aims : (slot line : ℕ) (mode : Mode) → line < line_count parts → StepAims parts (miss parts parameters n stamp node slot line mode)
    miss_aims slot line mode lines = record { node = record { homes = aims.homes; cache = aims.cache; packets = aims.packets }; sends = opened_below slot line mode (value_at node.transactions line) lines }

    access_aims : (slot line : ℕ) (mode : Mode) (o : Option Copy) → granted_copy parameters.sets node.cache line mode ≡ o → line < line_count parts → StepAims parts (access parts parameters n stamp node slot line mode o)
    access_aims slot line mode None e lines = miss_aims slot line mode lines
    access_aims slot line mode (Some copy) e lines = let after = turn_of parts.code (slot_at node.slots slot).regs (line_count parts) copy.body in turn_aims slot line mode copy after.0 after.2 after.1 e

    need_aims : (slot : ℕ) (need : Need) → need_of parts.code (slot_at node.slots slot).regs (line_count parts) ≡ need → StepAims parts (instr_by parts parameters n stamp node slot need)
    need_aims slot (needs.Copy line mode) e = access_aims slot line.0 mode (granted_copy parameters.sets node.cache line.0 mode) refl (turn_exists parts.code (slot_at node.slots slot).regs (line_count parts) line mode e)
    need_aims slot needs.Nothing e = record { node = record { homes = aims.homes; cache = aims.cache; packets = aims.packets }; sends = tt }
    need_aims slot (needs.Trap type) e = record { node = record { homes = aims.homes; cache = aims.cache; packets = aims.packets }; sends = tt }

    instr_aims : (slot : Option ℕ) → StepAims parts (instr parts parameters n stamp node slot)
    instr_aims None = record { node = aims; sends = tt }
    instr_aims (Some slot) = need_aims slot (need_of parts.code (slot_at node.slots slot).regs (line_count parts)) refl

    -- ---- a delivery

    home_aims : (msg : Msg) (said : ToMemory) → msg.src.0 < node_count parts → (traps : Bool) → StepAims parts (at_home parts parameters n stamp node msg said traps)
    home_aims msg said source true = record {
      node = record {
        homes = homes_with msg.line.0 _ (trap_points (node_count parts) (home_at parts node msg.line.0) (home_points msg.line.0));
        cache = aims.cache;
        packets = all_push (λ (packet : Msg). packet.src.0 < node_count parts) node.packets msg aims.packets source;
      };
      sends = tt;
    }
    home_aims msg said source false =
        let d = home_at parts node msg.line.0 in
        let points = home_points msg.line.0 in
        record {
          node = record { homes = homes_with msg.line.0 _ (hardware_points (node_count parts) msg.src.0 source d said points); cache = aims.cache; packets = aims.packets };
          sends = dests_go (node_count parts) n stamp msg.line.0 (hardware_act d msg.src.0 said).1 (hardware_sends (node_count parts) msg.src.0 source d said points);
        }

    fill_aims : (line : ℕ) (mode : Mode) (body : Line) → line < line_count parts → CachesExist parts (with_value node.cache (set_of parameters.sets line) (record { line = line; mode = mode; body = body }))
    fill_aims line mode body lines = cache_with node.cache (set_of parameters.sets line) (record { line = line; mode = mode; body = body }) aims.cache lines

    out_exists : (line : ℕ) (copy : Copy) → replaced parameters.sets node.cache line ≡ Some copy → copy.line < line_count parts
    out_exists line copy is = aims.cache (set_of parameters.sets line) copy (kept_is (λ (c : Copy). not (c.line == line)) (value_at node.cache (set_of parameters.sets line)) copy is).0

    inv_aims : (line : ℕ) (o : Option Copy) → line < line_count parts → CachesExist parts (invalidate parameters.sets node.cache line o).0 × GoBelow (node_count parts) (to_homes parts n stamp (invalidate parameters.sets node.cache line o).1)
    inv_aims line None lines = (aims.cache, (home_below parts line lines, tt))
    inv_aims line (Some copy) lines = (cache_without node.cache (set_of parameters.sets line) aims.cache, (home_below parts line lines, tt))

    reacts : (line : ℕ) (said : ToCache) → line < line_count parts → CachesExist parts (react parameters.sets node.cache line said).0 × GoBelow (node_count parts) (to_homes parts n stamp (react parameters.sets node.cache line said).1)
    reacts line (RDATA body) lines = (fill_aims line Read body lines, told_below parts parameters n stamp (replaced parameters.sets node.cache line) (out_exists line))
    reacts line (WDATA body) lines = (fill_aims line Write body lines, told_below parts parameters n stamp (replaced parameters.sets node.cache line) (out_exists line))
    reacts line BUSY lines = (aims.cache, tt)
    reacts line INV lines = inv_aims line (copy_at parameters.sets node.cache line) lines

    message_aims : (msg : Msg) (said : Content) → msg.src.0 < node_count parts → msg.line.0 < line_count parts → StepAims parts (deliver_by parts parameters n stamp node msg said)
    message_aims msg (ForMemory said) source lines = home_aims msg said source (is_trapped parameters.pointers (home_at parts node msg.line.0) msg.src.0 said)
    message_aims msg (ForCache said) source lines = let r = reacts msg.line.0 said lines in record { node = record { homes = aims.homes; cache = r.0; packets = aims.packets }; sends = r.1 }

    delivery_aims : (from : ℕ) → from < node_count parts → (head : Option Msg) → IsTrue (passes (may_deliver parts parameters from n node) head) → StepAims parts (deliver parts parameters n stamp node head)
    delivery_aims from l None may_be = absurd (false≢true may_be)
    delivery_aims from l (Some msg) may_be =
        let fit = fit_is parts from n msg (and_parts (is_fit parts from n msg) _ may_be).0 in
        message_aims msg (content msg) (rw fit.source l) fit.exists

    -- ---- the handler

    packet_aims : (rest : List Msg) (packet : Msg) (said : Content) → packet.src.0 < node_count parts
        → AllByRecursion (λ (packet : Msg). packet.src.0 < node_count parts) rest
        → StepAims parts (handle_by parts parameters n stamp (record node { packets = rest }) packet said)
    packet_aims rest packet (ForCache said) source all = record { node = record { homes = aims.homes; cache = aims.cache; packets = all }; sends = tt }
    packet_aims rest packet (ForMemory said) source all =
        let d = home_at parts node packet.line.0 in
        let points = home_points packet.line.0 in
        record {
          node = record { homes = homes_with packet.line.0 _ (handler_points (node_count parts) packet.src.0 source d said points); cache = aims.cache; packets = all };
          sends = dests_go (node_count parts) n stamp packet.line.0 (handle d packet.src.0 said).1 (handler_sends (node_count parts) packet.src.0 source d said points);
        }

    queue_aims : (queue : List Msg) → AllByRecursion (λ (packet : Msg). packet.src.0 < node_count parts) queue
        → StepAims parts (handle_front parts parameters n stamp node queue)
    queue_aims [] all = record { node = aims; sends = tt }
    queue_aims (packet ∷ rest) all = packet_aims rest packet (content packet) all.0 all.1

    -- ---- by the kind of event

    event_aims : (event : Event) (head : Option Msg) → node_of event ≡ n → IsTrue (may parts parameters node event head) → StepAims parts (event_at parts parameters n stamp node event head)
    event_aims (Instr at) head is may_be = instr_aims (running node.slots node.current)
    event_aims (Handle at) head is may_be = queue_aims node.packets aims.packets
    event_aims (Deliver from to) head is may_be =
        let p = and_parts (nat_lt from.0 (node_count parts)) _ may_be in
        delivery_aims from.0 (ltb-true from.0 (node_count parts) p.0) head (subst (λ a. IsTrue (passes (may_deliver parts parameters from.0 a node) head)) is p.1)
    event_aims (Evict at emptied) head is may_be = record {
      node = record { homes = aims.homes; cache = cache_without node.cache emptied aims.cache; packets = aims.packets };
      sends = told_below parts parameters n stamp (value_at node.cache emptied) (λ copy e. aims.cache emptied copy e);
    }

    -- an event that a node may take
    pub step_aims : (event : Event) (head : Option Msg) → node_of event ≡ n → IsTrue (may parts parameters node event head) → StepAims parts (clocked stamp (event_at parts parameters n stamp node event head))
    step_aims event head is may_be = let a = event_aims event head is may_be in record { node = record { homes = a.node.homes; cache = a.node.cache; packets = a.node.packets }; sends = a.sends }
