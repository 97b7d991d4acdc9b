-- An event of a node keeps the node standing: its home lines, its cache, its packets, and the entries with their pending packets.
use Rattle.std.proofs.Common.{◌≡◌, ◌≢◌, ℕ, ◌+◌, ◌<◌, ◌≤◌, ◌==◌, Bool, true, false, cond, Option, Some, None, List, [], ◌∷◌, ◌++◌, length, get_or, refl, sym, subst, ap, ◌∙◌, append-nil, arith}
use Rattle.std.specs.List.{AllByRecursion}
use Rattle.std.proofs.lemmas.Bool.{eq-eqb, ne_eqb, eqb-true}
use Rattle.std.proofs.lemmas.List.{length-set, length-append}
use Rattle.alw_num.proofs.Weigh.{is_node, digit_le}
use Rattle.law_machine.proofs.Vocabulary.{digit, Read, Write, Msg, Parts, node_count, line_count, zero_line, Parameters, value_at, with_value, without_value, ToMemory, ToCache, RDATA, WDATA, INV}
use Rattle.law_machine.proofs.Vocabulary.{BUSY, ForMemory, content, request_in, is_to_memory, Directory, directory_start, is_trapped, is_in_progress, hardware_act, trapped, handle, Copy, Cache}
use Rattle.law_machine.proofs.Vocabulary.{set_of, copy_at, react, invalidate, home_node, NodeState, home_at, with_home, place_of, ups, EntryIsSound, IsCache, IsPacket, NodeStands}
use Rattle.alw_num.proofs.MapLaws.{value-with, value-without}
use Rattle.law_entry.proofs.Soundness.{hardware_sound, handler_sound, trapped_sound}
use Rattle.law_entry.proofs.Courses.{handled_free}
use Rattle.law_lines.proofs.Contents.{ups-append}
use Rattle.law_lines.proofs.Taken.{ups_without, other_request}
use Rattle.law_lines.proofs.Places.{entry_set}
use Rattle.alw_num.proofs.Alls.{all_push}

module _ (parts : Parts) (parameters : Parameters) where
  -- ---- caches

  pub cache_with : (cache : Cache) (copy : Copy) → IsCache parts parameters cache → copy.line < line_count parts → IsCache parts parameters (with_value cache (set_of parameters.sets copy.line) copy)
  cache_with cache copy each lines set held e = go (set == set_of parameters.sets copy.line) refl (sym (value-with cache (set_of parameters.sets copy.line) copy set) ∙ e)
    where
      go : (b : Bool) → (set == set_of parameters.sets copy.line) ≡ b → cond b (Some copy) (value_at cache set) ≡ Some held → (held.line < line_count parts) × (set_of parameters.sets held.line ≡ set)
      go true at is = let same : copy ≡ held = cc in (rw (← same) lines, ap (λ (c : Copy). set_of parameters.sets c.line) (sym same) ∙ sym (eqb-true set (set_of parameters.sets copy.line) at))
      go false at is = each set held is

  pub cache_without : (cache : Cache) (set : ℕ) → IsCache parts parameters cache → IsCache parts parameters (without_value cache set)
  cache_without cache set each at held e = go (at == set) (sym (value-without cache set at) ∙ e)
    where
      go : (b : Bool) → cond b None (value_at cache at) ≡ Some held → (held.line < line_count parts) × (set_of parameters.sets held.line ≡ at)
      go true is = absurd (cc)
      go false is = each at held is

  pub cache_reacts : (cache : Cache) (line : ℕ) (said : ToCache) → IsCache parts parameters cache → line < line_count parts → IsCache parts parameters (react parameters.sets cache line said).0
  cache_reacts cache line (RDATA body) each lines = cache_with cache (record { line = line; mode = Read; body = body }) each lines
  cache_reacts cache line (WDATA body) each lines = cache_with cache (record { line = line; mode = Write; body = body }) each lines
  cache_reacts cache line BUSY each lines = each
  cache_reacts cache line INV each lines = go (copy_at parameters.sets cache line)
    where
      go : (o : Option Copy) → IsCache parts parameters (invalidate parameters.sets cache line o).0
      go None = each
      go (Some copy) = cache_without cache (set_of parameters.sets line) each

  -- ---- nodes

  module _ (n : ℕ) (node : NodeState) (stands : NodeStands parts parameters n node) where
    same_entry : (v : NodeState) → v.homes ≡ node.homes → (k : ℕ) → home_at parts v k ≡ home_at parts node k
    same_entry v homes k = ap (λ (hs : List Directory). get_or hs (place_of parts k) (directory_start zero_line false)) homes

    other_entry : (l : ℕ) (d : Directory) (v : NodeState) → l < line_count parts → home_node parts l ≡ n → v.homes ≡ (with_home parts node l d).homes → (k : ℕ) → home_node parts k ≡ n → home_at parts v k ≡ cond (k == l) d (home_at parts node k)
    other_entry l d v lines home homes k is = ap (λ (hs : List Directory). get_or hs (place_of parts k) (directory_start zero_line false)) homes ∙ entry_set parts node l k d stands.homes lines (is ∙ sym home)

    -- a node that keeps its home lines and its packets
    pub cache_changes : (v : NodeState) → v.homes ≡ node.homes → v.packets ≡ node.packets → IsCache parts parameters v.cache → NodeStands parts parameters n v
    cache_changes v homes packets caches = record {
      homes = ap length homes ∙ stands.homes;
      caches = caches;
      packets = subst (AllByRecursion (IsPacket parts n)) (sym packets) stands.packets;
      entries = λ l lines is. subst (λ (d : Directory). EntryIsSound parameters.pointers d) (sym (same_entry v homes l)) (stands.entries l lines is);
      pending = λ l lines is. ap (λ (q : List Msg). length (ups l q)) packets ∙ (stands.pending l lines is ∙ ap (λ (d : Directory). digit (is_in_progress d.meta)) (sym (same_entry v homes l)));
    }

    -- a node with another entry of a home line, and other packets
    pub entry_changes : (l : ℕ) (d : Directory) (v : NodeState) → l < line_count parts → home_node parts l ≡ n → v.homes ≡ (with_home parts node l d).homes → IsCache parts parameters v.cache → EntryIsSound parameters.pointers d
        → AllByRecursion (IsPacket parts n) v.packets → length (ups l v.packets) ≡ digit (is_in_progress d.meta) → ((k : ℕ) → k ≢ l → ups k v.packets ≡ ups k node.packets) → NodeStands parts parameters n v
    entry_changes l d v lines home homes caches sound packets pending others = record {
      homes = ap length homes ∙ (length-set node.homes _ d ∙ stands.homes);
      caches = caches;
      packets = packets;
      entries = λ k exists is. subst (λ (e : Directory). EntryIsSound parameters.pointers e) (sym (other_entry l d v lines home homes k is)) (is_node _ k l
          (λ same. rw (eq-eqb k l same) sound)
          (λ other. rw (ne_eqb k l other) (stands.entries k exists is)));
      pending = λ k exists is. is_node _ k l
          (λ same. ap (λ a. length (ups a v.packets)) same ∙ (pending ∙ ap (λ (e : Directory). digit (is_in_progress e.meta)) (sym (other_entry l d v lines home homes k is ∙ ap (λ b. cond b d (home_at parts node k)) (eq-eqb k l same)))))
          (λ other. ap length (others k other) ∙ (stands.pending k exists is ∙ ap (λ (e : Directory). digit (is_in_progress e.meta)) (sym (other_entry l d v lines home homes k is ∙ ap (λ b. cond b d (home_at parts node k)) (ne_eqb k l other)))));
    }

    -- ---- a home's events

    -- a trap puts a message of the line into the queue, where none was
    pub trap_stands : (msg : Msg) (said : ToMemory) (v : NodeState) → content msg ≡ ForMemory said → msg.src.0 < node_count parts → msg.line.0 < line_count parts → home_node parts msg.line.0 ≡ n → is_in_progress (home_at parts node msg.line.0).meta ≡ false
        → v.homes ≡ (with_home parts node msg.line.0 (trapped (home_at parts node msg.line.0))).homes → v.cache ≡ node.cache → v.packets ≡ node.packets ++ msg ∷ [] → NodeStands parts parameters n v
    trap_stands msg said v is source lines home free homes caches packets =
        let l = msg.line.0 in
        let d = home_at parts node l in
        entry_changes l (trapped d) v lines home homes (subst (λ (c : Cache). IsCache parts parameters c) (sym caches) stands.caches) (trapped_sound parameters.pointers d (stands.entries l lines home))
        (subst (AllByRecursion (IsPacket parts n)) (sym packets) (all_push (IsPacket parts n) node.packets msg stands.packets (record { to_memory = ap is_to_memory is; source = source; line = lines; home = home })))
        (ap (λ (q : List Msg). length (ups l q)) packets ∙ (ap length (ups-append l node.packets (msg ∷ [])) ∙ (length-append (ups l node.packets) (ups l (msg ∷ []))
        ∙ (λ x. (stands.pending l lines home ∙ ap digit free) x + length (cond (eq-eqb l l refl x) (request_in (is x)) [] ++ [])))))
        (λ k other. ap (ups k) packets ∙ (ups-append k node.packets (msg ∷ []) ∙ (ap (λ (r : List ToMemory). ups k node.packets ++ (r ++ [])) (other_request k msg other) ∙ append-nil (ups k node.packets))))

    -- hardware acts on a message that doesn't trap
    pub hardware_stands : (l i : ℕ) (said : ToMemory) (v : NodeState) → 1 ≤ parameters.pointers → l < line_count parts → home_node parts l ≡ n → is_in_progress (home_at parts node l).meta ≡ false → is_trapped parameters.pointers (home_at parts node l) i said ≡ false
        → v.homes ≡ (with_home parts node l (hardware_act (home_at parts node l) i said).0).homes → v.cache ≡ node.cache → v.packets ≡ node.packets → NodeStands parts parameters n v
    hardware_stands l i said v some lines home free calm homes caches packets =
        let d = home_at parts node l in
        entry_changes l (hardware_act d i said).0 v lines home homes (subst (λ (c : Cache). IsCache parts parameters c) (sym caches) stands.caches) (hardware_sound parameters.pointers d i said some (stands.entries l lines home) calm free)
        (subst (AllByRecursion (IsPacket parts n)) (sym packets) stands.packets)
        (ap (λ (q : List Msg). length (ups l q)) packets ∙ stands.pending l lines home)
        (λ k other. ap (ups k) packets)

    -- the handler acts on the front packet
    pub handler_stands : (packet : Msg) (waiting : List Msg) (said : ToMemory) (v : NodeState) → 1 ≤ parameters.pointers → node.packets ≡ packet ∷ waiting → content packet ≡ ForMemory said
        → v.homes ≡ (with_home parts node packet.line.0 (handle (home_at parts node packet.line.0) packet.src.0 said).0).homes → v.cache ≡ node.cache → v.packets ≡ waiting → NodeStands parts parameters n v
    handler_stands packet waiting said v some queue is homes caches packets =
        let l = packet.line.0 in
        let d = home_at parts node l in
        let all = subst (AllByRecursion (IsPacket parts n)) queue stands.packets in
        let had : length (ups l node.packets) ≡ length (said ∷ ups l waiting) = ap (λ (q : List Msg). length (ups l q)) queue ∙ (λ x. length (cond (eq-eqb l l refl x) (request_in (is x)) [] ++ ups l waiting)) in
        entry_changes l (handle d packet.src.0 said).0 v all.0.line all.0.home homes (subst (λ (c : Cache). IsCache parts parameters c) (sym caches) stands.caches) (handler_sound parameters.pointers d packet.src.0 said some (stands.entries l all.0.line all.0.home))
        (subst (AllByRecursion (IsPacket parts n)) (sym packets) all.1)
        (ap (λ (q : List Msg). length (ups l q)) packets ∙ (none_left l waiting had (stands.pending l all.0.line all.0.home) ∙ sym (ap digit (handled_free d packet.src.0 said))))
        (λ k other. ap (ups k) packets ∙ (ups_without k packet waiting (other_request k packet other) ∙ ap (ups k) (sym queue)))
      where
        none_left : (l : ℕ) (waiting : List Msg) → length (ups l node.packets) ≡ length (said ∷ ups l waiting) → length (ups l node.packets) ≡ digit (is_in_progress (home_at parts node l).meta) → length (ups l waiting) ≡ 0
        none_left l waiting had is = omega (arith, digit_le (is_in_progress (home_at parts node l).meta))
