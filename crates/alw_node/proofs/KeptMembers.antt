-- What a node reads of an image it finds in its share, which is no longer than the image.
use Rattle.std.proofs.Common.{◌≡◌, ℕ, zero, suc, ◌+◌, ◌-◌, ◌*◌, ◌/◌, ◌^◌, ◌<◌, Bool, true, false, cond, ◌&&◌, ◌==◌, nat_lt, Option, Some, None, List, [], ◌∷◌, map, find, filter, length, ◌≤◌, refl, sym, ap, subst, ◌∙◌, arith}
use Rattle.std.specs.List.{list_any, range_with_len}
use Rattle.std.specs.Option.{option_map}
use Rattle.std.proofs.lemmas.Bool.{true≢false, eq-eqb, ne_eqb}
use Rattle.std.proofs.lemmas.List.Sums.{length-filter, count_by-le-length}
use Rattle.std.proofs.lemmas.Nat.{div-mul-add}
use Rattle.alw_num.specs.declared.addresses.Line.{Line}
use Rattle.alw_num.specs.declared.addresses.LineNo.{LineNo}
use Rattle.alw_num.specs.declared.addresses.NodeNo.{NodeNo}
use Rattle.alw_num.specs.Maps.{empty_map}
use Rattle.alw_msg.specs.declared.messages.Msg.{Msg}
use Rattle.alw_msg.specs.declared.events.Event.{Event}
use Rattle.alw_msg.specs.declared.events.Event.TheVariants.{Instr, Handle, Deliver, Evict}
use Rattle.alw_image.specs.declared.parts.Parts.{Parts}
use Rattle.alw_image.specs.Images.{node_count, body_in, body_of, is_always}
use Rattle.alw_image.specs.Parameters.{Parameters}
use Rattle.alw_msg.specs.Contents.{Content, ForMemory, ForCache, content}
use Rattle.alw_model.specs.LimitLess.{Directory, directory_start}
use Rattle.alw_model.specs.Contexts.{Slot, slot_start, regs_start, status_start}
use Rattle.alw_model.specs.Messages.{is_fit}
use Rattle.alw_msg.specs.Events.{node_of}
use Rattle.alw_model.specs.NodeStates.{NodeState, node_start, may_reach, may, is_enabled_at, stamp_of}
use Rattle.alw_model.specs.NodeSteps.{deliver_by, event_at, clocked, node_step}
use Rattle.alw_image.specs.Nodes.{is_line_of, is_body_of, is_start_of}
use Rattle.alw_node.specs.Shares.{share_of}

-- ---- how many

-- no more are kept than there are
pub few_kept : {X : Type 0} (p : X → Bool) (xs : List X) → length (filter p xs) ≤ length xs
few_kept p xs = omega (arith, length-filter p xs, count_by-le-length p xs)

-- ---- what is read

-- a member that is kept or isn't read changes nothing
read_kept : {X Y : Type 0} (read : List X → Y) (kept rest : List X) (x : X) → (b : Bool) → read (x ∷ kept) ≡ read (x ∷ rest) → (b ≡ false → read kept ≡ read (x ∷ rest)) → read (cond b (x ∷ kept) kept) ≡ read (x ∷ rest)
read_kept read kept rest x true same skipped = same
read_kept read kept rest x false same skipped = skipped refl

kept_start : (number slot : ℕ) (starts : List (NodeNo × ℕ × ℕ)) → find (λ start. start.0.0 == number && (start.1 == slot)) (filter (is_start_of number) starts) ≡ find (λ start. start.0.0 == number && (start.1 == slot)) starts
kept_start number slot [] = refl
kept_start number slot (start ∷ rest) = read_kept (find (λ start. start.0.0 == number && (start.1 == slot))) (filter (is_start_of number) rest) rest start (start.0.0 == number) (ap (cond (start.0.0 == number && (start.1 == slot)) (Some start)) (kept_start number slot rest)) (λ away. rw away (kept_start number slot rest))

-- a line of another home is another line
differs : (per_node number line other : ℕ) → line / per_node ≡ number → (other / per_node == number) ≡ false → other ≡ line → ⊥
differs per_node number line other home away is = true≢false (sym (eq-eqb (other / per_node) number (ap (λ l. l / per_node) is ∙ home)) ∙ away)

kept_body : (per_node number line : ℕ) → line / per_node ≡ number → (bodies : List (LineNo × Line)) → body_in (filter (is_body_of per_node number) bodies) line ≡ body_in bodies line
kept_body per_node number line home [] = refl
kept_body per_node number line home (body ∷ rest) = read_kept (λ bs. body_in bs line) (filter (is_body_of per_node number) rest) rest body (body.0.0 / per_node == number)
    (rw (kept_body per_node number line home rest) refl)
    (λ away. rw (ne_eqb body.0.0 line (differs per_node number line body.0.0 home away)) (kept_body per_node number line home rest))

kept_line : (per_node number line : ℕ) → line / per_node ≡ number → (lines : List ℕ) → list_any (λ listed. line == listed) (filter (is_line_of per_node number) lines) ≡ list_any (λ listed. line == listed) lines
kept_line per_node number line home [] = refl
kept_line per_node number line home (listed ∷ rest) = read_kept (list_any (λ listed. line == listed)) (filter (is_line_of per_node number) rest) rest listed (listed / per_node == number)
    (rw (kept_line per_node number line home rest) refl)
    (λ away. rw (ne_eqb line listed (λ is. differs per_node number line listed home away (sym is))) (kept_line per_node number line home rest))

-- ---- the start

-- two functions that agree on the places of a range
same_map : {X : Type 0} (f g : ℕ → X) (first n : ℕ) → ((k : ℕ) → k < n → f (first + k) ≡ g (first + k)) → map f (range_with_len first n) ≡ map g (range_with_len first n)
same_map f g first zero same = refl
same_map {X = X} f g first (suc n) same = onto (subst (λ at. f at ≡ g at) (omega arith) (same 0 (omega arith))) (same_map f g (first + 1) n (λ k l. subst (λ at. f at ≡ g at) (omega arith) (same (suc k) (omega (arith, l)))))
  where
    onto : {x y : X} {xs ys : List X} → x ≡ y → xs ≡ ys → x ∷ xs ≡ y ∷ ys
    onto e f = cc

slot_same : (parts : Parts) (number slot : ℕ) → slot_start (share_of parts number) number slot ≡ slot_start parts number slot
slot_same parts number slot = ap (λ (o : Option (NodeNo × ℕ × ℕ)). slot_from (option_map (λ start. start.2) o)) (kept_start number slot parts.starts)
  where
    slot_from : Option ℕ → Slot
    slot_from start = record { regs = regs_start parts (number * parts.contexts + slot) start; status = status_start start; hold = None }

entry_same : (parts : Parts) (number k : ℕ) → k < parts.per_node → directory_start (body_of (share_of parts number) (number * parts.per_node + k)) (is_always (share_of parts number) (number * parts.per_node + k)) ≡ directory_start (body_of parts (number * parts.per_node + k)) (is_always parts (number * parts.per_node + k))
entry_same parts number k l =
    let home = div-mul-add number parts.per_node k l in
    rw (kept_body parts.per_node number (number * parts.per_node + k) home parts.bodies, kept_line parts.per_node number (number * parts.per_node + k) home parts.always) refl

pub start_same : (parts : Parts) (number : ℕ) → node_start (share_of parts number) number ≡ node_start parts number
start_same parts number = both
    (same_map (slot_start (share_of parts number) number) (slot_start parts number) 0 parts.contexts (λ k l. slot_same parts number (0 + k)))
    (same_map (λ line. directory_start (body_of (share_of parts number) line) (is_always (share_of parts number) line)) (λ line. directory_start (body_of parts line) (is_always parts line)) (number * parts.per_node) parts.per_node (entry_same parts number))
  where
    started : List Slot → List Directory → NodeState
    started slots homes = record { slots = slots; current = 0; cache = empty_map; transactions = empty_map; homes = homes; packets = []; clock = 0 }

    both : {slots slots' : List Slot} {homes homes' : List Directory} → slots ≡ slots' → homes ≡ homes' → started slots homes ≡ started slots' homes'
    both e f = cc

-- ---- an event

reach_same : (parts : Parts) (number : ℕ) (parameters : Parameters) (node : NodeState) (line : ℕ) (said : Content) → may_reach (share_of parts number) parameters node line said ≡ may_reach parts parameters node line said
reach_same parts number parameters node line (ForMemory said) = refl
reach_same parts number parameters node line (ForCache said) = refl

may_same : (parts : Parts) (number : ℕ) (parameters : Parameters) (node : NodeState) (event : Event) (head : Option Msg) → may (share_of parts number) parameters node event head ≡ may parts parameters node event head
may_same parts number parameters node (Instr at) head = refl
may_same parts number parameters node (Handle at) head = refl
may_same parts number parameters node (Evict at set) head = refl
may_same parts number parameters node (Deliver from to) None = refl
may_same parts number parameters node (Deliver from to) (Some msg) = ap (λ (reach : Bool). nat_lt from.0 (node_count parts) && (is_fit parts from.0 to.0 msg && reach)) (reach_same parts number parameters node msg.line.0 (content msg))

pub enabled_same : (parts : Parts) (number : ℕ) (parameters : Parameters) (at : ℕ) (node : NodeState) (event : Event) (head : Option Msg) → is_enabled_at (share_of parts number) parameters at node event head ≡ is_enabled_at parts parameters at node event head
enabled_same parts number parameters at node event head = ap (λ (passes : Bool). node_of event == at && (nat_lt at (node_count parts) && (nat_lt node.clock (2 ^ 32 - 1) && passes))) (may_same parts number parameters node event head)

content_same : (parts : Parts) (number : ℕ) (parameters : Parameters) (at stamp : ℕ) (node : NodeState) (msg : Msg) (said : Content)
    → deliver_by (share_of parts number) parameters at stamp node msg said ≡ deliver_by parts parameters at stamp node msg said
content_same parts number parameters at stamp node msg (ForMemory said) = refl
content_same parts number parameters at stamp node msg (ForCache said) = refl

event_same : (parts : Parts) (number : ℕ) (parameters : Parameters) (at stamp : ℕ) (node : NodeState) (event : Event) (taken : Option Msg)
    → event_at (share_of parts number) parameters at stamp node event taken ≡ event_at parts parameters at stamp node event taken
event_same parts number parameters at stamp node (Instr here) taken = refl
event_same parts number parameters at stamp node (Handle here) taken = refl
event_same parts number parameters at stamp node (Evict here set) taken = refl
event_same parts number parameters at stamp node (Deliver from to) None = refl
event_same parts number parameters at stamp node (Deliver from to) (Some msg) = content_same parts number parameters at stamp node msg (content msg)

pub step_same : (parts : Parts) (number : ℕ) (parameters : Parameters) (at : ℕ) (node : NodeState) (event : Event) (taken : Option Msg) → node_step (share_of parts number) parameters at node event taken ≡ node_step parts parameters at node event taken
step_same parts number parameters at node event taken = ap (clocked (stamp_of node.clock taken)) (event_same parts number parameters at (stamp_of node.clock taken) node event taken)
