-- A message to memory at a memory side: what it comes to, by whether it traps.
use Rattle.std.proofs.Common.{◌≡◌, ℕ, ◌+◌, ◌*◌, ◌/◌, ◌%◌, ◌<◌, ◌≤◌, Bool, true, false, cond, List, [], ◌∷◌, ◌++◌, refl, sym, ap, ◌∙◌, subst, arith}
use Rattle.std.proofs.lemmas.Bool.{true≢false}
use Rattle.alw_msg.specs.Kinds.{to_memory}
use Rattle.alw_msg.specs.Sending.{Sending, with_messages}
use Rattle.alw_msg.specs.declared.messages.Kind.{Kind}
use Rattle.alw_msg.specs.declared.messages.Kind.TheVariants as kinds
use Rattle.alw_msg.specs.declared.messages.Msg.{Msg}
use Rattle.alw_msg.specs.Contents.{ToMemory, RREQ, WREQ, REPM, UPDATE, ACKC, ForMemory, content_by, content}
use Rattle.alw_model.specs.declared.steps.Did.{Did}
use Rattle.alw_model.specs.declared.steps.Did.TheVariants.{Took, Packet}
use Rattle.alw_model.specs.LimitLess.{Directory, is_trapped, is_in_progress, hardware_act, trapped}
use Rattle.alw_model.specs.Messages.{to_caches}
use Rattle.alw_model.specs.Sides.{Memory, entry_at}
use Rattle.alw_model.specs.MemorySteps.{MemoryStep, IsMemoryStep, home_at, with_entry, at_home, takes}
use Rattle.law_entry.proofs.Soundness.{trapped_sound, hardware_sound}
use Rattle.law_entry.proofs.Pointers.{hardware_points, trap_points}
use Rattle.dir_full.specs.Reactions.{with_sends, HasRoom}
use Rattle.alw_home.specs.Deliveries.{Delivers, answer_by, answer_of, after_delivery}
use Rattle.alw_home.specs.declared.deliveries.Acted.{Acted}
use Rattle.alw_home.specs.declared.deliveries.Acted.TheVariants as acted
use Rattle.alw_memory.specs.Memories.{IsMemory, SendsAreBegun, Stands}
use Rattle.alw_memory.specs.Lines.{has_trapped}
use Rattle.alw_memory.proofs.Entries.{line_is}
use Rattle.alw_memory.proofs.Standing.{trap_keeps, act_keeps}

-- ---- what a message to memory says

pub data Says (msg : Msg) : Type 0 where
  Said : (said : ToMemory) → content msg ≡ ForMemory said → Says msg

pub says : (msg : Msg) → to_memory msg.kind ≡ true → Says msg
says msg goes = go msg.kind refl goes
  where
    said_by : (kind : Kind) (said : ToMemory) → msg.kind ≡ kind → content_by kind msg.body ≡ ForMemory said → Says msg
    said_by kind said e is = Said said (ap (λ k. content_by k msg.body) e ∙ is)

    go : (kind : Kind) → msg.kind ≡ kind → to_memory kind ≡ true → Says msg
    go kinds.RREQ e t = said_by kinds.RREQ RREQ e refl
    go kinds.WREQ e t = said_by kinds.WREQ WREQ e refl
    go kinds.REPM e t = said_by kinds.REPM (REPM msg.body) e refl
    go kinds.UPDATE e t = said_by kinds.UPDATE (UPDATE msg.body) e refl
    go kinds.ACKC e t = said_by kinds.ACKC ACKC e refl
    go kinds.RDATA e t = absurd (true≢false (sym t))
    go kinds.WDATA e t = absurd (true≢false (sym t))
    go kinds.INV e t = absurd (true≢false (sym t))
    go kinds.BUSY e t = absurd (true≢false (sym t))

-- ---- a step

-- what has become of a memory side is this step's, and is one again
pub record DeliveryGoes (m after : Memory) (sent sent' : Sending) (did : Did) (step : MemoryStep) : Type 0 where
  pub steps : IsMemoryStep m after sent sent' did step
  pub stands : IsMemory after

pub goes_as : (m after after' : Memory) (sent sent' : Sending) (did did' : Did) (step step' : MemoryStep) → after ≡ after' → did ≡ did' → step ≡ step'
    → DeliveryGoes m after' sent sent' did' step' → DeliveryGoes m after sent sent' did step
goes_as m after after' sent sent' did did' step step' a b c goes =
    subst (λ (x : Memory). DeliveryGoes m x sent sent' did step) (sym a)
    (subst (λ (x : Did). DeliveryGoes m after' sent sent' x step) (sym b)
    (subst (λ (x : MemoryStep). DeliveryGoes m after' sent sent' did' x) (sym c) goes))

-- the packets, and what was done, by whether the message trapped
abbrev pub packets_after : List Msg → Msg → Bool → List Msg
packets_after packets msg trapped = cond trapped (packets ++ msg ∷ []) packets

abbrev pub did_after : Bool → Did
did_after trapped = cond trapped Packet Took

abbrev pub with_homes : Memory → List Directory → List Msg → Memory
with_homes m homes packets = record m { homes = homes; packets = packets }

-- ---- a delivery

trapped_stands : (most nodes : ℕ) (d : Directory) → Stands most nodes d → Stands most nodes (trapped d)
trapped_stands most nodes d is = record { sound = trapped_sound most d is.sound; points = trap_points nodes d is.points }

acted_stands : (most nodes : ℕ) (d : Directory) (i : ℕ) (m : ToMemory) → 1 ≤ most → Stands most nodes d → i < nodes → is_trapped most d i m ≡ false
    → is_in_progress d.meta ≡ false → Stands most nodes (hardware_act d i m).0
acted_stands most nodes d i m some is l calm free =
    record { sound = hardware_sound most d i m some is.sound calm free; points = hardware_points nodes i l d m is.points }

module _ (m : Memory) (msg : Msg) (e : Directory) (result : Acted) (sent sent' : Sending) (is : IsMemory m) (begun : SendsAreBegun m.number m.nodes sent)
    (goes : to_memory msg.kind ≡ true) (from : msg.src.0 < m.nodes) (home : msg.line.0 / m.per_node ≡ m.number)
    (free : is_in_progress (home_at m msg.line.0).meta ≡ false) (delivers : Delivers m.pointers (home_at m msg.line.0) e sent sent' result msg) where
  abbrev D : Directory
  D = home_at m msg.line.0

  abbrev pub left : Directory → Bool → Memory
  left entry traps = with_homes m (with_entry m msg.line.0 entry) (packets_after m.packets msg traps)

  l : msg.line.0 % m.per_node < m.per_node
  l = omega (arith, is.per_node.0)

  at : msg.line.0 ≡ m.number * m.per_node + msg.line.0 % m.per_node
  at = line_is msg.line.0 m.per_node m.number home

  by_trap : (said : ToMemory) → content msg ≡ ForMemory said → (b : Bool) → is_trapped m.pointers (home_at m msg.line.0) msg.src.0 said ≡ b → (traps : Bool)
      → traps ≡ has_trapped result
      → DeliveryGoes m (left e traps) sent sent' (did_after traps) (takes sent.stamp m msg (content msg))
  by_trap said content_is true t traps when =
      let is_result : result ≡ acted.Trapped = delivers.outcome ∙ (ap (answer_of m.pointers D msg.src.0) content_is
      ∙ (ap (λ p. answer_by p (is_trapped m.pointers D msg.src.0 said)) free ∙ ap (answer_by false) t)) in
      let has : traps ≡ true = when ∙ ap has_trapped is_result in
      let entry_is : e ≡ trapped D = delivers.entry ∙ ap (λ r. (after_delivery r D msg.src.0 (content msg)).0) is_result in
      goes_as m _ (left (trapped D) true) sent sent' _ Packet _ (at_home sent.stamp m msg said true) (λ k. left (entry_is k) (has k)) (ap did_after has)
      (ap (takes sent.stamp m msg) content_is ∙ ap (at_home sent.stamp m msg said) t)
      (record {
        steps = record {
          side = refl;
          sends = delivers.sends ∙ (ap (λ r. with_sends sent msg.line.0 (after_delivery r D msg.src.0 (content msg)).1) is_result
              ∙ ap (λ (ms : List (ℕ × Msg)). with_messages sent (ms ++ [])) begun.empty);
          outcome = refl;
        };
        stands = trap_keeps m (msg.line.0 % m.per_node) (trapped D) msg is l (trapped_stands m.pointers m.nodes D (is.entries (msg.line.0 % m.per_node)))
            (record { to_memory = goes; from = from; home = home }) at free refl;
      })
  by_trap said content_is false t traps when =
      let is_result : result ≡ acted.Acted = delivers.outcome ∙ (ap (answer_of m.pointers D msg.src.0) content_is
      ∙ (ap (λ p. answer_by p (is_trapped m.pointers D msg.src.0 said)) free ∙ ap (answer_by false) t)) in
      let has : traps ≡ false = when ∙ ap has_trapped is_result in
      let act = hardware_act D msg.src.0 said in
      let entry_is : e ≡ act.0 = delivers.entry ∙ (ap (λ r. (after_delivery r D msg.src.0 (content msg)).0) is_result
      ∙ ap (λ c. (after_delivery acted.Acted D msg.src.0 c).0) content_is) in
      goes_as m _ (left act.0 false) sent sent' _ Took _ (at_home sent.stamp m msg said false) (λ k. left (entry_is k) (has k)) (ap did_after has)
      (ap (takes sent.stamp m msg) content_is ∙ ap (at_home sent.stamp m msg said) t)
      (record {
        steps = record {
          side = refl;
          sends = delivers.sends ∙ (ap (λ r. with_sends sent msg.line.0 (after_delivery r D msg.src.0 (content msg)).1) is_result
              ∙ (ap (λ c. with_sends sent msg.line.0 (after_delivery acted.Acted D msg.src.0 c).1) content_is
              ∙ (ap (λ (ms : List (ℕ × Msg)). with_messages sent (ms ++ to_caches sent.src sent.stamp msg.line.0 act.1)) begun.empty
              ∙ ap (λ n. with_messages sent (to_caches n sent.stamp msg.line.0 act.1)) begun.by)));
          outcome = refl;
        };
        stands = act_keeps m (msg.line.0 % m.per_node) act.0 is l
            (acted_stands m.pointers m.nodes D msg.src.0 said is.pointers (is.entries (msg.line.0 % m.per_node)) from t free) free free;
      })

  pub delivered : (traps : Bool) → traps ≡ has_trapped result → DeliveryGoes m (left e traps) sent sent' (did_after traps) (takes sent.stamp m msg (content msg))
  delivered traps when = by_said (says msg goes)
    where
      by_said : Says msg → DeliveryGoes m (left e traps) sent sent' (did_after traps) (takes sent.stamp m msg (content msg))
      by_said (Said said content_is) = by_trap said content_is (is_trapped m.pointers (home_at m msg.line.0) msg.src.0 said) refl traps when

-- there is room for the packet, and for the sends
pub delivery_room : (m : Memory) (msg : Msg) (sent : Sending) → IsMemory m → SendsAreBegun m.number m.nodes sent → msg.src.0 < m.nodes
    → (place : ℕ) → HasRoom (entry_at m.homes place).hardware msg.src.0 sent
delivery_room m msg sent is begun from place = record {
  empty = begun.empty;
  sender = omega (arith, from, begun.room);
  members = λ k has. omega (arith, (is.entries place).points.hardware k has, begun.room);
}
