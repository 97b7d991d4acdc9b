-- What code reads of a thread by its numbers, and chains of private turns.
use Rattle.std.proofs.Common.{◌≡◌, ℕ, zero, suc, ◌+◌, ◌<◌, Bool, true, false, List, [], IsTrue, length, slice_index_or, refl, sym, ap, ◌∙◌, subst, arith}
use Rattle.std.proofs.lemmas.Option.{slice_get-get_or}
use Rattle.sparc_table.specs.Turns.{need_of}
use Rattle.sparc_table.specs.declared.outcomes.Outcome.{Outcome}
use Rattle.sparc_table.specs.declared.outcomes.Outcome.TheVariants.{Done, Miss, Out, Halt, Trap}
use Rattle.alw_msg.specs.Statuses.{is_ready}
use Rattle.alw_image.specs.declared.parts.Parts.{Parts}
use Rattle.alw_image.specs.Images.{line_count}
use Rattle.alw_model.specs.Flat.{Context}
use Rattle.alw_places.specs.declared.classes.Class.{Class}
use Rattle.alw_outcomes.specs.declared.pools.Seat.{Seat}
use Rattle.alw_outcomes.specs.declared.pools.Numbers.{Numbers}
use Rattle.alw_outcomes.specs.declared.pools.Pools.{Pools}
use Rattle.alw_places.specs.Places.{traps, to_go}
use Rattle.alw_places.specs.Sharing.{is_allowed, is_private}
use Rattle.alw_places.specs.Threads.{Thread, effect_in, thread_turn, thread_turns, thread_need, ThreadGoes, ThreadPrivate, ArePrivate}
use Rattle.alw_outcomes.specs.Pools.{AreIn, ArePools, PoolsGrow, GoOn, lists_of, no_seat, seat_in, memory_in, words_in, thread_in}
use Rattle.alw_outcomes.specs.Leads.{IsPrivateChain, IsTrapOf, IsGoing}
use Rattle.alw_outcomes.proofs.Pooling.{at_place, front_refl, front_trans, front_or, front_length, lists_front, lists_length}

-- ---- pools that go on

pub goes_on_refl : (parts : Parts) (pools : Pools) → ArePools parts pools → GoOn parts pools pools
goes_on_refl parts pools are = record { pools = are; grow = record { seats = front_refl pools.seats.items; links = front_refl pools.links.items; memories = front_refl pools.memories.items } }

pub goes_on_trans : (parts : Parts) (one two three : Pools) → GoOn parts one two → GoOn parts two three → GoOn parts one three
goes_on_trans parts one two three first second = record {
  pools = second.pools;
  grow = record {
    seats = front_trans one.seats.items two.seats.items three.seats.items first.grow.seats second.grow.seats;
    links = front_trans one.links.items two.links.items three.links.items first.grow.links second.grow.links;
    memories = front_trans one.memories.items two.memories.items three.memories.items first.grow.memories second.grow.memories;
  };
}

pub inside_grows : (before after : Pools) (at : Numbers) → PoolsGrow before after → AreIn before at → AreIn after at
inside_grows before after at grow inside = record {
  memory = front_length before.memories.items after.memories.items at.memory grow.memories inside.memory;
  seat = front_length before.seats.items after.seats.items at.seat grow.seats inside.seat;
}

pub words_grow : (parts : Parts) (before after : Pools) (seat : ℕ) → ArePools parts before → PoolsGrow before after → seat < length before.seats.items → words_in after seat ≡ words_in before seat
words_grow parts before after seat are grow within =
    let none : List ℕ = [] in
    let same : seat_in after seat ≡ seat_in before seat = front_or before.seats.items after.seats.items seat no_seat grow.seats within in
    let listed = are.lists seat (seat_in before seat) (slice_get-get_or before.seats.items seat no_seat within) in
    ap (λ (s : Seat). slice_index_or (lists_of after.links.items) s.list none) same
    ∙ front_or (lists_of before.links.items) (lists_of after.links.items) (seat_in before seat).list none (lists_front before.links.items after.links.items grow.links)
    (omega (arith, listed, lists_length before.links.items))

pub thread_grows : (parts : Parts) (before after : Pools) (at : Numbers) → ArePools parts before → PoolsGrow before after → AreIn before at → thread_in after at ≡ thread_in before at
unfolding thread_in
thread_grows parts before after at are grow inside =
    let memory : memory_in after at.memory ≡ memory_in before at.memory = front_or before.memories.items after.memories.items at.memory [] grow.memories inside.memory in
    let seat : seat_in after at.seat ≡ seat_in before at.seat = front_or before.seats.items after.seats.items at.seat no_seat grow.seats inside.seat in
    let words = words_grow parts before after at.seat are grow inside.seat in
    λ i. record { memory = memory i; context = record { regs = (seat i).regs; status = (seat i).status }; printed = words i }

-- ---- a context as code reads it

module _ (parts : Parts) (classes : List Class) (context : ℕ) (pools : Pools) (at : Numbers) (seat : Seat) (inside : AreIn pools at) (read : seat ≡ slice_index_or pools.seats.items at.seat seat) where
  seat_same : seat_in pools at.seat ≡ seat
  seat_same = at_place pools.seats.items at.seat no_seat seat inside.seat read

  pub ready_is : (b : Bool) → is_ready seat.status ≡ b → is_ready (thread_in pools at).context.status ≡ b
  unfolding thread_in
  ready_is b e = ap (λ (s : Seat). is_ready s.status) seat_same ∙ e

  pub allowed_is : (b : Bool) → is_allowed classes context (need_of parts.code seat.regs (line_count parts)) ≡ b → is_allowed classes context (thread_need parts (thread_in pools at)) ≡ b
  unfolding thread_in
  allowed_is b e = ap (λ (s : Seat). is_allowed classes context (need_of parts.code s.regs (line_count parts))) seat_same ∙ e

  pub private_is : is_private classes (need_of parts.code seat.regs (line_count parts)) ≡ true → is_private classes (thread_need parts (thread_in pools at)) ≡ true
  unfolding thread_in
  private_is e = ap (λ (s : Seat). is_private classes (need_of parts.code s.regs (line_count parts))) seat_same ∙ e

  pub pc_is : (thread_in pools at).context.regs.pc ≡ seat.regs.pc
  unfolding thread_in
  pc_is = ap (λ (s : Seat). s.regs.pc) seat_same

  pub go_is : to_go (thread_in pools at).context ≡ to_go (record { regs = seat.regs; status = seat.status })
  unfolding thread_in
  go_is = ap (λ (s : Seat). let c : Context = record { regs = s.regs; status = s.status } in to_go c) seat_same

-- ---- turns

pub none_trap : (outcome : Outcome) → ((x : ℕ) → outcome ≡ Trap x → ⊥) → traps outcome ≡ false
none_trap Done none = refl
none_trap (Miss line mode) none = refl
none_trap (Out word) none = refl
none_trap Halt none = refl
none_trap (Trap x) none = absurd (none x refl)

pub thread_goes : (parts : Parts) (classes : List Class) (context : ℕ) (pools : Pools) (at : Numbers) (seat : Seat) (outcome : Outcome) → AreIn pools at
    → seat ≡ slice_index_or pools.seats.items at.seat seat → is_ready seat.status ≡ true
    → is_allowed classes context (need_of parts.code seat.regs (line_count parts)) ≡ true → outcome ≡ (effect_in parts (thread_in pools at)).outcome → traps outcome ≡ false
    → ThreadGoes parts classes context (thread_in pools at)
thread_goes parts classes context pools at seat outcome inside read ready allowed outcome_is none = record {
  ready = ready_is parts classes context pools at seat inside read true ready;
  no_trap = ap traps (sym outcome_is) ∙ none;
  allowed = allowed_is parts classes context pools at seat inside read true allowed;
}

pub thread_private : (parts : Parts) (classes : List Class) (context : ℕ) (before after : Pools) (at next : Numbers) (seat left : Seat) → AreIn before at → AreIn after next
    → seat ≡ slice_index_or before.seats.items at.seat seat
    → left ≡ slice_index_or after.seats.items next.seat left → thread_in after next ≡ thread_turn parts (thread_in before at) → ThreadGoes parts classes context (thread_in before at)
    → is_private classes (need_of parts.code seat.regs (line_count parts)) ≡ true
    → to_go (record { regs = left.regs; status = left.status }) < to_go (record { regs = seat.regs; status = seat.status }) → ThreadPrivate parts classes context (thread_in before at)
thread_private parts classes context before after at next seat left inside inside' read read' turn goes alone less =
    let here = go_is parts classes context before at seat inside read in
    let there = go_is parts classes context after next left inside' read' in
    let turned : to_go (thread_in after next).context ≡ to_go (thread_turn parts (thread_in before at)).context = ap (λ (t : Thread). to_go t.context) turn in
    record {
      goes = goes;
      alone = private_is parts classes context before at seat inside read alone;
      forward = omega (arith, here, there, turned, less);
    }

pub thread_traps : (parts : Parts) (classes : List Class) (context : ℕ) (pools : Pools) (at : Numbers) (seat : Seat) (outcome : Outcome) (type : ℕ) → AreIn pools at
    → seat ≡ slice_index_or pools.seats.items at.seat seat → is_ready seat.status ≡ true
    → is_allowed classes context (need_of parts.code seat.regs (line_count parts)) ≡ true → outcome ≡ (effect_in parts (thread_in pools at)).outcome → outcome ≡ Trap type
    → IsTrapOf parts classes context (thread_in pools at) seat.regs.pc type
thread_traps parts classes context pools at seat outcome type inside read ready allowed outcome_is trap = record {
  ready = ready_is parts classes context pools at seat inside read true ready;
  allowed = allowed_is parts classes context pools at seat inside read true allowed;
  trap = sym outcome_is ∙ trap;
  pc_is = pc_is parts classes context pools at seat inside read;
}

-- ---- chains

private-more : (parts : Parts) (classes : List Class) (context : ℕ) (thread : Thread) (n : ℕ) → ArePrivate parts classes context thread n
    → ThreadPrivate parts classes context (thread_turns parts thread n) → ArePrivate parts classes context thread (suc n)
private-more parts classes context thread zero are last = (last, tt)
private-more parts classes context thread (suc n) are last = (are.0, private-more parts classes context (thread_turn parts thread) n are.1 last)

turns-more : (parts : Parts) (thread : Thread) (n : ℕ) → thread_turns parts thread (suc n) ≡ thread_turn parts (thread_turns parts thread n)
turns-more parts thread zero = refl
turns-more parts thread (suc n) = turns-more parts (thread_turn parts thread) n

pub chain_none : (parts : Parts) (classes : List Class) (context : ℕ) (pools : Pools) (at : Numbers) → AreIn pools at → IsPrivateChain parts classes context (thread_in pools at) pools at 0
chain_none parts classes context pools at inside = record { inside = inside; private = tt; end = refl }

pub chain_grows : (parts : Parts) (classes : List Class) (context : ℕ) (thread : Thread) (before after : Pools) (to : Numbers) (more : ℕ) → ArePools parts before → PoolsGrow before after
    → IsPrivateChain parts classes context thread before to more → IsPrivateChain parts classes context thread after to more
chain_grows parts classes context thread before after to more are grow is = record {
  inside = inside_grows before after to grow is.inside;
  private = is.private;
  end = thread_grows parts before after to are grow is.inside ∙ is.end;
}

pub chain_more : (parts : Parts) (classes : List Class) (context : ℕ) (thread : Thread) (before after : Pools) (to next : Numbers) (more : ℕ)
    → IsPrivateChain parts classes context thread before to more
    → AreIn after next
    → thread_in after next ≡ thread_turn parts (thread_in before to) → ThreadPrivate parts classes context (thread_in before to) → IsPrivateChain parts classes context thread after next (more + 1)
chain_more parts classes context thread before after to next more is inside turn private =
    let one : more + 1 ≡ suc more = omega arith in
    subst (IsPrivateChain parts classes context thread after next) (sym one) (record {
      inside = inside;
      private = private-more parts classes context thread more is.private (subst (ThreadPrivate parts classes context) is.end private);
      end = turn ∙ ap (thread_turn parts) is.end ∙ sym (turns-more parts thread more);
    })

pub going : (parts : Parts) (classes : List Class) (context : ℕ) (thread turned : Thread) (pools : Pools) (to : Numbers) (more : ℕ) (first : Bool) → turned ≡ thread_turn parts thread
    → ThreadGoes parts classes context thread
    → (IsTrue first → ThreadPrivate parts classes context thread) → IsPrivateChain parts classes context turned pools to more → IsGoing parts classes context thread pools to more first
going parts classes context thread turned pools to more first same goes private chain = record {
  goes = goes;
  first_is = private;
  chain = subst (λ (t : Thread). IsPrivateChain parts classes context t pools to more) same chain;
}
