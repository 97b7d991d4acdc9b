-- A legal journal sorted by stamp and node: each entry passes those that come before it, one after the other.
use Rattle.std.proofs.Common.{◌≡◌, ◌≢◌, ℕ, ◌≤◌, nat_le, Bool, true, false, cond, ◌||◌, List, [], ◌∷◌, IsTrue, refl, sym, subst, ap, ◌∙◌, arith}
use Rattle.std.proofs.lemmas.Bool.Decides.{nat_tests}
use Rattle.alw_msg.specs.declared.events.Entry.{Entry}
use Rattle.alw_image.specs.declared.parts.Parts.{Parts}
use Rattle.alw_image.specs.Parameters.{Parameters}
use Rattle.alw_msg.specs.Events.{node_of}
use Rattle.alw_model.specs.Machine.{MachineState, stamp_at, has_halted, step, after, AreLegal, IsNext}
use Rattle.alw_model.specs.Threads.{is_before, placed, in_order}
use Rattle.law_order.proofs.Halting.{halted_stays}
use Rattle.law_order.proofs.Swaps.{enabled_before, swapped}
use Rattle.law_order.specs.Aims.{IsAimed}
use Rattle.law_order.proofs.Aimed.{sends_below, step_aimed}
use Rattle.law_order.proofs.Clocks.{nodes_rise}
use Rattle.law_order.proofs.Keys.{stamps_le}

-- within the limit: by the stamp, or since every context has halted
lower_within : (stamp other limit : ℕ) (halted : Bool) → other ≤ stamp → IsTrue (nat_le stamp limit || halted) → IsTrue (nat_le other limit || halted)
lower_within stamp other limit halted le is = grind (arith, nat_tests)

still_within : (stamp other limit : ℕ) (halted after : Bool) → other ≡ stamp → (IsTrue halted → IsTrue after) → IsTrue (nat_le stamp limit || halted) → IsTrue (nat_le other limit || after)
still_within stamp other limit halted after same stays is = grind (arith, nat_tests)

module _ (parts : Parts) (parameters : Parameters) where
  -- a list of entries is legal, and leaves the machine as another one does
  pub record LeavesSame (s : MachineState) (one other : List Entry) : Type 0 where
    pub legal : AreLegal parts parameters s one
    pub state : after parts parameters s one ≡ after parts parameters s other

  pub swap_legal : (s : MachineState) (e f : Entry) (rest : List Entry) → IsAimed parts s → AreLegal parts parameters s (e ∷ f ∷ rest) → f.stamp ≤ e.stamp → LeavesSame s (f ∷ e ∷ rest) (e ∷ f ∷ rest)
  swap_legal s e f rest aimed (first, (second, legal)) le =
      let next = step parts parameters s e.event in
      let other = step parts parameters s f.event in
      let apart : node_of f.event ≢ node_of e.event = λ same. absurd (let rise = (nodes_rise parts parameters s (e ∷ f ∷ []) aimed (first, (second, tt))).0.0 same in omega arith) in
      let low : stamp_at parts next f.event ≤ stamp_at parts s e.event = omega (arith, first.stamp, second.stamp) in
      let enabled = enabled_before parts parameters s e.event f.event first.enabled second.enabled apart low in
      let w = swapped parts parameters s e.event f.event first.enabled second.enabled apart low (sends_below parts parameters s e.event first.enabled aimed) (sends_below parts parameters s f.event enabled aimed) in
      let legal_first : IsNext parts parameters s f = record {
        enabled = enabled;
        within = lower_within (stamp_at parts s e.event) (stamp_at parts s f.event) parameters.limit (has_halted s) (rw w.stamp low) first.within;
        stamp = second.stamp ∙ sym w.stamp;
      } in
      let legal_second : IsNext parts parameters other e = record {
        enabled = w.later_enabled ∙ first.enabled;
        within = still_within (stamp_at parts s e.event) (stamp_at parts other e.event) parameters.limit (has_halted s) (has_halted other) w.later_stamp (halted_stays parts parameters s f.event enabled) first.within;
        stamp = first.stamp ∙ sym w.later_stamp;
      } in
      record {
        legal = (legal_first, (legal_second, subst (λ (m : MachineState). AreLegal parts parameters m rest) (sym w.state) legal));
        state = ap (λ (m : MachineState). after parts parameters m rest) w.state;
      }

  -- an entry before others, in its place among them
  pub placed_legal : (s : MachineState) (e : Entry) (rest : List Entry) → IsAimed parts s → AreLegal parts parameters s (e ∷ rest) → LeavesSame s (placed e rest) (e ∷ rest)
  placed_legal s e [] aimed legal = record { legal = legal; state = refl }
  placed_legal s e (first ∷ rest) aimed legal = go (is_before first e) refl (placed_legal (step parts parameters s first.event) e rest)
    where
      go : (b : Bool) → is_before first e ≡ b → (IsAimed parts (step parts parameters s first.event) → AreLegal parts parameters (step parts parameters s first.event) (e ∷ rest) → LeavesSame (step parts parameters s first.event) (placed e rest) (e ∷ rest))
          → LeavesSame s (cond b (first ∷ placed e rest) (e ∷ first ∷ rest)) (e ∷ first ∷ rest)
      go false is deep = record { legal = legal; state = refl }
      go true is deep =
          let swap = swap_legal s e first rest aimed legal (stamps_le first e is) in
          let deeper = deep (step_aimed parts parameters s first.event swap.legal.0.enabled aimed) swap.legal.1 in
          record { legal = (swap.legal.0, deeper.legal); state = deeper.state ∙ swap.state }

  pub sorted_legal : (s : MachineState) (journal : List Entry) → IsAimed parts s → AreLegal parts parameters s journal → LeavesSame s (in_order journal) journal
  sorted_legal s [] aimed legal = record { legal = legal; state = refl }
  sorted_legal s (entry ∷ rest) aimed (next, legal) =
      let sorted = sorted_legal (step parts parameters s entry.event) rest (step_aimed parts parameters s entry.event next.enabled aimed) legal in
      let whole = placed_legal s entry (in_order rest) aimed (next, sorted.legal) in
      record { legal = whole.legal; state = whole.state ∙ sorted.state }
