-- A machine goes on where a main event may be next and no context has trapped, and none had before where none has later.
use Rattle.std.proofs.Common.{◌≡◌, ℕ, zero, suc, ◌+◌, Bool, true, false, not, ◌&&◌, ◌||◌, Option, Some, None, List, [], ◌∷◌, ◌++◌, length, take, slice_get, refl, sym, ap, subst, ◌∙◌, arith}
use Rattle.std.specs.List.{list_any}
use Rattle.std.proofs.Math.Bool.{or-true}
use Rattle.std.proofs.Math.Seq.{take-append_seam}
use Rattle.alw_num.specs.Weights.{weigh}
use Rattle.alw_msg.specs.declared.messages.Msg.{Msg}
use Rattle.alw_msg.specs.declared.events.Event.{Event}
use Rattle.alw_msg.specs.declared.events.Entry.{Entry}
use Rattle.alw_msg.specs.Events.{is_evict}
use Rattle.alw_msg.specs.Lists.{is_nonempty}
use Rattle.alw_model.specs.declared.ends.TrapAt.{TrapAt}
use Rattle.alw_model.specs.NodeStates.{NodeState}
use Rattle.alw_model.specs.Ends.{first_trap}
use Rattle.alw_model.specs.Machine.{state, is_enabled, has_halted, is_settled, any_trapped, goes_on, main_events, IsLegal}
use Rattle.alw_model.specs.Runs.{moments}
use Rattle.alw_model.proofs.Journals.{and_parts}
use Rattle.law_machine.proofs.MachineRuns.{always_kept}
use Rattle.law_machine.proofs.Wear.{event_wears}
use Rattle.alw_mesh.specs.Histories.{History, IsRun, state_of, may_be_next}
use Rattle.alw_mesh.proofs.Endings.{no_end}
use Rattle.alw_mesh.proofs.Remaining.{untrapped}
use Rattle.alw_mesh.proofs.Trapped.{none_trapped, front_trapped}
use Rattle.alw_due.specs.Due.{end_in}
use Rattle.alw_due.proofs.Mains.{in_next}
use Rattle.alw_due.proofs.Members.{of_kept}

-- ---- tests of lists

none_any : {X Y : Type 0} (f : X → List Y) (xs : List X) → list_any (λ x. is_nonempty (f x)) xs ≡ false → weigh (λ x. length (f x)) xs ≡ 0
none_any f [] none = refl
none_any {X} {Y} f (x ∷ rest) none = by_head (f x) refl none (none_any f rest)
  where
    by_head : (ys : List Y) → f x ≡ ys → (is_nonempty ys || list_any (λ x. is_nonempty (f x)) rest) ≡ false → (list_any (λ x. is_nonempty (f x)) rest ≡ false → weigh (λ x. length (f x)) rest ≡ 0) →
        length (f x) + weigh (λ x. length (f x)) rest ≡ 0
    by_head [] is isnt more = let here : length (f x) ≡ 0 = ap length is in let there = more isnt in omega (arith, here, there)
    by_head (y ∷ ys) is isnt more = absurd (cc)

any_in : (test : Event → Bool) (xs : List Event) (k : ℕ) (x : Event) → slice_get xs k ≡ Some x → test x ≡ true → list_any test xs ≡ true
any_in test [] k x got is = absurd (cc)
any_in test (y ∷ rest) zero x got is = let same : y ≡ x = cc in ap (λ b. b || list_any test rest) (subst (λ (e : Event). test e ≡ true) (sym same) is)
any_in test (y ∷ rest) (suc k) x got is = ap (λ b. test y || b) (any_in test rest k x got is) ∙ or-true (test y)

not_true : (b : Bool) → not b ≡ true → b ≡ false
not_true true is = absurd (cc)
not_true false is = refl

-- ---- a main event may be next

module _ (h : History) (run : IsRun h) (event : Event) (main : is_evict event ≡ false) (may : may_be_next h event ≡ true) where
  -- once every context has halted it takes a message, so that the machine isn't settled
  unsettled : has_halted (state_of h) ≡ true → is_settled (state_of h) ≡ true → ⊥
  unsettled halted settled =
      let s = state_of h in
      let kept = always_kept h.image run.image h.parameters run.parameters h.journal run.legal in
      let wears = event_wears h.image h.parameters (state_of h) kept.has halted event (and_parts (is_enabled h.image h.parameters (state_of h) event) _ may).0 in
      let fewer = wears.fewer main in
      let both = and_parts (not (list_any is_nonempty s.links)) (not (list_any (λ (node : NodeState). is_nonempty node.packets) s.nodes)) settled in
      let messages = none_any (λ (link : List Msg). link) s.links (not_true (list_any is_nonempty s.links) both.0) in
      let packets = none_any (λ (node : NodeState). node.packets) s.nodes (not_true (list_any (λ (node : NodeState). is_nonempty node.packets) s.nodes) both.1) in
      omega (arith, fewer, messages, packets)

  restless : (has_halted (state_of h) && is_settled (state_of h)) ≡ false
  restless = go (has_halted (state_of h)) refl (is_settled (state_of h)) refl
    where
      go : (a : Bool) → has_halted (state_of h) ≡ a → (b : Bool) → is_settled (state_of h) ≡ b → (a && b) ≡ false
      go false is b also = refl
      go true is false also = refl
      go true is true also = absurd (unsettled is also)

  has_event : goes_on h.image h.parameters (state_of h) ≡ true
  has_event =
      let there = (of_kept (may_be_next h) (main_events h.image) event (in_next h event main may)).0 in
      any_in (may_be_next h) (main_events h.image) there.place event there.stands may

  pub goes : any_trapped (state_of h) ≡ false → end_in h ≡ None
  goes none = no_end h none restless has_event

-- ---- a context that has trapped stays so

pub untrapped_front : (h : History) (more : List Entry) → IsRun h → IsLegal h.image h.parameters (h.journal ++ more) → any_trapped (state h.image h.parameters (h.journal ++ more)) ≡ false → any_trapped (state_of h) ≡ false
untrapped_front h more run legal none = by_trap (any_trapped (state_of h)) refl (first_trap 0 (moments h.image h.parameters h.journal)) refl
  where
    by_trap : (b : Bool) → any_trapped (state_of h) ≡ b → (at : Option TrapAt) → first_trap 0 (moments h.image h.parameters h.journal) ≡ at → any_trapped (state_of h) ≡ false
    by_trap false is at also = is
    by_trap true is None also = absurd (untrapped h.image h.parameters run.image h.journal run.legal also is)
    by_trap true is (Some at) also =
        let front : first_trap 0 (moments h.image h.parameters (take (length h.journal) (h.journal ++ more))) ≡ Some at = ap (λ (j : List Entry). first_trap 0 (moments h.image h.parameters j)) (take-append_seam h.journal more) ∙ also in
        let whole = front_trapped h.image h.parameters (h.journal ++ more) (length h.journal) at front in
        let untold = none_trapped h.image h.parameters (h.journal ++ more) legal none in
        absurd (let e : None ≡ Some at = untold ∙ whole in cc)
