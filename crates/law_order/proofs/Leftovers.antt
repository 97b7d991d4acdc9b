-- What is left of merged logs, and the machine so far: the next entry is legal, and the rest is what is left then.
use Rattle.std.proofs.Common.{◌≡◌, ℕ, ◌+◌, ◌<◌, ◌≤◌, ◌==◌, nat_le, nat_lt, not, Bool, cond, ◌||◌, max, Option, Some, None, is_some, List, [], ◌∷◌, ◌++◌, IsTrue, refl, sym, subst, ap, ◌∙◌, arith}
use Rattle.std.specs.Prelude.{option_to_list}
use Rattle.std.proofs.lemmas.Bool.{eq-eqb, ne_eqb, ltb-true, false≢true}
use Rattle.std.proofs.lemmas.Bool.Decides.{nat_tests}
use Rattle.alw_num.proofs.Weigh.{is_node}
use Rattle.alw_msg.specs.declared.messages.Msg.{Msg}
use Rattle.alw_msg.specs.declared.events.Event.{Event}
use Rattle.alw_msg.specs.declared.events.Event.TheVariants.{Instr, Handle, Deliver, Evict}
use Rattle.alw_num.specs.declared.addresses.NodeNo.{NodeNo}
use Rattle.alw_image.specs.declared.parts.Parts.{Parts}
use Rattle.alw_image.specs.Images.{node_count}
use Rattle.alw_image.specs.Parameters.{Parameters}
use Rattle.alw_msg.specs.Events.{node_of}
use Rattle.alw_model.specs.NodeStates.{NodeState, stamp_of, may, is_enabled_at}
use Rattle.alw_model.specs.NodeSteps.{Stepped, node_step}
use Rattle.alw_msg.specs.Lists.{front}
use Rattle.alw_model.specs.Machine.{MachineState, node_at, link_at, taken_by, stamp_at, has_halted, stepped_by, step, IsNext}
use Rattle.alw_model.specs.Threads.{Logged, IsNextLogged, IsRunFrom, IsFront, takes_rightly, is_from, took_from, sent_to}
use Rattle.alw_model.proofs.Journals.{and_parts}
use Rattle.law_order.proofs.Local.{node_kept}
use Rattle.law_order.specs.Aims.{IsAimed}
use Rattle.law_order.proofs.Clocks.{node_stepped}
use Rattle.law_order.proofs.LogOrders.{mine, StampsAscend}
use Rattle.law_order.proofs.LogMoves.{moves_on, link_moves}
use Rattle.law_order.proofs.LogSends.{took_here, sent_here, took_split, sent_split, all_mine, run_bears, sent_high, first_high}

none_taken : (taken : Option Msg) → IsTrue (not (is_some taken)) → None ≡ taken
none_taken None is = refl
none_taken (Some msg) is = absurd (false≢true is)

some_taken : (taken : Option Msg) → IsTrue (is_some taken) → (msg : Msg) × (taken ≡ Some msg)
some_taken None is = absurd (false≢true is)
some_taken (Some msg) is = (msg, refl)

-- the first of two lists, where the second one doesn't begin so
front_of : (one other : List Msg) (msg : Msg) → Some msg ≡ front (one ++ other) → (front other ≡ Some msg → ⊥) → front one ≡ Some msg
front_of [] other msg is never = absurd (never (sym is))
front_of (m ∷ rest) other msg is never = sym is

low_within : (stamp at limit : ℕ) (halted : Bool) → stamp ≤ limit → stamp ≡ at → IsTrue (nat_le at limit || halted)
low_within stamp at limit halted le same = grind (arith, nat_tests)

module _ (parts : Parts) (parameters : Parameters) where
  -- the rest of each node's log is a run from where the node is, links agree with what is on the way, and stamps ascend
  pub record IsLeft (s : MachineState) (left : List Logged) : Type 0 where
    pub runs : (n : ℕ) → IsRunFrom parts parameters n (node_at s n) (mine n left)
    pub agree : (a b : ℕ) → a < node_count parts → b < node_count parts → IsFront (took_from a (mine b left)) (link_at parts s a b ++ sent_to b (mine a left))
    pub ascend : StampsAscend left

  module _ (s : MachineState) (aimed : IsAimed parts s) (logged : Logged) (rest : List Logged) (left : IsLeft s (logged ∷ rest)) where
    abbrev event : Event
    event = logged.entry.event

    abbrev n : ℕ
    n = node_of logged.entry.event

    pub run : IsNextLogged parts parameters n (node_at s n) logged × IsRunFrom parts parameters n (node_step parts parameters n (node_at s n) event logged.taken).node (mine n rest)
    run = subst (IsRunFrom parts parameters n (node_at s n)) (ap (λ b. cond b (logged ∷ mine n rest) (mine n rest)) (eq-eqb n n refl)) (left.runs n)

    bounds : (from to : NodeNo) → event ≡ Deliver from to → (from.0 < node_count parts) × (to.0 < node_count parts)
    bounds from to is =
        let enabled = subst (λ (e : Event). IsTrue (is_enabled_at parts parameters (node_of e) (node_at s (node_of e)) e logged.taken)) is run.0.enabled in
        let a = and_parts (to.0 == to.0) _ enabled in
        let b = and_parts (nat_lt to.0 (node_count parts)) _ a.1 in
        let c = and_parts _ (may parts parameters (node_at s to.0) (Deliver from to) logged.taken) b.1 in
        (ltb-true from.0 (node_count parts) (and_parts (nat_lt from.0 (node_count parts)) _ c.1).0, ltb-true to.0 (node_count parts) b.0)

    -- what was sent later can't be taken now, since its stamp isn't below this entry's
    never_later : (a b : ℕ) (msg : Msg) → logged.taken ≡ Some msg → front (sent_to b (mine a (logged ∷ rest))) ≡ Some msg → ⊥
    never_later a b msg took is =
        let low = logged.entry.stamp in
        let above = all_mine (λ (later : Logged). low ≤ later.entry.stamp) a (logged ∷ rest) (omega arith, left.ascend.0) in
        let bears = run_bears parts parameters a (node_at s a) (mine a (logged ∷ rest)) (left.runs a) in
        let high = first_high low b (sent_to b (mine a (logged ∷ rest))) msg (sent_high low b (mine a (logged ∷ rest)) above bears) is in
        let stamp : logged.entry.stamp ≡ max (node_at s n).clock msg.stamp + 1 = run.0.stamp ∙ ap (stamp_of (node_at s n).clock) took in
        omega arith

    delivered : (from to : NodeNo) (msg : Msg) → event ≡ Deliver from to → logged.taken ≡ Some msg → front (link_at parts s from.0 to.0) ≡ Some msg
    delivered from to msg is took =
        let l = bounds from to is in
        let here : took_here from.0 to.0 logged ≡ msg ∷ [] = ap (λ (e : Event). cond (node_of e == to.0) (cond (is_from from.0 e) (option_to_list logged.taken) []) []) is
        ∙ (λ x. cond (eq-eqb to.0 to.0 refl x) (cond (eq-eqb from.0 from.0 refl x) (option_to_list (took x)) []) []) in
        let begins : took_from from.0 (mine to.0 (logged ∷ rest)) ≡ msg ∷ took_from from.0 (mine to.0 rest) = took_split from.0 to.0 logged rest ∙ ap (λ (xs : List Msg). xs ++ took_from from.0 (mine to.0 rest)) here in
        let agree = left.agree from.0 to.0 l.0 l.1 in
        front_of (link_at parts s from.0 to.0) (sent_to to.0 (mine from.0 (logged ∷ rest))) msg (ap front (ap (λ (xs : List Msg). xs ++ agree.0) (sym begins) ∙ agree.1)) (never_later from.0 to.0 msg took)

    taken_some : (from to : NodeNo) → event ≡ Deliver from to → (msg : Msg) × (logged.taken ≡ Some msg)
    taken_some from to is = some_taken logged.taken (subst (λ (e : Event). IsTrue (takes_rightly e logged.taken)) is run.0.taken)

    -- the entry takes what its log says
    pub taken_right : taken_by parts s event ≡ logged.taken
    taken_right = go event refl
      where
        takes : (e : Event) → event ≡ e → IsTrue (takes_rightly e logged.taken)
        takes e is = subst (λ (e : Event). IsTrue (takes_rightly e logged.taken)) is run.0.taken

        go : (e : Event) → event ≡ e → taken_by parts s e ≡ logged.taken
        go (Instr at) is = none_taken logged.taken (takes (Instr at) is)
        go (Handle at) is = none_taken logged.taken (takes (Handle at) is)
        go (Evict at emptied) is = none_taken logged.taken (takes (Evict at emptied) is)
        go (Deliver from to) is = let t = taken_some from to is in delivered from to t.0 is t.1 ∙ sym t.1

    pub stepped_is : stepped_by parts parameters s event ≡ node_step parts parameters n (node_at s n) event logged.taken
    stepped_is = ap (node_step parts parameters n (node_at s n) event) taken_right

    -- it is legal
    pub next_legal : IsNext parts parameters s logged.entry
    next_legal =
        let stamp : logged.entry.stamp ≡ stamp_at parts s event = run.0.stamp ∙ sym (ap (stamp_of (node_at s n).clock) taken_right) in
        record {
          enabled = ap (is_enabled_at parts parameters n (node_at s n) event) taken_right ∙ run.0.enabled;
          within = low_within logged.entry.stamp (stamp_at parts s event) parameters.limit (has_halted s) run.0.within stamp;
          stamp = stamp;
        }

    abbrev next : MachineState
    next = step parts parameters s logged.entry.event

    pub node_next : node_at next n ≡ (node_step parts parameters n (node_at s n) event logged.taken).node
    node_next = node_stepped parts parameters s event aimed next_legal.enabled ∙ ap (λ (v : Stepped). v.node) stepped_is

    runs_next : (k : ℕ) → IsRunFrom parts parameters k (node_at next k) (mine k rest)
    runs_next k = is_node _ k n
        (λ same. subst (λ (a : ℕ). IsRunFrom parts parameters a (node_at next a) (mine a rest)) (sym same) (subst (λ (node : NodeState). IsRunFrom parts parameters n node (mine n rest)) (sym node_next) run.1))
        (λ other. subst (λ (node : NodeState). IsRunFrom parts parameters k node (mine k rest)) (sym (node_kept parts parameters s event (stepped_by parts parameters s event) k other))
        (subst (IsRunFrom parts parameters k (node_at s k)) (ap (λ b. cond b (logged ∷ mine k rest) (mine k rest)) (ne_eqb n k (λ same. other (sym same)))) (left.runs k)))

    -- ---- links

    pub link_next : (a b : ℕ) → b < node_count parts → took_here a b logged ++ link_at parts next a b ≡ link_at parts s a b ++ sent_here a b logged
    link_next a b m = link_moves parts parameters s aimed logged next_legal.enabled taken_right (run.0.sent ∙ sym (ap (λ (v : Stepped). v.sends) stepped_is)) a b m

    agree_next : (a b : ℕ) → a < node_count parts → b < node_count parts → IsFront (took_from a (mine b rest)) (link_at parts next a b ++ sent_to b (mine a rest))
    agree_next a b l m =
        let agree = left.agree a b l m in (
          agree.0,
          moves_on (took_here a b logged) (took_from a (mine b rest)) agree.0 (link_at parts s a b) (sent_here a b logged) (sent_to b (mine a rest)) (link_at parts next a b) (link_next a b m)
              (ap (λ (xs : List Msg). xs ++ agree.0) (sym (took_split a b logged rest)) ∙ (agree.1 ∙ ap (λ (xs : List Msg). link_at parts s a b ++ xs) (sent_split a b logged rest))),
        )

    -- and the rest is what is left then
    pub left_next : IsLeft next rest
    left_next = record { runs = runs_next; agree = agree_next; ascend = left.ascend.1 }
