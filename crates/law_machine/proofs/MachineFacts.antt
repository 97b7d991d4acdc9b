-- What the machine invariant's induction gives of contexts, transactions and clocks.
use Rattle.std.proofs.Common.{◌≡◌, ℕ, ◌-◌, ◌^◌, ◌<◌, true, Option, Some, None, IsTrue, refl, sym, ap, ◌∙◌}
use Rattle.std.specs.Prelude.{is_some}
use Rattle.std.proofs.lemmas.Bool.{false≢true}
use Rattle.alw_num.proofs.Weigh.{is_node}
use Rattle.law_machine.proofs.Vocabulary.{value_at, Mode, Msg, Ready, node_count, Copy, Cache, Transaction, grants, copy_at, granted_copy, waits_on, slot_at, front, state, node_at, link_at}
use Rattle.law_machine.proofs.Vocabulary.{is_fit, MachineInvariant}
use Rattle.law_lines.proofs.Instructions.{kept_is}
use Rattle.law_machine.specs.Machines.{OnEveryMachine}
use Rattle.law_machine.proofs.ContextFacts.{waits_once}
use Rattle.law_machine.proofs.Sends.{MsgStands}
use Rattle.law_machine.proofs.Timing.{each_front}
use Rattle.law_machine.proofs.MachineRuns.{always_kept, invariant_is, clocks_small, fit_on}

pub always_invariant : OnEveryMachine (λ parts parameters journal machine. MachineInvariant parts parameters machine)
always_invariant parts image parameters are journal legal = invariant_is parts image parameters are (state parts parameters journal) (always_kept parts image parameters are journal legal)

pub always_ready : OnEveryMachine (λ parts parameters journal machine. (n : ℕ) → n < node_count parts → (slot line : ℕ) → (slot_at (node_at machine n).slots slot).hold ≡ Some line → (slot_at (node_at machine n).slots slot).status ≡ Ready)
always_ready parts image parameters are journal legal n here slot line e = ((((always_kept parts image parameters are journal legal).has.contexts n here).each slot).holds line e).ready

pub always_copy : OnEveryMachine (λ parts parameters journal machine. (n : ℕ) → n < node_count parts → (slot line : ℕ) → (slot_at (node_at machine n).slots slot).hold ≡ Some line → IsTrue (is_some (copy_at parameters.sets (node_at machine n).cache line)))
always_copy parts image parameters are journal legal n here slot line e =
    let cache = (node_at (state parts parameters journal) n).cache in
    let h = (((always_kept parts image parameters are journal legal).has.contexts n here).each slot).holds line e in
    go cache h.mode (granted_copy parameters.sets cache line h.mode) refl h.granted
  where
    go : (cache : Cache) (mode : Mode) (o : Option Copy) → granted_copy parameters.sets cache line mode ≡ o → is_some o ≡ true → is_some (copy_at parameters.sets cache line) ≡ true
    go cache mode None e is = absurd (false≢true is)
    go cache mode (Some copy) e is = ap is_some (kept_is (λ (c : Copy). grants c.mode mode) (copy_at parameters.sets cache line) copy e).0

pub always_open : OnEveryMachine (λ parts parameters journal machine. (n : ℕ) → n < node_count parts → (slot line : ℕ) → IsTrue (waits_on line (slot_at (node_at machine n).slots slot).status) → IsTrue (is_some (value_at (node_at machine n).transactions line)))
always_open parts image parameters are journal legal n here slot line e = (((always_kept parts image parameters are journal legal).has.contexts n here).each slot).waits line e

pub always_once : OnEveryMachine (λ parts parameters journal machine. (n : ℕ) → n < node_count parts → (one other : ℕ) → (first second : Transaction) → value_at (node_at machine n).transactions one ≡ Some first → value_at (node_at machine n).transactions other ≡ Some second → first.opener ≡ second.opener → one ≡ other)
always_once parts image parameters are journal legal n here one other first second e f same =
    let slots = (node_at (state parts parameters journal) n).slots in
    let contexts = (always_kept parts image parameters are journal legal).has.contexts n here in
    let waits = (contexts.opened one first e).waits in
    let also : waits_on other (slot_at slots first.opener).status ≡ true = ap (λ k. waits_on other (slot_at slots k).status) same ∙ (contexts.opened other second f).waits in
    is_node _ one other (λ is. is) (λ apart. absurd (false≢true (sym (waits_once one other (slot_at slots first.opener).status waits (λ is. apart (sym is))) ∙ also)))

pub always_small : OnEveryMachine (λ parts parameters journal machine. (n : ℕ) → n < node_count parts → (node_at machine n).clock < 2 ^ 32 - 1)
always_small parts image parameters are journal legal = clocks_small parts image parameters are (state parts parameters journal) (always_kept parts image parameters are journal legal)

pub always_fit : OnEveryMachine (λ parts parameters journal machine. (from to : ℕ) → from < node_count parts → to < node_count parts → (msg : Msg) → front (link_at parts machine from to) ≡ Some msg → IsTrue (is_fit parts from to msg))
always_fit parts image parameters are journal legal from to f t msg e =
    let s = state parts parameters journal in
    let kept = always_kept parts image parameters are journal legal in
    fit_on parts image parameters are s kept from to msg (each_front (MsgStands parts from to (node_at s from).clock) (link_at parts s from to) msg (kept.times.links from to f t) e) f
