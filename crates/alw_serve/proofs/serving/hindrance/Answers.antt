-- A context that can't take its turn isn't Ready on the flat memory, another slot runs, or the limit stands against it.
use Rattle.std.proofs.Common.{◌≡◌, ◌<◌, ◌≤◌, true, Some, sym, subst, ap, ◌∙◌, arith}
use Rattle.alw_image.specs.Images.{context_count}
use Rattle.alw_msg.specs.declared.events.Event.TheVariants.{Instr}
use Rattle.alw_msg.specs.Statuses.{is_ready}
use Rattle.alw_model.specs.Contexts.{running}
use Rattle.alw_mesh.specs.Histories.{may_be_next}
use Rattle.alw_mesh.specs.Readings.{node_in}
use Rattle.alw_serve.proofs.Hindering.{trapped_so, past_so, idle_so, other_runs, calm_so, flat_ready, option_is, option_not}
use Rattle.alw_serve.proofs.serving.hindrance.Goals as goal
use Rattle.alw_serve.proofs.serving.hindrance.Goals.{then-has_trapped-via-then-has_trapped, then-has_trapped-via-else-has_trapped+then-context-all_contexts}

pub returns-then-has_trapped-clause-why : goal.returns-then-has_trapped-clause-why
returns-then-has_trapped-clause-why c = λ one settled. elim c.then-has_trapped.branch [
  | then-has_trapped-via-then-has_trapped w ↦ trapped_so c.args.machine.now c.has_trapped.ensures.run (sym c.has_trapped.ensures.trapped ∙ w.if-has_trapped.true) c.args.context
  | then-has_trapped-via-else-has_trapped+then-context-all_contexts w ↦
      past_so c.args.machine.now c.has_trapped.ensures.run c.args.context (subst (λ k. k ≤ c.args.context) (w.all_contexts.ensures.count ∙ ap context_count w.image.ensures) (omega (arith, w.if-context-all_contexts.true)))
]

pub returns-then-not-is_ready-clause-why : goal.returns-then-not-is_ready-clause-why
returns-then-not-is_ready-clause-why c = λ one settled.
    let here : c.args.context < context_count c.args.machine.now.image = subst (λ k. c.args.context < k) (c.all_contexts.ensures.count ∙ ap context_count c.image.ensures) (omega (arith, c.if-context-all_contexts.false)) in
    idle_so c.args.machine.now c.has_trapped.ensures.run c.args.context here settled c.status.result c.status.ensures.status c.status.ensures.flat (sym c.is_ready.ensures ∙ c.if-not-is_ready.true)

pub returns-then-ne-clause-why : goal.returns-then-ne-clause-why
returns-then-ne-clause-why c = λ one.
    let here : c.args.context < context_count c.args.machine.now.image = subst (λ k. c.args.context < k) (c.all_contexts.ensures.count ∙ ap context_count c.image.ensures) (omega (arith, c.if-context-all_contexts.false)) in
    let ready : is_ready c.status.result ≡ true = sym c.is_ready.ensures ∙ c.if-not-is_ready.false in
    other_runs c.args.machine.now c.has_trapped.ensures.run c.args.context here (ap is_ready (sym c.status.ensures.status) ∙ ready)
    (λ runs. option_not c.current.result c.slot_of.result c.ne.result c.ne.ensures c.if-ne.true
    (c.current.ensures ∙ (ap (λ k. running (node_in c.args.machine.now k).slots (node_in c.args.machine.now k).current) c.node_of-node.ensures.node ∙ (runs ∙ ap Some (sym c.slot_of.ensures))))) one

pub returns-clause-why : goal.returns-clause-why
returns-clause-why c =
    let here : c.args.context < context_count c.args.machine.now.image = subst (λ k. c.args.context < k) (c.all_contexts.ensures.count ∙ ap context_count c.image.ensures) (omega (arith, c.if-context-all_contexts.false)) in
    let ready : is_ready c.status.result ≡ true = sym c.is_ready.ensures ∙ c.if-not-is_ready.false in
    record {
      here = here;
      ready = ap is_ready (sym c.status.ensures.status) ∙ ready;
      flat = ap is_ready (sym c.status.ensures.flat) ∙ flat_ready c.status.result ready;
      runs = ap (λ k. running (node_in c.args.machine.now k).slots (node_in c.args.machine.now k).current) (sym c.node_of-node.ensures.node)
          ∙ (sym c.current.ensures ∙ (option_is c.current.result c.slot_of.result c.ne.result c.ne.ensures c.if-ne.false ∙ ap Some c.slot_of.ensures));
      may = ap (λ k. may_be_next c.args.machine.now (Instr (record { 0 = k }))) (sym c.node_of-node.ensures.node) ∙ (sym c.may.ensures ∙ c.if-not-may.false);
      calm = calm_so c.args.machine.now c.has_trapped.ensures.run (sym c.has_trapped.ensures.trapped ∙ c.if-has_trapped.false);
    }
