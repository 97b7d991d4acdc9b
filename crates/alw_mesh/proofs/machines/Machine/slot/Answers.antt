-- The slot is a context of the flat machine.
use Rattle.std.proofs.Common.{ℕ, ◌+◌, ◌*◌, ◌<◌, sym, ap, subst, ◌∙◌, arith}
use Rattle.std.proofs.lemmas.Nat.{div-mul-add, mod-mul-add, mul-add-lt}
use Rattle.alw_image.specs.declared.parts.Parts.{Parts}
use Rattle.alw_image.specs.Images.{node_count, context_count}
use Rattle.alw_model.specs.Runs.{flat_context}
use Rattle.alw_mesh.specs.Grids.{IsNodeAt, IsSlotOf}
use Rattle.alw_mesh.proofs.Reading.{flat_slot}
use Rattle.alw_mesh.proofs.machines.Machine.slot.Goals as goal

pub returns-clause-flat : goal.returns-clause-flat
returns-clause-flat c =
    let image = c.self.inside.mesh.image in
    let node = rw (← c.self.view_is) at c.requires.node in
    let slot = rw (← c.self.view_is) at c.requires.slot in
    let context = c.args.n.0 * image.contexts + c.args.slot in
    let less = mul-add-lt c.args.n.0 image.contexts c.args.slot (node_count image) node slot in
    let exists : context < context_count image = grind arith in
    let shared = ap (λ (p : Parts). p.contexts) c.node-node.ensures.share in
    let of : IsSlotOf c.self.inside.mesh context c.node-node.result.now c.args.slot
    = record {
      node = subst (λ (k : ℕ). IsNodeAt c.self.inside.mesh k c.node-node.result.now) (sym (div-mul-add c.args.n.0 image.contexts c.args.slot slot)) c.node-node.ensures;
      slot_is = sym (mod-mul-add c.args.n.0 image.contexts c.args.slot slot);
      within = omega (arith, slot, shared, c.count-slots.ensures.count, c.count-slots.ensures.contexts);
    } in
    rw (← c.self.view_is) (ap flat_context c.of.ensures ∙ flat_slot c.self.invariant context c.node-node.result.now c.args.slot exists of)
