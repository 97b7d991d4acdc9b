-- A slot more.
use Rattle.std.proofs.Common.{◌≡◌, ℕ, ◌+◌, ◌*◌, ◌<◌, ◌++◌, refl, ap, ◌∙◌, arith}
use Rattle.std.proofs.lemmas.Nat.{mul-add-lt}
use Rattle.alw_image.specs.declared.parts.Parts.{Parts}
use Rattle.alw_image.specs.Images.{node_count}
use Rattle.alw_mesh.specs.Histories.{state_of}
use Rattle.alw_save.specs.States.{slot_in, slot_text, context_text}
use Rattle.alw_num.proofs.Lists.{grows_by_number}
use Rattle.alw_save.proofs.contexts.put_contexts.Goals as goal

pub put_slot-requires : goal.put_slot-requires
put_slot-requires c =
    let image = c.args.machine.now.image in
    let count : c.from-contexts.result ≡ image.contexts = c.from-contexts.ensures ∙ (c.contexts.ensures ∙ ap (λ (p : Parts). p.contexts) c.image.ensures) in
    let slot : c.loop-slot.slot < image.contexts = omega (arith, c.loop-slot-test.true, count) in
    let less = mul-add-lt c.args.n.0 image.contexts c.loop-slot.slot (node_count image) c.requires slot in
    rw (c.from.ensures, count) (grind arith)

pub loop-slot-preserved : goal.loop-slot-preserved
loop-slot-preserved c =
    let h = c.args.machine.now in
    let count : c.from-contexts.result ≡ h.image.contexts = c.from-contexts.ensures ∙ (c.contexts.ensures ∙ ap (λ (p : Parts). p.contexts) c.image.ensures) in
    let at : c.from.result * c.from-contexts.result + c.loop-slot.slot ≡ c.args.n.0 * h.image.contexts + c.loop-slot.slot = rw (c.from.ensures, count) refl in
    grows_by_number (context_text h.image (state_of h) c.args.n.0) c.loop-slot.slot _ _ _ c.loop-slot.invariant
    (c.in_ok-put_slot.ensures ∙ ap (λ (k : ℕ). c.loop-slot.text ++ slot_text k (slot_in h.image (state_of h) k)) at)
