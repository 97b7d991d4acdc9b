-- A home line more.
use Rattle.std.proofs.Common.{◌≡◌, ℕ, ◌+◌, ◌*◌, ◌<◌, ◌++◌, refl, ap, ◌∙◌, arith}
use Rattle.std.proofs.lemmas.Nat.{mul-add-lt}
use Rattle.alw_image.specs.declared.parts.Parts.{Parts}
use Rattle.alw_image.specs.Images.{node_count}
use Rattle.alw_mesh.specs.Histories.{state_of}
use Rattle.alw_save.specs.States.{home_text}
use Rattle.alw_num.proofs.Lists.{grows_by_number}
use Rattle.alw_save.proofs.memory.put_homes.Goals as goal

pub put_changed-requires : goal.put_changed-requires
put_changed-requires c =
    let image = c.args.machine.now.image in
    let count : c.from-per_node.result ≡ image.per_node = c.from-per_node.ensures ∙ (c.per_node.ensures ∙ ap (λ (p : Parts). p.per_node) c.image.ensures) in
    let place : c.loop-place.place < image.per_node = omega (arith, c.loop-place-test.true, count) in
    let less = mul-add-lt c.args.n.0 image.per_node c.loop-place.place (node_count image) c.requires place in
    rw (c.from.ensures, count) (grind arith)

pub loop-place-preserved : goal.loop-place-preserved
loop-place-preserved c =
    let h = c.args.machine.now in
    let count : c.from-per_node.result ≡ h.image.per_node = c.from-per_node.ensures ∙ (c.per_node.ensures ∙ ap (λ (p : Parts). p.per_node) c.image.ensures) in
    let at : c.from.result * c.from-per_node.result + c.loop-place.place ≡ c.args.n.0 * h.image.per_node + c.loop-place.place = rw (c.from.ensures, count) refl in
    grows_by_number (λ place. home_text h.image (state_of h) (c.args.n.0 * h.image.per_node + place)) c.loop-place.place _ _ _ c.loop-place.invariant
    (c.in_ok-put_changed.ensures ∙ ap (λ (k : ℕ). c.loop-place.text ++ home_text h.image (state_of h) k) at)
