-- A slot more.
use Rattle.std.proofs.Common.{◌≡◌, ℕ, ◌+◌, ◌*◌, ◌<◌, refl, ap, ◌∙◌, arith}
use Rattle.std.proofs.lemmas.Nat.{mul-add-lt}
use Rattle.alw_image.specs.declared.parts.Parts.{Parts}
use Rattle.alw_image.specs.Images.{node_count}
use Rattle.alw_msg.specs.Statuses.{waited}
use Rattle.alw_mesh.specs.Readings.{slot_of}
use Rattle.alw_save.specs.Waiting.{lowest_of, waited_at}
use Rattle.alw_save.proofs.Waits.{lowest_more}
use Rattle.alw_save.proofs.Held.{waited_exists}
use Rattle.alw_save.proofs.maps.next_waited.Goals as goal

pub status-requires : goal.status-requires
status-requires c =
    let image = c.args.machine.now.image in
    let count : c.from-contexts.result ≡ image.contexts = c.from-contexts.ensures ∙ (c.contexts.ensures ∙ ap (λ (p : Parts). p.contexts) c.image.ensures) in
    let slot : c.loop-slot.slot < image.contexts = omega (arith, c.loop-slot-test.true, count) in
    let less = mul-add-lt c.args.n.0 image.contexts c.loop-slot.slot (node_count image) c.requires slot in
    rw (c.from.ensures, count) (grind arith)

pub loop-slot-preserved : goal.loop-slot-preserved
loop-slot-preserved c =
    let h = c.args.machine.now in
    let count : c.from-contexts.result ≡ h.image.contexts = c.from-contexts.ensures ∙ (c.contexts.ensures ∙ ap (λ (p : Parts). p.contexts) c.image.ensures) in
    let at : c.from.result * c.from-contexts.result + c.loop-slot.slot ≡ c.args.n.0 * h.image.contexts + c.loop-slot.slot = rw (c.from.ensures, count) refl in
    lowest_more (waited_at h c.args.n.0) c.args.from c.loop-slot.slot _ _ _ c.loop-slot.invariant c.nearest-next.ensures
    (ap waited (c.status.ensures.status ∙ ap (λ (k : ℕ). (slot_of h k).status) at))

pub returns-clause-exists : goal.returns-clause-exists
returns-clause-exists c =
    let h = c.args.machine.now in
    let count : c.from-contexts.result ≡ h.image.contexts = c.from-contexts.ensures ∙ (c.contexts.ensures ∙ ap (λ (p : Parts). p.contexts) c.image.ensures) in
    let all : c.loop-slot.slot ≡ h.image.contexts = omega (arith, c.loop-slot-test.false, c.loop-slot.auto.slot-end, count) in
    waited_exists h c.journal-run.ensures.run c.args.n.0 c.requires c.args.from c.loop-slot.next
    (c.loop-slot.invariant ∙ ap (lowest_of (waited_at h c.args.n.0) c.args.from) all)
