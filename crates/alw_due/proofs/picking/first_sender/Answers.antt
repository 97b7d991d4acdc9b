-- One sender more.
use Rattle.std.proofs.Common.{refl, ap, ◌∙◌, arith}
use Rattle.alw_num.specs.NodeSets.{nodes_of}
use Rattle.alw_num.proofs.Sets.{has-none}
use Rattle.alw_image.specs.declared.parts.Parts.{Parts}
use Rattle.alw_due.specs.Picks.{arrived_from}
use Rattle.alw_due.proofs.Deliveries.{begins, earlier_one, later_one, ends}
use Rattle.alw_due.proofs.picking.first_sender.Goals as goal

pub returns-in_err-first : goal.returns-in_err-first
returns-in_err-first c = rw c.from_residual.ensures (λ from. rw (c.in_err-first.ensures.none.0 refl) (has-none from))

pub returns-then-is_empty : goal.returns-then-is_empty
returns-then-is_empty c =
    let senders = nodes_of c.args.senders in
    let first = c.in_ok-first.first.0 in
    ends c.args.machine.now.image c.args.clocks.now c.args.to.0 senders (nodes_of c.remove.new.self) first _ (c.if-is_empty.ensures.0 refl)
    (begins c.args.machine.now.image c.args.clocks.now c.args.to.0 senders (nodes_of c.remove.new.self) first _ c.in_ok-first.ensures.lowest c.remove.ensures refl)

pub loop-from-init : goal.loop-from-init
loop-from-init c =
    begins c.args.machine.now.image c.args.clocks.now c.args.to.0 (nodes_of c.args.senders) (nodes_of c.remove.new.self) c.in_ok-first.first.0 c.arrival-arrival.result
    c.in_ok-first.ensures.lowest c.remove.ensures
    (c.arrival-arrival.ensures ∙ ap (λ (parts : Parts). arrived_from parts c.args.clocks.now c.args.to.0 c.in_ok-first.first.0) c.image.ensures)

pub loop-from-preserved-then-other-arrival : goal.loop-from-preserved-then-other-arrival
loop-from-preserved-then-other-arrival c =
    earlier_one c.args.machine.now.image c.args.clocks.now c.args.to.0 (nodes_of c.args.senders) (nodes_of c.loop-from.left) (nodes_of c.remove-in-Some.new.self)
    c.loop-from.first.0 c.loop-from.arrival c.in-Some.from.0 c.arrival-other.result c.loop-from.invariant c.in-Some.ensures.lowest c.remove-in-Some.ensures
    (c.arrival-other.ensures ∙ ap (λ (parts : Parts). arrived_from parts c.args.clocks.now c.args.to.0 c.in-Some.from.0) c.image-in-Some.ensures) (omega (arith, c.if-other-arrival.true))

pub loop-from-preserved : goal.loop-from-preserved
loop-from-preserved c =
    later_one c.args.machine.now.image c.args.clocks.now c.args.to.0 (nodes_of c.args.senders) (nodes_of c.loop-from.left) (nodes_of c.remove-in-Some.new.self)
    c.loop-from.first.0 c.loop-from.arrival c.in-Some.from.0 c.arrival-other.result c.loop-from.invariant c.in-Some.ensures.lowest c.remove-in-Some.ensures
    (c.arrival-other.ensures ∙ ap (λ (parts : Parts). arrived_from parts c.args.clocks.now c.args.to.0 c.in-Some.from.0) c.image-in-Some.ensures) (omega (arith, c.if-other-arrival.false))

pub returns : goal.returns
returns c =
    ends c.args.machine.now.image c.args.clocks.now c.args.to.0 (nodes_of c.args.senders) (nodes_of c.loop-from.left) c.loop-from.first.0 c.loop-from.arrival
    (c.in_default.ensures.none.0 refl) c.loop-from.invariant
