-- A legal journal and its next entry.
use Rattle.std.proofs.Common.{◌≡◌, true, false, not, ◌&&◌, sym, ap, ◌∙◌}
use Rattle.std.proofs.lemmas.Bool.{true≢false}
use Rattle.alw_image.specs.Parameters.{Parameters}
use Rattle.alw_model.specs.Machine.{has_halted}
use Rattle.alw_tally.specs.Told.{told_with}
use Rattle.alw_mesh.specs.Grids.{Grid}
use Rattle.alw_mesh.proofs.Journals.{journal_fits, next_may, few_remain, sends_below_rows, comes_from_row, heads_fit, take_answers, machine_grows, rows_renewed, rows_stay, end_stays}
use Rattle.alw_mesh.proofs.machines.Machine.take.Goals as goal

pub push-requires : goal.push-requires
push-requires c = journal_fits _ c.self.invariant.run

pub happen-happening-requires-clause-few : goal.happen-happening-requires-clause-few
happen-happening-requires-clause-few c = rw c.in_ok-reserve-2.ensures.ok (few_remain c.self.invariant)

pub renew-requires-clause-below : goal.renew-requires-clause-below
renew-requires-clause-below c =
    let may = next_may c.self.invariant c.args.event (rw (← c.self.view_is) at c.requires) in
    let happens = rw c.in_ok-reserve-2.ensures.ok at c.happen-happening.ensures in
    sends_below_rows c.self.invariant c.args.event may happens

pub renew-requires-clause-from : goal.renew-requires-clause-from
renew-requires-clause-from c = comes_from_row c.self.invariant c.args.event (next_may c.self.invariant c.args.event (rw (← c.self.view_is) at c.requires))

pub renew-requires-clause-fit : goal.renew-requires-clause-fit
renew-requires-clause-fit c =
    let may = next_may c.self.invariant c.args.event (rw (← c.self.view_is) at c.requires) in
    let happens = rw c.in_ok-reserve-2.ensures.ok at c.happen-happening.ensures in
    heads_fit c.self.invariant c.args.event may happens

pub renew_all-requires-clause-fit : goal.renew_all-requires-clause-fit
renew_all-requires-clause-fit c =
    let may = next_may c.self.invariant c.args.event (rw (← c.self.view_is) at c.requires) in
    let happens = rw c.in_ok-reserve-2.ensures.ok at c.happen-happening.ensures in
    heads_fit c.self.invariant c.args.event may happens

pub invariant_of-self-2 : goal.invariant_of-self-2
invariant_of-self-2 c =
    let may = next_may c.self.invariant c.args.event (rw (← c.self.view_is) at c.requires) in
    let happens = rw c.in_ok-reserve-2.ensures.ok at c.happen-happening.ensures in
    let had = c.has_halted-had_halted.ensures ∙ ap (λ (g : Grid). has_halted g.machine) c.in_ok-reserve-2.ensures.ok in
    machine_grows c.self.invariant c.args.event may happens c.stamp-stamp.ensures c.in_ok-push.ensures.ok
    (λ moment of. c.add-2.ensures.told moment of ∙ (λ i. told_with (c.image-2.ensures i) (c.reserve.ensures.told i) moment))
    (rows_renewed c.self.invariant c.args.event may happens c.is_wide.result c.flips.result c.is_wide.ensures (c.flips.ensures ∙ (λ i. not (had i) && c.has_halted.ensures i)) c.renew.ensures)

pub invariant_of-self-then-stamp-limit : goal.invariant_of-self-then-stamp-limit
invariant_of-self-then-stamp-limit c =
    let may = next_may c.self.invariant c.args.event (rw (← c.self.view_is) at c.requires) in
    let happens = rw c.in_ok-reserve-2.ensures.ok at c.happen-happening.ensures in
    machine_grows c.self.invariant c.args.event may happens c.stamp-stamp.ensures c.in_ok-push.ensures.ok
    (λ moment of. c.add.ensures.told moment of ∙ (λ i. told_with (c.image.ensures i) (c.reserve.ensures.told i) moment))
    (rows_stay c.self.invariant c.args.event may happens c.stamp-stamp.result c.limit.result c.stamp-stamp.ensures (c.limit.ensures.value ∙ ap (λ (p : Parameters). p.limit) c.params.ensures)
    c.if-stamp-limit.true c.if-happening.true)

pub invariant_of-self-then-happening : goal.invariant_of-self-then-happening
invariant_of-self-then-happening c =
    let may = next_may c.self.invariant c.args.event (rw (← c.self.view_is) at c.requires) in
    let happens = rw c.in_ok-reserve-2.ensures.ok at c.happen-happening.ensures in
    machine_grows c.self.invariant c.args.event may happens c.stamp-stamp.ensures c.in_ok-push.ensures.ok
    (λ moment of. c.add.ensures.told moment of ∙ (λ i. told_with (c.image.ensures i) (c.reserve.ensures.told i) moment))
    c.renew_all.ensures

pub returns-then-happening : goal.returns-then-happening
returns-then-happening c =
    let may = next_may c.self.invariant c.args.event (rw (← c.self.view_is) at c.requires) in
    let happens = rw c.in_ok-reserve-2.ensures.ok at c.happen-happening.ensures in
    rw (← c.self.view_is) (take_answers c.self.invariant c.args.event may happens c.stamp-stamp.ensures c.in_ok-push.ensures.ok false (λ (is : false ≡ true). absurd (cc)))

pub returns-then-stamp-limit : goal.returns-then-stamp-limit
returns-then-stamp-limit c =
    let may = next_may c.self.invariant c.args.event (rw (← c.self.view_is) at c.requires) in
    let happens = rw c.in_ok-reserve-2.ensures.ok at c.happen-happening.ensures in
    rw (← c.self.view_is) (take_answers c.self.invariant c.args.event may happens c.stamp-stamp.ensures c.in_ok-push.ensures.ok c.happen-happening.result.moment.quiet
    (λ is. end_stays c.self.invariant c.args.event may happens c.stamp-stamp.result c.limit.result c.stamp-stamp.ensures (c.limit.ensures.value ∙ ap (λ (p : Parameters). p.limit) c.params.ensures)
    c.if-stamp-limit.true c.if-happening.true))

pub returns : goal.returns
returns c =
    let may = next_may c.self.invariant c.args.event (rw (← c.self.view_is) at c.requires) in
    let happens = rw c.in_ok-reserve-2.ensures.ok at c.happen-happening.ensures in
    rw (← c.self.view_is) (take_answers c.self.invariant c.args.event may happens c.stamp-stamp.ensures c.in_ok-push.ensures.ok c.happen-happening.result.moment.quiet (λ is. absurd (true≢false (sym is ∙ c.if-happening.false))))
