-- The link is the one of the end, and the end that it moves stays tied.
use Rattle.std.proofs.Common.{◌≡◌, ◌<◌, ◌*◌, ◌+◌, length, slice_get, Some, refl, sym, subst, arith}
use Rattle.std.proofs.lemmas.Option.{slice_get_read}
use Rattle.alw_work.proofs.Tying.{same_link, tied_offer}
use Rattle.alw_work.proofs.moves.offer_at.Goals as goal

pub offer_to-requires : goal.offer_to-requires
offer_to-requires g c =
    let outs = c.args.outs.now.items in
    let out = c.index_mut.result.now in
    let below : c.from-at.result < length outs = omega (arith, c.if-at-len.false, c.len.ensures, c.args.outs.now.ok.0) in
    let here = subst (λ k. slice_get outs k ≡ Some out) c.from-at.ensures (slice_get_read outs _ c.from-at.result out refl below c.index_mut.ensures.value) in
    let there = slice_get_read c.args.links.now _ _ c.in-Some.link.now refl c.in-Some.ensures.lookup.3.0 c.in-Some.ensures.lookup.1 in
    same_link c.args.links.now _ _ out.end.link c.in-Some.link.now (λ i. sym c.from.ensures i * sym c.from-2.ensures i + sym c.from-at.ensures i)
    (c.requires.each c.args.to.0 out here).name there

pub returns-clause-tied : goal.returns-clause-tied
returns-clause-tied g c =
    let outs = c.args.outs.now.items in
    let out = c.index_mut.result.now in
    let below : c.from-at.result < length outs = omega (arith, c.if-at-len.false, c.len.ensures, c.args.outs.now.ok.0) in
    let here = subst (λ k. slice_get outs k ≡ Some out) c.from-at.ensures (slice_get_read outs _ c.from-at.result out refl below c.index_mut.ensures.value) in
    rw c.from-at.ensures (tied_offer c.args.links.now c.args.nodes c.args.number.0 c.args.cell.now c.offer_to.new.cell c.args.to.0 outs out
    c.offer_to.new.out c.requires here c.offer_to.ensures)
