-- The link is the one of the end, and the end that it moves stays tied.
use Rattle.std.proofs.Common.{◌≡◌, ◌<◌, ◌*◌, ◌+◌, length, slice_get, Some, refl, sym, subst, arith}
use Rattle.std.proofs.lemmas.Option.{slice_get_read}
use Rattle.alw_work.proofs.Tying.{same_link, tied_fetch}
use Rattle.alw_work.proofs.moves.fetch_at.Goals as goal

pub fetch_from-requires-clause-link : goal.fetch_from-requires-clause-link
fetch_from-requires-clause-link g c =
    let ins = c.args.ins.now.items in
    let come = c.index_mut.result.now in
    let below : c.from-at.result < length ins = omega (arith, c.if-from-nodes.false, c.from-at.ensures, c.requires.tied.count) in
    let here = subst (λ k. slice_get ins k ≡ Some come) c.from-at.ensures (slice_get_read ins _ c.from-at.result come refl below c.index_mut.ensures.value) in
    let there = slice_get_read c.args.links.now _ _ c.in-Some.link.now refl c.in-Some.ensures.lookup.3.0 c.in-Some.ensures.lookup.1 in
    same_link c.args.links.now _ _ come.end.link c.in-Some.link.now (λ i. sym c.from-at.ensures i * sym c.from.ensures i + sym c.from-2.ensures i)
    (c.requires.tied.each c.args.from.0 come here).name there

pub returns-clause-tied : goal.returns-clause-tied
returns-clause-tied g c =
    let ins = c.args.ins.now.items in
    let come = c.index_mut.result.now in
    let below : c.from-at.result < length ins = omega (arith, c.if-from-nodes.false, c.from-at.ensures, c.requires.tied.count) in
    let here = subst (λ k. slice_get ins k ≡ Some come) c.from-at.ensures (slice_get_read ins _ c.from-at.result come refl below c.index_mut.ensures.value) in
    rw c.from-at.ensures (tied_fetch c.args.links.now c.args.nodes c.args.number.0 c.args.cell.now c.fetch_from.new.cell c.args.from.0 ins come
    c.fetch_from.new.come c.requires.tied here c.fetch_from.ensures)
