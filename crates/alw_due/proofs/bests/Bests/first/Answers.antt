-- The place of the least start.
use Rattle.std.proofs.Common.{Option, None, sym, ap, subst, ◌∙◌, arith}
use Rattle.std.proofs.lemmas.List.{get_or_read}
use Rattle.alw_due.specs.declared.keys.Due.{Due}
use Rattle.alw_due.specs.Bests.{best_at, IsFirstKept}
use Rattle.alw_due.proofs.Kept.{first_kept}
use Rattle.alw_due.proofs.bests.Bests.first.Goals as goal

pub returns-clause-first : goal.returns-clause-first
returns-clause-first c =
    let bests = c.self.inside.dues.items in
    let read = get_or_read bests c.from.result c.index.result.now (omega (arith, c.self.invariant.counted, c.from.ensures)) c.index.ensures None in
    let first = first_kept bests c.self.inside.starts c.first-place.result c.self.invariant c.first-place.ensures.first in
    rw (← c.self.view_is) (subst (λ (best : Option Due). IsFirstKept bests best) (ap (best_at bests) (sym c.from.ensures) ∙ sym read) first)
