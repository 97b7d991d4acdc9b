-- The turns lead to the place from which no end can be reached.
use Rattle.std.proofs.Common.{◌≡◌, sym, subst}
use Rattle.std.specs.Prelude.{slice_get, Some}
use Rattle.alw_outcomes.specs.Explored.{Found}
use Rattle.alw_endings.proofs.Told.{within}
use Rattle.alw_endings.proofs.telling.stuck_run.Goals as goal

pub turns_to-requires-clause-at : goal.turns_to-requires-clause-at
turns_to-requires-clause-at c =
    let is = rw c.in-At.is at c.in_ok-stuck_of.ensures.stuck in
    within c.stuck_of.new.found c.in-At.at is.place (subst (λ (f : Found). slice_get f.places c.in-At.at ≡ Some is.place) (sym c.in_ok-stuck_of.ensures.same) is.there)
