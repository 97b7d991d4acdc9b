-- What a search has found is told, each ending once.
use Rattle.std.proofs.Common.{ℕ, List, map, sym, ap, ◌∙◌, subst}
use Rattle.std.specs.Prelude.{IsTrue}
use Rattle.alw_places.specs.Outcomes.{HasEvery}
use Rattle.alw_outcomes.specs.Explored.{Found, found_in, endings_in, trap_of, IsReal}
use Rattle.alw_outcomes.specs.Endings.{halt_at}
use Rattle.alw_outcomes.specs.declared.explored.Trapped.{Trapped}
use Rattle.alw_outcomes.proofs.Storing.{places_length}
use Rattle.alw_endings.proofs.Told.{keeps_places, are_outcomes}
use Rattle.alw_endings.proofs.telling.outcomes_of.Goals as goal

pub endings_of-requires-clause-real : goal.endings_of-requires-clause-real
endings_of-requires-clause-real c = subst (λ (f : Found). IsReal c.args.image.now f) (sym c.in_ok-stuck.ensures.same) c.in_ok-found.ensures.real

pub traps_of-requires-clause-real : goal.traps_of-requires-clause-real
traps_of-requires-clause-real c = subst (λ (f : Found). IsReal c.args.image.now f) (sym c.in_ok-stuck.ensures.same) c.in_ok-found.ensures.real

pub halts_of-requires-clause-real : goal.halts_of-requires-clause-real
halts_of-requires-clause-real c = subst (λ (f : Found). IsReal c.args.image.now f) (sym c.in_ok-stuck.ensures.same) c.in_ok-found.ensures.real

pub returns-clause-are : goal.returns-clause-are
returns-clause-are c =
    are_outcomes c.args.image.now (found_in c.stuck_run.new.found) c.in_ok-endings.endings _
    (c.in_ok-halts.ensures.told ∙ ap (λ (ends : List ℕ). map (halt_at (found_in c.stuck_run.new.found)) ends) c.deref.ensures.value)
    (c.in_ok-traps.ensures.told ∙ ap (λ (turns : List Trapped). map trap_of turns) c.deref-2.ensures.value) c.in_ok-endings.ensures.different
    c.sizes.ensures
    (keeps_places c.args.image.now (found_in c.in_ok-found.found) _ c.in_ok-found.ensures.real c.in_ok-found.ensures.different (places_length c.in_ok-found.found ∙ sym c.in_ok-found.found.memories.ok.0 ∙ sym c.len-places.ensures))
    c.in_ok-halts.ensures.each c.in_ok-traps.ensures.each
    (subst (λ (f : Found). IsTrue c.in_ok-found.found.is_complete → HasEvery c.args.image.now (endings_in f)) (sym c.in_ok-stuck.ensures.same) c.in_ok-found.ensures.complete)
    c.in_ok-stuck.ensures.stuck
