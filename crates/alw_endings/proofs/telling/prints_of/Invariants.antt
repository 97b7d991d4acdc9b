-- The words of the contexts so far.
use Rattle.std.proofs.Common.{◌≡◌, []}
use Rattle.std.specs.Prelude.{slice_index_or}
use Rattle.alw_outcomes.specs.Explored.{place_in}
use Rattle.alw_endings.specs.Ends.{prints_by}
use Rattle.alw_endings.proofs.telling.prints_of.Given as goal

abbrev pub invariant-loop-context : goal.invariant-loop-context
invariant-loop-context l = l.prints ≡ prints_by (λ context. slice_index_or (place_in l.found l.at).printed context []) l.context
