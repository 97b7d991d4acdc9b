-- What the contexts so far have printed.
use Rattle.std.proofs.Common.{◌≡◌, take}
use Rattle.alw_outcomes.specs.Explored.{place_in}
use Rattle.alw_outcomes.specs.Keys.{prints_key}
use Rattle.alw_outcomes.proofs.endings.key_of.Given as goal

abbrev pub invariant-loop-context : goal.invariant-loop-context
invariant-loop-context l = l.key.items ≡ prints_key (take l.context (place_in l.found l.at).printed)
