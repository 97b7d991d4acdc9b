-- The turn traps at its place, to which the turns before it lead.
use Rattle.std.proofs.Common.{ap, ◌∙◌}
use Rattle.alw_msg.specs.Stretches.{stretches}
use Rattle.alw_outcomes.specs.Explored.{found_in}
use Rattle.alw_endings.proofs.Told.{trapped_at, within, trap_is}
use Rattle.alw_endings.proofs.telling.trap_of.Goals as goal

pub turns_to-requires-clause-at : goal.turns_to-requires-clause-at
turns_to-requires-clause-at c =
    let is = trapped_at c.args.image.now (found_in c.args.found.now) c.args.turn c.requires.real c.requires.listed in within c.args.found.now c.args.turn.at is.place is.there

pub returns-clause-is : goal.returns-clause-is
returns-clause-is c =
    trap_is c.args.image.now (found_in c.args.found.now) c.args.turn c.in_ok-turns.turns.items _ c.requires.real c.requires.listed c.in_ok-turns.ensures
    c.in_ok-push.ensures.items _ (c.in_ok-runs.ensures ∙ ap stretches c.deref.ensures.value)
