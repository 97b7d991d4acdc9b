-- All contexts have halted at the place, to which the turns lead.
use Rattle.std.proofs.Common.{ap, ◌∙◌}
use Rattle.alw_msg.specs.Stretches.{stretches}
use Rattle.alw_outcomes.specs.Explored.{found_in}
use Rattle.alw_endings.proofs.Told.{halted_at, within, halt_is, halt_tells}
use Rattle.alw_endings.proofs.telling.halt_of.Goals as goal

pub turns_to-requires-clause-at : goal.turns_to-requires-clause-at
turns_to-requires-clause-at c =
    let is = halted_at c.args.image.now (found_in c.args.found.now) c.args.at c.requires.real c.requires.listed in within c.args.found.now c.args.at is.place is.there

pub prints_of-requires-clause-at : goal.prints_of-requires-clause-at
prints_of-requires-clause-at c =
    let is = halted_at c.args.image.now (found_in c.args.found.now) c.args.at c.requires.real c.requires.listed in within c.args.found.now c.args.at is.place is.there

pub words_of-requires-clause-at : goal.words_of-requires-clause-at
words_of-requires-clause-at c =
    let is = halted_at c.args.image.now (found_in c.args.found.now) c.args.at c.requires.real c.requires.listed in within c.args.found.now c.args.at is.place is.there

pub returns-clause-is : goal.returns-clause-is
returns-clause-is c =
    halt_is c.args.image.now c.args.found.now c.args.at c.in_ok-turns.turns.items c.requires.real c.requires.listed c.in_ok-turns.ensures _
    (c.in_ok-runs.ensures ∙ ap stretches c.deref.ensures.value) c.in_ok-prints.ensures c.in_ok-memory.ensures

pub returns-clause-told : goal.returns-clause-told
returns-clause-told c =
    halt_tells c.args.image.now c.args.found.now c.args.at c.in_ok-turns.turns.items c.requires.real c.requires.listed c.in_ok-turns.ensures
    c.in_ok-prints.prints c.in_ok-memory.memory c.in_ok-runs.runs (c.in_ok-runs.ensures ∙ ap stretches c.deref.ensures.value)
