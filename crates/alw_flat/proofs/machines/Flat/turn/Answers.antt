-- A turn over the memory is a turn of the flat machine, and doesn't miss.
use Rattle.std.proofs.Common.{[]}
use Rattle.alw_image.specs.declared.parts.Parts.{Parts}
use Rattle.alw_flat.proofs.Turns.{turns, never_misses}
use Rattle.alw_flat.proofs.machines.Flat.turn.Goals as goal

pub returns-clause-state : goal.returns-clause-state
returns-clause-state c =
    let turn = turns _ c.self.inside.memory c.turn-outcome.new.port c.self.inside.contexts.items c.args.context c.index_mut-here.result.now c.turn-outcome.new.regs c.left_by-here.result c.turn-outcome.result
    c.self.invariant.memory (rw (← c.self.view_is) at c.requires) c.index_mut-here.ensures.value c.left_by-here.ensures c.turn-outcome.ensures.run in
    rw (← c.self.view_is) turn.state_is

pub returns-clause-outcome : goal.returns-clause-outcome
returns-clause-outcome c =
    let parts : Parts = record { width = c.self.inside.width; height = c.self.inside.height; contexts = c.self.inside.slots; per_node = c.self.inside.per_node; code = c.self.inside.code; bodies = []; starts = []; always = [] } in
    let turn = turns parts c.self.inside.memory c.turn-outcome.new.port c.self.inside.contexts.items c.args.context c.index_mut-here.result.now c.turn-outcome.new.regs c.left_by-here.result c.turn-outcome.result
    c.self.invariant.memory (rw (← c.self.view_is) at c.requires) c.index_mut-here.ensures.value c.left_by-here.ensures c.turn-outcome.ensures.run in
    rw (← c.self.view_is) turn.outcome_is

pub returns-clause-hits : goal.returns-clause-hits
returns-clause-hits c = λ line mode miss. never_misses c.self.inside.code c.index_mut-here.result.now.regs c.self.inside.memory line mode ((c.turn-outcome.ensures.missed line mode).0 miss)
