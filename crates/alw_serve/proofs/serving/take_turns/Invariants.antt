-- The turns before this one were served.
use Rattle.alw_serve.proofs.Taking.{IsServedTo}
use Rattle.alw_serve.proofs.serving.take_turns.Given as goal

abbrev pub invariant-loop-turn : goal.invariant-loop-turn
invariant-loop-turn l = IsServedTo l.fn.machine.image l.fn.machine.parameters l.turns l.turn l.machine
