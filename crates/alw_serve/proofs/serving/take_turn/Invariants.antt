-- The turn is under way; no machine's journal has 2^32 entries.
use Rattle.std.proofs.Common.{◌≡◌, ◌-◌, List, length}
use Rattle.alw_msg.specs.declared.events.Entry.{Entry}
use Rattle.alw_serve.specs.Serving.{with_more}
use Rattle.alw_serve.proofs.Stepping.{TurnIsUnderWay}
use Rattle.alw_serve.proofs.serving.take_turn.Given as goal

abbrev pub invariant-loop-why : goal.invariant-loop-why
invariant-loop-why l = record {
  more : List Entry;
  after_is : l.machine ≡ with_more l.fn.machine more;
  way : TurnIsUnderWay l.fn.machine l.context more;
}

abbrev pub decreases-loop-why : goal.decreases-loop-why
decreases-loop-why l = 4294967296 - length l.machine.journal
