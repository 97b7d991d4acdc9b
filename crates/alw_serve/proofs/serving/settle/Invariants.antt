-- Deliveries and actions of the handler alone were taken so far; no machine's journal has 2^32 entries.
use Rattle.std.proofs.Common.{◌≡◌, ◌-◌, List, length}
use Rattle.alw_msg.specs.declared.events.Entry.{Entry}
use Rattle.law_turns.specs.Orders.{AllQuiet}
use Rattle.alw_mesh.specs.Histories.{IsRun}
use Rattle.alw_serve.specs.Serving.{with_more}
use Rattle.alw_serve.proofs.serving.settle.Given as goal

abbrev pub invariant-loop-machine : goal.invariant-loop-machine
invariant-loop-machine l = record {
  more : List Entry;
  after_is : l.machine ≡ with_more l.fn.machine more;
  run : IsRun l.machine;
  quiet : AllQuiet more;
}

abbrev pub decreases-loop-machine : goal.decreases-loop-machine
decreases-loop-machine l = 4294967296 - length l.machine.journal
