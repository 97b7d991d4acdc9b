-- The turns so far are taken, and what they printed is appended.
use Rattle.std.proofs.Common.{◌≡◌, ◌<◌, ◌≤◌, drop, length}
use Rattle.std.specs.List.{AllByRecursion}
use Rattle.alw_image.specs.Images.{context_count}
use Rattle.alw_audit.proofs.TurnRuns.{TurnsAreUnderWay}
use Rattle.alw_audit.proofs.auditing.run_turns.Given as goal

abbrev pub invariant-loop-context : goal.invariant-loop-context
invariant-loop-context l = record {
  way : TurnsAreUnderWay l.fn.flat.parts l.fn.flat.flat l.flat.flat l.turns (drop l.context-index l.turns) l.k l.fn.prints l.prints;
  parts : l.flat.parts ≡ l.fn.flat.parts;
  number : l.k ≡ l.context-index;
  few : length l.prints ≤ l.context-index;
  contexts : AllByRecursion (λ context. context < context_count l.fn.flat.parts) (drop l.context-index l.turns);
}
