-- What is written, and the lines of the turns that are left, are the whole.
use Rattle.std.proofs.Common.{◌≡◌, ◌<◌, ◌++◌, drop}
use Rattle.std.specs.List.{AllByRecursion}
use Rattle.alw_image.specs.Images.{context_count}
use Rattle.alw_flat.specs.Machines.{for_turns}
use Rattle.alw_claims.specs.Logs.{turns_text}
use Rattle.alw_claims.proofs.logs.put_turns.Given as goal

abbrev pub invariant-loop-context : goal.invariant-loop-context
invariant-loop-context l = record {
  text : l.text ++ turns_text l.image l.flat.flat l.k (drop l.context-index l.turns) ≡ l.fn.text ++ turns_text l.image l.fn.flat.flat 0 l.turns;
  parts : l.flat.parts ≡ for_turns l.image;
  number : l.k ≡ l.context-index;
  contexts : AllByRecursion (λ context. context < context_count l.image) (drop l.context-index l.turns);
}
