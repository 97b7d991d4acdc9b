use Rattle.std.proofs.Common.{◌≡◌, ◌++◌, map, drop, length}
use Rattle.sparc_assemble.proofs.images.code_of.Given as goal

abbrev pub invariant-loop-i : goal.invariant-loop-i
invariant-loop-i l = record {
  found : map (λ word. word.0) l.words ≡ l.code ++ map (λ word. word.0) (drop l.i l.words);
  count : length l.code ≡ l.i;
}
