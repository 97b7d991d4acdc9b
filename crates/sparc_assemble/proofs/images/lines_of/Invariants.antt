use Rattle.std.proofs.Common.{◌≡◌, ◌++◌, map, drop, length}
use Rattle.sparc_assemble.proofs.images.lines_of.Given as goal

abbrev pub invariant-loop-i : goal.invariant-loop-i
invariant-loop-i l = record {
  found : map (λ word. word.1) l.words ≡ l.lines ++ map (λ word. word.1) (drop l.i l.words);
  count : length l.lines ≡ l.i;
}
