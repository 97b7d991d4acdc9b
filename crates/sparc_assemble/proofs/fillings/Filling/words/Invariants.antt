use Rattle.std.proofs.Common.{◌≡◌, ◌++◌, ◌+◌, map, drop, length}
use Rattle.sparc_assemble.proofs.fillings.Filling.words.Given as goal

abbrev pub invariant-loop-i : goal.invariant-loop-i
invariant-loop-i l = record {
  words : l.fn.self.words ++ map (λ word. (word, l.number)) l.words ≡ l.self.words ++ map (λ word. (word, l.number)) (drop l.i l.words);
  rest : (l.self.memory ≡ l.fn.self.memory) × (l.self.starts ≡ l.fn.self.starts);
  count : length l.self.words ≡ length l.fn.self.words + l.i;
}
