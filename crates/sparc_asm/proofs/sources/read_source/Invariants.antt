use Rattle.std.proofs.Common.{◌≡◌, ◌+◌, ◌-◌, ◌≤◌, length, drop}
use Rattle.alw_text.specs.Lines.{lines_of}
use Rattle.sparc_asm.specs.Sources.{read_from, read_source}
use Rattle.sparc_asm.proofs.Passes.{onto}
use Rattle.sparc_asm.proofs.sources.read_source.Given as goal

abbrev pub invariant-loop-span : goal.invariant-loop-span
invariant-loop-span l = record {
  reads : read_source l.source ≡ onto l.lines (read_from l.source (length l.lines + 1) l.from (lines_of (drop l.from l.source)));
  within : l.from ≤ length l.source;
  room : length l.lines ≤ l.from;
}

abbrev pub decreases-loop-span : goal.decreases-loop-span
decreases-loop-span l = length l.source - l.from
