-- What is written so far, and what is left to write, is the whole; a node's number is its place.
use Rattle.std.proofs.Common.{◌≡◌, ◌++◌, drop}
use Rattle.alw_timing.specs.Texts.{node_lines}
use Rattle.alw_timing.proofs.tables.put_node_lines.Given as goal

abbrev pub invariant-loop-each : goal.invariant-loop-each
invariant-loop-each l = record {
  written : l.text ++ node_lines l.cycles l.node (drop l.each-index l.spent) ≡ l.fn.text ++ node_lines l.cycles 0 l.spent;
  place : l.node ≡ l.each-index;
}
