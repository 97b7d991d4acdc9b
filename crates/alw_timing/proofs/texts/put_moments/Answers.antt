-- Behind the last span no line is left.
use Rattle.std.proofs.Common.{List, ◌++◌, append-nil, drop, ℕ, sym, ap, ◌∙◌}
use Rattle.alw_timing.proofs.Lines.{no_lines}
use Rattle.alw_timing.proofs.texts.put_moments.Goals as goal

pub returns-in_default : goal.returns-in_default
returns-in_default c =
    let none = no_lines (drop c.loop-entry.entry-index c.args.entries.now) c.loop-entry.rest.now c.in_default.ensures.cases in
    sym (append-nil c.loop-entry.text) ∙ ap (λ (lines : List ℕ). c.loop-entry.text ++ lines) (sym none) ∙ c.loop-entry.invariant
