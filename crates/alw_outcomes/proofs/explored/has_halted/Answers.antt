-- Each context of the row is one of the place.
use Rattle.std.proofs.Common.{ℕ, List, take, drop, ◌*◌, sym, ap, ◌∙◌}
use Rattle.alw_outcomes.specs.Explored.{halted_in}
use Rattle.alw_outcomes.proofs.Storing.{halted_is}
use Rattle.alw_outcomes.proofs.explored.has_halted.Goals as goal

pub returns : goal.returns
returns c =
    let row = c.row_of.ensures ∙ ap (λ (l : List ℕ). take c.args.found.now.width (drop (c.args.at * c.args.found.now.width) l)) c.deref-2.ensures.value in
    c.have_halted.ensures ∙ (λ i. halted_in (c.deref.ensures.value i) (row i)) ∙ sym (halted_is c.args.found.now c.args.at)
