-- The cells stand in their places and their links agree, before the caller's steps and after them.
use Rattle.std.proofs.Common.{◌≡◌, ◌∙◌, ℕ, List, sym, ap, subst}
use Rattle.std.proofs.lemmas.Result.{IfOk-weaker}
use Rattle.alw_image.specs.Images.{node_count}
use Rattle.alw_ruled.specs.Ends.{LinkName}
use Rattle.alw_work.specs.Ties.{cells_in, EndsAreTied}
use Rattle.alw_work.proofs.Plain.{cell_plain}
use Rattle.alw_work.proofs.Leaving.{taken, left_at_trap, left_at_end}
use Rattle.alw_work.proofs.runs.take_over.Goals as goal

pub close_all-requires-clause-tied : goal.close_all-requires-clause-tied
close_all-requires-clause-tied g c =
    let tied = rw c.in-Some.is at c.in_ok-lefts.ensures.tied in
    let count : c.nodes-nodes.result ≡ node_count g.I.Naming.image = c.nodes-nodes.ensures.count ∙ ap node_count c.requires.image in
    subst (λ (y : List LinkName × ℕ). EndsAreTied y.0 y.1 c.in-Some.lefts.items) (λ i. (sym c.requires.links i, sym count i)) tied

pub close_all-requires-clause-plain : goal.close_all-requires-clause-plain
close_all-requires-clause-plain g c = λ k cell at. cell_plain cell ((rw c.in-Some.is at c.in_ok-lefts.ensures.cells).each k cell at).1

pub returns-then-trapped : goal.returns-then-trapped
returns-then-trapped g c =
    let image = g.I.Naming.image in
    let parameters = g.I.Naming.parameters in
    let cells = c.in_ok-cells.cells.items in
    let over = taken image parameters c.nodes-nodes.result (cells_in c.in-Some.lefts.items) (cells_in c.close_all.new.lefts.items) cells
    c.in-Some.trapped
    (rw c.in-Some.is at c.in_ok-lefts.ensures.cells) (c.nodes-nodes.ensures.count ∙ ap node_count c.requires.image) c.close_all.ensures.cells
    c.close_all.ensures.agree c.in_ok-cells.ensures in
    rw (c.requires.image, c.requires.parameters)
    (IfOk-weaker c.split_all.result _ _ (λ worked are. left_at_trap image parameters cells c.in-Some.trapped over worked c.if-trapped.true are)
    c.split_all.ensures)

pub returns : goal.returns
returns g c =
    let image = g.I.Naming.image in
    let parameters = g.I.Naming.parameters in
    let cells = c.in_ok-cells.cells.items in
    let over = taken image parameters c.nodes-nodes.result (cells_in c.in-Some.lefts.items) (cells_in c.close_all.new.lefts.items) cells
    c.in-Some.trapped
    (rw c.in-Some.is at c.in_ok-lefts.ensures.cells) (c.nodes-nodes.ensures.count ∙ ap node_count c.requires.image) c.close_all.ensures.cells
    c.close_all.ensures.agree c.in_ok-cells.ensures in
    rw (c.requires.image, c.requires.parameters)
    (IfOk-weaker c.split_all-2.result _ _
    (λ worked are. left_at_end image parameters cells c.in-Some.trapped over c.finish_all.new.cells.items worked c.in_ok-finish_all.ensures are)
    c.split_all-2.ensures)
