-- Each node is stepped by itself until it is spent, and no log takes a message.
use Rattle.std.proofs.Common.{false}
use Rattle.std.proofs.lemmas.Result.{IfOk-weaker}
use Rattle.alw_work.proofs.Closings.{alone_agree}
use Rattle.alw_work.proofs.Leaving.{AreTaken, left_at_end}
use Rattle.alw_work.proofs.runs.run_apart.Goals as goal

pub returns : goal.returns
returns c =
    let image = c.args.image.now in
    let params = c.args.params.now in
    let start = c.in_ok-cells.ensures.cells in
    let cells = c.in_ok-cells.cells.items in
    let taken : AreTaken image params cells false =
    record { count = start.count; each = start.each; agree = alone_agree cells c.in_ok-cells.ensures.alone; marked = λ is. absurd (cc) } in
    IfOk-weaker c.split_all.result _ _
    (λ worked are. left_at_end image params cells false taken c.finish_all.new.cells.items worked c.in_ok-finish_all.ensures are) c.split_all.ensures
