use Rattle.std.proofs.Common.{◌≡◌, ◌%◌, ◌/◌, sym, arith}
use Rattle.mesh_route.proofs.Steps.{step_east, step_west, step_south, step_north, same_node, next_is, next_none}
use Rattle.mesh_route.proofs.routes.route_next.Goals as goal

pub returns-then-column-to_column-clause-next : goal.returns-then-column-to_column-clause-next
returns-then-column-to_column-clause-next c =
    sym (next_is _ _ _ _ c.requires.narrow (step_east _ _ _ c.requires.narrow (rw c.from-width.ensures at c.if-column-to_column.true)))

pub returns-then-to_column-column-clause-next : goal.returns-then-to_column-column-clause-next
returns-then-to_column-column-clause-next c =
    sym (next_is _ _ _ _ c.requires.narrow (step_west _ _ _ c.requires.narrow (rw c.from-width.ensures at c.if-to_column-column.true)))

pub returns-then-row-to_row-clause-next : goal.returns-then-row-to_row-clause-next
returns-then-row-to_row-clause-next c =
    let same : c.args.at.0 % c.from-width.result ≡ c.args.to.0 % c.from-width.result = omega arith in
    rw c.from-width.ensures (sym (next_is _ _ _ _ c.requires.narrow (step_south _ _ _ c.requires.narrow (rw c.from-width.ensures at same)
    (rw c.from-width.ensures at c.if-row-to_row.true))))

pub returns-then-to_row-row-clause-next : goal.returns-then-to_row-row-clause-next
returns-then-to_row-row-clause-next c =
    let same : c.args.at.0 % c.from-width.result ≡ c.args.to.0 % c.from-width.result = omega arith in
    rw c.from-width.ensures (sym (next_is _ _ _ _ c.requires.narrow (step_north _ _ _ c.requires.narrow (rw c.from-width.ensures at same)
    (rw c.from-width.ensures at c.if-to_row-row.true))))

pub returns-else-to_row-row-clause-next : goal.returns-else-to_row-row-clause-next
returns-else-to_row-row-clause-next c =
    let column : c.args.at.0 % c.from-width.result ≡ c.args.to.0 % c.from-width.result = omega arith in
    let row : c.args.at.0 / c.from-width.result ≡ c.args.to.0 / c.from-width.result = omega arith in
    sym (next_none _ _ _ c.requires.narrow (same_node _ _ _ c.requires.narrow (rw c.from-width.ensures at column) (rw c.from-width.ensures at row)))
