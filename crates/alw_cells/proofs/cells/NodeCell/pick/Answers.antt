use Rattle.std.proofs.Common.{◌≡◌, ℕ, ◌%◌, ◌<◌, true, Some, slice_get, refl, sym, ap, ◌∙◌, arith}
use Rattle.alw_ready.specs.declared.rows.Row.{Row}
use Rattle.alw_ready.specs.Rows.{instr_at, row_events, row_count}
use Rattle.alw_cells.specs.Cells.{Cell}
use Rattle.alw_cells.proofs.Choosing.{IsCellRow, row_counts, picks_none, picks_evicted, picks_nth}
use Rattle.alw_cells.proofs.cells.NodeCell.pick.Goals as goal

pub returns-then-count-eq0 : goal.returns-then-count-eq0
returns-then-count-eq0 c =
    let is : IsCellRow c.args.self.now c.row-row.result = record { in_time = c.row-row.ensures.in_time; instr = c.row-row.ensures.instr; handle = c.row-row.ensures.handle; senders = c.row-row.ensures.senders } in
    sym (picks_none c.args.self.now c.args.number (sym (row_counts c.args.self.now c.row-row.result is) ∙ (sym c.count_of-count.ensures ∙ c.if-count-eq0.true)))

pub returns-in-Some : goal.returns-in-Some
returns-in-Some c =
    let is : IsCellRow c.args.self.now c.row-row.result = record { in_time = c.row-row.ensures.in_time; instr = c.row-row.ensures.instr; handle = c.row-row.ensures.handle; senders = c.row-row.ensures.senders } in
    let some : 0 < row_count c.row-row.result = omega arith in
    sym (picks_evicted c.args.self.now c.row-row.result c.args.number c.in-Some.eviction is some (sym c.asked_eviction.ensures ∙ c.in-Some.is))

pub returns-then-row : goal.returns-then-row
returns-then-row c =
    let row = c.row-row.result in
    let is : IsCellRow c.args.self.now row = record { in_time = c.row-row.ensures.in_time; instr = c.row-row.ensures.instr; handle = c.row-row.ensures.handle; senders = c.row-row.ensures.senders } in
    let some : 0 < c.count_of-count.result = omega arith in
    let first : c.args.number % c.count_of-count.result ≡ 0 = only c.args.number c.count_of-count.result c.if-count-eq1.true in
    sym (picks_nth c.args.self.now row c.args.number c.number-node.result.0 c.count_of-count.result (instr_at c.number-node.result.0) is
    (c.number-node.ensures.number ∙ ap (λ (v : Cell). v.node.number) c.self.view_is)
    c.count_of-count.ensures some (λ asked e. c.in_default.not-Some asked (c.asked_eviction.ensures ∙ e))
    (ap (slice_get (row_events c.number-node.result.0 row)) first ∙ front_instr c.number-node.result.0 row c.row-row.ensures.in_time c.if-row.true))
  where
    only : (number count : ℕ) → count ≡ 1 → number % count ≡ 0
    only number count one = rw one (omega arith)

    front_instr : (at : ℕ) (row : Row) → row.in_time ≡ true → row.instr ≡ true → slice_get (row_events at row) 0 ≡ Some (instr_at at)
    front_instr at row in_time instr = rw (in_time, instr) refl

pub returns : goal.returns
returns c =
    let is : IsCellRow c.args.self.now c.row-row.result = record { in_time = c.row-row.ensures.in_time; instr = c.row-row.ensures.instr; handle = c.row-row.ensures.handle; senders = c.row-row.ensures.senders } in
    let some : 0 < c.count_of-count.result = omega arith in
    sym (picks_nth c.args.self.now c.row-row.result c.args.number c.number-node.result.0 c.count_of-count.result c.nth.result is (c.number-node.ensures.number ∙ ap (λ (v : Cell). v.node.number) c.self.view_is)
    c.count_of-count.ensures some (λ asked e. c.in_default.not-Some asked (c.asked_eviction.ensures ∙ e))
    c.nth.ensures)
