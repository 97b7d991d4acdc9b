-- The next cell stands in its place, and has taken nothing.
use Rattle.std.proofs.Common.{sym, arith, length-append, [], ◌∷◌}
use Rattle.alw_work.proofs.Finishing.{stands_next, alone_next}
use Rattle.alw_work.proofs.cells.start_all.Goals as goal

pub loop-n-preserved : goal.loop-n-preserved
loop-n-preserved c =
    let so_far = c.loop-n.invariant in
    let cell = c.in_ok-cell.cell in
    let cells = c.loop-n.cells.items in
    let image = c.args.image.now in
    let params = c.args.params.now in
    record {
      count = rw c.push_reserved.ensures.items (omega (arith, so_far.count, length-append c.loop-n.cells.items (c.in_ok-cell.cell ∷ [])));
      room = omega (arith, so_far.room, c.push_reserved.ensures.capacity);
      each = rw c.push_reserved.ensures.items
          (stands_next image params cells c.loop-n.n cell (sym so_far.count) c.in_ok-cell.ensures c.log-stands.ensures.stands so_far.each);
      alone = rw c.push_reserved.ensures.items (alone_next image params cells c.loop-n.n cell c.in_ok-cell.ensures so_far.alone);
    }
