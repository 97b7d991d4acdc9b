-- One line more.
use Rattle.alw_trace.proofs.Rows.{put_row, shorter, some_left, none_left}
use Rattle.alw_trace.proofs.images.put_rows.Goals as goal

pub loop-rest-preserved : goal.loop-rest-preserved
loop-rest-preserved c = put_row c.loop-rest.text _ _ c.loop-rest.rest.now _ _ (some_left _ c.loop-rest-test.ensures) c.first_row.ensures.row c.first_row.ensures.behind c.in_ok-put_row.ensures c.loop-rest.invariant

pub loop-rest-smaller : goal.loop-rest-smaller
loop-rest-smaller c = shorter c.loop-rest.rest.now _ (some_left _ c.loop-rest-test.ensures) c.first_row.ensures.behind

pub returns : goal.returns
returns c = none_left c.loop-rest.text _ c.loop-rest.rest.now c.loop-rest-test.ensures c.loop-rest.invariant
