use Rattle.std.proofs.lemmas.List.{drop_more}
use Rattle.alw_image.specs.Images.{data_line}
use Rattle.alw_image.proofs.Readings.{writes_on}
use Rattle.alw_image.proofs.writing.put_bodies.Goals as goal

pub loop-body-preserved : goal.loop-body-preserved
loop-body-preserved c = writes_on data_line c.loop-body.out.items _ _ _ _ _ c.in_ok-put_body.ensures (drop_more c.args.bodies.now c.loop-body.body-index (record { 0 = 0 }, record { a = 0; b = 0; c = 0; d = 0 }) c.loop-body-test.true) c.loop-body.invariant
