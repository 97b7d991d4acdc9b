use Rattle.std.proofs.Common.{arith}
use Rattle.alw_image.specs.Images.{data_line}
use Rattle.alw_image.specs.Faults.{body_of_bytes}
use Rattle.alw_image.specs.TableReads.{IsAnyMember}
use Rattle.alw_image.proofs.TableReads.{goes_on}
use Rattle.alw_image.proofs.tables.read_bodies.Goals as goal

pub loop-body-preserved : goal.loop-body-preserved
loop-body-preserved c = rw (c.in_ok-push.ensures.ok) (goes_on body_of_bytes data_line IsAnyMember 20 c.args.count c.args.bytes.now c.loop-body.bodies _ c.in-Some.body _ (omega arith) c.loop-body.invariant c.in-Some.ensures.found)
