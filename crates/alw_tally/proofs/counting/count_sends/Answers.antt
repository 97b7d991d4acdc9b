-- One message more is counted.
use Rattle.std.proofs.Common.{◌<◌, length, refl, arith}
use Rattle.alw_tally.proofs.Sent.{goes_on}
use Rattle.alw_tally.proofs.counting.count_sends.Goals as goal

pub loop-i-preserved : goal.loop-i-preserved
loop-i-preserved c =
    let within : c.loop-i.i < length c.args.sends.now.messages = omega (arith, c.loop-i-test.true, c.len-i-end.ensures) in
    goes_on _ _ _ _ _ _ _ _ _ within c.at.ensures refl c.count_send.ensures.few c.count_send.ensures.counts c.loop-i.invariant
