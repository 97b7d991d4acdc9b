-- One message more is counted.
use Rattle.std.proofs.Common.{refl}
use Rattle.std.proofs.lemmas.Option.{slice_get-get_or}
use Rattle.alw_tally.proofs.Sent.{goes_on}
use Rattle.alw_tally.proofs.counting.count_messages.Goals as goal

pub loop-i-preserved : goal.loop-i-preserved
loop-i-preserved c =
    goes_on c.args.image.now c.args.from.0 c.args.sends.now c.args.counts.now c.loop-i.i _ _ c.loop-i.counts c.count_send.new.counts c.loop-i-test.true
    (slice_get-get_or c.args.sends.now c.loop-i.i _ c.loop-i-test.true) refl c.count_send.ensures.few c.count_send.ensures.counts c.loop-i.invariant
