use Rattle.std.proofs.Common.{◌++◌, take, arith, append_assoc}
use Rattle.std.proofs.lemmas.List.{take-append-drop}
use Rattle.std.proofs.KnownBytes.{Appends-trans}
use Rattle.alw_io.proofs.whole.write_whole.Goals as goal

-- the front of the rest goes over to what was sent
pub loop-rest-preserved : goal.loop-rest-preserved
loop-rest-preserved g c = record {
  sent = c.loop-rest.invariant.sent ++ take c.in_ok-count.count c.loop-rest.rest.now;
  parts = rw (c.split_at.ensures.back, append_assoc, take-append-drop) c.loop-rest.invariant.parts;
  appended = Appends-trans _ _ _ _ _ c.loop-rest.invariant.appended c.in_ok-count.ensures.bytes;
  later = omega (arith, c.loop-rest.invariant.later, c.in_ok-count.ensures.cause);
}
