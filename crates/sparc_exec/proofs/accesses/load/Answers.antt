use Rattle.sparc_exec.proofs.Lanes.{byte_lane, half_lane}
use Rattle.sparc_exec.proofs.accesses.load.Goals as goal

pub sign_extend_8-requires : goal.sign_extend_8-requires
sign_extend_8-requires c = rw (c.lane-value.ensures, c.width.ensures, c.in-9.is) (search byte_lane)

pub sign_extend_16-requires : goal.sign_extend_16-requires
sign_extend_16-requires c = rw (c.lane-value.ensures, c.width.ensures, c.in-10.is) (search half_lane)
