-- By the lemma on turns that trap.
use Rattle.alw_places.proofs.EveryTrap.{every_trap}
use Rattle.alw_places.proofs.laws.each_trap_is_told.Goals as goal

pub returns : goal.returns
returns c = every_trap
