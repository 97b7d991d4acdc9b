-- The number of pointers.
use Rattle.alw_num.proofs.Sets.{has-none, count-none, add_member}

pub ruleset counting = (has-none, count-none, add_member)
