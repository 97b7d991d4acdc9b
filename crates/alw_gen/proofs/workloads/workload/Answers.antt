-- The parts of a workload are an image's.
use Rattle.alw_gen.proofs.Images.{is_workload, has_words}
use Rattle.alw_gen.proofs.workloads.workload.Goals as goal

pub checked-requires : goal.checked-requires
checked-requires c = rw c.in_ok-parts.ensures (is_workload c.args.seed c.args.width c.args.height c.args.size c.requires)

pub returns-clause-words : goal.returns-clause-words
returns-clause-words c = rw (c.checked.ensures, c.in_ok-parts.ensures) (has_words c.args.seed c.args.width c.args.height c.args.size c.requires)
