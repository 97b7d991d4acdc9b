-- There are few nodes, and no time comes near 2^63.
use Rattle.alw_mesh.proofs.OneNode.{few_nodes}
use Rattle.alw_timing.proofs.Keeping.{few_times}
use Rattle.alw_due.proofs.schedules.first_bests.Goals as goal

pub bests_of-requires-clause-few : goal.bests_of-requires-clause-few
bests_of-requires-clause-few c = few_nodes c.args.machine.now.image c.journal-run.ensures.run.image

pub bests_of-requires-clause-within : goal.bests_of-requires-clause-within
bests_of-requires-clause-within c = few_times c.args.keeper.now c.args.machine.now c.args.keeper.now c.journal-run.ensures.run c.requires
