use Rattle.alw_gen.proofs.Images.{words_few}
use Rattle.alw_gen.proofs.workloads.parts_of.Goals as goal

pub code_of-requires-clause-room : goal.code_of-requires-clause-room
code_of-requires-clause-room c = rw (c.from.ensures, c.from-2.ensures) (words_few c.args.width c.args.height c.args.size c.args.seed c.requires)
