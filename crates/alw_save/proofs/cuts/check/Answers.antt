-- The machine after all entries is one, so that they are few.
use Rattle.std.proofs.Common.{refl}
use Rattle.alw_save.proofs.Cutting.{few_entries}
use Rattle.alw_save.proofs.cuts.check.Goals as goal

pub returns-clause-few : goal.returns-clause-few
returns-clause-few c = few_entries c.args.trace.now c.in_ok-_whole._whole c.args.trace.now.journal c.in_ok-_whole.ensures refl
