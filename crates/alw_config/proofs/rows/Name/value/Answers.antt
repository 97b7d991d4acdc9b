use Rattle.alw_config.proofs.Allowed.{value_allowed}
use Rattle.alw_config.proofs.rows.Name.value.Goals as goal

pub returns-clause-allowed : goal.returns-clause-allowed
returns-clause-allowed c =
    rw (c.value_of.ensures, c.defaults.ensures.defaults) (value_allowed c.args.self c.args.chosen.now c.args.choice c.requires.allowed c.requires.choice)
