-- In whatever order they come in, they serve.
use Rattle.law_turns.proofs.Following.{every_order_serves}
use Rattle.law_turns.proofs.any_order_serves.Goals as goal

pub returns : goal.returns
returns c = every_order_serves
