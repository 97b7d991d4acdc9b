-- By the lemma on private turns.
use Rattle.std.proofs.Common.{IsTrue}
use Rattle.alw_places.proofs.Independence.{reduced_told}
use Rattle.alw_places.proofs.laws.private_turns_first.Goals as goal

pub returns : goal.returns
returns c = λ parts classes held reduced ending comes. reduced_told parts classes (λ place. IsTrue (held place)) reduced ending comes
