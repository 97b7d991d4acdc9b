-- By the lemma on reduced sets.
use Rattle.std.proofs.Common.{IsTrue}
use Rattle.alw_places.proofs.Unhinted.{all_told}
use Rattle.alw_places.proofs.laws.reduced_set_tells_all.Goals as goal

pub returns : goal.returns
returns c = λ parts held ending reduced comes. all_told parts (λ place. IsTrue (held place)) ending reduced comes
