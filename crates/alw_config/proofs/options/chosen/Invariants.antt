use Rattle.std.proofs.Common.{map, string_bytes, length}
use Rattle.alw_config.proofs.UnderWay.{WordsAreUnderWay}
use Rattle.alw_config.proofs.options.chosen.Given as goal

abbrev pub invariant-pairs : goal.invariant-pairs
invariant-pairs l = record
    { under_way : WordsAreUnderWay l.name (map string_bytes l.words) (map string_bytes l.rest) l.chosen l.at }

abbrev pub decreases-pairs : goal.decreases-pairs
decreases-pairs l = length l.rest
