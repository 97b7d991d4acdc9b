-- The line's copy has the value, and what is seen of the others stays.
use Rattle.std.proofs.Common.{ap, ◌∙◌}
use Rattle.alw_cache.specs.Places.{Copies, seen_in}
use Rattle.alw_cache.proofs.Seen.{seen_written}
use Rattle.alw_proc.proofs.Turning.{can_write}
use Rattle.alw_proc.proofs.shared.SharedPort.put.Goals as goal

pub returns-clause-copies : goal.returns-clause-copies
returns-clause-copies c =
    let cache = c.args.self.now.cache in
    λ l. ap (λ (left : Copies). seen_in left l) c.write.ensures ∙ seen_written cache.sets cache.copies c.args.line.0 c.args.value (can_write cache c.args.line.0 c.requires) l
