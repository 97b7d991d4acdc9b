-- The copy that is replaced has its home.
use Rattle.std.proofs.Common.{not, ◌==◌}
use Rattle.alw_num.specs.Maps.{value_at}
use Rattle.alw_model.specs.Caches.{Copy, set_of}
use Rattle.alw_proc.proofs.Leaving.{left_fits}
use Rattle.alw_proc.proofs.homeward.fill.Goals as goal

pub give_up-requires-clause-home : goal.give_up-requires-clause-home
give_up-requires-clause-home c =
    let cache = c.args.cache.now in
    left_fits (λ (copy : Copy). not (copy.line == c.args.line.0)) c.args.homes.lines c.args.homes.per_node (value_at cache.copies (set_of cache.sets c.args.line.0)) _ c.requires.held c.requires.nodes c.requires.per_node c.fill-left.ensures.replaced
