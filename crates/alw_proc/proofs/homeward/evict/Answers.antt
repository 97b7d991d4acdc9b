-- The copy that leaves has its home; a set that holds nothing stays.
use Rattle.std.proofs.Common.{◌==◌, sym, ap, subst}
use Rattle.alw_num.specs.Maps.{value_at}
use Rattle.alw_cache.specs.Places.{Copies}
use Rattle.alw_model.specs.Caches.{Copy, Cache, set_of}
use Rattle.alw_proc.specs.Processors.{HoldsLine}
use Rattle.alw_proc.proofs.Leaving.{left_fits, evicted_none}
use Rattle.alw_proc.proofs.homeward.evict.Goals as goal

pub give_up-requires-clause-home : goal.give_up-requires-clause-home
give_up-requires-clause-home c =
    let cache = c.args.cache.now in
    let held : HoldsLine c.args.homes.lines (value_at cache.copies (set_of cache.sets c.in-Some.line.0)) = subst (λ n. HoldsLine c.args.homes.lines (value_at cache.copies n)) (sym c.in-Some.ensures.set) c.requires.held in
    left_fits (λ (copy : Copy). copy.line == c.in-Some.line.0) c.args.homes.lines c.args.homes.per_node (value_at cache.copies (set_of cache.sets c.in-Some.line.0)) _ held c.requires.nodes c.requires.per_node c.drop_line-left.ensures.copy

-- a cache with this map
abbrev with_map : Copies → Cache → Copies
with_map cache copies = record cache { copies = copies }

pub returns-in_default-clause-cache : goal.returns-in_default-clause-cache
returns-in_default-clause-cache c = ap (with_map c.args.cache.now) (evicted_none c.args.cache.now.copies c.args.set c.in_default.ensures.line)
