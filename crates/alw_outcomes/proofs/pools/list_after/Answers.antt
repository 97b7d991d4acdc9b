-- A list is longer by the word that was printed.
use Rattle.std.proofs.Common.{◌+◌, sym, subst, [], slice_index_or}
use Rattle.sparc_table.specs.declared.outcomes.Outcome.{Outcome}
use Rattle.alw_places.specs.Threads.{words_after}
use Rattle.alw_outcomes.specs.Pools.{ListHasWords, lists_of}
use Rattle.alw_outcomes.proofs.Pooling.{links_go_on, words_longer}
use Rattle.alw_outcomes.proofs.pools.list_after.Goals as goal

pub returns-in_ok-at-in-Out-clause-links : goal.returns-in_ok-at-in-Out-clause-links
returns-in_ok-at-in-Out-clause-links c =
    links_go_on c.args.links.now.items c.number_in.new.pool.items c.args.list c.in-Out.word c.in_ok-at-in-Out.at c.requires.list c.requires.back c.in_ok-at-in-Out.ensures.number

pub returns-in_ok-at-in-Out-clause-words : goal.returns-in_ok-at-in-Out-clause-words
returns-in_ok-at-in-Out-clause-words c =
    subst (λ (o : Outcome). ListHasWords c.number_in.new.pool.items (c.in_ok-at-in-Out.at + 1) (words_after (slice_index_or (lists_of c.args.links.now.items) c.args.list []) o)) (sym c.in-Out.is)
    (words_longer c.args.links.now.items c.number_in.new.pool.items c.args.list c.in-Out.word c.in_ok-at-in-Out.at c.requires.list c.requires.back c.in_ok-at-in-Out.ensures.number)
