-- One place more.
use Rattle.std.proofs.Common.{refl}
use Rattle.alw_outcomes.proofs.Telling.{listed_within, ends_more}
use Rattle.alw_outcomes.proofs.endings.keyed_ends.Goals as goal

pub key_of-requires-clause-at : goal.key_of-requires-clause-at
key_of-requires-clause-at c = listed_within c.args.image.now c.args.found.now c.deref-at-items.result.now c.loop-at.at-index c.requires.real c.deref-at-items.ensures.value c.loop-at-test.true

pub loop-at-preserved : goal.loop-at-preserved
loop-at-preserved c =
    let more =
    ends_more c.args.found.now c.loop-at.keyed.items c.push.new.self.items c.deref-at-items.result.now c.loop-at.at-index _ c.deref-at-items.ensures.value c.loop-at-test.true refl
    (listed_within c.args.image.now c.args.found.now c.deref-at-items.result.now c.loop-at.at-index c.requires.real c.deref-at-items.ensures.value c.loop-at-test.true)
    c.in_ok-key.ensures c.loop-at.invariant.numbers c.loop-at.invariant.keys c.in_ok-push.ensures.items in
    record { numbers = more.0; keys = more.1 }
