use Rattle.std.proofs.lemmas.Bool.{false≢true}
use Rattle.alw_cells.proofs.Fronts.{goes_on, goes_wrong}
use Rattle.alw_cells.proofs.logs.Log.took_front.Goals as goal

pub returns-then-not-follow : goal.returns-then-not-follow
returns-then-not-follow c = (
  λ no. absurd (false≢true no),
  λ whole. absurd (goes_wrong _ c.args.from c.loop-entry.taken c.next.new.self c.in-Some.entry c.taken.result c.loop-entry.sent c.loop-entry.invariant
      c.in-Some.ensures.entry c.in-Some.ensures.reading c.taken.ensures
      (c.follow.ensures.differs c.if-not-follow.true) whole),
)

pub loop-entry-preserved : goal.loop-entry-preserved
loop-entry-preserved c =
    goes_on _ c.args.from c.loop-entry.taken c.next.new.self c.in-Some.entry c.taken.result c.loop-entry.sent c.follow.new.sent c.loop-entry.invariant
    c.in-Some.ensures.entry c.in-Some.ensures.reading c.taken.ensures
    (c.follow.ensures.follows c.if-not-follow.false)
