-- One word more, and all at the end.
use Rattle.std.proofs.Common.{◌-◌, arith}
use Rattle.std.proofs.lemmas.Option.{slice_get-get_or}
use Rattle.alw_outcomes.proofs.Spelling.{read_more, read_all}
use Rattle.alw_outcomes.proofs.places.words_of.Goals as goal

pub loop-rest-preserved : goal.loop-rest-preserved
loop-rest-preserved c =
    let within = c.loop-rest.invariant.within in
    let some = c.loop-rest-test.true in
    read_more c.args.links.now c.args.list c.loop-rest.rest (c.loop-rest.rest - 1) _ c.loop-rest.words.items c.push.new.self.items c.requires.back
    (slice_get-get_or c.args.links.now (c.loop-rest.rest - 1) (record { before = 0; word = 0 }) (omega arith)) (omega arith) (omega arith) c.in_ok-push.ensures.items c.loop-rest.invariant

pub returns : goal.returns
returns c = read_all c.args.links.now c.args.list c.loop-rest.rest c.loop-rest.words.items c.reverse.new.self.items c.loop-rest-test.false c.reverse.ensures.items c.loop-rest.invariant
