-- Six halves of a word are one bit.
use Rattle.alw_num.proofs.Ranks.{begins, ends}
use Rattle.alw_num.proofs.node_sets.nth_one.Goals as goal

pub returns : goal.returns
returns c =
    let half = c.half.ensures.part _ _ (begins c.args.word c.args.k c.ranges.word.fits c.requires) in
    let byte = c.half-byte.ensures.part _ _ (c.half-2.ensures.part _ _ half) in
    let pair = c.half-4.ensures.part _ _ (c.half-3.ensures.part _ _ byte) in
    ends _ _ _ _ _ (c.half-5.ensures.part _ _ pair)
