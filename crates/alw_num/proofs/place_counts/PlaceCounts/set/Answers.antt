use Rattle.std.proofs.Common.{◌<◌, length, take, arith}
use Rattle.std.proofs.lemmas.List.{get_or_read}
use Rattle.alw_num.proofs.Sums.{resummed, take_set}
use Rattle.alw_num.proofs.place_counts.PlaceCounts.set.Goals as goal

pub invariant_of-self : goal.invariant_of-self
invariant_of-self c =
    let s = c.self.inside in
    let here : c.args.place < length (take s.places s.counts.items) = rw c.self.view_is c.requires in
    let room : c.args.place < length s.counts.items = omega (arith, here, c.self.invariant.room, c.self.invariant.counted, c.self.invariant.few) in
    rw (take_set s.places s.counts.items c.args.place c.from-count.result)
    (resummed s.places (take s.places s.counts.items) s.counts.items s.fours s.sixteens s.quarters s.total c.self.invariant (omega arith) (omega arith) (omega arith)
    c.args.place c.from-count.result c.index-old.result.now here (omega arith) (get_or_read _ _ _ room c.index-old.ensures 0)
    c.exchanged.result c.exchanged-2.result c.exchanged-3.result c.exchanged-self-inside.result
    c.exchanged.ensures c.exchanged-2.ensures c.exchanged-3.ensures c.exchanged-self-inside.ensures)

pub returns : goal.returns
returns c =
    let s = c.self.inside in
    rw (← c.self.view_is, ← c.from-count.ensures) (take_set s.places s.counts.items c.args.place c.from-count.result)
