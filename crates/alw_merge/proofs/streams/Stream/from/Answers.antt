-- One log more is read from the stamp on.
use Rattle.std.proofs.Common.{length, map, sym, subst, ap, ◌∙◌, arith}
use Rattle.std.proofs.lemmas.List.{length_push}
use Rattle.alw_cells.specs.Logs.{Reading}
use Rattle.alw_merge.specs.Heads.{HaveJoined}
use Rattle.alw_merge.specs.Spans.{log_from}
use Rattle.alw_merge.specs.Streams.{left_of, heads_of, StreamIsUnderWay}
use Rattle.alw_merge.proofs.Merging.{one_more, heads_few, lefts_more}
use Rattle.alw_merge.proofs.streams.Stream.from.Goals as goal

pub add-requires-clause-room : goal.add-requires-clause-room
add-requires-clause-room c =
    let so_far = c.loop-at.invariant in
    omega (arith, heads_few c.loop-at.readings.items c.loop-at.heads.heads so_far.under.heads, so_far.place, so_far.most, c.loop-at-test.true)

pub loop-at-preserved : goal.loop-at-preserved
loop-at-preserved c =
    let readings = c.loop-at.readings.items in
    let so_far = c.loop-at.invariant in
    let log = c.at_ref.result.now in
    let reading = c.skip_to.new.reading in
    let left = c.skip_to.ensures.left ∙ ap (λ (r : Reading). log_from c.args.stamp r.left) c.cursor-reading.ensures.reading in
    let joins = subst (λ n. HaveJoined c.loop-at.heads.heads (heads_of n c.skip_to.result) c.add.new.heads.heads) (sym so_far.place) c.add.ensures.joins in
    let grown = length_push readings reading in
    record {
      under = subst (λ items. StreamIsUnderWay items c.add.new.heads) (sym c.push_reserved.ensures.items)
          (one_more readings c.loop-at.heads c.add.new.heads reading c.skip_to.result so_far.under c.skip_to.ensures.ends c.skip_to.ensures.ascends c.skip_to.ensures.entry
          c.add.ensures.nodes joins c.add.ensures.most (omega (arith, so_far.place, so_far.most, c.loop-at-test.true))
          (omega (arith, so_far.place, c.loop-at-test.true, c.if-count-gt-MOST_LOGS.false)));
      lefts = ap (map left_of) c.push_reserved.ensures.items
          ∙ lefts_more c.args.stamp readings c.args.logs.now c.loop-at.at log reading so_far.lefts c.at_ref.ensures left;
      place = ap length c.push_reserved.ensures.items ∙ omega (arith, grown, so_far.place);
      room = omega (arith, so_far.room, c.push_reserved.ensures.capacity);
      most = c.add.ensures.most ∙ so_far.most;
    }
