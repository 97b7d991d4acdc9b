-- One place after the other.
use Rattle.std.proofs.Common.{◌∙◌}
use Rattle.alw_outcomes.proofs.Reaching.{keeps_trans, marks_back}
use Rattle.alw_outcomes.proofs.stuck.mark_more.Goals as goal

pub loop-back-preserved : goal.loop-back-preserved
loop-back-preserved c = record {
  stays = keeps_trans c.args.image.now c.args.found.now c.loop-back.found c.mark_at.new.found c.loop-back.invariant.stays c.in_ok-has_marked.ensures.stays;
  marks = marks_back c.args.image.now c.args.found.now c.loop-back.found c.loop-back.invariant.stays c.mark_at.new.marks.items c.in_ok-has_marked.ensures.marks;
  long = c.in_ok-has_marked.ensures.length ∙ c.loop-back.invariant.long;
}
