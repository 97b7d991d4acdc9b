-- One place after the other.
use Rattle.alw_outcomes.specs.Explored.{found_in}
use Rattle.alw_outcomes.proofs.Reaching.{keeps_trans, staying_back, staying_more}
use Rattle.alw_outcomes.proofs.stuck.have_exit.Goals as goal

pub loop-at-preserved : goal.loop-at-preserved
loop-at-preserved c = record {
  stays = keeps_trans c.args.image.now c.args.found.now c.loop-at.found c.stays_at.new.found c.loop-at.invariant.stays c.in_ok-stays_at.ensures.keeps;
  staying = staying_more c.args.image.now c.args.found.now.classes.items (found_in c.args.found.now) c.args.marks.now c.loop-at.at c.loop-at.invariant.staying
      (staying_back c.args.image.now c.args.found.now c.loop-at.found c.loop-at.invariant.stays c.args.marks.now c.loop-at.at (c.in_ok-stays_at.ensures.stays c.if-not-branch.false));
}
