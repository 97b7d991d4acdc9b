-- One step of the walk.
use Rattle.std.proofs.Common.{◌++◌, ◌∷◌, [], sym, ◌∙◌}
use Rattle.alw_outcomes.proofs.Sorting.{way_kept, way_left}
use Rattle.alw_outcomes.proofs.endings.keep_new.Goals as goal

pub returns-then-is_new : goal.returns-then-is_new
returns-then-is_new c = λ key keyed rises is.
    way_kept key c.args.keyed.now c.args.i c.args.kept.now.items c.push.new.self.items c.index-keyed-i.result keyed rises is c.requires c.index-keyed-i.is (rw c.if-is_new.true at c.is_new.ensures)
    (c.in_ok-push.ensures.items ∙ (λ j. c.args.kept.now.items ++ (sym c.index-keyed-i.is j).number ∷ []))

pub returns : goal.returns
returns c = λ key keyed rises is. way_left key c.args.keyed.now c.args.i c.args.kept.now.items keyed rises is c.requires (rw c.if-is_new.false at c.is_new.ensures)
