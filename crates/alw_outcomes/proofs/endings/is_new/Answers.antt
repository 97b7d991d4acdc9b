-- By what the comparison says.
use Rattle.std.proofs.Common.{not, nat_eq, sym, ◌∙◌}
use Rattle.std.specs.Cmp.Lexicographic.{pointwise}
use Rattle.alw_outcomes.proofs.Sorting.{new_by}
use Rattle.alw_outcomes.proofs.endings.is_new.Goals as goal

pub returns : goal.returns
returns c =
    new_by c.args.keyed.now c.args.i c.index-keyed-i.result c.index-keyed-i-2.result c.ne.result c.if-i-eq0.false c.requires c.index-keyed-i.is c.index-keyed-i-2.is
    (c.ne.ensures ∙ (λ j. not (pointwise nat_eq (sym c.index-keyed-i.is j).key.items (sym c.index-keyed-i-2.is j).key.items)))
