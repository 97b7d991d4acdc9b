-- Both parts are those of the cut.
use Rattle.std.proofs.Common.{List, length, ap, ◌∙◌, arith}
use Rattle.alw_msg.specs.declared.events.Entry.{Entry}
use Rattle.law_order.specs.Orders.{kept_by, later_than}
use Rattle.alw_save.proofs.Cutting.{cut_is}
use Rattle.alw_save.proofs.cuts.cut.Goals as goal

pub kept_by-requires : goal.kept_by-requires
kept_by-requires c = omega (arith, c.in_ok-check.ensures.few, ap length c.members-entries.ensures)

pub later_than-requires : goal.later_than-requires
later_than-requires c = omega (arith, c.in_ok-check.ensures.few, ap length c.members-entries.ensures)

pub returns : goal.returns
returns c = (
  c.in_ok-check.ensures.sound,
  cut_is c.args.trace.now c.in_ok-check.ensures.sound c.args.at _ _
      (c.in_ok-kept.ensures ∙ ap (λ (entries : List Entry). kept_by c.args.at entries) c.members-entries.ensures)
      (c.in_ok-rest.ensures ∙ ap (λ (entries : List Entry). later_than c.args.at entries) c.members-entries.ensures),
)
