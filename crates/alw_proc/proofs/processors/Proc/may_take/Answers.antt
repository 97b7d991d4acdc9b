-- Without a hold nothing is kept back.
use Rattle.std.proofs.Common.{sym, ◌∙◌}
use Rattle.alw_msg.specs.Contents.{content}
use Rattle.alw_proc.specs.Processors.{processor_from}
use Rattle.alw_proc.proofs.Holding.{nothing_kept}
use Rattle.alw_proc.proofs.processors.Proc.may_take.Goals as goal

pub returns-then-holds-eq0 : goal.returns-then-holds-eq0
returns-then-holds-eq0 c =
    let p = c.self.inside in
    let side = processor_from p.number.0 p.width p.height p.per_node p.contexts p.shared.cache p.openings in
    rw (← c.self.view_is) (nothing_kept side c.args.msg.now.line.0 (content c.args.msg.now) (sym c.holds.ensures ∙ c.if-holds-eq0.true))
