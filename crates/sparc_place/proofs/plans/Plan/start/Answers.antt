use Rattle.std.proofs.Common.{◌≡◌}
use Rattle.sparc_place.specs.Places.{with_start}
use Rattle.sparc_place.specs.Marks.{is_context_marked}
use Rattle.sparc_place.proofs.plans.Plan.start.Goals as goal

pub returns : goal.returns
returns c =
    let started : is_context_marked c.mark_context.new.self ≡ with_start c.args.node c.args.slot (is_context_marked c.args.self.now.started) =
    λ i n s. c.in_ok-mark_context.ensures.ok n s i in
    rw started
