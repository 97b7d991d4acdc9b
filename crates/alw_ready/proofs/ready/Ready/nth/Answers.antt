use Rattle.std.proofs.Common.{◌∙◌}
use Rattle.alw_ready.proofs.RowEvents.{total_is, nth_found}
use Rattle.alw_ready.proofs.ready.Ready.nth.Goals as goal

pub find-place-requires : goal.find-place-requires
find-place-requires c = rw (total_is c.self.inside.rows.items c.self.inside.tally c.self.invariant.0 c.args.self.now c.self.view_is) c.requires

pub returns : goal.returns
returns c =
    let found = c.find-place.ensures in
    nth_found c.self.inside.rows.items c.self.inside.tally c.self.invariant.0 c.args.self.now c.args.k c.find-place.result.0 c.find-place.result.1 c.index.result.now c.self.view_is found.place found.within c.index.ensures
    ∙ c.nth.ensures
