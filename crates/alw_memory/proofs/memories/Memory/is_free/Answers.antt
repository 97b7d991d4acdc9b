-- The meta state at the line's place.
use Rattle.std.proofs.Common.{not, sym, ap, ◌∙◌}
use Rattle.alw_model.specs.LimitLess.{is_in_progress}
use Rattle.alw_memory.proofs.Events.{meta_seen}
use Rattle.alw_memory.proofs.memories.Memory.is_free.Goals as goal

pub returns : goal.returns
returns c =
    ap not (c.is_in_progress.ensures
    ∙ ap is_in_progress (sym
    (meta_seen c.self.inside c.args.self.now c.self.view_is c.self.invariant c.args.line.0 c.place-place.result c.place-place.ensures.place c.index.result.now
    c.index.ensures)))
