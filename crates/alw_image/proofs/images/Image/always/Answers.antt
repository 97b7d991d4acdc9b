use Rattle.alw_image.proofs.Searches.{always_answers}
use Rattle.alw_image.proofs.images.Image.always.Goals as goal

pub returns : goal.returns
returns c = rw (c.is_ok.ensures.value, ← c.self.view_is, ← c.members.ensures) (always_answers _ (rw c.members.ensures c.self.invariant.always_ascend) c.args.line.0 _ c.binary_search.ensures.bound c.binary_search.ensures.position)
