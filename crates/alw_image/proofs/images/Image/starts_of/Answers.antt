-- The nodes of the starts rise.
use Rattle.alw_image.proofs.Cuts.{nodes_rise}
use Rattle.alw_image.proofs.images.Image.starts_of.Goals as goal

pub between-requires : goal.between-requires
between-requires c = rw c.members.ensures (nodes_rise _ c.self.invariant)
