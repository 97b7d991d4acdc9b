-- The context's number is below their number.
use Rattle.std.proofs.Common.{arith}
use Rattle.std.proofs.lemmas.Nat.{mul-add-lt}
use Rattle.alw_image.specs.Images.{node_count}
use Rattle.alw_ctx.proofs.starts.resident.Goals as goal

pub start-requires : goal.start-requires
start-requires c =
    let image = c.args.image.now in
    let less = mul-add-lt c.args.node.0 image.contexts c.args.slot (node_count image) c.requires.node c.requires.slot in
    rw (c.from.ensures, c.from-contexts.ensures, c.contexts.ensures, c.from-2.ensures) (grind arith)
