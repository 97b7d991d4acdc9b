-- One line more.
use Rattle.std.proofs.Common.{◌≡◌, ◌<◌, ◌+◌, ◌*◌, List, [], ◌∷◌, ◌++◌, map, refl, sym, ap, ◌∙◌, arith}
use Rattle.std.specs.List.{range_with_len}
use Rattle.std.proofs.lemmas.Nat.{mul-add-lt}
use Rattle.std.proofs.lemmas.List.FromFn.{map-range_with_len_more}
use Rattle.alw_image.specs.Images.{node_count}
use Rattle.alw_memory.specs.declared.memories.HomeLine.{HomeLine}
use Rattle.alw_memory.specs.Lines.{line_start}
use Rattle.alw_memory.proofs.memories.lines_start.Goals as goal

pub line_start-requires : goal.line_start-requires
line_start-requires c =
    let image = c.args.image.now in
    let k : c.loop-k.k < image.per_node = omega (arith, c.loop-k-test.true, c.from-count.ensures, c.per_node.ensures) in
    let less = mul-add-lt c.args.node.0 image.per_node c.loop-k.k (node_count image) c.requires k in
    rw (c.from.ensures, c.from-count.ensures, c.per_node.ensures) (grind arith)

pub loop-k-preserved : goal.loop-k-preserved
loop-k-preserved c =
    let image = c.args.image.now in
    let first = c.args.node.0 * image.per_node in
    let at : c.from.result * c.from-count.result + c.loop-k.k ≡ first + c.loop-k.k = rw (c.from.ensures, c.from-count.ensures, c.per_node.ensures) refl in
    let more = map-range_with_len_more (line_start image) first c.loop-k.k (first + c.loop-k.k) refl in
    c.in_ok-push.ensures.items ∙ (ap (λ (hs : List HomeLine). hs ++ c.line_start.result ∷ []) c.loop-k.invariant
    ∙ (ap (λ (h : HomeLine). map (line_start image) (range_with_len first c.loop-k.k) ++ h ∷ []) (c.line_start.ensures ∙ ap (line_start image) at) ∙ sym more))
